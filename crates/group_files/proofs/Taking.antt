-- A standby that performs the deeds that it keeps makes the files of what goes on.
use Rattle.std.proofs.Common.{◌≡◌, Bool, true, false, ◌||◌, List, [], ◌∷◌, refl, ap, ◌∙◌, subst, sym}
use Rattle.std.specs.List.{AllByRecursion}
use Rattle.cluster_facts.specs.Types.{Entry}
use Rattle.cluster_facts.specs.Service.{Plain, IsPlain}
use Rattle.cluster_facts.specs.Storage.{Disk, Storage, all_applied, Attempt, Attempts, Between}
use Rattle.cluster_facts.specs.Storage.Attempts.{none as no_attempt, more as one_more}
use Rattle.cluster_facts.specs.History.{Hand, Empty, Waiting, Applied, Ready, IsLegal, accepted_by, committed_by}
use Rattle.cluster_facts.specs.Ranges.{AreInRange}
use Rattle.cluster_facts.specs.World.{World}
use Rattle.cluster_events.specs.Cores.{with_core}
use Rattle.cluster_facts.specs.Facts.{IsSound}
use Rattle.cluster_events.specs.Filing.{IsStorage}
use Rattle.cluster_events.proofs.Filed.{stand-between}
use Rattle.group_cluster.specs.Seats.{Clear, Sent, Took, Stance, Out, Owed, Linking, Standby, Seat, Agree, any_seat, on_seats}
use Rattle.group_cluster.specs.Falling.{catches, caught, caught_seats, caught_hand, is_fresh}
use Rattle.group_cluster.proofs.Sounding.{sound-over, sound-hand, caught-accepts}
use Rattle.service_laws.specs.Disks.{service_disk}
use Rattle.service_laws.specs.PlainOf.{plain_of}
use Rattle.service_laws.specs.StorageOf.{storage_of}
use Rattle.service_laws.proofs.ServiceLaws.{is_plain as service_plain}
use Rattle.service_laws.proofs.StorageLaws.{is_storage as service_storage}
use Rattle.group_files.specs.Takeovers.{last_deeds, FilesLeft}
use Rattle.group_files.specs.Laws.{LeftBetween, FreshStands, TakeoverMakesFiles, TakeoverStaysBetween, WorkLeavesFiles}

-- A standby that keeps no deeds is there only where no entry is in hand, or one waits that no standby applied.

none-fresh : (P : Stance → Type 0) → ((stance : Stance) → P stance → is_fresh stance ≡ false) → (seats : List Seat) → AllByRecursion (λ (seat : Seat). P seat.stance) seats → any_seat is_fresh seats ≡ false
none-fresh P none [] all = refl
none-fresh P none (seat ∷ seats) all =
    ap (λ b. b || any_seat is_fresh seats) (none seat.stance all.0) ∙ none-fresh P none seats all.1

applied-keeps : (entry : Entry) (stance : Stance) → Agree (Applied entry) stance → is_fresh stance ≡ false
applied-keeps entry Out agree = refl
applied-keeps entry Owed agree = refl
applied-keeps entry (Linking sent) agree = refl
applied-keeps entry (Standby on_way mark true) agree = refl
applied-keeps entry (Standby on_way Sent false) agree = elim agree [ ]
applied-keeps entry (Standby on_way Clear false) agree = elim agree [ ]
applied-keeps entry (Standby on_way Took false) agree = elim agree [ ]

ready-keeps : (entry : Entry) (stance : Stance) → Agree (Ready entry) stance → is_fresh stance ≡ false
ready-keeps entry Out agree = refl
ready-keeps entry Owed agree = refl
ready-keeps entry (Linking sent) agree = refl
ready-keeps entry (Standby on_way mark true) agree = refl
ready-keeps entry (Standby on_way Sent false) agree = elim agree [ ]
ready-keeps entry (Standby on_way Clear false) agree = elim agree [ ]
ready-keeps entry (Standby on_way Took false) agree = elim agree [ ]

caught-keeps : (entry : Entry) (stance : Stance) → Agree (Waiting entry) stance → is_fresh (caught stance) ≡ false
caught-keeps entry Out agree = refl
caught-keeps entry Owed agree = refl
caught-keeps entry (Linking sent) agree = refl
caught-keeps entry (Standby on_way Sent keeps) agree = refl
caught-keeps entry (Standby on_way Clear true) agree = refl
caught-keeps entry (Standby on_way Took true) agree = refl
caught-keeps entry (Standby on_way Clear false) agree = elim agree [ ]
caught-keeps entry (Standby on_way Took false) agree = elim agree [ ]

all-caught : (entry : Entry) (seats : List Seat) → AllByRecursion (λ (seat : Seat). Agree (Waiting entry) seat.stance) seats → any_seat is_fresh (on_seats caught seats) ≡ false
all-caught entry [] agree = refl
all-caught entry (seat ∷ seats) agree =
    ap (λ b. b || any_seat is_fresh (on_seats caught seats)) (caught-keeps entry seat.stance agree.0) ∙ all-caught entry seats agree.1

-- a takeover that breaks off
more-between : (disk : Disk) (storage : Storage disk) (history : List Entry) (files left : disk.Files) → Between disk storage history files → Attempt disk (last_deeds disk storage history) files left → Between disk storage history left
more-between disk storage [] files left between attempt = subst (Between disk storage []) (sym attempt) between
more-between disk storage (entry ∷ past) files left between attempt = one_more between attempt

-- the entry in hand comes to every standby: the files are the same
left-caught : (disk : Disk) (storage : Storage disk) (past : List Entry) (catching : Bool) (hand : Hand) (files : disk.Files) → FilesLeft disk storage past hand files → FilesLeft disk storage past (caught_hand catching hand) files
left-caught disk storage past true Empty files left = left
left-caught disk storage past true (Waiting entry) files left = left
left-caught disk storage past true (Applied entry) files left = left
left-caught disk storage past true (Ready entry) files left = left
left-caught disk storage past false hand files left = left

module _ (plain : Plain) (is_plain : IsPlain plain) (disk : Disk) (storage : Storage disk) (is_storage : IsStorage plain disk storage) (world : World) (past : List Entry) where
  -- the files that are left lie between
  left-between : (hand : Hand) (files : disk.Files) → IsSound plain (with_core past hand world) → AreInRange (accepted_by past hand) → FilesLeft disk storage past hand files → Between disk storage (committed_by past hand) files
  left-between Empty files sound range left = stand-between plain disk storage is_storage (with_core past Empty world) files sound range left
  left-between (Waiting entry) files sound range left =
      stand-between plain disk storage is_storage (with_core past Empty world) files (sound-over plain is_plain past (Waiting entry) world sound) range.1 left
  left-between (Applied entry) files sound range left = stand-between plain disk storage is_storage (with_core past (Applied entry) world) files sound range left
  left-between (Ready entry) files sound range left = left

  committed-range : (hand : Hand) → AreInRange (accepted_by past hand) → AreInRange (committed_by past hand)
  committed-range Empty range = range
  committed-range (Waiting entry) range = range.1
  committed-range (Applied entry) range = range
  committed-range (Ready entry) range = range

  -- the last entry's deeds once more
  again : (history : List Entry) (files : disk.Files) → IsLegal plain world.now history → AreInRange history → Between disk storage history files → (history ≡ [] → files ≡ storage.files []) → all_applied disk (last_deeds disk storage history) files ≡ storage.files history
  again [] files legal range between none = none refl
  again (entry ∷ before) files legal range between none = is_storage.repeats world.now entry before files legal range between

  -- without an entry the files are those of none
  none-left : (hand : Hand) (files : disk.Files) → FilesLeft disk storage past hand files → committed_by past hand ≡ [] → files ≡ storage.files []
  none-left Empty files left none = left ∙ (λ i. storage.files (none i))
  none-left (Waiting entry) files left none = left ∙ (λ i. storage.files (none i))
  none-left (Applied entry) files left none = cc
  none-left (Ready entry) files left none = cc

  -- where some standby keeps no deeds
  fresh-stands : (catching : Bool) (hand : Hand) (seats : List Seat) (files : disk.Files) → AllByRecursion (λ (seat : Seat). Agree hand seat.stance) seats → FilesLeft disk storage past hand files → catches seats hand ≡ catching → any_seat is_fresh (caught_seats catching seats) ≡ true → files ≡ storage.files (committed_by past (caught_hand catching hand))
  fresh-stands catching Empty seats files agree left is fresh = by catching
    where
      by : (b : Bool) → files ≡ storage.files (committed_by past (caught_hand b Empty))
      by true = left
      by false = left
  fresh-stands true (Waiting entry) seats files agree left is fresh = let none = all-caught entry seats agree in cc
  fresh-stands false (Waiting entry) seats files agree left is fresh = left
  fresh-stands true (Applied entry) seats files agree left is fresh = cc
  fresh-stands false (Applied entry) seats files agree left is fresh = let none = none-fresh (Agree (Applied entry)) (applied-keeps entry) seats agree in cc
  fresh-stands true (Ready entry) seats files agree left is fresh = cc
  fresh-stands false (Ready entry) seats files agree left is fresh = let none = none-fresh (Agree (Ready entry)) (ready-keeps entry) seats agree in cc

-- The laws.

caught-range : (past : List Entry) (catching : Bool) (hand : Hand) → AreInRange (accepted_by past hand) → AreInRange (accepted_by past (caught_hand catching hand))
caught-range past catching hand range = subst AreInRange (sym (caught-accepts past catching hand)) range

caught-sound : (plain : Plain) (world : World) (past : List Entry) (catching : Bool) (hand : Hand) → IsSound plain (with_core past hand world) → IsSound plain (with_core past (caught_hand catching hand) world)
caught-sound plain world past catching hand sound = sound-hand plain past hand (caught_hand catching hand) world (sym (caught-accepts past catching hand)) sound

pub lies-between : LeftBetween
lies-between size setup can state files falls =
    let past = state.world.core.answered in
    let hand = state.world.core.hand in
    let catching = catches state.peers.seats hand in
    let plain = plain_of setup in
    let storage = storage_of setup in
    left-between plain (service_plain setup) service_disk storage (service_storage setup can) state.world past (caught_hand catching hand) files
    (caught-sound plain state.world past catching hand falls.steady.sound) (caught-range past catching hand falls.range) (left-caught service_disk storage past catching hand files falls.left)

pub stands-fresh : FreshStands
stands-fresh size setup can state files falls fresh =
    let hand = state.world.core.hand in
    fresh-stands (plain_of setup) (service_plain setup) service_disk (storage_of setup) (service_storage setup can) state.world state.world.core.answered (catches state.peers.seats hand) hand state.peers.seats files falls.steady.good.agree falls.left refl fresh

pub makes-files : TakeoverMakesFiles
makes-files size setup can state files between falls fresh lies same =
    let past = state.world.core.answered in
    let hand = state.world.core.hand in
    let catching = catches state.peers.seats hand in
    let caught = caught_hand catching hand in
    let plain = plain_of setup in
    let storage = storage_of setup in
    let sound = sound-over plain (service_plain setup) past caught state.world (caught-sound plain state.world past catching hand falls.steady.sound) in
    let range = committed-range plain (service_plain setup) service_disk storage (service_storage setup can) state.world past caught (caught-range past catching hand falls.range) in
    again plain (service_plain setup) service_disk storage (service_storage setup can) state.world past (committed_by past caught) between sound.facts.legal range lies
    (λ none. same none ∙ none-left plain (service_plain setup) service_disk storage (service_storage setup can) state.world past caught files (left-caught service_disk storage past catching hand files falls.left) none)

pub stays-between : TakeoverStaysBetween
stays-between setup history files left between attempt = more-between service_disk (storage_of setup) history files left between attempt

pub work-leaves : WorkLeavesFiles
work-leaves setup past entry files left stand attempt =
    let A : service_disk.Files → Type 0 = λ from. Attempts service_disk ((storage_of setup).deeds past entry) ((storage_of setup).files past) from in
    one_more (subst A (sym stand) no_attempt) attempt
