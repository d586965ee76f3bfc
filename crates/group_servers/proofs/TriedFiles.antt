-- The files that standbys leave as they try to take over, one after another.
use Rattle.std.proofs.Common.{◌≡◌, ℕ, ◌+◌, inl, inr, Bool, true, false, not, Option, Some, None, option_map, List, [], ◌∷◌, ◌++◌, refl, ap, sym, ◌∙◌, subst}
use Rattle.std.specs.List.{AllByRecursion}
use Rattle.disk_model.specs.Disk.{Files}
use Rattle.disk_model.specs.declared.answers.DiskAnswer.{DiskAnswer}
use Rattle.disk_model.specs.declared.answers.DiskAnswer.TheVariants.{Memory, Failed, Stopped}
use Rattle.disk_model.specs.DeviceCalls.{DeviceCall, all_applied, LeftAlone, LeftBy, LeftOn, BreaksOff}
use Rattle.disk_model.specs.DeviceCalls as device
use Rattle.stream_layout.specs.Deeds.{calls_of_all}
use Rattle.script_lines.specs.declared.line.Server.{Server}
use Rattle.plain_service.specs.Setups.{Setup}
use Rattle.plain_service.specs.Storing.{files_of}
use Rattle.service_laws.specs.PlainOf.{plain_of}
use Rattle.service_laws.specs.Disks.{service_disk}
use Rattle.service_laws.specs.StorageOf.{storage_of}
use Rattle.service_laws.proofs.Attempting.{same-applied}
use Rattle.cluster_facts.specs.Types.{Entry}
use Rattle.cluster_facts.specs.Storage.{Attempt, Between}
use Rattle.cluster_facts.specs.History.{Hand, Empty, Waiting, Applied, Ready, committed_by}
use Rattle.cluster_events.specs.Servers.{State}
use Rattle.mirror.specs.Pairing.{deeds_kept}
use Rattle.group_cluster.specs.Seats as defined
use Rattle.group_cluster.specs.Seats.{Stance, Out, Owed, Linking, Standby, Clear, Sent, Took, Peers, Agree, any_seat, on_seats, is_standby}
use Rattle.group_cluster.specs.Falling.{has_applied, catches, caught, caught_seats, caught_hand, is_fresh}
use Rattle.group_cluster.proofs.Seating.{AllSeats, any-none}
use Rattle.group_files.specs.Takeovers.{last_deeds as last_calls, FilesLeft, CanFall, left_history, has_fresh}
use Rattle.group_files.proofs.Taking.{lies-between, stands-fresh, makes-files, stays-between}
use Rattle.group_servers.specs.declared.group.Seat.{Seat}
use Rattle.cluster_rounds.specs.Broken.{LeavesBetween}
use Rattle.group_servers.specs.GroupNodes.{last_deeds, node_by, bare_by, bare}
use Rattle.group_servers.specs.Followed.{Follows, row_calls, GoesOnFrom, IsGoodGroup}
use Rattle.disk_model.specs.Seen.{DiskSeen}
use Rattle.group_servers.specs.Tries.{takes, Tries, TriesPartly}
use Rattle.group_servers.specs.Tries.Tries.{nobody, passes, fails, takes_over}
use Rattle.group_servers.specs.Tries.TriesPartly.{passes_by, fails_first, lacks}

-- Over any calls that all of them make.

module _ (calls : List DeviceCall) (fresh : Bool) (P Q : Option Files → Type 0) (goes : (count : ℕ) (held left : Option Files) → BreaksOff LeftBy calls count held left → P held → P left) (wins : (held left : Option Files) → left ≡ option_map (all_applied calls) held → P held → Q left) where
  -- what is so of the files then: one took over, or all failed
  abbrev pub IsLeft : Option ℕ → Option Files → Type 0
  IsLeft None left = P left
  IsLeft (Some place) left = Q left

  further-left : (found : Option ℕ) (left : Option Files) → IsLeft found left → IsLeft (option_map (λ place. place + 1) found) left
  further-left None left is = is
  further-left (Some place) left is = is

  abbrev Makes : Seat → Type 0
  Makes seat = takes fresh seat ≡ true → calls_of_all (deeds_kept seat.node.kept) ≡ calls

  pub tries-leave : (seats new : List Seat) (found : Option ℕ) (held left : DiskSeen) → AllByRecursion Makes seats → P held.files → Tries fresh seats new found held left → IsLeft found left.files
  tries-leave seats new found held left makes p nobody = p
  tries-leave seats new found held left makes p (passes {found = place} seat not rest) =
      further-left place left.files (tries-leave _ _ place held left makes.1 p rest)
  tries-leave seats new found held left makes p (fails {found = place} {mid = mid} seat fallen it one rest) =
      let B : List DeviceCall → Type 0 = λ c. BreaksOff LeftBy c one.1 held.files mid.files in
      let broke = subst B (makes.0 it) one.2 in
      further-left place left.files (tries-leave _ _ place mid left makes.1 (goes one.1 held.files mid.files broke p) rest)
  tries-leave seats new found held left makes p (takes_over seat now it one) =
      wins held.files left.files (one.1 ∙ ap (λ c. option_map (all_applied c) held.files) (makes.0 it)) p

-- The calls that they make.

keeps-calls : (setup : Setup) (past : List Entry) (hand : Hand) (fresh : Bool) (server : Server) (stance : Stance) → Follows past hand stance → (fresh ≡ false → is_fresh stance ≡ false) → takes fresh (bare_by setup past hand (record { server = server; stance = stance })) ≡ true → calls_of_all (deeds_kept (node_by setup past hand stance).kept) ≡ row_calls setup fresh (committed_by past hand)
keeps-calls setup past hand true server Out follows stale it = cc
keeps-calls setup past hand false server Out follows stale it = cc
keeps-calls setup past hand true server Owed follows stale it = cc
keeps-calls setup past hand false server Owed follows stale it = cc
keeps-calls setup past hand true server (Linking sent) follows stale it = cc
keeps-calls setup past hand false server (Linking sent) follows stale it = cc
keeps-calls setup past hand true server (Standby on_way mark true) follows stale it = cc
keeps-calls setup past hand true server (Standby on_way mark false) follows stale it = refl
keeps-calls setup past hand false server (Standby on_way mark true) follows stale it = ap (λ history. calls_of_all (last_deeds setup history)) follows
keeps-calls setup past hand false server (Standby on_way mark false) follows stale it = let no = stale refl in cc

pub all-make : (setup : Setup) (past : List Entry) (hand : Hand) (fresh : Bool) (owns : List defined.Seat) → AllSeats (Follows past hand) owns → (fresh ≡ false → AllSeats (λ stance. is_fresh stance ≡ false) owns) → AllByRecursion (λ (seat : Seat). takes fresh seat ≡ true → calls_of_all (deeds_kept seat.node.kept) ≡ row_calls setup fresh (committed_by past hand)) (bare setup past hand owns)
all-make setup past hand fresh [] follows stale = tt
all-make setup past hand fresh (own ∷ owns) follows stale =
    (keeps-calls setup past hand fresh own.server own.stance follows.0 (λ no. (stale no).0), all-make setup past hand fresh owns follows.1 (λ no. (stale no).1))

-- Once every standby has the entry in hand, or none.

pub follows-by : (past : List Entry) (hand : Hand) (stance : Stance) → Agree hand stance → (has_applied stance ≡ true → (entry : Entry) → hand ≡ Waiting entry → ⊥) → Follows past hand stance
follows-by past hand Out agree none = tt
follows-by past hand Owed agree none = tt
follows-by past hand (Linking sent) agree none = tt
follows-by past Empty (Standby on_way Clear keeps) agree none = refl
follows-by past Empty (Standby on_way Sent keeps) agree none = elim agree [ ]
follows-by past Empty (Standby on_way Took keeps) agree none = elim agree [ ]
follows-by past (Waiting entry) (Standby on_way Sent keeps) agree none = refl
follows-by past (Waiting entry) (Standby on_way Clear keeps) agree none = absurd (none refl entry refl)
follows-by past (Waiting entry) (Standby on_way Took keeps) agree none = absurd (none refl entry refl)
follows-by past (Applied entry) (Standby on_way Clear keeps) agree none = refl
follows-by past (Applied entry) (Standby on_way Took keeps) agree none = refl
follows-by past (Applied entry) (Standby on_way Sent keeps) agree none = elim agree [ ]
follows-by past (Ready entry) (Standby on_way Clear keeps) agree none = refl
follows-by past (Ready entry) (Standby on_way Sent keeps) agree none = elim agree [ ]
follows-by past (Ready entry) (Standby on_way Took keeps) agree none = elim agree [ ]

caught-follows : (past : List Entry) (entry : Entry) (stance : Stance) → Follows past (Applied entry) (caught stance)
caught-follows past entry Out = tt
caught-follows past entry Owed = tt
caught-follows past entry (Linking sent) = tt
caught-follows past entry (Standby on_way Clear keeps) = refl
caught-follows past entry (Standby on_way Sent keeps) = refl
caught-follows past entry (Standby on_way Took keeps) = refl

all-caught-follow : (past : List Entry) (entry : Entry) (owns : List defined.Seat) → AllSeats (Follows past (Applied entry)) (on_seats caught owns)
all-caught-follow past entry [] = tt
all-caught-follow past entry (own ∷ owns) = (caught-follows past entry own.stance, all-caught-follow past entry owns)

follow-all : (past : List Entry) (hand : Hand) (owns : List defined.Seat) → AllSeats (Agree hand) owns → ((entry : Entry) → hand ≡ Waiting entry → AllSeats (λ stance. has_applied stance ≡ false) owns) → AllSeats (Follows past hand) owns
follow-all past hand [] agree none = tt
follow-all past hand (own ∷ owns) agree none =
    (follows-by past hand own.stance agree.0 (λ applied entry is. let no = (none entry is).0 in cc), follow-all past hand owns agree.1 (λ entry is. (none entry is).1))

-- **each standby then has the history that goes on**
pub all-follow : (past : List Entry) (hand : Hand) (owns : List defined.Seat) (catching : Bool) → catches owns hand ≡ catching → AllSeats (Agree hand) owns → AllSeats (Follows past (caught_hand catching hand)) (caught_seats catching owns)
all-follow past (Waiting entry) owns true is agree = all-caught-follow past entry owns
all-follow past (Waiting entry) owns false is agree = follow-all past (Waiting entry) owns agree (λ other same. any-none has_applied owns is)
all-follow past Empty owns true is agree = cc
all-follow past Empty owns false is agree = follow-all past Empty owns agree (λ entry same. cc)
all-follow past (Applied entry) owns true is agree = cc
all-follow past (Applied entry) owns false is agree = follow-all past (Applied entry) owns agree (λ other same. cc)
all-follow past (Ready entry) owns true is agree = cc
all-follow past (Ready entry) owns false is agree = follow-all past (Ready entry) owns agree (λ other same. cc)

-- Calls that broke off are an attempt.

attempt-after : (done rest : List DeviceCall) (old new : Files) → Attempt service_disk rest (all_applied done old) new → Attempt service_disk (done ++ rest) old new
attempt-after [] rest old new attempt = attempt
attempt-after (call ∷ done) rest old new attempt = inr (inr (attempt-after done rest (device.applied call old) new attempt))

undone : (answer : DiskAnswer) (call : DeviceCall) (calls : List DeviceCall) (old new : Files) → LeftOn answer call old new → Attempt service_disk (call ∷ calls) old new
undone Memory call calls old new same = inl same
undone Failed call calls old new left = inr (inl (inl left))
undone Stopped call calls old new left = inr (inl (inr left))

pub broke-attempt : (answer : DiskAnswer) (calls : List DeviceCall) (count : ℕ) (old new : Files) → BreaksOff (LeftOn answer) calls count (Some old) (Some new) → Attempt service_disk calls old new
broke-attempt answer calls count old new broke =
    let A : List DeviceCall → Type 0 = λ calls. Attempt service_disk calls old new in
    let last = undone answer broke.broken broke.undone (all_applied broke.done old) new broke.left in
    subst A (sym broke.in_order) (attempt-after broke.done (broke.broken ∷ broke.undone) old new last)

none-broken : (Left : DeviceCall → Files → Files → Type 0) (calls : List DeviceCall) (count : ℕ) (old new : Option Files) → calls ≡ [] → BreaksOff Left calls count old new → ⊥
none-broken Left calls count old new none broke = never broke.done broke.broken broke.undone (sym none ∙ broke.in_order)
  where
    never : (done : List DeviceCall) (broken : DeviceCall) (undone : List DeviceCall) → [] ≡ done ++ broken ∷ undone → ⊥
    never [] broken undone is = cc
    never (call ∷ done) broken undone is = cc

row-are : (setup : Setup) (history : List Entry) → row_calls setup false history ≡ last_calls service_disk (storage_of setup) history
row-are setup [] = refl
row-are setup (entry ∷ past) = refl

row-none : (setup : Setup) (history : List Entry) → history ≡ [] → row_calls setup false history ≡ []
row-none setup [] none = refl
row-none setup (entry ∷ past) none = cc

none-applied : (held : Option Files) → option_map (all_applied []) held ≡ held
none-applied None = refl
none-applied (Some files) = refl

-- **Whoever takes over, the files are those of the history that goes on; and where all fail they lie between.**

module _ (n : ℕ) (setup : Setup) (state : State Peers) (good : IsGoodGroup n setup state) (standby : any_seat is_standby state.peers.seats ≡ true) (before held : Option Files) (from : GoesOnFrom setup state before held) where
  abbrev history : List Entry
  history = left_history state

  abbrev pub IsMade : Option Files → Type 0
  IsMade left = left ≡ option_map (λ _. files_of setup history) before

  falls-by : (files : Files) → FilesLeft service_disk (storage_of setup) state.world.core.answered state.world.core.hand files → CanFall n (plain_of setup) service_disk (storage_of setup) state files
  falls-by files left = record { steady = good.steady; standby = standby; range = good.range; left = left }

  -- those that keep no deeds change nothing
  abbrev Same : Option Files → Type 0
  Same left = left ≡ held

  same-wins : has_fresh state ≡ true → (mid left : Option Files) → left ≡ option_map (all_applied []) mid → Same mid → IsMade left
  same-wins fresh mid left is same = is ∙ none-applied mid ∙ same ∙ made before from
    where
      made : (b : Option Files) → GoesOnFrom setup state b held → held ≡ option_map (λ _. files_of setup history) b
      made None goes = goes
      made (Some old) goes = goes.1 ∙ ap Some (stands-fresh n setup good.begins state goes.0 (falls-by goes.0 goes.2) fresh)

  -- the others leave files between
  abbrev Lies : Option Files → Type 0
  Lies left = LeavesBetween setup history before left × (history ≡ [] → left ≡ held)

  lies-first : Lies held
  lies-first = (lies before from, λ none. refl)
    where
      lies : (b : Option Files) → GoesOnFrom setup state b held → LeavesBetween setup history b held
      lies None goes = goes
      lies (Some old) goes = (goes.0, goes.1, lies-between n setup good.begins state goes.0 (falls-by goes.0 goes.2))

  lies-on : (answer : DiskAnswer) (count : ℕ) (mid left : Option Files) → BreaksOff (LeftOn answer) (row_calls setup false history) count mid left → LeavesBetween setup history before mid → LeavesBetween setup history before left
  lies-on answer count mid left broke lies = goes before mid left broke lies
    where
      goes : (b mid left : Option Files) → BreaksOff (LeftOn answer) (row_calls setup false history) count mid left → LeavesBetween setup history b mid → LeavesBetween setup history b left
      goes None None None broke lies = refl
      goes None None (Some left) broke lies = absurd broke.left
      goes None (Some mid) left broke lies = cc
      goes (Some old) None left broke lies = let is = lies.1 in cc
      goes (Some old) (Some mid) None broke lies = absurd broke.left
      goes (Some old) (Some mid) (Some left) broke lies =
          let same : lies.0 ≡ mid = let is = lies.1 in cc in
          let between = subst (λ (f : Files). Between service_disk (storage_of setup) history f) same lies.2 in
          let A : List DeviceCall → Type 0 = λ calls. Attempt service_disk calls mid left in
          (left, refl, stays-between setup history mid left between (subst A (row-are setup history) (broke-attempt answer (row_calls setup false history) count mid left broke)))

  lies-goes : (count : ℕ) (mid left : Option Files) → BreaksOff LeftBy (row_calls setup false history) count mid left → Lies mid → Lies left
  lies-goes count mid left broke lies =
      (lies-on Failed count mid left broke lies.0, λ none. absurd (none-broken LeftBy (row_calls setup false history) count mid left (row-none setup history none) broke))

  lies-wins : has_fresh state ≡ false → (mid left : Option Files) → left ≡ option_map (all_applied (row_calls setup false history)) mid → Lies mid → IsMade left
  lies-wins stale mid left is lies = made before held mid from lies.0 lies.1 is
    where
      made : (b h mid : Option Files) → GoesOnFrom setup state b h → LeavesBetween setup history b mid → (history ≡ [] → mid ≡ h) → left ≡ option_map (all_applied (row_calls setup false history)) mid → left ≡ option_map (λ _. files_of setup history) b
      made None h mid goes lies none is = is ∙ ap (option_map (all_applied (row_calls setup false history))) lies
      made (Some old) h mid goes lies none is =
          let files = goes.0 in
          let between = lies.0 in
          let same : history ≡ [] → between ≡ files = λ empty. let one = lies.1 in let two = none empty in let three = goes.1 in cc in
          let makes = makes-files n setup good.begins state files between (falls-by files goes.2) stale lies.2 same in
          let applied : all_applied (row_calls setup false history) between ≡ files_of setup history = ap (λ calls. all_applied calls between) (row-are setup history) ∙ sym (same-applied (last_calls service_disk (storage_of setup) history) between) ∙ makes in
          is ∙ ap (option_map (all_applied (row_calls setup false history))) lies.1 ∙ ap Some applied

  abbrev pub LeavesRow : Option ℕ → Option Files → Type 0
  LeavesRow None left = LeavesBetween setup history before left
  LeavesRow (Some place) left = IsMade left

  pub fall-leaves : (fresh : Bool) → has_fresh state ≡ fresh → (new : List Seat) (found : Option ℕ) (seen left : DiskSeen) → seen.files ≡ held → Tries fresh (bare setup state.world.core.answered (caught_hand (catches state.peers.seats state.world.core.hand) state.world.core.hand) (caught_seats (catches state.peers.seats state.world.core.hand) state.peers.seats)) new found seen left → LeavesRow found left.files
  fall-leaves true is new found seen left first tries =
      let catching = catches state.peers.seats state.world.core.hand in
      let hand = caught_hand catching state.world.core.hand in
      let owns = caught_seats catching state.peers.seats in
      let follow = all-follow state.world.core.answered state.world.core.hand state.peers.seats catching refl good.steady.good.agree in
      let makes = all-make setup state.world.core.answered hand true owns follow (λ no. cc) in
      told found (tries-leave [] true Same IsMade (λ count mid after broke same. absurd (none-broken LeftBy [] count mid after refl broke)) (same-wins is) _ new found seen left makes first tries)
    where
      told : (f : Option ℕ) → IsLeft [] true Same IsMade (λ count mid after broke same. absurd (none-broken LeftBy [] count mid after refl broke)) (same-wins is) f left.files → LeavesRow f left.files
      told None same = subst (LeavesBetween setup history before) (sym same) lies-first.0
      told (Some place) made = made
  fall-leaves false is new found seen left first tries =
      let catching = catches state.peers.seats state.world.core.hand in
      let hand = caught_hand catching state.world.core.hand in
      let owns = caught_seats catching state.peers.seats in
      let follow = all-follow state.world.core.answered state.world.core.hand state.peers.seats catching refl good.steady.good.agree in
      let makes = all-make setup state.world.core.answered hand false owns follow (λ no. any-none is_fresh owns is) in
      let lies = subst Lies (sym first) lies-first in
      told found (tries-leave (row_calls setup false history) false Lies IsMade lies-goes (lies-wins is) _ new found seen left makes lies tries)
    where
      told : (f : Option ℕ) → IsLeft (row_calls setup false history) false Lies IsMade lies-goes (lies-wins is) f left.files → LeavesRow f left.files
      told None lies = lies.0
      told (Some place) made = made

  -- Where memory was wanting.

  partly-by : (fresh : Bool) (P : Option Files → Type 0) (calls : List DeviceCall) → ((count : ℕ) (mid after : Option Files) → BreaksOff LeftBy calls count mid after → P mid → P after) → ((count : ℕ) (mid after : Option Files) → BreaksOff LeftAlone calls count mid after → P mid → LeavesBetween setup history before after) → (seats : List Seat) (seen left : DiskSeen) → AllByRecursion (λ (seat : Seat). takes fresh seat ≡ true → calls_of_all (deeds_kept seat.node.kept) ≡ calls) seats → P seen.files → TriesPartly fresh seats seen left → LeavesBetween setup history before left.files
  partly-by fresh P calls goes ends seats seen left makes p (passes_by seat not rest) = partly-by fresh P calls goes ends _ seen left makes.1 p rest
  partly-by fresh P calls goes ends seats seen left makes p (fails_first {mid = mid} seat fallen it one rest) =
      let B : List DeviceCall → Type 0 = λ c. BreaksOff LeftBy c one.1 seen.files mid.files in
      partly-by fresh P calls goes ends _ mid left makes.1 (goes one.1 seen.files mid.files (subst B (makes.0 it) one.2) p) rest
  partly-by fresh P calls goes ends seats seen left makes p (lacks seat it one) =
      let B : List DeviceCall → Type 0 = λ c. BreaksOff LeftAlone c one.0 seen.files left.files in
      ends one.0 seen.files left.files (subst B (makes.0 it) one.1) p

  pub partly-leaves : (fresh : Bool) → has_fresh state ≡ fresh → (seen left : DiskSeen) → seen.files ≡ held → TriesPartly fresh (bare setup state.world.core.answered (caught_hand (catches state.peers.seats state.world.core.hand) state.world.core.hand) (caught_seats (catches state.peers.seats state.world.core.hand) state.peers.seats)) seen left → LeavesBetween setup history before left.files
  partly-leaves fresh is seen left first partly =
      let catching = catches state.peers.seats state.world.core.hand in
      let hand = caught_hand catching state.world.core.hand in
      let owns = caught_seats catching state.peers.seats in
      let follow = all-follow state.world.core.answered state.world.core.hand state.peers.seats catching refl good.steady.good.agree in
      let makes = all-make setup state.world.core.answered hand fresh owns follow (λ no. any-none is_fresh owns (is ∙ no)) in
      by fresh makes partly
    where
      by : (f : Bool) → AllByRecursion (λ (seat : Seat). takes f seat ≡ true → calls_of_all (deeds_kept seat.node.kept) ≡ row_calls setup f history) (bare setup state.world.core.answered (caught_hand (catches state.peers.seats state.world.core.hand) state.world.core.hand) (caught_seats (catches state.peers.seats state.world.core.hand) state.peers.seats)) → TriesPartly f (bare setup state.world.core.answered (caught_hand (catches state.peers.seats state.world.core.hand) state.world.core.hand) (caught_seats (catches state.peers.seats state.world.core.hand) state.peers.seats)) seen left → LeavesBetween setup history before left.files
      by true makes part =
          partly-by true Same [] (λ count mid after broke same. absurd (none-broken LeftBy [] count mid after refl broke)) (λ count mid after broke same. absurd (none-broken LeftAlone [] count mid after refl broke)) _ seen left makes first part
      by false makes part =
          partly-by false (LeavesBetween setup history before) (row_calls setup false history) (lies-on Failed) (lies-on Memory) _ seen left makes (subst (LeavesBetween setup history before) (sym first) lies-first.0) part
