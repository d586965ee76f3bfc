-- The files of servers: what works and crashes leave of them, and whether a work takes the active server down.
use Rattle.std.proofs.Common.{◌≡◌, ℕ, zero, suc, ◌<◌, ◌≤◌, inl, inr, true, false, ◌&&◌, ◌||◌, nat_le, Option, Some, None, List, ◌∷◌, ◌++◌, length, refl, ap, sym, ◌∙◌, subst, arith}
use Rattle.std.specs.Prelude.{option_map}
use Rattle.std.proofs.lemmas.Bool.{or_right, and_right}
use Rattle.std.proofs.lemmas.Bool.Decides.{leb_tells}
use Rattle.std.proofs.lemmas.List.{length-append}
use Rattle.disk_model.specs.Counts as counts
use Rattle.disk_model.specs.Disk.{Files}
use Rattle.disk_model.specs.declared.answers.DiskAnswer.{DiskAnswer}
use Rattle.disk_model.specs.DeviceCalls.{DeviceCall, all_applied, BreaksOff, LeftOn}
use Rattle.stream_layout.specs.Deeds.{calls_of_all}
use Rattle.plain_service.specs.Setups.{Setup}
use Rattle.plain_service.specs.Storing.{deeds_of, files_of}
use Rattle.service_laws.specs.Disks.{service_disk}
use Rattle.service_laws.specs.PlainOf.{plain_of}
use Rattle.service_laws.specs.StorageOf.{storage_of}
use Rattle.service_laws.proofs.Attempting.{same-applied}
use Rattle.service_laws.proofs.StorageLaws.{is_storage}
use Rattle.cluster_facts.specs.Types.{Entry}
use Rattle.cluster_facts.specs.Storage.{Between}
use Rattle.cluster_facts.specs.Storage.Attempts.{none as no_attempt}
use Rattle.cluster_facts.specs.History.{Hand, Empty, Waiting, Applied, Ready, IsLegal, accepted_by}
use Rattle.cluster_facts.specs.Ranges.{AreInRange}
use Rattle.cluster_events.specs.Servers.{State}
use Rattle.group_cluster.specs.Group.{fails_in}
use Rattle.group_cluster.specs.Seats as defined
use Rattle.group_cluster.specs.Seats.{Peers, IsArmed, any_seat, is_standby}
use Rattle.group_files.specs.Takeovers.{FilesLeft}
use Rattle.cluster_rounds.specs.Broken.{LeavesBetween}
use Rattle.cluster_rounds.specs.Worlds.{IsGood, TellsFiles}
use Rattle.cluster_rounds.proofs.BrokenSteps.{broken-between}
use Rattle.group_servers.specs.Followed.{GoesOnFrom}
use Rattle.group_servers.specs.GroupKit.{group_kit}
use Rattle.group_servers.specs.GroupLaws.{group_laws}

-- Calls that broke off.

pub some-of : (count calls : ℕ) → count < calls → 1 ≤ calls
some-of count calls within = omega arith

-- fewer calls than all were done
pub broke-within : (Left : DeviceCall → Files → Files → Type 0) (calls : List DeviceCall) (count : ℕ) (old new : Option Files) → BreaksOff Left calls count old new → count < length calls
broke-within Left calls count old new broke =
    let whole = length-append broke.done (broke.broken ∷ broke.undone) in
    let same : length calls ≡ length (broke.done ++ broke.broken ∷ broke.undone) = ap length broke.in_order in
    let counted = broke.counted in
    omega arith

-- What the active server leaves of the files as it goes down.

-- the deeds of the entry in hand broke off
ready-from : (setup : Setup) (state : State Peers) (entry : Entry) (held left : Option Files) → state.world.core.hand ≡ Ready entry → LeavesBetween setup (entry ∷ state.world.core.answered) held left → GoesOnFrom setup state held left
ready-from setup state entry None left ready between = between
ready-from setup state entry (Some held) left ready between = (
  between.0,
  between.1,
  subst (λ (hand : Hand). FilesLeft service_disk (storage_of setup) state.world.core.answered hand between.0) (sym ready) between.2,
)

pub work-breaks : (n : ℕ) (setup : Setup) (state : State Peers) (entry : Entry) (answer : DiskAnswer) (count : ℕ) (held left : Option Files) → state.world.core.hand ≡ Ready entry → BreaksOff (LeftOn answer) (calls_of_all (deeds_of setup state.world.core.answered entry)) count held left → TellsFiles setup state held → GoesOnFrom setup state held left
work-breaks n setup state entry answer count held left ready broke tells =
    ready-from setup state entry held left ready ((broken-between (group_kit n) (group_laws n)) setup state entry answer count held left broke tells)

-- nothing was begun
resting-from : (setup : Setup) (past : List Entry) (hand : Hand) (files : Files) → files ≡ files_of setup past → FilesLeft service_disk (storage_of setup) past hand files
resting-from setup past Empty files is = is
resting-from setup past (Waiting entry) files is = is
resting-from setup past (Applied entry) files is = is
resting-from setup past (Ready entry) files is = subst (λ (f : Files). Between service_disk (storage_of setup) (entry ∷ past) f) (sym is) no_attempt

pub rest-goes-on : (setup : Setup) (state : State Peers) (held : Option Files) → TellsFiles setup state held → GoesOnFrom setup state held held
rest-goes-on setup state None tells = refl
rest-goes-on setup state (Some held) tells = (held, refl, resting-from setup state.world.core.answered state.world.core.hand held tells)

-- **a work that is done**
pub work-files : (n : ℕ) (setup : Setup) (state : State Peers) (entry : Entry) (held left : Option Files) → IsGood (group_kit n) setup state → state.world.core.hand ≡ Ready entry → left ≡ option_map (all_applied (calls_of_all (deeds_of setup state.world.core.answered entry))) held → TellsFiles setup state held → left ≡ option_map (λ files. files_of setup (entry ∷ state.world.core.answered)) held
work-files n setup state entry None left good ready done tells = done
work-files n setup state entry (Some files) left good ready done tells =
    let past = state.world.core.answered in
    let calls = calls_of_all (deeds_of setup past entry) in
    let facts = good.steady.sound.facts in
    let range : AreInRange (entry ∷ past) = subst (λ (hand : Hand). AreInRange (accepted_by past hand)) ready good.range in
    let L : Hand → Type 0 = λ hand. IsLegal (plain_of setup) state.world.now (accepted_by past hand) in
    let made = (is_storage setup good.begins).works state.world.now entry past (subst L ready facts.legal) range in
    done ∙ ap (λ (f : Files). Some (all_applied calls f)) tells ∙ ap Some (sym (same-applied calls (files_of setup past)) ∙ made)

-- The armed count.

not-reached : (left calls : ℕ) → 1 ≤ left → counts.IsShort calls (Some left) → nat_le left calls ≡ false
not-reached left calls some short = elim (leb_tells left calls) [
  | inl below ↦ let is = below.1 in short (omega arith)
  | inr above ↦ above.0
]

-- **a work that is done does not take the server down**
pub done-stands : (owns : List defined.Seat) (armed : Option ℕ) (calls fails : ℕ) → fails ≡ 0 → IsArmed armed owns → counts.IsShort calls armed → (any_seat is_standby owns && (fails_in calls fails || counts.reaches calls armed)) ≡ false
done-stands owns None calls fails not is short =
    let none = and_right (nat_le 1 calls) (nat_le 1 fails) (ap (nat_le 1) not) in
    and_right (any_seat is_standby owns) (fails_in calls fails || false) (ap (λ b. b || false) none)
done-stands owns (Some left) calls fails not is short =
    let none = and_right (nat_le 1 calls) (nat_le 1 fails) (ap (nat_le 1) not) in
    and_right (any_seat is_standby owns) (fails_in calls fails || nat_le left calls) (λ i. none i || not-reached left calls is.0 short i)

reached-more : (left count calls : ℕ) → nat_le left (suc count) ≡ true → count < calls → nat_le left calls ≡ true
reached-more left count calls reached within = elim (leb_tells left calls) [
  | inl below ↦ below.0
  | inr above ↦ elim (leb_tells left (suc count)) [
    | inl less ↦ let is = less.1 in let not = above.1 in absurd (omega arith)
    | inr more ↦ let is = more.0 in cc
  ]
]

stops-by : (left count : ℕ) → 1 ≤ left → counts.IsShort count (Some left) → nat_le left (suc count) ≡ true → left ≡ suc count
stops-by left zero some short reached = elim (leb_tells left 1) [
  | inl below ↦ let is = below.1 in omega arith
  | inr above ↦ let not = above.0 in cc
]
stops-by left (suc count) some short reached = elim (leb_tells left (suc (suc count))) [
  | inl below ↦ elim (leb_tells left (suc count)) [
    | inl less ↦ let not = short (omega arith) in let is = less.0 in cc
    | inr more ↦ let is = below.1 in let not = more.1 in omega arith
  ]
  | inr above ↦ let not = above.0 in cc
]

-- **the disk stops at the call of its count**
pub stops-at : (owns : List defined.Seat) (armed : Option ℕ) (count : ℕ) → IsArmed armed owns → counts.IsShort count armed → counts.reaches (suc count) armed ≡ true → armed ≡ Some (suc count)
stops-at owns None count is short reached = cc
stops-at owns (Some left) count is short reached = ap Some (stops-by left count is.0 short reached)

-- **one in which the disk stops does, and so there is a standby**
pub stop-standby : (owns : List defined.Seat) (armed : Option ℕ) (count : ℕ) → IsArmed armed owns → counts.reaches (suc count) armed ≡ true → any_seat is_standby owns ≡ true
stop-standby owns None count is reached = cc
stop-standby owns (Some left) count is reached = is.1

pub stop-falls : (owns : List defined.Seat) (armed : Option ℕ) (count calls fails : ℕ) → IsArmed armed owns → counts.reaches (suc count) armed ≡ true → count < calls → (any_seat is_standby owns && (fails_in calls fails || counts.reaches calls armed)) ≡ true
stop-falls owns None count calls fails is reached within = cc
stop-falls owns (Some left) count calls fails is reached within =
    let goes = or_right (fails_in calls fails) (nat_le left calls) (reached-more left count calls reached within) in
    λ i. is.1 i && goes i

some-calls : (count calls : ℕ) → count < calls → nat_le 1 calls ≡ true
some-calls count calls within = elim (leb_tells 1 calls) [
  | inl below ↦ below.0
  | inr above ↦ let not = above.1 in absurd (omega arith)
]

some-fails : (fails : ℕ) → 1 ≤ fails → nat_le 1 fails ≡ true
some-fails fails some = elim (leb_tells 1 fails) [
  | inl below ↦ below.0
  | inr above ↦ let not = above.1 in absurd (omega arith)
]

pub some-calls-so : (calls : ℕ) → 1 ≤ calls → nat_le 1 calls ≡ true
some-calls-so calls some = some-fails calls some

-- **one in which a call fails does where there is a standby**
pub fault-falls : (owns : List defined.Seat) (armed : Option ℕ) (count calls fails : ℕ) → count < calls → any_seat is_standby owns ≡ true → 1 ≤ fails → (any_seat is_standby owns && (fails_in calls fails || counts.reaches calls armed)) ≡ true
fault-falls owns armed count calls fails within standby more =
    let some = some-calls count calls within in
    let fell = some-fails fails more in
    λ i. standby i && ((some i && fell i) || counts.reaches calls armed)
