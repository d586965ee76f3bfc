-- What the disk counted as standbys tried to take over, one after another.
use Rattle.std.proofs.Common.{◌≡◌, ℕ, suc, ◌+◌, ◌≤◌, Bool, true, false, if◌then◌else◌, Option, List, [], ◌∷◌, length, refl, ap, sym, ◌∙◌, subst, arith}
use Rattle.std.specs.List.{AllByRecursion}
use Rattle.ais_values.specs.Causes.{Rose}
use Rattle.ais_values.proofs.Basics.{one_more}
use Rattle.disk_model.specs.Counts.{asked, many_more, passed}
use Rattle.disk_model.specs.Disk.{Files}
use Rattle.disk_model.specs.DeviceCalls.{DeviceCall, LeftAlone, LeftBy, BreaksOff}
use Rattle.disk_model.specs.Seen.{DiskSeen}
use Rattle.disk_model.specs.declared.tally.Tally.{Tally}
use Rattle.stream_layout.specs.Deeds.{calls_of_all}
use Rattle.plain_service.specs.Setups.{Setup}
use Rattle.cluster_facts.specs.Types.{Entry}
use Rattle.mirror.specs.Pairing.{deeds_kept}
use Rattle.cluster_rounds.specs.Kits.{device_by}
use Rattle.cluster_rounds.specs.Seen.{counters_of}
use Rattle.group_servers.specs.declared.group.Seat.{Seat}
use Rattle.group_servers.specs.Deals.{AreSome, RoseTimes, Spent, last_calls, total}
use Rattle.group_servers.specs.Falls.{IsDisarmed}
use Rattle.group_servers.specs.Followed.{row_calls}
use Rattle.group_servers.specs.GroupUses.{rose-once, spent-as, spent-both}
use Rattle.group_servers.specs.Tried.{Makes}
use Rattle.group_servers.specs.Lines.{takers}
use Rattle.group_servers.specs.Tries.{TriesPartly, takes}
use Rattle.group_servers.specs.Tries.TriesPartly.{passes_by, fails_first, lacks}
use Rattle.group_servers.proofs.GroupFiles.{broke-within}

-- Calls that passed, and some of which memory was wanting for the last.

pub passed-spent : (calls : ℕ) (held left : DiskSeen) → left.tally ≡ passed calls held.tally → left.faults ≡ held.faults → left.stops ≡ held.stops → Spent calls 0 0 (counters_of held) (counters_of left)
passed-spent calls held left tally faults stops = record {
  changing = ap (λ (t : Tally). t.changing) tally;
  reading = ap (λ (t : Tally). t.reading) tally;
  faults = faults;
  stops = stops;
}

-- one that failed
pub failed-spent : (calls : ℕ) (held left : DiskSeen) → left.tally ≡ passed calls held.tally → held.faults ≤ left.faults → Rose held.faults left.faults → left.stops ≡ held.stops → Spent calls 1 0 (counters_of held) (counters_of left)
failed-spent calls held left tally later rose stops = record {
  changing = ap (λ (t : Tally). t.changing) tally;
  reading = ap (λ (t : Tally). t.reading) tally;
  faults = rose-once held.faults left.faults later rose;
  stops = stops;
}

lacked-spent : (count : ℕ) (held left : DiskSeen) → left.tally ≡ asked (passed count held.tally) → left.faults ≡ held.faults → left.stops ≡ held.stops → Spent (suc count) 0 0 (counters_of held) (counters_of left)
lacked-spent count held left tally faults stops = record {
  changing = ap (λ (t : Tally). t.changing) tally;
  reading = ap (λ (t : Tally). t.reading) tally;
  faults = faults;
  stops = stops;
}

-- on a disk whose count was taken away before
pub spent-start : (calls fails halts : ℕ) (held start left : DiskSeen) → IsDisarmed held start → Spent calls fails halts (counters_of start) (counters_of left) → Spent calls fails halts (counters_of held) (counters_of left)
spent-start calls fails halts held start left started spent = record {
  changing = spent.changing ∙ ap (λ (t : Tally). many_more calls t.changing) started.tally;
  reading = spent.reading ∙ ap (λ (t : Tally). t.reading) started.tally;
  faults = subst (λ (n : ℕ). RoseTimes fails n left.faults) started.faults spent.faults;
  stops = subst (λ (n : ℕ). RoseTimes halts n left.stops) started.stops spent.stops;
}

-- Of so many calls some were made.

some-by : (calls count : ℕ) → suc count ≤ calls → AreSome calls (suc count)
some-by calls count within = (omega arith, within)

pub some-made : (Left : DeviceCall → Files → Files → Type 0) (calls : List DeviceCall) (count : ℕ) (held left : Option Files) → BreaksOff Left calls count held left → AreSome (length calls) (suc count)
some-made Left calls count held left broke =
    let within = broke-within Left calls count held left broke in
    some-by (length calls) count (omega arith)

-- all of them, where there are any
pub some-all : (calls : ℕ) → 1 ≤ calls → AreSome calls calls
some-all calls some = (some, omega arith)

-- the calls of those that take over
pub row-long : (setup : Setup) (fails : ℕ → ℕ) (fresh : Bool) (history : List Entry) → length (row_calls setup fresh history) ≡ (if fresh then 0 else last_calls (device_by setup fails) history)
row-long setup fails true history = refl
row-long setup fails false [] = refl
row-long setup fails false (entry ∷ past) = refl

-- Memory was wanting behind those that failed.

-- of so many standbys at most, of which the last one had no fault
pub record PartlyRow (calls most : ℕ) (held left : DiskSeen) : Type 0 where
  pub made : List ℕ
  pub few : suc (length made) ≤ most
  pub some : AllByRecursion (AreSome calls) made
  pub last : ℕ
  pub more : AreSome calls last
  pub spent : Spent (total made + last) (length made) 0 (counters_of held) (counters_of left)

pub plus-all : (one rest last : ℕ) → one + (rest + last) ≡ one + rest + last
plus-all one rest last = omega arith

pub zero-more : (n : ℕ) → n ≡ 0 + n
zero-more n = omega arith

takers-long : (fresh : Bool) (seat : Seat) (seats : List Seat) (b : Bool) → takes fresh seat ≡ b → length (takers fresh (seat ∷ seats)) ≡ (if b then suc (length (takers fresh seats)) else length (takers fresh seats))
takers-long fresh seat seats true it = ap (λ c. length (if c then seat.server ∷ takers fresh seats else takers fresh seats)) it
takers-long fresh seat seats false it = ap (λ c. length (if c then seat.server ∷ takers fresh seats else takers fresh seats)) it

one-few : (made most : ℕ) → suc made ≤ most → suc (suc made) ≤ suc most
one-few made most few = omega arith

first-few : (most : ℕ) → 1 ≤ suc most
first-few most = omega arith

pub partly-row : (calls : List DeviceCall) (fresh : Bool) (seats : List Seat) (held left : DiskSeen) → AllByRecursion (Makes calls fresh) seats → TriesPartly fresh seats held left → PartlyRow (length calls) (length (takers fresh seats)) held left
partly-row calls fresh seats held left makes (passes_by {seats = others} seat not rest) =
    let deeper = partly-row calls fresh others held left makes.1 rest in
    record {
      made = deeper.made;
      few = subst (λ (n : ℕ). suc (length deeper.made) ≤ n) (sym (takers-long fresh seat others false not)) deeper.few;
      some = deeper.some;
      last = deeper.last;
      more = deeper.more;
      spent = deeper.spent;
    }
partly-row calls fresh seats held left makes (fails_first {seats = others} {mid = mid} seat fallen it one rest) =
    let deeper = partly-row calls fresh others mid left makes.1 rest in
    let some = some-made LeftBy (calls_of_all (deeds_kept seat.node.kept)) one.1 held.files mid.files one.2 in
    let first = failed-spent (suc one.1) held mid one.6 one.4 one.5 one.7 in
    record {
      made = suc one.1 ∷ deeper.made;
      few =
          subst (λ (n : ℕ). suc (suc (length deeper.made)) ≤ n) (sym (takers-long fresh seat others true it))
          (one-few (length deeper.made) (length (takers fresh others)) deeper.few);
      some = (subst (λ (c : List DeviceCall). AreSome (length c) (suc one.1)) (makes.0 it) some, deeper.some);
      last = deeper.last;
      more = deeper.more;
      spent = spent-as _ _ _ _ _ _ (counters_of held) (counters_of left) (plus-all (suc one.1) (total deeper.made) deeper.last) (one_more (length deeper.made)) refl
          (spent-both (suc one.1) (total deeper.made + deeper.last) 1 (length deeper.made) 0 0 (counters_of held) (counters_of mid) (counters_of left) first deeper.spent);
    }
partly-row calls fresh seats held left makes (lacks {seats = others} seat it one) =
    let some = some-made LeftAlone (calls_of_all (deeds_kept seat.node.kept)) one.0 held.files left.files one.1 in
    record {
      made = [];
      few = subst (λ (n : ℕ). 1 ≤ n) (sym (takers-long fresh seat others true it)) (first-few (length (takers fresh others)));
      some = tt;
      last = suc one.0;
      more = subst (λ (c : List DeviceCall). AreSome (length c) (suc one.0)) (makes.0 it) some;
      spent = spent-as _ _ _ _ _ _ (counters_of held) (counters_of left) (zero-more (suc one.0)) refl refl
          (lacked-spent one.0 held left one.3 one.2 one.4);
    }
