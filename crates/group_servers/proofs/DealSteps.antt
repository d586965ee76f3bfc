-- What the disk counted as the deeds of an entry broke off, and standbys took over.
use Rattle.std.proofs.Common.{◌≡◌, ℕ, zero, suc, ◌+◌, ◌-◌, ◌≤◌, ◌⊎◌, inl, inr, true, false, Option, List, [], ◌∷◌, length, refl, ap, sym, ◌∙◌, arith}
use Rattle.std.specs.List.{AllByRecursion}
use Rattle.ais_values.specs.Causes.{Rose}
use Rattle.disk_model.specs.Counts as counts
use Rattle.disk_model.specs.DeviceCalls.{DeviceCall, BreaksOff, LeftOn}
use Rattle.disk_model.specs.Seen.{DiskSeen}
use Rattle.disk_model.specs.declared.answers.DiskAnswer.TheVariants.{Failed, Stopped}
use Rattle.disk_model.specs.declared.tally.Tally.{Tally}
use Rattle.stream_layout.specs.Deeds.{calls_of_all}
use Rattle.plain_service.specs.Setups.{Setup}
use Rattle.plain_service.specs.Storing.{deeds_of}
use Rattle.cluster_facts.specs.Types.{Entry}
use Rattle.cluster_events.specs.Devices.{IsCaused}
use Rattle.cluster_rounds.specs.Kits.{device_by}
use Rattle.cluster_rounds.specs.Seen.{counters_of}
use Rattle.group_servers.specs.Deals as deals
use Rattle.group_servers.specs.Deals.{AreSome, ArmedIn, Dealt, Ending, Falling, LackedAt, Spent, Went, downs_by, faults_by, fell_before, fell_behind, fell_by, made_by, stops_by, total}
use Rattle.group_servers.specs.Deals.AreDeals.{none, more}
use Rattle.group_servers.specs.Falls.{IsDisarmed}
use Rattle.group_servers.specs.GroupUses.{rose-once, spent-as, spent-both}
use Rattle.group_servers.specs.Tried.{Row}
use Rattle.group_servers.proofs.RowSteps.{PartlyRow, failed-spent, plus-all, some-made, spent-start}

-- Of a row of which so many failed as they took over, the numbers that tell it: where the active server was stopped or crashed, none where
-- none failed.

abbrev pub stops_with : ℕ → ℕ
stops_with zero = 0
stops_with (suc count) = suc (suc count)

pub stops-tell : (count : ℕ) → (stops_with count ≡ suc count) ⊎ ((count ≡ 0) × (stops_with count ≡ 0))
stops-tell zero = inr (refl, refl)
stops-tell (suc count) = inl refl

pub stops-caused : (count before after : ℕ) → (1 ≤ count → Rose before after) → IsCaused before after (λ number. stops_with count)
stops-caused zero before after rose never number = refl
stops-caused (suc count) before after rose never number = absurd (never (rose (omega arith)))

-- and where all of so many failed, the last one left out
abbrev pub stops_before : ℕ → ℕ
stops_before zero = 0
stops_before (suc zero) = 0
stops_before (suc (suc count)) = suc (suc count)

pub stops-row : (count : ℕ) → count ≤ suc (stops_before count - 1)
stops-row zero = omega arith
stops-row (suc zero) = omega arith
stops-row (suc (suc count)) = omega arith

pub before-caused : (count before after : ℕ) → (2 ≤ count → Rose before after) → IsCaused before after (λ number. stops_before count)
before-caused zero before after rose never number = refl
before-caused (suc zero) before after rose never number = refl
before-caused (suc (suc count)) before after rose never number = absurd (never (rose (omega arith)))

pub fails-row : (count : ℕ) → 1 ≤ count → count ≤ suc (count - 1)
fails-row count some = omega arith

-- how the deeds of the entry in hand broke off, with what fell by it, and what the disk counted
pub data Broke (armed : Option ℕ) (calls : List DeviceCall) (held mid : DiskSeen) : Type 0 where
  stopped :
      (count : ℕ) → BreaksOff (LeftOn Stopped) calls count held.files mid.files
      → counts.IsShort count armed × (counts.reaches (suc count) armed ≡ true)
      → mid.faults ≡ held.faults → mid.tally ≡ counts.stopped (suc count) held.tally → (held.stops ≤ mid.stops) × Rose held.stops mid.stops
      → Broke armed calls held mid
  failed :
      (count : ℕ) → BreaksOff (LeftOn Failed) calls count held.files mid.files → held.faults ≤ mid.faults → Rose held.faults mid.faults
      → counts.IsShort (suc count) armed × (mid.tally ≡ counts.passed (suc count) held.tally) → mid.stops ≡ held.stops → Broke armed calls held mid

abbrev pub went_by : {armed : Option ℕ} {calls : List DeviceCall} {held mid : DiskSeen} → Broke armed calls held mid → Went
went_by (stopped count off reached stands tally rose) = deals.Stopped (suc count)
went_by (failed count off later rose tally stops) = deals.Failed (suc count)

-- how many fell at the entry, by how many failed as they took over
abbrev pub fells : {armed : Option ℕ} {calls : List DeviceCall} {held mid : DiskSeen} → Broke armed calls held mid → ℕ → ℕ
fells (stopped count off reached stands tally rose) many = stops_with many
fells (failed count off later rose tally stops) many = suc many

-- and where all of so many failed
abbrev pub ends_with : {armed : Option ℕ} {calls : List DeviceCall} {held mid : DiskSeen} → Broke armed calls held mid → ℕ → ℕ
ends_with (stopped count off reached stands tally rose) many = stops_before many
ends_with (failed count off later rose tally stops) many = many

-- where the disk had a fault one fell at least
abbrev pub FellSome : {armed : Option ℕ} {calls : List DeviceCall} {held mid : DiskSeen} → Broke armed calls held mid → ℕ → Type 0
FellSome (stopped count off reached stands tally rose) fails = Unit {0}
FellSome (failed count off later rose tally stops) fails = 1 ≤ fails

-- how many went down, by how many failed as they took over
pub downs-are : {armed : Option ℕ} {calls : List DeviceCall} {held mid : DiskSeen} → (broke : Broke armed calls held mid) (made : List ℕ) → downs_by (went_by broke) made ≡ suc (length made)
downs-are (stopped count off reached stands tally rose) made = refl
downs-are (failed count off later rose tally stops) made = refl

pub is-fallen : {armed : Option ℕ} {calls : List DeviceCall} {held mid : DiskSeen} → (broke : Broke armed calls held mid) → deals.IsFallen (went_by broke)
is-fallen (stopped count off reached stands tally rose) = tt
is-fallen (failed count off later rose tally stops) = tt

-- What was counted.

pub done-sum : (calls : ℕ) → calls ≡ 0 + 0 + calls + 0
done-sum calls = omega arith

-- **the deeds of an entry were done**
unfoldable pub done-dealt : (setup : Setup) (past : List Entry) (entry : Entry) (held left : DiskSeen) → Spent (length (calls_of_all (deeds_of setup past entry))) 0 0 (counters_of held) (counters_of left) → ArmedIn (length (calls_of_all (deeds_of setup past entry))) deals.Done held.tally.armed left.tally.armed → Dealt (device_by setup (λ number. 0)) past (entry ∷ past) (counters_of held) (counters_of left)
done-dealt setup past entry held left spent armed = record {
  deals = record { past = past; entry = entry; went = deals.Done; row = [] } ∷ [];
  are = more entry deals.Done [] none;
  ways = (record { fell = refl; went = refl }, tt);
  spent = spent-as _ _ _ _ _ _ (counters_of held) (counters_of left) (done-sum (length (calls_of_all (deeds_of setup past entry)))) refl refl spent;
  armed = (held.tally.armed, refl, armed);
}

pub behind-is : (made : List ℕ) → stops_with (length made) ≡ fell_behind made
behind-is [] = refl
behind-is (one ∷ made) = refl

pub before-is : (at : ℕ) (made : List ℕ) → stops_before (length made) ≡ fell_before (deals.Stopped at) made
before-is at [] = refl
before-is at (one ∷ []) = refl
before-is at (one ∷ other ∷ made) = refl

pub failed-is : (at : ℕ) (made : List ℕ) → length made ≡ fell_before (deals.Failed at) made
failed-is at [] = refl
failed-is at (one ∷ made) = refl

pub sum-one : (made row calls : ℕ) → made + (row + calls) ≡ made + row + calls + 0
sum-one made row calls = omega arith

pub sum-row : (fails row : ℕ) → fails + row ≡ fails + row + 0
sum-row fails row = omega arith

pub sum-none : (n : ℕ) → n + 0 ≡ n
sum-none n = omega arith

pub sum-end : (made row : ℕ) → made + (row + 0) ≡ made + row
sum-end made row = omega arith

-- **the deeds of an entry failed, and there was no standby**
unfoldable pub alone-ending : (setup : Setup) (past : List Entry) (entry : Entry) (count : ℕ) (held left : DiskSeen) → AreSome (length (calls_of_all (deeds_of setup past entry))) (suc count) → Spent (suc count) 1 0 (counters_of held) (counters_of left) → ArmedIn (length (calls_of_all (deeds_of setup past entry))) (deals.Failed (suc count)) held.tally.armed left.tally.armed → Ending (device_by setup (λ number. 0)) past (entry ∷ past) (counters_of held) (counters_of left)
alone-ending setup past entry count held left some spent armed = record {
  entry = entry;
  last = refl;
  went = deals.Failed (suc count);
  row = [];
  fell = refl;
  way = (some, tt);
  fallen = tt;
  spent = spent-as _ _ _ _ _ _ (counters_of held) (counters_of left) (sym (sum-none (suc count))) refl refl spent;
  armed = armed;
}

module _ (setup : Setup) (past : List Entry) (entry : Entry) (armed : Option ℕ) (held mid start left : DiskSeen) (broke : Broke armed (calls_of_all (deeds_of setup past entry)) held mid) (started : IsDisarmed mid start) where
  abbrev calls : ℕ
  calls = length (calls_of_all (deeds_of setup past entry))

  broke-spent : Spent (made_by (went_by broke)) (faults_by (went_by broke)) (stops_by (went_by broke)) (counters_of held) (counters_of mid)
  broke-spent = by broke
    where
      by : (b : Broke armed (calls_of_all (deeds_of setup past entry)) held mid) → Spent (made_by (went_by b)) (faults_by (went_by b)) (stops_by (went_by b)) (counters_of held) (counters_of mid)
      by (stopped count off reached stands tally rose) = record {
        changing = ap (λ (t : Tally). t.changing) tally;
        reading = ap (λ (t : Tally). t.reading) tally;
        faults = stands;
        stops = rose-once held.stops mid.stops rose.0 rose.1;
      }
      by (failed count off later rose tally stops) = failed-spent (suc count) held mid tally.1 later rose stops

  -- so much was spent by it, and so much behind it
  pub behind-spent : (extra fails : ℕ) → Spent extra fails 0 (counters_of start) (counters_of left) → Spent (made_by (went_by broke) + extra) (faults_by (went_by broke) + fails) (stops_by (went_by broke) + 0) (counters_of held) (counters_of left)
  behind-spent extra fails spent =
      spent-both (made_by (went_by broke)) extra (faults_by (went_by broke)) fails (stops_by (went_by broke)) 0 (counters_of held) (counters_of mid) (counters_of left)
      broke-spent (spent-start extra fails 0 mid start left started spent)

  pub way-is : (made : List ℕ) → AllByRecursion (AreSome calls) made → deals.IsWent calls (went_by broke) made
  way-is made some = by broke
    where
      by : (b : Broke armed (calls_of_all (deeds_of setup past entry)) held mid) → deals.IsWent calls (went_by b) made
      by (stopped count off reached stands tally rose) = (some-made (LeftOn Stopped) (calls_of_all (deeds_of setup past entry)) count held.files mid.files off, some)
      by (failed count off later rose tally stops) = (some-made (LeftOn Failed) (calls_of_all (deeds_of setup past entry)) count held.files mid.files off, some)

  pub fells-are : (count : ℕ) (made : List ℕ) → length made ≡ count → fells broke count ≡ fell_by (went_by broke) made
  fells-are count made long = by broke
    where
      by : (b : Broke armed (calls_of_all (deeds_of setup past entry)) held mid) → fells b count ≡ fell_by (went_by b) made
      by (stopped at off reached stands tally rose) = ap stops_with (sym long) ∙ behind-is made
      by (failed at off later rose tally stops) = ap suc (sym long)

  -- **a standby took over behind those that failed: the entry was worked**
  unfoldable pub fell-dealt : (count : ℕ) → Row calls count true start left → ArmedIn calls (went_by broke) held.tally.armed left.tally.armed → Dealt (device_by setup (λ number. fells broke count)) past (entry ∷ past) (counters_of held) (counters_of left)
  fell-dealt count row armed_so =
      let went = went_by broke in
      let made = row.made in
      record {
        deals = record { past = past; entry = entry; went = went; row = made } ∷ [];
        are = more entry went made none;
        ways = (record { fell = fells-are count made row.long; went = way-is made row.some }, tt);
        spent = spent-as _ _ _ _ _ _ (counters_of held) (counters_of left)
            (sum-one (made_by went) (total made) calls) (sum-row (faults_by went) (length made)) refl
            (behind-spent (total made + calls) (length made) row.spent);
        armed = (held.tally.armed, refl, armed_so);
      }

  -- **all failed**
  unfoldable pub fell-ending : (count : ℕ) → Row calls count false start left → ArmedIn calls (went_by broke) held.tally.armed left.tally.armed → Ending (device_by setup (λ number. ends_with broke count)) past (entry ∷ past) (counters_of held) (counters_of left)
  fell-ending count row armed_so =
      let went = went_by broke in
      let made = row.made in
      record {
        entry = entry;
        last = refl;
        went = went;
        row = made;
        fell = ends-are broke;
        way = way-is made row.some;
        fallen = is-fallen broke;
        spent = spent-as _ _ _ _ _ _ (counters_of held) (counters_of left)
            (sum-end (made_by went) (total made)) refl (sum-none (stops_by went))
            (behind-spent (total made + 0) (length made) row.spent);
        armed = armed_so;
      }
    where
      ends-are : (b : Broke armed (calls_of_all (deeds_of setup past entry)) held mid) → ends_with b count ≡ fell_before (went_by b) row.made
      ends-are (stopped at off reached stands tally rose) = ap stops_before (sym row.long) ∙ before-is (suc at) row.made
      ends-are (failed at off later rose tally stops) = sym row.long ∙ failed-is (suc at) row.made

  -- **memory was wanting as one took over, or behind it**
  unfoldable pub fell-lacked : (entries : List Entry) (Left : (made calls : ℕ) → Type 0) (most : ℕ) (row : PartlyRow calls most start left) → entries ≡ entry ∷ past → Left row.last calls → ArmedIn calls (went_by broke) held.tally.armed left.tally.armed → LackedAt (device_by setup (λ number. fells broke (length row.made))) entries past Left (counters_of held) (counters_of left)
  fell-lacked entries Left most row last out armed_so =
      let went = went_by broke in
      let made = row.made in
      Falling entry went made row.last last (is-fallen broke) (fells-are (length made) made refl) (way-is made row.some) row.more
      (spent-as _ _ _ _ _ _ (counters_of held) (counters_of left)
      (plus-all (made_by went) (total made) row.last) refl (sum-none (stops_by went))
      (behind-spent (total made + row.last) (length made) row.spent))
      out armed_so
