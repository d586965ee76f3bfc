-- Words of public clauses: what a disk counts of the works of entries, and of the takeovers behind them.
use Rattle.std.specs.Prelude.{◌≡◌, ℕ, zero, suc, ◌+◌, ◌≤◌, Option, Some, None, List, [], ◌∷◌, length}
use Rattle.std.specs.List.{AllByRecursion}
use Rattle.ais_values.specs.Causes.{Rose}
use Rattle.disk_model.specs.Counts.{Counters, IsShort, lowered, many_more}
use Rattle.cluster_facts.specs.Types.{Entry}
use Rattle.cluster_facts.specs.Lists.{EndsIn}
use Rattle.cluster_events.specs.Devices.{Device}

-- A count rose so many times. It stops at its type's end, so how often it rose is not told by the two numbers.
abbrev pub RoseTimes : ℕ → ℕ → ℕ → Type 0
RoseTimes zero before now = now ≡ before
RoseTimes (suc times) before now = (between : ℕ) × RoseTimes times before between × Rose between now × (between ≤ now)

-- so many changing calls were made and no reading one, and the counts of faults and of stops rose so many times
pub record Spent (calls fails halts : ℕ) (before after : Counters) : Type 0 where
  pub changing : after.tally.changing ≡ many_more calls before.tally.changing
  pub reading : after.tally.reading ≡ before.tally.reading
  pub faults : RoseTimes fails before.faults after.faults
  pub stops : RoseTimes halts before.stops after.stops

-- How the work of an entry went: all calls of its deeds were made; or so many of them, in the last of which the disk stopped or had a fault
pub data Went : Type 0 where
  Done : Went
  Stopped : (made : ℕ) → Went
  Failed : (made : ℕ) → Went

abbrev pub made_by : Went → ℕ
made_by Done = 0
made_by (Stopped made) = made
made_by (Failed made) = made

abbrev pub faults_by : Went → ℕ
faults_by (Failed made) = 1
faults_by _ = 0

abbrev pub stops_by : Went → ℕ
stops_by (Stopped made) = 1
stops_by _ = 0

abbrev pub IsFallen : Went → Type 0
IsFallen Done = ⊥
IsFallen _ = Unit {0}

-- Behind one that fell standbys take over, each by the same deeds: those that fail made so many of their calls, in the last of which the
-- disk had a fault, and one makes all of them.
abbrev pub total : List ℕ → ℕ
total [] = 0
total (one ∷ row) = one + total row

-- some of so many calls
abbrev pub AreSome : ℕ → ℕ → Type 0
AreSome calls made = (1 ≤ made) × (made ≤ calls)

abbrev pub IsWent : ℕ → Went → List ℕ → Type 0
IsWent calls Done row = row ≡ []
IsWent calls (Stopped made) row = AreSome calls made × AllByRecursion (AreSome calls) row
IsWent calls (Failed made) row = AreSome calls made × AllByRecursion (AreSome calls) row

-- how many servers fell by faults: none where the disk had none; else the one that was active is the first of them, though it stopped or
-- crashed
abbrev pub fell_behind : List ℕ → ℕ
fell_behind [] = 0
fell_behind (one ∷ row) = suc (suc (length row))

abbrev pub fell_by : Went → List ℕ → ℕ
fell_by Done row = 0
fell_by (Stopped made) row = fell_behind row
fell_by (Failed made) row = suc (length row)

-- how many servers went down: the one that worked, where it did not make all calls, and each standby that failed
abbrev pub downs_by : Went → List ℕ → ℕ
downs_by Done row = 0
downs_by (Stopped made) row = suc (length row)
downs_by (Failed made) row = suc (length row)

-- The armed count of the disk before a work and behind what followed: a work whose calls are all made does not reach it, nor does one in
-- which the disk has a fault; where the disk stops it was the number of that call. Behind a work that fell no count is left
abbrev pub ArmedIn : ℕ → Went → Option ℕ → Option ℕ → Type 0
ArmedIn calls Done before after = IsShort calls before × (after ≡ lowered calls before)
ArmedIn calls (Stopped made) before after = (before ≡ Some made) × (after ≡ None)
ArmedIn calls (Failed made) before after = IsShort made before × (after ≡ None)

-- the work of an entry behind a history, and the takeovers behind it
pub record Deal : Type 0 where
  pub past : List Entry
  pub entry : Entry
  pub went : Went
  pub row : List ℕ

abbrev pub calls_in : Device → Deal → ℕ
calls_in device deal = (made_by deal.went + total deal.row) + device.calls deal.past deal.entry

abbrev pub faults_in : Deal → ℕ
faults_in deal = faults_by deal.went + length deal.row

abbrev pub stops_in : Deal → ℕ
stops_in deal = stops_by deal.went

abbrev pub downs_in : Deal → ℕ
downs_in deal = downs_by deal.went deal.row

-- as many servers fell as the device says
pub record IsWay (device : Device) (deal : Deal) : Type 0 where
  pub fell : device.fails (suc (length deal.past)) ≡ fell_by deal.went deal.row
  pub went : IsWent (device.calls deal.past deal.entry) deal.went deal.row

-- of all of them together
abbrev pub of_all : (Deal → ℕ) → List Deal → ℕ
of_all count [] = 0
of_all count (deal ∷ deals) = count deal + of_all count deals

-- the armed count along them, the newest first, by the calls of an entry's deeds behind a history
abbrev pub ArmedAlong : (List Entry → Entry → ℕ) → List Deal → Option ℕ → Option ℕ → Type 0
ArmedAlong calls [] before after = after ≡ before
ArmedAlong calls (deal ∷ deals) before after =
    (between : Option ℕ) × ArmedAlong calls deals before between × ArmedIn (calls deal.past deal.entry) deal.went between after

-- one for each entry that the new history has more than the old one, the newest first
pub data AreDeals (old : List Entry) : List Entry → List Deal → Type 0 where
  none : AreDeals old old []
  more : {now : List Entry} {deals : List Deal} → (entry : Entry) (went : Went) (row : List ℕ) → AreDeals old now deals
      → AreDeals old (entry ∷ now) (record { past = now; entry = entry; went = went; row = row } ∷ deals)

-- what was counted as the history of answered entries went from an old one to a new one: each entry between was worked once
pub record Dealt (device : Device) (old new : List Entry) (before after : Counters) : Type 0 where
  pub deals : List Deal
  pub are : AreDeals old new deals
  pub ways : AllByRecursion (IsWay device) deals
  pub spent : Spent (of_all (calls_in device) deals) (of_all faults_in deals) (of_all stops_in deals) before after
  pub armed : ArmedAlong device.calls deals before.tally.armed after.tally.armed

-- how many fell before the last one
abbrev pub fell_before : Went → List ℕ → ℕ
fell_before went [] = 0
fell_before went (one ∷ row) = fell_by went row

-- the work of the entry behind this history fell, and the event ended in it: it is the last one of the history that the event ended with
pub record Ending (device : Device) (past now : List Entry) (before after : Counters) : Type 0 where
  pub entry : Entry
  pub last : now ≡ entry ∷ past
  pub went : Went
  pub row : List ℕ
  pub fell : device.fails (suc (length past)) ≡ fell_before went row
  pub way : IsWent (device.calls past entry) went row
  pub fallen : IsFallen went
  pub spent : Spent (made_by went + total row) (faults_by went + length row) (stops_by went) before after
  pub armed : ArmedIn (device.calls past entry) went before.tally.armed after.tally.armed

-- the calls of the deeds of the last entry
abbrev pub last_calls : Device → List Entry → ℕ
last_calls device [] = 0
last_calls device (entry ∷ past) = device.calls past entry

-- Memory was wanting behind so many calls, none of which failed, and the disk did not stop; or the work of the entry behind this history
-- fell, and memory was wanting as a standby took over, in the last of so many calls, or behind all of them: it is asked for nowhere else.
-- Then the servers are left so, by how many of its calls the standby made, and no count is left on the disk.
-- The entries that were worked are of the history that was left, and the one that fell is its last.
pub data LackedAt (device : Device) (entries past : List Entry) (Left : (made calls : ℕ) → Type 0) (before after : Counters) : Type 0 where
  Quiet :
      EndsIn entries past → (calls : ℕ) → after.tally.changing ≡ many_more calls before.tally.changing → after.faults ≡ before.faults
      → after.stops ≡ before.stops → LackedAt device entries past Left before after
  Falling :
      (entry : Entry) (went : Went) (row : List ℕ) (made : ℕ) → entries ≡ entry ∷ past → IsFallen went
      → device.fails (suc (length past)) ≡ fell_by went row → IsWent (device.calls past entry) went row → AreSome (device.calls past entry) made
      → Spent ((made_by went + total row) + made) (faults_by went + length row) (stops_by went) before after
      → Left made (device.calls past entry) → ArmedIn (device.calls past entry) went before.tally.armed after.tally.armed
      → LackedAt device entries past Left before after

-- how many servers fell then
abbrev pub downs_at : {device : Device} {entries past : List Entry} {Left : (made calls : ℕ) → Type 0} {before after : Counters}
    → LackedAt device entries past Left before after → ℕ
downs_at (Quiet ends calls made faults stops) = 0
downs_at (Falling entry went row made last fallen fell way some spent out counted) = downs_by went row
