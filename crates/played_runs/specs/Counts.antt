-- Words of public clauses: which counts of faults rise in a run, by the status that it ends with.
use Rattle.std.specs.Prelude.{◌≡◌, ℕ, ◌≤◌, Option, Some, None}
use Rattle.ais_values.specs.Causes.{Rose}
use Rattle.played_runs.specs.declared.ending.Status8.{Status8}
use Rattle.played_runs.specs.declared.ending.Status8.TheVariants.{Done, Memory, ReadFault, WriteFault, DiskFault}

-- a count, before and after: it is what it was
abbrev pub HasStood : ℕ × ℕ → Type 0
HasStood count = count.1 ≡ count.0

-- it did not fall
abbrev pub HasGoneOn : ℕ × ℕ → Type 0
HasGoneOn count = count.0 ≤ count.1

-- it rose, and did not fall to where counts end
abbrev pub HasRisen : ℕ × ℕ → Type 0
HasRisen count = (count.0 ≤ count.1) × Rose count.0 count.1

-- By the end that was to come: the source's count rose by a read fault, and the disk's by a disk fault. Where lines were played, the
-- disk's did not fall: it goes along with the lines, which tell at each rise that a server is down. By any other end both stand.
abbrev pub RisesBefore : Option Status8 → (source disk : ℕ × ℕ) → Type 0
RisesBefore None source disk = HasStood source × HasGoneOn disk
RisesBefore (Some Done) source disk = HasStood source × HasGoneOn disk
RisesBefore (Some ReadFault) source disk = HasRisen source × HasStood disk
RisesBefore (Some DiskFault) source disk = HasStood source × HasRisen disk
RisesBefore _ source disk = HasStood source × HasStood disk

-- The sink's count rises exactly by a write fault. Behind that and want of memory the others are as by some end that was to come,
-- which `EndsBy` tells; by any other status as by that end.
abbrev pub RisesBy : Status8 → (source sink disk : ℕ × ℕ) → Type 0
RisesBy WriteFault source sink disk = ((reached : Option Status8) × RisesBefore reached source disk) × HasRisen sink
RisesBy Memory source sink disk = ((reached : Option Status8) × RisesBefore reached source disk) × HasStood sink
RisesBy status source sink disk = RisesBefore (Some status) source disk × HasStood sink

-- no count rose
abbrev pub NoneRises : (source sink disk : ℕ × ℕ) → Type 0
NoneRises source sink disk = ¬ HasRisen source × ¬ HasRisen sink × ¬ HasRisen disk
