-- Words of public clauses: lines that are played, of which nothing is written.
use Rattle.std.specs.Prelude.{ℕ, ℤ, List, ◌∷◌, ◌++◌, [], ◌⊎◌, Option, Some, None, Result, Ok, Err}
use Rattle.disk_model.specs.Counts.{Counters}
use Rattle.disk_model.specs.Disk.{Files}
use Rattle.disk_model.specs.Seen.{DiskSeen}
use Rattle.plain_service.specs.Setups.{Setup}
use Rattle.played_runs.specs.declared.ending.Status8.TheVariants.{DiskFault as Faulted}
use Rattle.played_runs.specs.declared.passing.Halt.{Halt}
use Rattle.played_runs.specs.declared.passing.Halt.TheVariants.{Memory, DiskFault}
use Rattle.played_runs.specs.Counts.{HasGoneOn, HasRisen}
use Rattle.played_runs.specs.Games.{Game}
use Rattle.played_runs.specs.Steps.{EventsEnd, Going, LacksBehind}

-- the disk's count of faults as lines are played
abbrev pub RisesPassing : ℕ × ℕ → Result Unit Halt → Type 0
RisesPassing disk (Ok done) = HasGoneOn disk
RisesPassing disk (Err Memory) = HasGoneOn disk
RisesPassing disk (Err DiskFault) = HasRisen disk

module _ {P L S W : Type 0} (game : Game P L S W) where
  -- each of these lines can be played behind the first one, whatever time is in force
  abbrev pub CanPass : List L → Type 0
  CanPass [] = Unit {0}
  CanPass (next ∷ lines) = ((raw : List ℕ) × game.Spells next raw) × ((now : ℤ) → game.Follows now next) × CanPass lines

  -- what stands behind lines that were played from the start of a cluster on; or where the run ended: for want of memory, in one of them or
  -- as one was made, or by a fault of the disk
  abbrev pub PassEnds :
      (Since : Option Files → Counters → Type 0) → Setup → ℕ → Option Files → Counters → List L → DiskSeen → W
      → Result Unit Halt → Type 0
  PassEnds Since setup places held first lines left world (Ok done) =
      (text : List ℕ) × (Going game) setup places held first left world lines text
  PassEnds Since setup places held first lines left world (Err Memory) =
      (text : List ℕ)
      × ((LacksBehind game) setup places held first left world lines text
      ⊎ (EventsEnd game) setup places held first left Since world lines None text)
  PassEnds Since setup places held first lines left world (Err DiskFault) =
      (text : List ℕ) × (EventsEnd game) setup places held first left Since world lines (Some Faulted) text

  -- so it is behind all lines that led to a world and a disk
  abbrev pub Passes : (Since : Option Files → Counters → Type 0) → List L → (mid left : DiskSeen) (old new : W) → Result Unit Halt → Type 0
  Passes Since lines mid left old new result =
      (setup : Setup) (places : ℕ) (held : Option Files) (first : Counters) (done : List L) (text : List ℕ)
      → (Going game) setup places held first mid old done text → PassEnds Since setup places held first (done ++ lines) left new result

  -- some lines led there
  abbrev pub HasGone : DiskSeen → W → Type 0
  HasGone left world =
      (setup : Setup) × (places : ℕ) × (held : Option Files) × (first : Counters) × (done : List L) × (text : List ℕ)
      × (Going game) setup places held first left world done text
