-- Words of public clauses: how a disk fault that is told and the disk's count of faults hang together.
use Rattle.std.specs.Prelude.{◌≡◌, ℕ, ◌≤◌, Result, Ok, Err}
use Rattle.ais_values.specs.Causes.{Rose}
use Rattle.cluster_clients.specs.declared.answer.EventAnswer.{EventAnswer}
use Rattle.cluster_clients.specs.declared.answer.EventAnswer.TheVariants.{Memory, DiskFault}

-- the count rose exactly where a disk fault is told, and did not fall to where counts end: where the event is done, or memory ran
-- out, it is what it was
abbrev pub RisesAtFault : {T : Type 0} → ℕ → ℕ → Result T EventAnswer → Type 0
RisesAtFault before now (Ok done) = now ≡ before
RisesAtFault before now (Err Memory) = now ≡ before
RisesAtFault before now (Err (DiskFault lines)) = (before ≤ now) × Rose before now
