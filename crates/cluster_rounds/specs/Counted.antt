-- Words of public clauses: how the counts of the disks went in an event.
use Rattle.std.specs.Prelude.{Result, Ok, Err}
use Rattle.disk_model.specs.declared.answers.DiskAnswer.{DiskAnswer}
use Rattle.disk_model.specs.declared.answers.DiskAnswer.TheVariants.{Memory, Failed, Stopped}
use Rattle.cluster_rounds.specs.Kits.{Kit}

-- an event that is done, lacks memory or meets a stop outlives it; one that fails made a count of faults rise
abbrev pub Counted : {T P S : Type 0} (kit : Kit P S) → kit.Seen → kit.Seen → Result T DiskAnswer → Type 0
Counted kit before after (Ok done) = kit.Outlives before after
Counted kit before after (Err Memory) = kit.Outlives before after
Counted kit before after (Err Stopped) = kit.Outlives before after
Counted kit before after (Err Failed) = kit.Rises before after
