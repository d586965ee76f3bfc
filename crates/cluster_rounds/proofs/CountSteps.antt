-- One event behind others, by the counts of the disks.
use Rattle.std.specs.Prelude.{Result, Ok, Err}
use Rattle.disk_model.specs.declared.answers.DiskAnswer.{DiskAnswer}
use Rattle.disk_model.specs.declared.answers.DiskAnswer.TheVariants.{Memory, Failed, Stopped}
use Rattle.cluster_rounds.specs.Counted.{Counted}
use Rattle.cluster_rounds.specs.Kits.{IsKit, Kit}

module _ {Peers Group : Type 0} (kit : Kit Peers Group) (laws : IsKit kit) where
  pub counts-after : {T : Type 0} (result : Result T DiskAnswer) (one two three : kit.Seen) → kit.Outlives one two → Counted {T = T} kit two three result → Counted {T = T} kit one three result
  counts-after (Ok done) one two three first second = laws.further one two three first second
  counts-after (Err Memory) one two three first second = laws.further one two three first second
  counts-after (Err Stopped) one two three first second = laws.further one two three first second
  counts-after (Err Failed) one two three first second = laws.rises one two three first second
