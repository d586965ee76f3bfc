use Rattle.std.proofs.Common.{◌≡◌, suc, take}
use Rattle.std.specs.Prelude.{IfSome}
use Rattle.disk_model.specs.Counts.{read_more}
use Rattle.world_runs.specs.Figures.{CountsFront}
use Rattle.world_runs.proofs.figures.count_files.Given as goal

abbrev pub invariant-loop-name : goal.invariant-loop-name
invariant-loop-name g l = record {
  counted : IfSome (g.D.SharedDisk.seen l.fn.disk).files (λ told. CountsFront told (take l.name-index l.name-items) l.held);
  same : (g.D.SharedDisk.seen l.disk).files ≡ (g.D.SharedDisk.seen l.fn.disk).files;
  stops : (g.D.SharedDisk.seen l.disk).stops ≡ (g.D.SharedDisk.seen l.fn.disk).stops;
  asked : (g.D.SharedDisk.seen l.disk).tally ≡ read_more (suc l.name-index) (g.D.SharedDisk.seen l.fn.disk).tally;
  stands : (g.D.SharedDisk.seen l.disk).faults ≡ (g.D.SharedDisk.seen l.fn.disk).faults;
}
