use Rattle.std.proofs.Common.{◌≡◌, suc}
use Rattle.disk_model.specs.Counts.{read_more}
use Rattle.cluster_clients.specs.Listing.{Listing}
use Rattle.cluster_clients.proofs.files.list_files.Given as goal

abbrev pub invariant-loop-name : goal.invariant-loop-name
invariant-loop-name g l = record {
  listed : Listing l.name-items l.name-index (g.D.SharedDisk.seen l.fn.disk).files (g.D.SharedDisk.seen l.disk).files l.lines.items;
  stands : (g.D.SharedDisk.seen l.disk).faults ≡ (g.D.SharedDisk.seen l.fn.disk).faults;
  stops : (g.D.SharedDisk.seen l.disk).stops ≡ (g.D.SharedDisk.seen l.fn.disk).stops;
  counted : (g.D.SharedDisk.seen l.disk).tally ≡ read_more (suc l.name-index) (g.D.SharedDisk.seen l.fn.disk).tally;
}
