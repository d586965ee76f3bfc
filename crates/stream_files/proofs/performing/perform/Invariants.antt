use Rattle.std.proofs.Common.{◌≡◌, take, length, option_map}
use Rattle.disk_model.specs.Counts.{CountsDone}
use Rattle.disk_model.specs.DeviceCalls.{all_applied}
use Rattle.stream_layout.specs.Deeds.{calls_of_all}
use Rattle.stream_files.proofs.performing.perform.Given as goal

abbrev pub invariant-loop-deed : goal.invariant-loop-deed
invariant-loop-deed g l = record {
  done : (g.D.SharedDisk.seen l.disk).files ≡ option_map (all_applied (calls_of_all (take l.deed-index l.deed-items))) (g.D.SharedDisk.seen l.initial.disk).files;
  counted : CountsDone (length (calls_of_all (take l.deed-index l.deed-items))) (g.D.SharedDisk.seen l.initial.disk).tally (g.D.SharedDisk.seen l.disk).tally;
  stands : (g.D.SharedDisk.seen l.disk).faults ≡ (g.D.SharedDisk.seen l.initial.disk).faults;
  runs : (g.D.SharedDisk.seen l.disk).stops ≡ (g.D.SharedDisk.seen l.initial.disk).stops;
}
