-- Words of public clauses: the disk of the service in the cluster's words: what a done call makes of the files, and what one may leave
-- that is not done.
use Rattle.std.specs.Prelude.{◌⊎◌}
use Rattle.disk_model.specs.Disk.{Files, no_files}
use Rattle.disk_model.specs.DeviceCalls.{DeviceCall, applied, LeftBy, StoppedBy}
use Rattle.cluster_facts.specs.Storage.{Disk}

-- what a call leaves that failed, or at which the disk stopped
abbrev pub LeftUndone : DeviceCall → Files → Files → Type 0
LeftUndone call old new = LeftBy call old new ⊎ StoppedBy call old new

abbrev pub service_disk : Disk
service_disk = record {
  Files = Files;
  DeviceCall = DeviceCall;
  no_files = no_files;
  applied = applied;
  Torn = LeftUndone;
}
