-- Words of public clauses: the exit status of each end.
use Rattle.std.specs.Prelude.{ℕ}
use Rattle.played_runs.specs.declared.ending.Status8.{Status8}
use Rattle.played_runs.specs.declared.ending.Status8.TheVariants.{Done, ScriptRefused, Usage, Memory, ReadFault, WriteFault, DiskFault}
use Rattle.played_runs.specs.declared.ending.Status8.TheVariants.{RootNotEmpty, TooLong, JournalRefused, Inseparable}

abbrev pub exit_status : Status8 → ℕ
exit_status Done = 0
exit_status ScriptRefused = 1
exit_status Usage = 2
exit_status Memory = 3
exit_status ReadFault = 4
exit_status WriteFault = 5
exit_status DiskFault = 6
exit_status RootNotEmpty = 7
exit_status TooLong = 8
exit_status JournalRefused = 9
exit_status Inseparable = 10
