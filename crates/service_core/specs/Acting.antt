-- Words of bodies alone: the parts of a service as a table, and what a call made of them.
use Rattle.std.specs.Prelude.{◌≡◌, ℕ, ℤ, Bool, List, [], Option, Some, None}
use Rattle.stream_config.specs.declared.mark.Mark.{Mark}
use Rattle.calls.specs.declared.call.Call.{Call}
use Rattle.calls.specs.declared.reply.Reply.{Reply}
use Rattle.calls.specs.declared.reply.Reply.TheVariants.{Done, Marked}
use Rattle.log_history.specs.Deeds.{deeds_of_all}
use Rattle.service_table.specs.declared.caller.ClientWindow.{ClientWindow}
use Rattle.service_table.specs.Tables.{ServiceTable}
use Rattle.service_table.specs.Answering.{status_in, told_in}
use Rattle.service_table.specs.Steps.{changed, events_in}
use Rattle.service_parts.specs.Telling.{IsTold}
use Rattle.service_core.specs.declared.parts.Parts.{Parts}
use Rattle.service_core.specs.declared.parts.Acted.{Acted}

-- the table of parts, with a number of entries and the windows of clients
abbrev pub table_with_parts : ℕ → Parts → List ClientWindow → ServiceTable
table_with_parts number parts windows = record {
  number = number;
  log = parts.log.table;
  ntf = parts.ntf.table;
  alarms = parts.alarms.kept;
  readers = parts.readers.items;
  windows = windows;
}

-- the table of parts alone
abbrev pub table_of : Parts → ServiceTable
table_of parts = table_with_parts parts.number parts []

-- what an ok call of the log is told: its stream's mark, if it has one to tell, and then whether its record was filtered
abbrev pub marked_by : (filtered : Bool) → Option Mark → Reply
marked_by filtered None = Done
marked_by filtered (Some mark) = Marked filtered mark

-- a call changed the parts as it does, was told its reply, and has its deeds
pub record HasActed (old : ServiceTable) (client seq : ℕ) (moment : ℤ) (call : Call) (new : ServiceTable) (acted : Acted) : Type 0 where
  pub now : new ≡ changed old client seq moment call (status_in old client moment call)
  pub told : IsTold (status_in old client moment call) (told_in old client call) acted.told
  pub deeds : acted.deeds ≡ deeds_of_all (events_in old client moment call)
