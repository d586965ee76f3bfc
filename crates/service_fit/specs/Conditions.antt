-- Words of bodies alone: what the calls of the parts ask of what is kept.
use Rattle.std.specs.Prelude.{ℕ, ◌<◌, ℤ}
use Rattle.std.specs.List.{AllByRecursion}
use Rattle.ais_values.specs.Bounds.{most_entries}
use Rattle.log_history.specs.Table.{LogTable}
use Rattle.ntf_service.specs.State.{CanSendMore, IsKeyAbove}
use Rattle.plain_service.specs.Setups.{IsMoment}
use Rattle.service_table.specs.Tables.{ServiceTable}
use Rattle.service_fit.specs.Fit.{alarm_count, IsFitLog, WasStored}

-- a call of the log can come at a moment, after fewer than 4,000,000,000 entries
pub record CanCallLog (kept : LogTable) (now : ℤ) : Type 0 where
  pub number : ℕ
  pub few : number < most_entries
  pub fit : IsFitLog number kept
  pub moment : IsMoment now

-- a call of a client can come at a moment, under this number
pub record CanCall (kept : ServiceTable) (client seq : ℕ) (now : ℤ) : Type 0 where
  pub log : CanCallLog kept.log now
  pub sending : CanSendMore kept.ntf
  pub key : IsKeyAbove client seq kept.ntf.subs
  pub alarms : AllByRecursion (WasStored (alarm_count kept.log.streams) kept.ntf.last_id) kept.alarms

-- the same table with other parts

abbrev pub with_log : ServiceTable → LogTable → ServiceTable
with_log kept log = record {
  number = kept.number;
  log = log;
  ntf = kept.ntf;
  alarms = kept.alarms;
  readers = kept.readers;
  windows = kept.windows;
}
