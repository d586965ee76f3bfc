-- Words of bodies alone: what a service keeps whose value is fit, as its calls ask it.
use Rattle.std.specs.Prelude.{◌≡◌, ℕ, ◌<◌, ◌≤◌, pos, List, [], ◌∷◌, map}
use Rattle.std.specs.List.{AllByRecursion}
use Rattle.stream_config.specs.Attributes.{kind_of, PassesAttrs}
use Rattle.stream_config.specs.Fit.{stamps_of, HasFitFiles}
use Rattle.stream_config.specs.declared.attrs.StreamName.TheVariants as name
use Rattle.log_history.specs.Table.{OpenStream, LogTable}
use Rattle.log_history.specs.Stamps.{IsStampUpTo}
use Rattle.alarm_view.specs.declared.alarm.KeptAlarm.{KeptAlarm}
use Rattle.calls.specs.declared.saved.Saved.{Saved}
use Rattle.plain_service.specs.Fitness.{IsFitMark, HaveFitStreams, HasFitStamp}
use Rattle.plain_service.specs.Values.{saved_stream}

-- a living stream, by the last stamp and the number of entries
pub record IsFitState (last number : ℕ) (stream : OpenStream) : Type 0 where
  pub attributes : PassesAttrs (kind_of stream.state.name) stream.state.attrs
  pub files : HasFitFiles stream.state
  pub stamps : AllByRecursion (IsStampUpTo (pos last)) (stamps_of stream.state.files)
  pub taken : stream.state.taken ≤ number
  pub mark : IsFitMark number stream.state.name stream.mark

-- the alarm stream stands first, and its attributes pass
abbrev pub IsAlarmFirst : List OpenStream → Type 0
IsAlarmFirst [] = ⊥
IsAlarmFirst (stream ∷ streams) =
    (stream.state.name ≡ name.Alarm) × PassesAttrs (kind_of stream.state.name) stream.state.attrs

-- how many records it has taken
abbrev pub alarm_count : List OpenStream → ℕ
alarm_count [] = 0
alarm_count (stream ∷ streams) = stream.state.taken

-- the value of a service that keeps this log, and nothing else
abbrev pub log_alone : (number : ℕ) → LogTable → Saved
log_alone number kept = record {
  number = number;
  last_stamp = pos kept.last;
  last_id = 0;
  capacity = 1;
  log_users = kept.users;
  ntf_users = [];
  windows = [];
  streams = map saved_stream kept.streams;
  alarms = [];
  subs = [];
  readers = [];
}

-- the log of a fit value
pub record IsFitLog (number : ℕ) (kept : LogTable) : Type 0 where
  pub streams : HaveFitStreams (log_alone number kept)
  pub stamp : HasFitStamp (log_alone number kept)

-- the record of an alarm was stored, and its id was given
pub record WasStored (taken last_id : ℕ) (alarm : KeptAlarm) : Type 0 where
  pub stored : alarm.number < taken
  pub given : alarm.notification.id ≤ last_id
