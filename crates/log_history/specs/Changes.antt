-- Words of public clauses: what an accepted call changed in the log service. A history is a list of changes, the newest first.
use Rattle.std.specs.Prelude.{ℕ, Option}
use Rattle.stream_config.specs.declared.attrs.StreamAttrs.{StreamAttrs}
use Rattle.stream_config.specs.declared.attrs.StreamName.{StreamName}
use Rattle.record_print.specs.declared.record.LogRecord.{LogRecord}

-- seconds are those of acceptance, counted from 1970-01-01T00:00:00
pub data LogChange : Type 0 where
  -- a client began to use the service
  Began : (client : ℕ) → LogChange
  -- a client opened a stream, by the entry of this number; it was made with these attributes, where it did not live yet
  Opened : (client : ℕ) (name : StreamName) (making : Option StreamAttrs) (second number : ℕ) → LogChange
  -- a record was written, or a notification's was stored; its times are filled in
  Stored : (name : StreamName) (rec : LogRecord) (second : ℕ) → LogChange
  -- a client set the mask of a stream, by the entry of this number
  Filtered : (client : ℕ) (name : StreamName) (mask number : ℕ) → LogChange
  -- a client closed a stream
  Closed : (client : ℕ) (name : StreamName) (second : ℕ) → LogChange
  -- a client ended its use of the service, and with it all streams that it had open
  Ended : (client : ℕ) (second : ℕ) → LogChange
