-- Words of public clauses: the records that calls of a history stored, and where they stand among its files.
use Rattle.std.specs.Prelude.{ℕ, ◌==◌, Bool, true, false, ◌&&◌, if◌then◌else◌, List, [], ◌∷◌, length, Option, Some, None, option_map}
use Rattle.disk_model.specs.Disk.{Files}
use Rattle.calls.specs.declared.call.Call.{Call}
use Rattle.calls.specs.declared.call.Call.TheVariants.{LogWrite, NtfSend}
use Rattle.calls.specs.declared.reply.Reply.{Reply}
use Rattle.calls.specs.declared.reply.Reply.TheVariants.{Marked, Sent}
use Rattle.calls.specs.declared.entry.Entry.{Entry}
use Rattle.calls.specs.declared.entry.Entry.TheVariants.{Called, Receipted}
use Rattle.log_history.specs.Changes.{LogChange, Stored}
use Rattle.log_history.specs.Chronicle.{LogSetup, Stream}
use Rattle.log_history.specs.Answers.{living_stream}
use Rattle.log_history.specs.Table.{state_of, bytes_in}
use Rattle.log_history.specs.Places as log
use Rattle.plain_service.specs.Setups.{Setup, log_setup}
use Rattle.plain_service.specs.Changing.{past_of}
use Rattle.plain_service.specs.Storing.{log_change_by}

-- a record: the number of its stream in order of creation, its number there, both from 0 on, and its bytes
pub record StoredRecord : Type 0 where
  pub stream : ℕ
  pub number : ℕ
  pub bytes : List ℕ

-- the record of a living stream that comes next
abbrev pub next_record : (stream_number : ℕ) → (bytes : Stream → List ℕ) → Stream → StoredRecord
next_record stream_number bytes stream =
    record { stream = stream_number; number = length stream.records; bytes = bytes stream }

-- the record that a change stores, if it does
abbrev pub record_by : LogSetup → List LogChange → Option LogChange → Option StoredRecord
record_by setup past (Some (Stored name rec second)) =
    option_map (next_record (log.stream_number setup past name) (λ stream. bytes_in (state_of stream) rec)) (living_stream setup past name)
record_by setup past _ = None

-- the record that the client's call of this number stored, if it did
unfoldable pub record_of : Setup → List Entry → (client number : ℕ) → Option StoredRecord
record_of setup [] client number = None
record_of setup (Called caller seq now call ∷ past) client number =
    if caller == client && seq == number
    then record_by (log_setup setup) (past_of setup past).log (log_change_by setup (past_of setup past) (Called caller seq now call))
    else record_of setup past client number
record_of setup (Receipted caller key through now ∷ past) client number = record_of setup past client number

-- where a record stands after a history: the name of its file and the offset there; none once wrap gave its slot away or
-- rotation removed its file
unfoldable pub place_of : Setup → List Entry → StoredRecord → Option (List ℕ × ℕ)
place_of setup past stored = log.place_in (log_setup setup) (past_of setup past).log stored.stream stored.number

-- the record stands there
abbrev pub IsAt : StoredRecord → List ℕ × ℕ → Files → Type 0
IsAt stored place files = log.IsAt stored.bytes place files

-- a reply says that the call stored a record: a write that is filtered stores none
abbrev pub is_stored : Call → Reply → Bool
is_stored (LogWrite name invocation flags time header body) (Marked false mark) = true
is_stored (NtfSend notification) (Sent id) = true
is_stored _ _ = false
