-- Words of public clauses, those of the laws: what is kept behind an entry, its files, and where records are and stand.
use Rattle.std.specs.Prelude.{◌≡◌, ℕ, ℤ, true, ◌⊎◌, List, ◌∷◌, ◌++◌, Some}
use Rattle.std.specs.Option.{option_map_or}
use Rattle.disk_model.specs.DeviceCalls.{all_applied}
use Rattle.stream_layout.specs.Deeds.{calls_of_all}
use Rattle.calls.specs.declared.call.Call.{Call}
use Rattle.calls.specs.declared.entry.Entry.{Entry}
use Rattle.calls.specs.declared.entry.Entry.TheVariants.{Called, Receipted}
use Rattle.log_history.specs.Table.{LogTable, table, table_after}
use Rattle.ntf_history.specs.Tables.{NtfTable, table_of, after_change}
use Rattle.plain_service.specs.Setups.{Setup, log_setup}
use Rattle.plain_service.specs.Answers.{status_of}
use Rattle.plain_service.specs.Changing.{past_of, ntf_change, if_ok}
use Rattle.plain_service.specs.Replies.{reply_of}
use Rattle.plain_service.specs.Items.{through_for}
use Rattle.plain_service.specs.Storing.{log_change_by, files_of, deeds_of}
use Rattle.plain_service.specs.Records.{StoredRecord, record_of, place_of, IsAt, is_stored}

-- what is kept of the Log Service
abbrev pub log_table : Setup → List Entry → LogTable
log_table setup past = table (log_setup setup) (past_of setup past).log

-- what an entry's change makes of it, if there is one
abbrev pub log_table_after : Setup → Entry → (past : List Entry) → LogTable
log_table_after setup entry past =
    option_map_or (λ change. table_after change (log_table setup past)) (log_change_by setup (past_of setup past) entry)
    (log_table setup past)

-- what is kept of the Notification Service
abbrev pub ntf_table : Setup → List Entry → NtfTable
ntf_table setup past = table_of setup.capacity (past_of setup past).ntf

-- what a call's change makes of it, if there is one
abbrev pub ntf_table_after : Setup → (client seq : ℕ) (now : ℤ) → Call → (past : List Entry) → NtfTable
ntf_table_after setup client seq now call past =
    option_map_or (λ change. after_change change (ntf_table setup past))
    (if_ok (status_of setup (past_of setup past) client now call) (ntf_change setup (past_of setup past) client seq now call))
    (ntf_table setup past)

-- the number through which a subscription has receipts stands, or the entry is a receipt that moves it there
abbrev pub MovesByReceipt : Setup → Entry → (past : List Entry) → (client key : ℕ) → Type 0
MovesByReceipt setup entry past client key =
    (through_for setup (entry ∷ past) client key ≡ through_for setup past client key)
    ⊎ ((now : ℤ) × (entry ≡ Receipted client key (through_for setup (entry ∷ past) client key) now))

-- the deeds of an entry make of the files before it those behind it
abbrev pub DeedsGiveFiles : Setup → Entry → (past : List Entry) → Type 0
DeedsGiveFiles setup entry past =
    all_applied (calls_of_all (deeds_of setup past entry)) (files_of setup past) ≡ files_of setup (entry ∷ past)

-- where a call was answered as one that stored a record, this longer history has it
abbrev pub KeepsStored : Setup → (later : List Entry) → (client seq : ℕ) (now : ℤ) → Call → (past : List Entry) → Type 0
KeepsStored setup later client seq now call past =
    is_stored call (reply_of setup past client now call) ≡ true →
    (stored : StoredRecord) × (record_of setup (later ++ Called client seq now call ∷ past) client seq ≡ Some stored)

-- each record of the one history is the same call's in the other
abbrev pub RecordsStay : Setup → (past later : List Entry) → Type 0
RecordsStay setup past later =
    (client number : ℕ) (stored : StoredRecord) → record_of setup past client number ≡ Some stored →
    record_of setup later client number ≡ Some stored

-- each record that has a place stands there with its bytes
abbrev pub RecordsStand : Setup → List Entry → Type 0
RecordsStand setup past =
    (client number : ℕ) (stored : StoredRecord) (place : List ℕ × ℕ) → record_of setup past client number ≡ Some stored →
    place_of setup past stored ≡ Some place → IsAt stored place (files_of setup past)

-- no two calls have records of one number in one stream
abbrev pub RecordsDiffer : Setup → List Entry → Type 0
RecordsDiffer setup past =
    (client other number second : ℕ) (stored later : StoredRecord) → record_of setup past client number ≡ Some stored →
    record_of setup past other second ≡ Some later → stored.stream ≡ later.stream → stored.number ≡ later.number →
    (client ≡ other) × (number ≡ second)

-- no two calls have records at one place
abbrev pub PlacesDiffer : Setup → List Entry → Type 0
PlacesDiffer setup past =
    (client other number second : ℕ) (stored later : StoredRecord) (place : List ℕ × ℕ) →
    record_of setup past client number ≡ Some stored → record_of setup past other second ≡ Some later →
    place_of setup past stored ≡ Some place → place_of setup past later ≡ Some place → (client ≡ other) × (number ≡ second)
