-- Words of public clauses: the answers of the log service, each by a table whose first row that holds decides.
use Rattle.std.specs.Prelude.{ℕ, nat_lt, nat_le, Bool, true, false, not, ◌&&◌, ◌||◌, List, [], ◌∷◌, Option, Some, None, option_map, unwrap_or, is_some}
use Rattle.std.specs.Prelude.{is_none, ℤ}
use Rattle.std.specs.Option.{option_map_or}
use Rattle.std.specs.List.{find, list_any, count_by}
use Rattle.ais_values.specs.FirstRow.{first_row}
use Rattle.ais_values.specs.declared.kind.StreamKind.{StreamKind}
use Rattle.ais_values.specs.declared.status.Status.{Status}
use Rattle.ais_values.specs.declared.status.Status.TheVariants as status
use Rattle.format_expr.specs.Language.{is_notified}
use Rattle.stream_config.specs.declared.attrs.StreamAttrs.{StreamAttrs}
use Rattle.stream_config.specs.declared.attrs.StreamName.{StreamName}
use Rattle.record_print.specs.declared.record.Header.{Header}
use Rattle.record_print.specs.declared.record.LogRecord.{LogRecord}
use Rattle.record_print.specs.Records.{can_write}
use Rattle.stream_config.specs.Attributes.{kind_of}
use Rattle.stream_config.specs.AttributeTests.{passes_attrs, have_one_place}
use Rattle.log_history.specs.Names.{is_application}
use Rattle.stream_config.specs.declared.attrs.FullAction.{FullAction}
use Rattle.stream_config.specs.declared.attrs.FullAction.TheVariants.{Halt}
use Rattle.stream_config.specs.Equality.{same_attrs}
use Rattle.stream_config.specs.Sizes.{has_room}
use Rattle.log_history.specs.Changes.{LogChange}
use Rattle.log_history.specs.Handles.{is_using, is_open}
use Rattle.log_history.specs.Marks.{is_filtered, mark_after}
use Rattle.log_history.specs.Chronicle.{LogSetup, Stream, lives, is_living, files_had, length_next, chronicle}
use Rattle.log_history.specs.Rounds.{last_of}
use Rattle.log_history.specs.Times.{record_at}

-- the status of the first row whose condition holds, and ok where none does
abbrev pub answer : List (Bool × Status) → Status
answer rows = unwrap_or (first_row rows) status.Ok

-- the rows of each call, by what holds of the client and the stream

abbrev pub begin_rows : (using : Bool) → List (Bool × Status)
begin_rows using = (using, status.NoResources) ∷ []

-- living are the attributes of the living stream of that name, if there is one; taken says that another living stream has the
-- same path and file, and crowded that 64 application streams live
abbrev pub open_rows : (using : Bool) (living : Option StreamAttrs) (taken crowded : Bool) → StreamName → (create : Option StreamAttrs) → List (Bool × Status)
open_rows using living taken crowded name None =
    (not using, status.BadHandle) ∷ (is_none living, status.NotExist) ∷ []
open_rows using living taken crowded name (Some attrs) =
    (not using, status.BadHandle)
    ∷ (not (is_application name), status.InvalidParam)
    ∷ (not (passes_attrs (kind_of name) attrs), status.InvalidParam)
    ∷ (option_map_or (same_attrs attrs) living false, status.Ok)
    ∷ (is_some living, status.Exist)
    ∷ (taken, status.Exist)
    ∷ (crowded, status.NoResources)
    ∷ []

abbrev pub write_rows : (using opened filtered full : Bool) → StreamKind → (flags : ℕ) (time : ℤ) → Header → List (Bool × Status)
write_rows using opened filtered full kind flags time header =
    (not using, status.BadHandle)
    ∷ (not opened, status.BadHandle)
    ∷ (nat_lt 1 flags, status.BadFlags)
    ∷ (not (can_write kind time header), status.InvalidParam)
    ∷ (filtered, status.Ok)
    ∷ (full, status.NoSpace)
    ∷ []

abbrev pub filter_rows : (using opened : Bool) → StreamName → (mask : ℕ) → List (Bool × Status)
filter_rows using opened name mask =
    (not using, status.BadHandle)
    ∷ (not opened, status.BadHandle)
    ∷ (is_notified (kind_of name) || nat_lt 127 mask, status.InvalidParam)
    ∷ []

abbrev pub close_rows : (using opened : Bool) → List (Bool × Status)
close_rows using opened = (not using, status.BadHandle) ∷ (not opened, status.BadHandle) ∷ []

abbrev pub end_rows : (using : Bool) → List (Bool × Status)
end_rows using = (not using, status.BadHandle) ∷ []

-- a notification's record, once all else of the notification is in order
abbrev pub store_rows : (full : Bool) → List (Bool × Status)
store_rows full = (full, status.NoSpace) ∷ []

abbrev pub is_halting : FullAction → Bool
is_halting Halt = true
is_halting _ = false

-- a record of so many bytes does not fit its HALT stream, whose file has so many
abbrev pub lacks_room : StreamAttrs → (bytes len : ℕ) → Bool
lacks_room attrs bytes len = is_halting attrs.action && not (has_room attrs bytes len)

-- what holds after changes

abbrev pub living_stream : LogSetup → List LogChange → StreamName → Option Stream
living_stream setup past name = find (is_living name) (chronicle setup past).streams

abbrev pub living_attrs : LogSetup → List LogChange → StreamName → Option StreamAttrs
living_attrs setup past name = option_map (λ (stream : Stream). stream.attrs) (living_stream setup past name)

abbrev pub is_place_taken : LogSetup → List LogChange → StreamAttrs → Bool
is_place_taken setup past attrs =
    list_any (λ (stream : Stream). lives stream && have_one_place stream.attrs attrs) (chronicle setup past).streams

abbrev pub is_crowded : LogSetup → List LogChange → Bool
is_crowded setup past =
    nat_le 64 (count_by (λ (stream : Stream). lives stream && is_application stream.name) (chronicle setup past).streams)

-- the record does not fit the stream of that name
abbrev pub is_full : LogSetup → List LogChange → StreamName → LogRecord → Bool
is_full setup past name rec =
    option_map_or (λ (stream : Stream). lacks_room stream.attrs (last_of (files_had stream)).bytes (length_next stream rec))
    (living_stream setup past name) false

-- the answers after changes

abbrev pub begin_answer : LogSetup → List LogChange → (client : ℕ) → Status
begin_answer setup past client = answer (begin_rows (is_using past client))

abbrev pub open_answer : LogSetup → List LogChange → (client : ℕ) → StreamName → (create : Option StreamAttrs) → Status
open_answer setup past client name create =
    answer (open_rows (is_using past client) (living_attrs setup past name)
    (option_map_or (is_place_taken setup past) create false) (is_crowded setup past) name create)

-- the record that would be written is that of this moment
abbrev pub write_answer : LogSetup → List LogChange → (client : ℕ) → StreamName → (flags : ℕ) (time : ℤ) → Header → (body : List ℕ) → (now : ℤ) → Status
write_answer setup past client name flags time header body now =
    answer (write_rows (is_using past client) (is_open past name client) (is_filtered (mark_after past name).mask header)
    (is_full setup past name (record_at time header body now))
    (kind_of name) flags time header)

abbrev pub filter_answer : LogSetup → List LogChange → (client : ℕ) → StreamName → (mask : ℕ) → Status
filter_answer setup past client name mask = answer (filter_rows (is_using past client) (is_open past name client) name mask)

abbrev pub close_answer : LogSetup → List LogChange → (client : ℕ) → StreamName → Status
close_answer setup past client name = answer (close_rows (is_using past client) (is_open past name client))

abbrev pub end_answer : LogSetup → List LogChange → (client : ℕ) → Status
end_answer setup past client = answer (end_rows (is_using past client))

abbrev pub store_answer : LogSetup → List LogChange → StreamName → LogRecord → Status
store_answer setup past name rec = answer (store_rows (is_full setup past name rec))

-- what an ok open makes: nothing where the stream lives
abbrev pub making_of : LogSetup → List LogChange → StreamName → (create : Option StreamAttrs) → Option StreamAttrs
making_of setup past name create = option_map_or (λ _. None) (living_stream setup past name) create
