-- Words of public clauses: how many bytes the records of a stream take.
use Rattle.std.specs.Prelude.{ℕ, ◌+◌, ◌==◌, if◌then◌else◌, List, [], ◌∷◌, length}
use Rattle.format_expr.specs.Reading.{pieces_of}
use Rattle.stream_config.specs.declared.attrs.StreamAttrs.{StreamAttrs}
use Rattle.record_print.specs.declared.record.LogRecord.{LogRecord}
use Rattle.record_print.specs.Printing.{printed_record}

-- a stored record has the size of the stream's records, or where that is 0 what its text needs; it has this number
abbrev pub record_length : StreamAttrs → (number : ℕ) → LogRecord → ℕ
record_length attrs number rec =
    if attrs.record_size == 0 then length (printed_record (pieces_of attrs.expr) number rec 0) else attrs.record_size

-- those of records, from this number on
abbrev pub lengths_from : StreamAttrs → (number : ℕ) → List LogRecord → List ℕ
lengths_from attrs number [] = []
lengths_from attrs number (rec ∷ recs) = record_length attrs number rec ∷ lengths_from attrs (number + 1) recs
