-- Words of public clauses, those of the laws: what the mark of a cut says of the text in which it stands.
use Rattle.std.specs.Prelude.{◌≡◌, ◌↔◌, ◌<◌, ◌≤◌, ℕ, Bool, List, length}
use Rattle.format_expr.specs.declared.token.Moment.{Moment}
use Rattle.format_expr.specs.declared.piece.Piece.{Piece}
use Rattle.record_print.specs.declared.record.LogRecord.{LogRecord}
use Rattle.record_print.specs.Printing.{pieces_text, places_of, cut_mark}

-- the mark is `T` exactly where the text with this mark has more bytes than there are before the line feed
abbrev pub TellsCut : (half : Moment → Bool) (number : ℕ) → LogRecord → List Piece → (size : ℕ) → Type 0
TellsCut half number rec pieces size =
    let mark = cut_mark (λ mark. pieces_text half number mark rec pieces) size in
    (mark ≡ 84) ↔ (places_of size < length (pieces_text half number mark rec pieces))

-- and `C` exactly where all its bytes have a place there
abbrev pub TellsWhole : (half : Moment → Bool) (number : ℕ) → LogRecord → List Piece → (size : ℕ) → Type 0
TellsWhole half number rec pieces size =
    let mark = cut_mark (λ mark. pieces_text half number mark rec pieces) size in
    (mark ≡ 67) ↔ (length (pieces_text half number mark rec pieces) ≤ places_of size)
