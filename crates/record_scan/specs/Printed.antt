-- Words of public clauses: the texts of tokens in a printed record that is not cut.
use Rattle.std.specs.Prelude.{◌≡◌, ℕ, ◌<◌, ◌≤◌, ◌^◌, List, length, map, Bool, not, Some, IsTrue}
use Rattle.ais_values.specs.declared.kind.StreamKind.{StreamKind}
use Rattle.format_expr.specs.declared.token.Moment.{Moment}
use Rattle.format_expr.specs.declared.token.Token.{Token}
use Rattle.format_expr.specs.declared.piece.Piece.{Piece}
use Rattle.format_expr.specs.declared.piece.Piece.TheVariants.{Field}
use Rattle.format_expr.specs.Language.{is_notified}
use Rattle.record_print.specs.declared.record.Header.{Header}
use Rattle.record_print.specs.declared.record.Header.TheVariants.{Ntf, Generic}
use Rattle.record_print.specs.declared.record.LogRecord.{LogRecord}
use Rattle.record_print.specs.Printing.{piece_text, pieces_text, has_half, places_of, time_of, can_print, printed_record}
use Rattle.record_scan.specs.Fits.{tokens_of}

-- the header is that of the kind's records
abbrev pub is_of_kind : StreamKind → Header → Bool
is_of_kind kind (Ntf id event_type object notifier class time) = is_notified kind
is_of_kind kind (Generic class user severity) = not (is_notified kind)

-- the text of each token, where the record is not cut
abbrev pub token_texts : List Piece → (number : ℕ) → LogRecord → List (List ℕ)
token_texts pieces number rec = map (λ (token : Token). piece_text (has_half pieces) number 67 rec (Field token)) (tokens_of pieces)

-- the bytes are a printed record of the kind, with this number, and its text is not cut
pub record IsPrintedWhole (kind : StreamKind) (pieces : List Piece) (size number : ℕ) (rec : LogRecord) (bytes : List ℕ) : Type 0 where
  pub counted : number < 2 ^ 32
  pub timed : (moment : Moment) (time : ℕ) → time_of moment rec ≡ Some time → time < 2 ^ 63
  pub printable : IsTrue (can_print rec)
  pub suited : IsTrue (is_of_kind kind rec.header)
  pub short : length (pieces_text (has_half pieces) number 67 rec pieces) ≤ places_of size
  pub printed : bytes ≡ printed_record pieces number rec size
