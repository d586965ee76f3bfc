-- Words of bodies alone: the text of a piece of a line, and the line that a byte of a file ends.
use Rattle.std.specs.Prelude.{ℕ, zero, suc, ◌==◌, Bool, false, List, [], ◌∷◌, slice_index, codes, if◌then◌else◌}
use Rattle.std.specs.Fmt.{decimal, signed_decimal}
use Rattle.std.specs.List.{join_by}
use Rattle.ais_values.specs.Statuses.{status_word}
use Rattle.script_language.specs.Printing.{server_text, stream_text, shown_note_text, line_text}
use Rattle.cluster_events.specs.Lines.{listed_roles}
use Rattle.event_text.specs.Texts.{why_text, role_text, roles_text, hand_text, trimmed, text_line}
use Rattle.event_text.specs.declared.pieces.Piece.{Piece}
use Rattle.event_text.specs.declared.pieces.Piece.TheVariants.{Word, Number, Signed, Answer, Note, Stream, Script, Ids, Reason, Role, Roles, Hand, Node}

abbrev pub piece_text : Piece → List ℕ
piece_text (Word word) = word.now
piece_text (Number number) = decimal number
piece_text (Signed number) = signed_decimal number
piece_text (Answer status) = status_word status
piece_text (Stream name) = stream_text name.now
piece_text (Note notification) = shown_note_text notification.now
piece_text (Script line) = line_text line.now
piece_text (Ids ids) = join_by decimal (codes ",") ids.now
piece_text (Reason why) = why_text why
piece_text (Role role) = role_text role
piece_text (Roles roles) = roles_text (listed_roles roles)
piece_text (Hand number) = hand_text number
piece_text (Node server) = server_text server

-- whether the front of a line up to an end has a blank as its last byte
abbrev pub ends_blank : List ℕ → ℕ → Bool
ends_blank line zero = false
ends_blank line (suc last) = slice_index line last == 32

-- the line that a byte of a file ends, behind the front of that line
abbrev pub ended_lines : List ℕ → ℕ → List (List ℕ)
ended_lines front byte = if byte == 10 then text_line (trimmed front) ∷ [] else []
