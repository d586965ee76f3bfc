-- That lines are written as they are spelled.
use Rattle.std.proofs.Common.{ℕ, List, ◌++◌, refl}
use Rattle.std.specs.Prelude.{codes}
use Rattle.script_grammar.proofs.Writing.{Writes, WritesBehind, WritesForms, written, written_known, written_part, written_no_form, written_form, number_written}
use Rattle.script_language.proofs.LineWriting.{line_written}
use Rattle.trio_lines.specs.declared.line.TrioServer.TheVariants.{A, B, C}
use Rattle.trio_lines.specs.declared.line.TrioLine.{TrioLine}
use Rattle.trio_lines.specs.declared.line.TrioLine.TheVariants.{Plain, Crash, Arm, Restart, Mirror, Ack}
use Rattle.trio_lines.specs.Lines.{trio_server_forms, IsTrioServer, IsArmC, IsMirrorAt, IsAckAt, own_forms, SpellsOwn, SpellsTrio}
use Rattle.trio_lines.specs.Printing.{trio_server_text, trio_line_text}

server_writing : WritesForms (λ rest. rest) trio_server_forms trio_server_text
server_writing =
    written_form (codes "a") (written_known A refl) (
    written_form (codes "b") (written_known B refl) (
    written_form (codes "c") (written_known C refl) written_no_form))

server_written : Writes IsTrioServer trio_server_text
unfolding IsTrioServer
server_written = written server_writing.behind

arm_written : WritesBehind (λ rest. codes "arm c " ++ rest) IsArmC trio_line_text
unfolding IsArmC trio_line_text
arm_written =
    written_part number_written (λ k.
    written_known (Arm k) refl)

mirror_written : WritesBehind (λ rest. codes "mirror " ++ rest) IsMirrorAt trio_line_text
unfolding IsMirrorAt trio_line_text
mirror_written =
    written_part server_written (λ server.
    written_known (Mirror server) refl)

ack_written : WritesBehind (λ rest. codes "ack " ++ rest) IsAckAt trio_line_text
unfolding IsAckAt trio_line_text
ack_written =
    written_part server_written (λ server.
    written_known (Ack server) refl)

own_writing : WritesForms (λ rest. rest) own_forms trio_line_text
unfolding trio_line_text
own_writing =
    written_form (codes "crash c") (written_known Crash refl) (
    written_form (codes "arm c ") arm_written (
    written_form (codes "restart c") (written_known Restart refl) (
    written_form (codes "mirror ") mirror_written (
    written_form (codes "ack ") ack_written written_no_form))))

own_written : (line : TrioLine) (text : List ℕ) → SpellsOwn line text → SpellsOwn line (trio_line_text line)
unfolding SpellsOwn
own_written = (written own_writing.behind).again

-- a line that has a spelling is written by one
pub trio_line_written : (line : TrioLine) (text : List ℕ) → SpellsTrio line text → SpellsTrio line (trio_line_text line)
unfolding trio_line_text
trio_line_written (Plain line) text h = line_written line text h
trio_line_written own text h = own_written own text h
