-- Words of public clauses: how a line of a script for three servers is written.
use Rattle.std.specs.Prelude.{ℕ, List, [], ◌∷◌, codes}
use Rattle.std.specs.Fmt.{decimal}
use Rattle.script_grammar.specs.Writing.{joined}
use Rattle.script_language.specs.Printing.{line_text}
use Rattle.trio_lines.specs.declared.line.TrioServer.{TrioServer}
use Rattle.trio_lines.specs.declared.line.TrioServer.TheVariants.{A, B, C}
use Rattle.trio_lines.specs.declared.line.TrioLine.{TrioLine}
use Rattle.trio_lines.specs.declared.line.TrioLine.TheVariants.{Plain, Crash, Arm, Restart, Mirror, Ack}

abbrev pub trio_server_text : TrioServer → List ℕ
trio_server_text A = codes "a"
trio_server_text B = codes "b"
trio_server_text C = codes "c"

-- a line without its LF: an own one has one spelling, each other one is written as in scripts for two servers
unfoldable pub trio_line_text : TrioLine → List ℕ
trio_line_text (Plain line) = line_text line
trio_line_text Crash = codes "crash c"
trio_line_text (Arm k) = joined (codes "arm c " ∷ decimal k ∷ [])
trio_line_text Restart = codes "restart c"
trio_line_text (Mirror server) = joined (codes "mirror " ∷ trio_server_text server ∷ [])
trio_line_text (Ack server) = joined (codes "ack " ∷ trio_server_text server ∷ [])
