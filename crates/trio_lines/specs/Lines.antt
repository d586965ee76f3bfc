-- Words of public clauses: the lines of a script for three servers, and how each is spelled.
use Rattle.std.specs.Prelude.{ℕ, Option, Some, None, List, [], ◌∷◌, codes}
use Rattle.script_lines.specs.declared.line.Line.{Line}
use Rattle.script_grammar.specs.Grammar.{Known, Part, OneOf}
use Rattle.script_language.specs.Lines.{Spells}
use Rattle.script_language.specs.Values.{IsCount}
use Rattle.trio_lines.specs.declared.line.TrioServer.{TrioServer}
use Rattle.trio_lines.specs.declared.line.TrioServer.TheVariants.{A, B, C}
use Rattle.trio_lines.specs.declared.line.TrioLine.{TrioLine}
use Rattle.trio_lines.specs.declared.line.TrioLine.TheVariants.{Plain, Crash, Arm, Restart, Mirror, Ack}

-- the line as scripts for two servers have it, too; an own line of three servers is none
abbrev pub shared_line : TrioLine → Option Line
shared_line (Plain line) = Some line
shared_line Crash = None
shared_line (Arm k) = None
shared_line Restart = None
shared_line (Mirror server) = None
shared_line (Ack server) = None

-- one of the three servers, by its letter
abbrev pub trio_server_forms : List (List ℕ × (TrioServer → List ℕ → Type 0))
trio_server_forms = (codes "a", Known A) ∷ (codes "b", Known B) ∷ (codes "c", Known C) ∷ []

unfoldable pub IsTrioServer : TrioServer → List ℕ → Type 0
IsTrioServer = OneOf trio_server_forms

-- arm c COUNT
unfoldable pub IsArmC : TrioLine → List ℕ → Type 0
IsArmC = Part IsCount (λ k. Known (Arm k))

-- mirror SERVER
unfoldable pub IsMirrorAt : TrioLine → List ℕ → Type 0
IsMirrorAt = Part IsTrioServer (λ server. Known (Mirror server))

-- ack SERVER
unfoldable pub IsAckAt : TrioLine → List ℕ → Type 0
IsAckAt = Part IsTrioServer (λ server. Known (Ack server))

abbrev pub own_forms : List (List ℕ × (TrioLine → List ℕ → Type 0))
own_forms =
    (codes "crash c", Known Crash)
    ∷ (codes "arm c ", IsArmC)
    ∷ (codes "restart c", Known Restart)
    ∷ (codes "mirror ", IsMirrorAt)
    ∷ (codes "ack ", IsAckAt)
    ∷ []

-- the bytes of a line that three servers alone have
unfoldable pub SpellsOwn : TrioLine → List ℕ → Type 0
SpellsOwn = OneOf own_forms

-- the bytes of one line: what two servers' scripts have is spelled as there
abbrev pub SpellsTrio : TrioLine → List ℕ → Type 0
SpellsTrio (Plain line) raw = Spells line raw
SpellsTrio own raw = SpellsOwn own raw
