-- Words of bodies alone: reading of the own lines of three servers on lists of bytes.
use Rattle.std.specs.Prelude.{ℕ, Option, List, [], ◌∷◌, codes}
use Rattle.script_grammar.specs.Reading.{known, part, one_of, whole}
use Rattle.script_language.specs.ValueReading.{count_at}
use Rattle.trio_lines.specs.declared.line.TrioServer.{TrioServer}
use Rattle.trio_lines.specs.declared.line.TrioServer.TheVariants.{A, B, C}
use Rattle.trio_lines.specs.declared.line.TrioLine.{TrioLine}
use Rattle.trio_lines.specs.declared.line.TrioLine.TheVariants.{Crash, Arm, Restart, Mirror, Ack}

abbrev pub trio_server_readers : List (List ℕ × (List ℕ → Option (TrioServer × List ℕ)))
trio_server_readers = (codes "a", known A) ∷ (codes "b", known B) ∷ (codes "c", known C) ∷ []

unfoldable pub trio_server_at : List ℕ → Option (TrioServer × List ℕ)
trio_server_at = one_of trio_server_readers

unfoldable pub arm_c_at : List ℕ → Option (TrioLine × List ℕ)
arm_c_at = part count_at (λ k. known (Arm k))

unfoldable pub mirror_at : List ℕ → Option (TrioLine × List ℕ)
mirror_at = part trio_server_at (λ server. known (Mirror server))

unfoldable pub ack_at : List ℕ → Option (TrioLine × List ℕ)
ack_at = part trio_server_at (λ server. known (Ack server))

abbrev pub own_readers : List (List ℕ × (List ℕ → Option (TrioLine × List ℕ)))
own_readers =
    (codes "crash c", known Crash)
    ∷ (codes "arm c ", arm_c_at)
    ∷ (codes "restart c", known Restart)
    ∷ (codes "mirror ", mirror_at)
    ∷ (codes "ack ", ack_at)
    ∷ []

-- an own line
unfoldable pub own_line_at : List ℕ → Option TrioLine
own_line_at = whole (one_of own_readers)
