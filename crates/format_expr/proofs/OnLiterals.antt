-- What an answer unfolds to compute the pieces of a text that is written out.
use Rattle.std.specs.Prelude.{⊤}
use Rattle.std.specs.Fmt.{digits}
use Rattle.format_expr.specs.Reading.{pieces_from, pieces_of}
use Rattle.format_expr.specs.Tokens.{shown_parts, part_with}

unfoldable pub expressions_on_literals : ⊤
unfolding digits pieces_from pieces_of part_with shown_parts
expressions_on_literals = tt
