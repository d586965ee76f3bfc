use Rattle.format_expr.specs.Tokens.{shown_parts, part_with}
use Rattle.format_expr.proofs.token.part_of.Goals as goal

pub returns : goal.returns
unfolding part_with shown_parts
returns c = c.first_part.ensures
