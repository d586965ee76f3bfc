-- The definitions at expressions that are written out.
use Rattle.std.proofs.Common.{◌≡◌, ◌∷◌, [], true, Some, None, codes, refl}
use Rattle.ais_values.specs.declared.kind.StreamKind.TheVariants.{Alarm}
use Rattle.format_expr.specs.declared.token.Moment.TheVariants.{Record}
use Rattle.format_expr.specs.declared.token.TimePart.TheVariants.{Hour, HalfDay}
use Rattle.format_expr.specs.declared.token.Part.TheVariants.{Number, Time, Body}
use Rattle.format_expr.specs.declared.piece.Piece.TheVariants.{Plain, Field}
use Rattle.format_expr.specs.Language.{are_pieces, spelling}
use Rattle.format_expr.specs.Reading.{pieces_of}
use Rattle.format_expr.proofs.OnLiterals.{expressions_on_literals}

three_pieces : pieces_of (codes "@Cr @Cb") ≡ Field (record { part = Number; width = None }) ∷ Plain (codes " ") ∷ Field (record { part = Body; width = None }) ∷ []
unfolding expressions_on_literals
three_pieces = refl

-- a width is read greedily, up to its third digit
greedy_width : pieces_of (codes "@Cr1000") ≡ Field (record { part = Number; width = Some 100 }) ∷ Plain (codes "0") ∷ []
unfolding expressions_on_literals
greedy_width = refl

half_day : pieces_of (codes "@Ch@Ca") ≡ Field (record { part = Time Record Hour; width = None }) ∷ Field (record { part = Time Record HalfDay; width = None }) ∷ []
unfolding expressions_on_literals
half_day = refl

-- the well-known streams' expressions
alarm_expression : are_pieces Alarm (pieces_of (codes "@Cr @Ct @Nt @Ne6 @No30 @Ng30 \"@Cb\"")) ≡ true
unfolding expressions_on_literals
alarm_expression = refl

system_expression : spelling (pieces_of (codes "@Cr @Ch:@Cn:@Cs @Cm/@Cd/@CY @Sv @Sl \"@Cb\"")) ≡ codes "@Cr @Ch:@Cn:@Cs @Cm/@Cd/@CY @Sv @Sl \"@Cb\""
unfolding expressions_on_literals
system_expression = refl
