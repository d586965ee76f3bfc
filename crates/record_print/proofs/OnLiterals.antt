-- What an answer unfolds to compute the printed line of a record that is written out.
use Rattle.std.specs.Prelude.{⊤}
use Rattle.civil_time.proofs.OnLiterals.{civil_on_literals}
use Rattle.format_expr.proofs.OnLiterals.{expressions_on_literals}
use Rattle.record_print.specs.Printing.{hex_digits, printed_record}

unfoldable pub records_on_literals : ⊤
unfolding civil_on_literals expressions_on_literals hex_digits printed_record
records_on_literals = tt
