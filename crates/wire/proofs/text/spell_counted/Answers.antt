use Rattle.std.proofs.Common.{arith}
use Rattle.std.proofs.lemmas.List.Elements.{All-from_get_or}
use Rattle.wire_code.specs.Spelling.{IsByte}
use Rattle.wire.proofs.text.spell_counted.Goals as goal

pub returns-clause-bytes : goal.returns-clause-bytes
returns-clause-bytes c = All-from_get_or IsByte c.args.bytes.now 0 (λ i _. omega (arith, c.type_inv.bytes i))
