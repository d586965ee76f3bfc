use Rattle.std.proofs.Common.{arith}
use Rattle.std.proofs.lemmas.List.Elements.{All-from_get_or}
use Rattle.wire_code.specs.Spelling.{IsByte}
use Rattle.wire.proofs.Verdicts.{message_of, every_message_of, fault_of, every_fault_of}
use Rattle.wire.proofs.code.decode.Goals as goal

pub returns-clause-message : goal.returns-clause-message
returns-clause-message c = message_of c.args.bytes.now (All-from_get_or IsByte c.args.bytes.now 0 (λ i _. omega (arith, c.type_inv.bytes i))) c.judge.result c.judge.ensures

pub returns-clause-every_message : goal.returns-clause-every_message
returns-clause-every_message c = every_message_of c.args.bytes.now c.judge.result c.judge.ensures

pub returns-clause-fault : goal.returns-clause-fault
returns-clause-fault c = fault_of c.args.bytes.now (All-from_get_or IsByte c.args.bytes.now 0 (λ i _. omega (arith, c.type_inv.bytes i))) c.judge.result c.judge.ensures

pub returns-clause-every_fault : goal.returns-clause-every_fault
returns-clause-every_fault c = every_fault_of c.args.bytes.now (All-from_get_or IsByte c.args.bytes.now 0 (λ i _. omega (arith, c.type_inv.bytes i))) c.judge.result c.judge.ensures
