use Rattle.trio_lines.proofs.Judging.{lines_clause, every_script_clause, fault_clause, every_fault_clause}
use Rattle.trio_lines.proofs.reading.parse_trio.Goals as goal

pub returns-clause-lines : goal.returns-clause-lines
returns-clause-lines c = lines_clause c.judge.result c.args.bytes.now c.judge.ensures

pub returns-clause-every_script : goal.returns-clause-every_script
returns-clause-every_script c = every_script_clause c.judge.result c.args.bytes.now c.judge.ensures

pub returns-clause-fault : goal.returns-clause-fault
returns-clause-fault c = fault_clause c.judge.result c.args.bytes.now c.judge.ensures

pub returns-clause-every_fault : goal.returns-clause-every_fault
returns-clause-every_fault c = every_fault_clause c.judge.result c.args.bytes.now c.judge.ensures
