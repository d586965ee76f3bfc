use Rattle.service_core.proofs.Standing.{some-first}
use Rattle.service_core.proofs.SendLaws.{taken-first}
use Rattle.service_core.proofs.sending.alarm_number.Goals as goal

pub returns : goal.returns
returns c = taken-first c.args.log.now.table.streams c.in-Some.state.now c.in-Some.ensures

pub unreachable-requires : goal.unreachable-requires
unreachable-requires c = some-first c.args.log.now.table.streams c.requires c.in-None.ensures
