use Rattle.std.proofs.Common.{◌∙◌}
use Rattle.ntf_service.proofs.Answered.{usable}
use Rattle.ntf_service.proofs.judging.is_usable.Goals as goal

pub returns-clause-tested : goal.returns-clause-tested
returns-clause-tested c = c.is_ok.ensures.value ∙ usable c.args.filters.now c.check_filters.result c.check_filters.ensures.accepted
