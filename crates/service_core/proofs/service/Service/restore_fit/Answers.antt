use Rattle.std.proofs.Common.{◌∙◌}
use Rattle.service_core.proofs.RestoringLaws.{restored-kept, restored-value}
use Rattle.service_core.proofs.service.Service.restore_fit.Goals as goal

pub service_of-requires : goal.service_of-requires
service_of-requires c =
    restored-kept c.args.saved c.in_ok-kept.kept c.requires c.in_ok-kept.ensures

pub returns : goal.returns
returns c =
    c.in_ok-service.ensures ∙ restored-value c.args.saved c.in_ok-kept.kept c.requires c.in_ok-kept.ensures
