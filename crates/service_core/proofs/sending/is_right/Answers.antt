use Rattle.std.proofs.Common.{◌∙◌}
use Rattle.service_core.proofs.SendLaws.{right}
use Rattle.service_core.proofs.sending.is_right.Goals as goal

pub returns : goal.returns
returns c = c.is_ok.ensures.value ∙ right c.args.notification.now c.check_notification.result c.check_notification.ensures.accepted
