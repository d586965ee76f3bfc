use Rattle.std.proofs.Common.{ap, ◌∙◌}
use Rattle.ntf_types.specs.declared.notification.Notification.{Notification}
use Rattle.ntf_history.specs.StoredAlarms.{is_alarm}
use Rattle.service_core.proofs.sending.is_kept.Goals as goal

pub returns : goal.returns
returns c = c.is_alarm.ensures.tested ∙ ap (λ (one : Notification). is_alarm one.body) c.get.ensures
