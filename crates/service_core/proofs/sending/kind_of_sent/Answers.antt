use Rattle.std.proofs.Common.{ap, ◌∙◌}
use Rattle.ntf_types.specs.declared.notification.Notification.{Notification}
use Rattle.plain_service.specs.Alarms.{stream_for}
use Rattle.service_core.proofs.sending.kind_of_sent.Goals as goal

pub returns-clause-stream : goal.returns-clause-stream
returns-clause-stream c = c.kind_for.ensures.stream ∙ ap (λ (one : Notification). stream_for one.body) c.get.ensures
