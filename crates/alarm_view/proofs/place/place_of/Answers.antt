use Rattle.std.proofs.Common.{ap, ◌∙◌}
use Rattle.ntf_types.specs.declared.notification.Notification.{Notification}
use Rattle.alarm_view.specs.Alarms.{kept_alarm}
use Rattle.alarm_view.specs.Inside.{place_of}
use Rattle.alarm_view.proofs.place.place_of.Goals as goal

pub returns : goal.returns
returns c = c.place_at.ensures ∙ ap (λ (alarm : Notification). place_of (kept_alarm c.args.alarm.now.number alarm)) c.get.ensures
