use Rattle.std.proofs.Common.{subst}
use Rattle.std.specs.Prelude.{◌↔◌, IsTrue}
use Rattle.ntf_types.specs.declared.notification.Notification.{Notification}
use Rattle.saved_fit.specs.Alarms.{IsSoundAlarm}
use Rattle.saved_fit.proofs.alarms.has_sound_alarm.Goals as goal

pub returns : goal.returns
returns c = subst (λ (notification : Notification). IsTrue c.is_sound_alarm.result ↔ IsSoundAlarm c.args.last_id notification) c.get.ensures c.is_sound_alarm.ensures
