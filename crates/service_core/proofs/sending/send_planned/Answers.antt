use Rattle.std.proofs.Common.{◌≡◌, true, sym, subst}
use Rattle.alarm_view.specs.Alarms.{CanAdd}
use Rattle.log_history.specs.Table.{LogTable}
use Rattle.ntf_history.specs.StoredAlarms.{is_alarm}
use Rattle.service_fit.specs.Fit.{IsAlarmFirst}
use Rattle.service_core.proofs.sending.send_planned.Goals as goal

pub offer_and_keep-requires-clause-add : goal.offer_and_keep-requires-clause-add
offer_and_keep-requires-clause-add c =
    subst (λ n. is_alarm c.args.sent.now.body ≡ true → CanAdd n c.args.sent.now c.args.parts.now.alarms.kept) (sym c.alarm_number-number.ensures) c.requires.add

pub keep_standing-requires : goal.keep_standing-requires
keep_standing-requires c =
    subst (λ (l : LogTable). IsAlarmFirst l.streams) (sym c.commit.ensures) c.requires.stands
