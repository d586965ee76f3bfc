use Rattle.std.proofs.Common.{◌≡◌, rules, List, map, ap, sym, ◌∙◌, subst, to_z, of_z, w64}
use Rattle.std.proofs.lemmas.Result.{IfOk-at_ok}
use Rattle.std.specs.List.{AllByRecursion}
use Rattle.calls.specs.declared.saved.SavedReader.{SavedReader}
use Rattle.plain_service.specs.Fitness.{IsFitWindow}
use Rattle.service_fit.proofs.RestoredEach.{alarm-fit}
use Rattle.service_table.specs.Tables.{kept_alarm_of, kept_window}
use Rattle.service_core.proofs.RestoringLaws.{log-of, log-sound, ntf-of, ntf-sound, parts-are}
use Rattle.service_core.proofs.restoring.restored.Goals as goal

pub restored_log-log-requires-clause-sound : goal.restored_log-log-requires-clause-sound
restored_log-log-requires-clause-sound c =
    let saved = c.args.saved in
    let lists = c.into_lists-log_users in
    let last_is : to_z w64 (of_z w64 saved.last_stamp) ≡ saved.last_stamp = search rules in
    log-sound saved (to_z w64 (of_z w64 saved.last_stamp)) lists.result.log_users lists.result.streams last_is lists.ensures.log_users lists.ensures.streams c.requires

pub restored_ntf-ntf-requires : goal.restored_ntf-ntf-requires
restored_ntf-ntf-requires c =
    let lists = c.into_lists-log_users in
    ntf-sound c.args.saved lists.result.ntf_users lists.result.subs lists.ensures.ntf_users lists.ensures.subs c.requires

pub restored_alarms-alarms-requires : goal.restored_alarms-alarms-requires
restored_alarms-alarms-requires c =
    λ front alarm rest parts.
    alarm-fit c.args.saved c.requires front alarm rest (sym c.into_lists-log_users.ensures.alarms ∙ parts)

pub restored_windows-callers-requires : goal.restored_windows-callers-requires
restored_windows-callers-requires c =
    let number = c.args.saved.number in
    (number, subst (AllByRecursion (IsFitWindow number)) (sym c.into_lists-log_users.ensures.windows) c.requires.windows.each)

pub returns : goal.returns
returns c =
    let saved = c.args.saved in
    let lists = c.into_lists-log_users in
    let log = c.in_ok-log.log in
    let ntf = c.in_ok-log.ntf in
    let alarms = c.in_ok-log.alarms in
    let readers = c.in_ok-log.readers in
    let callers = c.in_ok-log.callers in
    let last_is : to_z w64 (of_z w64 saved.last_stamp) ≡ saved.last_stamp = search rules in
    let services_made = c.in_ok-log.ensures.first in
    let others_made = c.in_ok-log.ensures.second in
    let log_made = IfOk-at_ok _ services_made c.both-services.ensures.first in
    let ntf_made = IfOk-at_ok _ services_made c.both-services.ensures.second in
    let others = IfOk-at_ok _ others_made c.both-others.ensures.first in
    let callers_made = IfOk-at_ok _ others_made c.both-others.ensures.second in
    let alarms_made = IfOk-at_ok _ others c.both.ensures.first in
    let readers_made = IfOk-at_ok _ others c.both.ensures.second in
    let log_is = IfOk-at_ok _ log_made c.restored_log-log.ensures in
    let ntf_is = IfOk-at_ok _ ntf_made c.restored_ntf-ntf.ensures in
    let alarms_are = IfOk-at_ok _ alarms_made c.restored_alarms-alarms.ensures in
    let callers_are = IfOk-at_ok _ callers_made c.restored_windows-callers.ensures in
    let readers_are : readers ≡ lists.result.readers = cc in
    parts-are saved log.table ntf.table alarms.kept c.into_vec.result.items callers.items
    (log_is ∙ log-of saved (to_z w64 (of_z w64 saved.last_stamp)) lists.result.log_users lists.result.streams last_is lists.ensures.log_users lists.ensures.streams)
    (ntf_is ∙ ntf-of saved lists.result.ntf_users lists.result.subs lists.ensures.ntf_users lists.ensures.subs)
    (alarms_are ∙ ap (map kept_alarm_of) lists.ensures.alarms) (c.into_vec.ensures ∙ readers_are ∙ lists.ensures.readers) (callers_are ∙ ap (map kept_window) lists.ensures.windows)
