use Rattle.std.proofs.Common.{◌≡◌, map, ap, ◌∙◌, rules, to_z, of_z, w64}
use Rattle.std.proofs.lemmas.Result.{IfOk-at_ok}
use Rattle.service_table.specs.Tables.{saved_window}
use Rattle.service_core.specs.Inside.{kept_table}
use Rattle.service_core.proofs.SavingLaws.{saved-parts}
use Rattle.service_core.proofs.saving.saved.Goals as goal

pub returns : goal.returns
returns c =
    let windows = c.in_ok-windows.windows in
    let streams = c.in_ok-windows.streams in
    let alarms = c.in_ok-windows.alarms in
    let subs = c.in_ok-windows.subs in
    let readers = c.in_ok-windows.readers in
    let stamp_is : to_z w64 (of_z w64 c.last_stamp.result) ≡ c.last_stamp.result = search rules in
    let told = c.in_ok-windows.ensures.first in
    let front = IfOk-at_ok _ told c.both-told.ensures.first in
    let behind = IfOk-at_ok _ told c.both-told.ensures.second in
    let windows_made = IfOk-at_ok _ front c.both.ensures.first in
    let streams_made = IfOk-at_ok _ front c.both.ensures.second in
    let alarms_made = IfOk-at_ok _ behind c.both-2.ensures.first in
    let subs_made = IfOk-at_ok _ behind c.both-2.ensures.second in
    let windows_are = IfOk-at_ok _ windows_made c.windows_of-windows.ensures in
    let streams_are = IfOk-at_ok _ streams_made c.streams_of-streams.ensures in
    let alarms_are = IfOk-at_ok _ alarms_made c.alarms_of-alarms.ensures in
    let subs_are = IfOk-at_ok _ subs_made c.subs_of-subs.ensures in
    let readers_are = IfOk-at_ok _ c.in_ok-windows.ensures.second c.copied-readers.ensures in
    saved-parts (kept_table c.args.kept.now) _ _ _ _ _ windows streams alarms subs readers (stamp_is ∙ c.last_stamp.ensures) c.last_id.ensures c.requires
    (c.in_ok-log_users.ensures ∙ c.users.ensures) (c.in_ok-ntf_users.ensures ∙ c.users-2.ensures.users)
    (windows_are ∙ ap (map saved_window) c.as_slice.ensures.value) streams_are alarms_are subs_are (readers_are ∙ c.as_slice-2.ensures.value)
