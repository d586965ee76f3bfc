use Rattle.std.proofs.Common.{◌≡◌, ◌≢◌, ◌+◌, rules, ap, sym, ◌∙◌, subst}
use Rattle.std.proofs.lemmas.Int.{to_z-of_z}
use Rattle.std.specs.Int.{is_negative}
use Rattle.ais_values.specs.declared.status.Status.TheVariants as status
use Rattle.ntf_types.specs.declared.notification.Notification.{Notification}
use Rattle.plain_service.specs.Alarms.{accepted_as}
use Rattle.service_core.specs.Acting.{table_of}
use Rattle.service_core.specs.Sending.{sent_status, HasSent}
use Rattle.service_core.proofs.LogConditions.{first-now}
use Rattle.service_core.proofs.SendActs.{filled-event, refused-sent, sent-acted}
use Rattle.service_core.proofs.sending.ntf_send.Goals as goal

pub send_accepted-tried-requires-clause-id : goal.send_accepted-tried-requires-clause-id
send_accepted-tried-requires-clause-id c =
    ap (λ (n : Notification). n.id) (c.in_ok-sent.ensures ∙ c.in_ok-copy.ensures) ∙ ap (λ id. id + 1) c.last_id.ensures

pub send_accepted-tried-requires-clause-time : goal.send_accepted-tried-requires-clause-time
send_accepted-tried-requires-clause-time c =
    let fits = c.ranges.now in
    let made = simp to_z-of_z at c.in_ok-copy.ensures in
    let is = c.in_ok-sent.ensures ∙ made in
    ap (λ (n : Notification). is_negative n.event_time) is ∙ filled-event c.args.notification.now c.args.now c.requires.1.log.moment.from (sym c.is_right.ensures ∙ c.if-not-is_right.false)

pub returns-clause-ok : goal.returns-clause-ok
returns-clause-ok c =
    let fits = c.ranges.now in
    let parts = c.args.parts.now in
    let made = simp to_z-of_z at c.in_ok-copy.ensures in
    let is = c.in_ok-sent.ensures ∙ made in
    let accepted = is ∙ ap (λ id. accepted_as (id + 1) c.args.now c.args.notification.now) c.last_id.ensures in
    let done : HasSent (table_of parts) c.args.now c.in_ok-sent.sent (table_of c.send_accepted-tried.new.parts) c.in_ok-acted.acted = simp to_z-of_z at c.in_ok-acted.ensures.ok in
    let sent = subst (λ n. HasSent (table_of parts) c.args.now n (table_of c.send_accepted-tried.new.parts) c.in_ok-acted.acted) accepted done in
    λ seq. sent-acted (table_of parts) (table_of c.send_accepted-tried.new.parts) c.args.client seq c.args.now c.args.notification.now c.in_ok-acted.acted (first-now parts.log.table c.args.now c.requires.1.log) (sym c.is_user.ensures ∙ c.if-not-is_user.false) (sym c.is_right.ensures ∙ c.if-not-is_right.false) sent

pub send_accepted-tried-requires-clause-room : goal.send_accepted-tried-requires-clause-room
send_accepted-tried-requires-clause-room c =
    let fits = c.ranges.now in
    let log = c.args.parts.now.log.table in
    let made = simp to_z-of_z at c.in_ok-copy.ensures in
    let is = c.in_ok-sent.ensures ∙ made in
    let ok : c.sent_status-status.result ≡ status.Ok = search rules in
    simp to_z-of_z (ap (sent_status log c.args.now) is ∙ sym (simp to_z-of_z at (c.sent_status-status.ensures (c.last_id.result + 1))) ∙ ok)

pub returns-then-ne-clause-ok : goal.returns-then-ne-clause-ok
returns-then-ne-clause-ok c =
    let fits = c.ranges.now in
    let parts = c.args.parts.now in
    let refused : c.sent_status-status.result ≢ status.Ok = search rules in
    let sent = accepted_as (parts.ntf.table.last_id + 1) c.args.now c.args.notification.now in
    let answered = simp to_z-of_z at (c.sent_status-status.ensures (parts.ntf.table.last_id + 1)) in
    let done = refused-sent (table_of parts) c.args.now sent c.sent_status-status.result c.act_of-then-ne.result answered refused c.act_of-then-ne.ensures.told (c.act_of-then-ne.ensures.deeds ∙ c.new-then-ne.ensures) in
    λ seq. sent-acted (table_of parts) (table_of parts) c.args.client seq c.args.now c.args.notification.now c.act_of-then-ne.result (first-now parts.log.table c.args.now c.requires.1.log) (sym c.is_user.ensures ∙ c.if-not-is_user.false) (sym c.is_right.ensures ∙ c.if-not-is_right.false) done
