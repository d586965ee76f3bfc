use Rattle.std.proofs.Common.{ap, ◌∙◌}
use Rattle.log_history.specs.KeptAnswers.{store_status}
use Rattle.plain_service.specs.Alarms.{accepted_as, record_for}
use Rattle.service_core.proofs.LogConditions.{number-left}
use Rattle.service_core.proofs.SendActs.{sent-parts}
use Rattle.service_core.proofs.sending.sent_status.Goals as goal

pub store_answer-requires : goal.store_answer-requires
store_answer-requires c = number-left c.args.log.now.table c.args.now _ c.requires.log

pub returns : goal.returns
returns c = λ id.
    let fits = c.ranges.now in
    let sent = c.args.notification.now in
    let rec = record_for c.args.now (accepted_as id c.args.now sent) in
    c.store_answer.ensures rec (sent-parts id c.args.now sent fits c.requires.log.moment.from c.read_event.ensures c.requires.sound)
    ∙ ap (λ stream. store_status c.args.log.now.table stream rec) c.kind_for-kind.ensures.stream
