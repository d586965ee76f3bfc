use Rattle.std.proofs.Common.{ap, ◌∙◌}
use Rattle.std.proofs.Math.Seq.{map-set_same}
use Rattle.std.proofs.lemmas.Result.{on_ok_weaker}
use Rattle.sub_queue.specs.Queue.{Queue}
use Rattle.ntf_history.specs.Tables.{requeued}
use Rattle.ntf_service.specs.Told.{told}
use Rattle.ntf_service.proofs.Lacking.{stay-set, room-set}
use Rattle.ntf_service.proofs.rooms.reserve_at.Goals as goal

pub returns-clause-told : goal.returns-clause-told
returns-clause-told c =
    let kept = c.index_mut-kept.result.now in
    map-set_same told c.args.subs.now.items c.args.place _ kept (ap (λ (q : Queue). requeued (told kept) q) c.reserve.ensures.queue ∙ ap told c.index_mut-kept.ensures.value)

pub returns-clause-beside : goal.returns-clause-beside
returns-clause-beside c = stay-set c.args.subs.now.items c.args.place _

pub returns-clause-room : goal.returns-clause-room
returns-clause-room c =
    on_ok_weaker c.reserve.result (λ room. room-set c.args.subs.now.items c.args.place _ room) c.reserve.ensures.ok
