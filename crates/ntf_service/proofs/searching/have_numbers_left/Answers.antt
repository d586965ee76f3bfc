use Rattle.sub_queue.specs.Queue.{HasNumberLeft}
use Rattle.ntf_history.specs.Kept.{Subscription}
use Rattle.ntf_service.specs.Told.{told}
use Rattle.ntf_service.proofs.Telling.{each-read, read-each}
use Rattle.ntf_service.proofs.searching.have_numbers_left.Goals as goal

pub returns : goal.returns
returns c =
    let P : Subscription → Type 0 = λ sub. HasNumberLeft sub.queue in
    let all = c.has_each_number_left.ensures in
    (λ left. each-read told P c.args.subs.now (all.0 left), λ left. all.1 (read-each told P c.args.subs.now left))
