use Rattle.std.proofs.Common.{◌≡◌, ◌+◌, arith}
use Rattle.std.proofs.lemmas.Bool.Decides.{nat_tests}
use Rattle.sub_queue.specs.Queue.{next_number}
use Rattle.ntf_service.proofs.searching.has_number_left.Goals as goal

pub returns : goal.returns
returns c =
    let queue = c.args.kept.now.queue.queue in
    let next : c.from.result + c.len-held.result ≡ next_number queue = omega (arith, c.len-held.ensures.held, c.from.ensures, c.first.ensures) in
    (λ below. grind (arith, nat_tests, next), λ left. grind (arith, nat_tests, next))
