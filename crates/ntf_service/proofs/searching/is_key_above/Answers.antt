use Rattle.std.proofs.Common.{◌≡◌, ◌<◌}
use Rattle.ntf_history.specs.Kept.{Subscription}
use Rattle.ntf_service.specs.Told.{told}
use Rattle.ntf_service.proofs.Telling.{each-read, read-each}
use Rattle.ntf_service.proofs.searching.is_key_above.Goals as goal

pub returns : goal.returns
returns c =
    let P : Subscription → Type 0 = λ sub. sub.client ≡ c.args.client → sub.key < c.args.key in
    let all = c.are_below.ensures in
    (λ above. each-read told P c.args.subs.now (all.0 above), λ above. all.1 (read-each told P c.args.subs.now above))
