use Rattle.std.proofs.Common.{ap, sym, ◌∙◌}
use Rattle.message_net.specs.Nets as bytes
use Rattle.cluster_clients.proofs.PostAllSteps.{number-found, number-none}
use Rattle.cluster_clients.proofs.posting.number_in.Goals as goal

pub returns-in-Some : goal.returns-in-Some
returns-in-Some c =
    number-found c.law_of_spellings.ensures c.args.message.now c.in_ok-bytes.bytes.items c.args.net.now c.in-Some.place c.in_ok-bytes.ensures (ap (λ b. bytes.place_of b c.args.net.now) (sym c.as_slice.ensures.value) ∙ sym c.in-Some.ensures)

pub returns : goal.returns
returns c =
    number-none c.law_of_spellings.ensures c.args.message.now c.in_ok-bytes.bytes.items c.args.net.now c.in_ok-bytes.ensures (ap (λ b. bytes.place_of b c.args.net.now) (sym c.as_slice.ensures.value) ∙ sym c.in-None.ensures)
