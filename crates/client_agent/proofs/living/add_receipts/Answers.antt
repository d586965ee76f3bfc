use Rattle.std.proofs.Common.{◌≡◌, ◌+◌, ◌-◌, ◌<◌, ◌++◌, length, take, ap, ◌∙◌, arith}
use Rattle.cluster_facts.specs.Agents.{greatest_receipts}
use Rattle.client_agent.specs.Inside.{all_living}
use Rattle.client_agent.proofs.Subscribed.{receipts_on}
use Rattle.client_agent.proofs.living.add_receipts.Goals as goal

pub loop-left-preserved : goal.loop-left-preserved
loop-left-preserved c =
    let so_far = c.loop-left.invariant in
    let bound = so_far.1 in
    let living = c.args.living.now.items in
    let up : c.loop-left.left - 1 + 1 ≡ c.loop-left.left = omega (arith, c.loop-left-test.true) in
    let within : c.loop-left.left - 1 < length living = omega (arith, c.loop-left-test.true) in
    let before = c.loop-left.messages.items in
    (receipts_on c.args.client (c.loop-left.left - 1) living c.index.result.now before c.add_receipt.new.messages.items within c.index.ensures c.in_ok-add_receipt.ensures ∙ ap (λ n. before ++ greatest_receipts c.args.client (all_living (take n living))) up ∙ so_far.0, omega arith)
