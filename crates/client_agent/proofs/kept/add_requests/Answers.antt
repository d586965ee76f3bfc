use Rattle.std.proofs.Common.{◌≡◌, ◌+◌, ◌-◌, ◌<◌, ◌++◌, length, take, ap, ◌∙◌, arith}
use Rattle.cluster_facts.specs.Agents.{requests_of}
use Rattle.client_agent.specs.Inside.{calls_kept}
use Rattle.client_agent.proofs.Keeping.{requests_on}
use Rattle.client_agent.proofs.kept.add_requests.Goals as goal

pub loop-left-preserved : goal.loop-left-preserved
loop-left-preserved c =
    let so_far = c.loop-left.invariant in
    let bound = so_far.1 in
    let kept = c.args.kept.now.items in
    let up : c.loop-left.left - 1 + 1 ≡ c.loop-left.left = omega (arith, c.loop-left-test.true) in
    let within : c.loop-left.left - 1 < length kept = omega (arith, c.loop-left-test.true) in
    let before = c.loop-left.messages.items in
    (requests_on c.args.client (c.loop-left.left - 1) kept c.index-sent.result.now c.in_ok-call.call before c.push.new.self.items within c.index-sent.ensures c.in_ok-call.ensures c.in_ok-push.ensures.items ∙ ap (λ n. before ++ requests_of c.args.client (calls_kept (take n kept))) up ∙ so_far.0, omega arith)
