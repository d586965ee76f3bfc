use Rattle.std.proofs.Common.{ℕ, ◌+◌, refl, ap, ◌∙◌, arith}
use Rattle.played_runs.proofs.PassingSteps.{take-all}
use Rattle.world_runs.specs.Figures.{requests_in}
use Rattle.world_runs.proofs.FigureLaws.{byte-low, requests-next}
use Rattle.world_runs.proofs.figures.count_requests.Goals as goal

pub loop-message-init : goal.loop-message-init
loop-message-init c = record { low = omega arith; counted = refl }

pub loop-message-preserved : goal.loop-message-preserved
loop-message-preserved c =
    let place = c.loop-message.message-index in
    let count = c.loop-message.count in
    let low = byte-low c.is_request.result in
    let next = requests-next c.args.messages.now place count c.message-item.result c.is_request.result c.loop-message-test.true c.message-item.is c.is_request.ensures c.loop-message.invariant.counted in
    record {
      low = omega (arith, c.loop-message.invariant.low, c.from-count.ensures, low);
      counted = ap (λ (more : ℕ). count + more) c.from-count.ensures ∙ next;
    }

pub returns : goal.returns
returns c =
    c.loop-message.invariant.counted ∙ ap requests_in (take-all c.args.messages.now c.loop-message.message-index (omega arith))
