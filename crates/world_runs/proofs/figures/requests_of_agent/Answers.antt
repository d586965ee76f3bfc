use Rattle.std.proofs.Common.{◌∙◌, ap}
use Rattle.world_runs.specs.Figures.{requests_in}
use Rattle.world_runs.proofs.figures.requests_of_agent.Goals as goal

pub returns : goal.returns
returns c client places shown is =
    c.count_requests-count.ensures ∙ ap requests_in (c.as_slice.ensures ∙ c.in_ok-messages.ensures client places shown is)
