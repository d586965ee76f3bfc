use Rattle.std.proofs.Common.{ap, ◌∙◌}
use Rattle.cluster_facts.specs.Agents.{mark_of}
use Rattle.client_agent.specs.Marks.{Marks}
use Rattle.client_agent.proofs.Marking.{mark_found, mark_of-found}
use Rattle.client_agent.proofs.marks.SeenMarks.mark_of.Goals as goal

pub returns-in-Some : goal.returns-in-Some
returns-in-Some c =
    ap mark_found c.in-Some.ensures.value ∙ mark_of-found c.args.stream.now c.as_slice.result.now c.self.inside.marks.entries (c.as_slice.ensures.value ∙ c.in_ok-key.ensures) c.self.invariant ∙ ap (λ (marks : Marks). mark_of c.args.stream.now marks.told) c.self.view_is

pub returns : goal.returns
returns c =
    c.first.ensures ∙ ap mark_found c.in-None.ensures.value ∙ mark_of-found c.args.stream.now c.as_slice.result.now c.self.inside.marks.entries (c.as_slice.ensures.value ∙ c.in_ok-key.ensures) c.self.invariant ∙ ap (λ (marks : Marks). mark_of c.args.stream.now marks.told) c.self.view_is
