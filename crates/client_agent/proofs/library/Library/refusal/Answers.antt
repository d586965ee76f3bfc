use Rattle.std.proofs.Common.{◌≡◌, true, false, [], ap, ◌∙◌}
use Rattle.cluster_facts.specs.Agents.{is_shut}
use Rattle.client_agent.specs.Seen.{Seen}
use Rattle.client_agent.specs.Inside.{agent_of}
use Rattle.client_agent.proofs.Known.{refuse, refusal-parts}
use Rattle.client_agent.proofs.Keeping.{is_shut-any}
use Rattle.client_agent.proofs.library.Library.refusal.Goals as goal

pub returns-then-is_shut : goal.returns-then-is_shut
returns-then-is_shut c =
    let seen = c.args.self.now in
    let inside = c.self.inside in
    let shut : true ≡ is_shut seen.next seen.kept = c.if-is_shut.ensures ∙ is_shut-any inside.next inside.kept.items ∙ ap (λ (s : Seen). is_shut s.next s.kept) c.self.view_is in
    (λ i. refuse (c.in-None.ensures i) (shut i)) ∙ refusal-parts c.args.ask.now (agent_of seen [])

pub returns-else-is_shut : goal.returns-else-is_shut
returns-else-is_shut c =
    let seen = c.args.self.now in
    let inside = c.self.inside in
    let open_window : false ≡ is_shut seen.next seen.kept = c.if-is_shut.ensures ∙ is_shut-any inside.next inside.kept.items ∙ ap (λ (s : Seen). is_shut s.next s.kept) c.self.view_is in
    (λ i. refuse (c.in-None.ensures i) (open_window i)) ∙ refusal-parts c.args.ask.now (agent_of seen [])
