use Rattle.std.proofs.Common.{ℕ, ◌==◌, not, ap, sym, ◌∙◌, rules}
use Rattle.std.proofs.lemmas.Fn.{filter_same}
use Rattle.cluster_facts.specs.Types.{Call}
use Rattle.client_agent.specs.declared.kept.Kept.{Kept}
use Rattle.client_agent.specs.Inside.{call_kept, calls_kept}
use Rattle.client_agent.proofs.Keeping.{without-filter}
use Rattle.client_agent.proofs.kept.forget_call.Goals as goal

pub returns : goal.returns
returns c =
    let left = filter_same _ (λ (sent : Kept). not (sent.number == c.args.number)) _ (λ x b q h. search rules) c.args.kept.now.items c.retain.new.self.items c.retain.ensures.filtered in
    ap calls_kept left ∙ sym (without-filter call_kept (λ (sent : ℕ × Call). sent.0 == c.args.number) c.args.kept.now.items)
