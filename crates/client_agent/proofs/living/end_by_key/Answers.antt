use Rattle.std.proofs.Common.{◌==◌, not, ap, sym, ◌∙◌, rules}
use Rattle.std.proofs.lemmas.Fn.{filter_same}
use Rattle.cluster_facts.specs.Agents.{Living}
use Rattle.client_agent.specs.declared.living.Subscription.{Subscription}
use Rattle.client_agent.specs.Inside.{living_of, all_living}
use Rattle.client_agent.proofs.Keeping.{without-filter}
use Rattle.client_agent.proofs.living.end_by_key.Goals as goal

pub returns : goal.returns
returns c =
    let left = filter_same _ (λ (it : Subscription). not (it.key == c.args.key)) _ (λ x b q h. search rules) c.args.living.now.items c.retain.new.self.items c.retain.ensures.filtered in
    ap all_living left ∙ sym (without-filter living_of (λ (it : Living). it.key == c.args.key) c.args.living.now.items)
