use Rattle.std.proofs.Common.{[], ◌∷◌, ◌++◌, ap, ◌∙◌}
use Rattle.calls.specs.declared.saved.SavedSub.{SavedSub}
use Rattle.ntf_service.specs.Told.{told}
use Rattle.service_core.proofs.SavingLaws.{sub-as}
use Rattle.service_core.proofs.saving.push_sub.Goals as goal

pub returns : goal.returns
returns c =
    let sub = told c.args.sub.now in
    c.in_ok-push.ensures.ok
    ∙ ap (λ (s : SavedSub). c.args.subs.now ++ s ∷ []) (sub-as sub c.in_ok-filters.filters c.first.result c.in_ok-held.held c.in_ok-lost.lost c.in_ok-filters.ensures c.first.ensures c.in_ok-held.ensures (c.in_ok-lost.ensures ∙ c.lost.ensures))
