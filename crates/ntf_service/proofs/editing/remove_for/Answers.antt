use Rattle.std.proofs.Common.{not, rules, ap, ◌∙◌}
use Rattle.std.proofs.lemmas.Fn.{filter_same}
use Rattle.ntf_service.specs.declared.subscription.Subscription.{Subscription}
use Rattle.ntf_history.specs.Tables.{is_kept_for}
use Rattle.ntf_service.specs.Told.{told, all_told}
use Rattle.ntf_service.proofs.Received.{filter-without}
use Rattle.ntf_service.proofs.Telling.{without-read}
use Rattle.ntf_service.proofs.editing.remove_for.Goals as goal

pub returns : goal.returns
returns c =
    let items = c.args.subs.now.items in
    ap all_told (filter_same _ (λ (kept : Subscription). not (is_kept_for c.args.client (told kept))) _ (λ x b f' k. search rules) _ _ c.retain.ensures.filtered ∙ filter-without (λ (kept : Subscription). is_kept_for c.args.client (told kept)) items)
    ∙ without-read told (is_kept_for c.args.client) items
