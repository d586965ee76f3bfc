use Rattle.std.proofs.Common.{List, ap, sym, ◌∙◌}
use Rattle.ntf_service.specs.declared.subscription.Subscription.{Subscription}
use Rattle.std.specs.Prelude.{option_map, slice_get}
use Rattle.std.proofs.lemmas.Option.{slice_get-map}
use Rattle.ntf_history.specs.Tables.{NtfTable}
use Rattle.ntf_service.specs.Told.{told}
use Rattle.ntf_service.proofs.Telling.{same_table}
use Rattle.ntf_service.proofs.state.NtfState.sub_at.Goals as goal

pub returns : goal.returns
returns c =
    ap (option_map told) (c.kept_at.ensures ∙ ap (λ (subs : List Subscription). slice_get subs c.args.place) c.as_slice.ensures.value) ∙ sym (slice_get-map told c.self.inside.subs.items c.args.place) ∙ ap (λ (t : NtfTable). slice_get t.subs c.args.place) (same_table c.self.view_is)
