use Rattle.std.proofs.Common.{List, ap, sym, subst, ◌∙◌}
use Rattle.ntf_history.specs.Kept.{Subscription}
use Rattle.ntf_history.specs.Tables.{table_with, IsSoundTable}
use Rattle.ntf_service.specs.Planning.{sent_by}
use Rattle.ntf_service.specs.ByKind.{IsByKind}
use Rattle.ntf_service.specs.Told.{all_told}
use Rattle.ntf_service.proofs.Offers.{filters-made}
use Rattle.ntf_service.proofs.Telling.{same_table, filters_in, kept-filters}
use Rattle.ntf_service.proofs.state.NtfState.commit_send.Goals as goal

pub invariant_of-self : goal.invariant_of-self
invariant_of-self c =
    let inside = c.self.inside in
    let plan = c.args.plan in
    let Sound : List Subscription → Type 0 = λ subs. IsSoundTable (table_with inside.capacity inside.users plan.id subs) in
    let filters = kept-filters c.make_offers-self-inside.new.subs.items inside.subs.items (ap filters_in c.make_offers-self-inside.ensures.told ∙ filters-made plan.offers.items (all_told inside.subs.items)) in
    record {
      table = subst Sound (sym c.make_offers-self-inside.ensures.told) (subst IsSoundTable (ap (sent_by plan) (sym (same_table c.self.view_is))) c.requires.can.sound);
      places = subst (IsByKind inside.by_kind) (sym filters) c.self.invariant.places;
      rooms = c.make_offers-self-inside.ensures.rooms;
    }
