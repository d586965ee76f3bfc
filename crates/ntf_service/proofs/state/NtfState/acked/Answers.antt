use Rattle.std.proofs.Common.{ap, subst, sym, ◌∙◌}
use Rattle.ntf_history.specs.Tables.{NtfTable}
use Rattle.ntf_service.specs.State.{HaveNumbersLeft}
use Rattle.ntf_service.specs.Inside.{table_inside}
use Rattle.ntf_service.specs.ByKind.{IsByKind}
use Rattle.ntf_service.proofs.Telling.{same_table, filters_in, kept-filters}
use Rattle.ntf_service.proofs.Kept.{sound-with, kept-received, kept-table}
use Rattle.ntf_service.proofs.Received.{filters-received}
use Rattle.ntf_service.proofs.state.NtfState.acked.Goals as goal

pub invariant_of-self : goal.invariant_of-self
invariant_of-self c =
    let table = table_inside c.self.inside in
    let P : NtfTable → Type 0 = λ t. HaveNumbersLeft t.subs in
    let left : HaveNumbersLeft table.subs = subst P (sym (same_table c.self.view_is)) c.requires.numbers in
    let filters = kept-filters c.receive.new.subs.items c.self.inside.subs.items (ap filters_in c.receive.ensures.told ∙ filters-received c.args.client c.args.key c.args.through table.subs) in
    record {
      table = sound-with table _ _ _ c.self.invariant.table (kept-received table.capacity c.args.client c.args.key c.args.through table.subs (kept-table table c.self.invariant.table) left) c.receive.ensures.told;
      places = subst (IsByKind c.self.inside.by_kind) (sym filters) c.self.invariant.places;
      rooms = c.receive.ensures.rooms c.self.invariant.rooms;
    }
