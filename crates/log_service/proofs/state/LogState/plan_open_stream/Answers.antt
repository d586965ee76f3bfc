use Rattle.std.proofs.Common.{◌≡◌, false, sym, subst, ap, ◌∙◌, rules}
use Rattle.std.specs.Prelude.{Some}
use Rattle.std.specs.Option.{option_copied}
use Rattle.std.proofs.lemmas.Int.{to_z-of_z}
use Rattle.ais_values.specs.declared.status.Status.{Status}
use Rattle.ais_values.specs.declared.status.Status.TheVariants as status
use Rattle.log_history.specs.KeptAnswers.{open_status}
use Rattle.log_history.specs.Table.{LogTable}
use Rattle.log_service.specs.Opening.{opening_in, mark_in}
use Rattle.log_service.specs.Calls.{PlansOpening}
use Rattle.log_service.specs.Planning.{Plans}
use Rattle.log_service.proofs.state.LogState.plan_open_stream.Goals as goal

pub accepted_open-requires-clause-ok : goal.accepted_open-requires-clause-ok
accepted_open-requires-clause-ok c =
    let ok : c.open_status-status.result ≡ status.Ok = search rules in
    ap (λ (kept : LogTable). open_status kept c.args.client c.args.name.now (option_copied c.args.create)) c.make_room.ensures.table ∙ sym c.open_status-status.ensures ∙ ok

pub returns-then-ne-clause-ok : goal.returns-then-ne-clause-ok
returns-then-ne-clause-ok c =
    let table = c.args.self.now.table in
    let create = option_copied c.args.create in
    let mark = mark_in table.streams c.args.name.now create c.args.number in
    let change = opening_in table.streams c.args.client c.args.name.now create c.args.now c.args.number in
    subst (λ (answer : Status). Plans table answer false (Some mark) change c.refusal.result) c.open_status-status.ensures (c.refusal.ensures.plan false (Some mark) change)

pub returns-clause-ok : goal.returns-clause-ok
returns-clause-ok c =
    let now_fits = c.ranges.now in
    let create = option_copied c.args.create in
    subst (λ (kept : LogTable). PlansOpening kept c.args.client c.args.name.now create c.args.now c.args.number c.in_ok-plan.plan) c.make_room.ensures.table (simp to_z-of_z at c.in_ok-plan.ensures.ok)
