use Rattle.std.proofs.Common.{sym, ◌∙◌}
use Rattle.std.proofs.lemmas.Int.{to_z-of_z}
use Rattle.log_history.specs.Table.{is_named}
use Rattle.log_service.proofs.PlaceLemmas.{first-is, nowhere-is}
use Rattle.log_service.proofs.StreamPlans.{marks-nowhere, marks-at}
use Rattle.log_service.proofs.streams.marking_plan.Goals as goal

pub returns-in_default : goal.returns-in_default
returns-in_default c =
    let last_fits = c.ranges.last in
    marks-nowhere c.args.last c.args.name.now c.args.mark c.args.streams.now c.new.result c.accepted.result c.new.ensures (nowhere-is (is_named c.args.name.now) c.args.streams.now (sym c.place_of.ensures ∙ c.in_default.is)) (simp to_z-of_z at c.accepted.ensures)

pub returns : goal.returns
returns c =
    let last_fits = c.ranges.last in
    marks-at c.args.last c.args.name.now c.args.mark c.args.streams.now c.in-Some.place c.new-2.result c.accepted-2.result (first-is (is_named c.args.name.now) c.args.streams.now c.in-Some.place (sym c.place_of.ensures ∙ c.in-Some.is)) c.new-2.ensures (simp to_z-of_z at c.accepted-2.ensures)
