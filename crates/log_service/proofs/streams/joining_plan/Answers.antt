use Rattle.std.proofs.Common.{sym, ◌∙◌}
use Rattle.std.proofs.lemmas.Int.{to_z-of_z}
use Rattle.log_history.specs.Table.{is_named}
use Rattle.log_service.proofs.PlaceLemmas.{first-is, nowhere-is}
use Rattle.log_service.proofs.StreamPlans.{joins-nowhere, joins-at}
use Rattle.log_service.proofs.streams.joining_plan.Goals as goal

pub returns-in_default : goal.returns-in_default
returns-in_default c =
    let last_fits = c.ranges.last in
    joins-nowhere c.args.last c.args.client c.args.name.now c.args.streams.now c.new.result c.accepted.result c.new.ensures (nowhere-is (is_named c.args.name.now) c.args.streams.now (sym c.place_of.ensures ∙ c.in_default.is)) (simp to_z-of_z at c.accepted.ensures)

pub returns : goal.returns
returns c =
    let last_fits = c.ranges.last in
    joins-at c.args.last c.args.client c.args.name.now c.args.streams.now c.in-Some.place c.index-streams-place.result c.in_ok-openers.openers c.new-2.result c.accepted-2.result (first-is (is_named c.args.name.now) c.args.streams.now c.in-Some.place (sym c.place_of.ensures ∙ c.in-Some.is)) c.index-streams-place.is c.in_ok-openers.ensures c.new-2.ensures (simp to_z-of_z at c.accepted-2.ensures)
