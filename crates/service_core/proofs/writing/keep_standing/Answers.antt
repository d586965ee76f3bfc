use Rattle.std.proofs.Common.{ap, ◌∙◌}
use Rattle.alarm_view.specs.Alarms.{from_record}
use Rattle.service_core.proofs.Standing.{first-sized, first-stands, some-first}
use Rattle.service_core.proofs.writing.keep_standing.Goals as goal

pub first_standing-requires : goal.first_standing-requires
first_standing-requires c = first-sized c.args.log.now.table.streams c.in-Some.state.now c.requires c.in-Some.ensures

pub returns-in-Some : goal.returns-in-Some
returns-in-Some c =
    c.keep_from.ensures ∙ ap (λ n. from_record n c.args.alarms.now.kept) (c.first_standing.ensures ∙ first-stands c.args.log.now.table.streams c.in-Some.state.now c.requires c.in-Some.ensures)

pub returns-in-None : goal.returns-in-None
returns-in-None c = absurd (some-first c.args.log.now.table.streams c.requires c.in-None.ensures)
