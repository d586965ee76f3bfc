use Rattle.std.proofs.Common.{ap, ◌∙◌}
use Rattle.std.proofs.lemmas.Int.{to_z-of_z}
use Rattle.plain_service.specs.Alarms.{record_for}
use Rattle.service_core.proofs.sending.record_of.Goals as goal

pub returns : goal.returns
returns c =
    let fits = c.ranges.now in
    let is = simp to_z-of_z at c.in_ok-rec.ensures in
    is ∙ ap (record_for c.args.now) c.get.ensures
