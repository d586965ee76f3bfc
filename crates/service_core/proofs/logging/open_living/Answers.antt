use Rattle.std.proofs.Common.{◌≡◌, ◌+◌, [], refl, ap, sym, ◌∙◌}
use Rattle.std.specs.Prelude.{Some}
use Rattle.std.specs.Option.{option_copied}
use Rattle.std.proofs.lemmas.Int.{to_z-of_z}
use Rattle.calls.specs.declared.call.Call.TheVariants.{LogOpen}
use Rattle.log_history.specs.Changes.{Opened}
use Rattle.log_history.specs.Deeds.{deeds_of_all}
use Rattle.log_history.specs.KeptAnswers.{making_in}
use Rattle.log_history.specs.Times.{second_of}
use Rattle.log_service.specs.Opening.{mark_in}
use Rattle.service_core.specs.Acting.{table_of}
use Rattle.service_core.proofs.ActLaws.{log-stepped}
use Rattle.service_core.proofs.LogConditions.{by-answer, call-time, joins-nothing}
use Rattle.service_core.proofs.logging.open_living.Goals as goal

pub open_stream-requires : goal.open_stream-requires
open_stream-requires c = let fits = c.ranges.now in simp to_z-of_z (call-time c.args.parts.now.log.table c.args.now c.requires.log)

pub returns-clause-ok : goal.returns-clause-ok
returns-clause-ok c =
    let fits = c.ranges.now in
    let kept = c.args.parts.now.log.table in
    let name = c.args.name.now in
    let create = option_copied c.args.create in
    let number = c.args.parts.now.number + 1 in
    let step = c.in_ok-step.step in
    let came = c.in_ok-step.ensures in
    let made = simp to_z-of_z at came.ok in
    let none : step.events ≡ [] = by-answer step.status (λ e. (made e).done ∙ joins-nothing kept c.args.client name create (second_of c.args.now) number c.requires.lives) (λ n. (came.refused n).done) in
    let acted = c.done_alone.ensures in
    λ seq. log-stepped (table_of c.args.parts.now) c.args.client seq c.args.now (LogOpen name create) (Some (mark_in kept.streams name create number)) (Opened c.args.client name (making_in kept.streams name create) (second_of c.args.now) number) step c.open_stream.new.self.table c.done_alone.result tt refl refl came.status came.told made came.refused acted.told (acted.deeds ∙ sym (ap deeds_of_all none))
