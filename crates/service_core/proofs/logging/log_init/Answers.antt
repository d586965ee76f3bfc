use Rattle.std.proofs.Common.{◌≡◌, [], refl, ap, sym, ◌∙◌}
use Rattle.std.specs.Prelude.{None}
use Rattle.calls.specs.declared.call.Call.TheVariants.{LogInit}
use Rattle.log_history.specs.Changes.{Began}
use Rattle.log_history.specs.Deeds.{deeds_of_all}
use Rattle.service_core.specs.Acting.{table_of}
use Rattle.service_core.proofs.ActLaws.{log-stepped}
use Rattle.service_core.proofs.LogConditions.{by-answer}
use Rattle.service_core.proofs.logging.log_init.Goals as goal

pub returns-clause-ok : goal.returns-clause-ok
returns-clause-ok c =
    let step = c.in_ok-step.step in
    let came = c.in_ok-step.ensures in
    let none : step.events ≡ [] = by-answer step.status (λ e. (came.ok e).done) (λ n. (came.refused n).done) in
    let acted = c.done_alone.ensures in
    λ seq. log-stepped (table_of c.args.parts.now) c.args.client seq c.args.now LogInit None (Began c.args.client) step c.init.new.self.table c.done_alone.result tt refl refl came.status came.told came.ok came.refused acted.told (acted.deeds ∙ sym (ap deeds_of_all none))
