use Rattle.std.proofs.Common.{sym, ap, ◌∙◌, subst}
use Rattle.std.specs.List.{AllByRecursion}
use Rattle.log_history.specs.Deeds.{deeds_of_all}
use Rattle.log_service.specs.declared.step.Step.{Step}
use Rattle.stream_layout.specs.Carrying.{IsFitEvent}
use Rattle.service_core.proofs.sending.send_stored.Goals as goal

pub deeds_of_all-requires : goal.deeds_of_all-requires
deeds_of_all-requires c =
    subst (AllByRecursion IsFitEvent) (sym (c.as_slice.ensures ∙ ap (λ (s : Step). s.events) c.step-step.ensures)) c.requires.events

pub returns-in_ok-id-in-Ok-clause-deeds : goal.returns-in_ok-id-in-Ok-clause-deeds
returns-in_ok-id-in-Ok-clause-deeds c =
    c.in-Ok.ensures.ok ∙ ap deeds_of_all (c.as_slice.ensures ∙ ap (λ (s : Step). s.events) c.step-step.ensures)
