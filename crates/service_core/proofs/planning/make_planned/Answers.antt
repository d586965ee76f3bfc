use Rattle.std.proofs.Common.{sym, ap, ◌∙◌, subst}
use Rattle.std.specs.List.{AllByRecursion}
use Rattle.log_history.specs.Deeds.{deeds_of_all}
use Rattle.log_service.specs.declared.step.Step.{Step}
use Rattle.service_parts.specs.Telling.{IsTold}
use Rattle.stream_layout.specs.Carrying.{IsFitEvent}
use Rattle.service_core.specs.Acting.{marked_by}
use Rattle.service_core.proofs.planning.make_planned.Goals as goal

pub deeds_of_all-requires : goal.deeds_of_all-requires
deeds_of_all-requires c =
    subst (AllByRecursion IsFitEvent) (sym (c.as_slice.ensures ∙ ap (λ (s : Step). s.events) c.step-step.ensures)) c.requires.events

pub returns-in-Ok-clause-told : goal.returns-in-Ok-clause-told
returns-in-Ok-clause-told c =
    subst (λ (s : Step). IsTold s.status (marked_by s.filtered s.mark) c.told_with-told.result) c.step-step.ensures c.told_with-told.ensures

pub returns-in-Ok-clause-deeds : goal.returns-in-Ok-clause-deeds
returns-in-Ok-clause-deeds c =
    c.in-Ok.ensures.ok ∙ ap deeds_of_all (c.as_slice.ensures ∙ ap (λ (s : Step). s.events) c.step-step.ensures)

pub returns-in-Err-clause-memory : goal.returns-in-Err-clause-memory
returns-in-Err-clause-memory c =
    λ none. c.in-Err.ensures.memory (c.as_slice.ensures ∙ ap (λ (s : Step). s.events) c.step-step.ensures ∙ none)
