-- Words of public clauses: what the calls that tell a stream's mark are planned to do, and what a write came to.
use Rattle.std.specs.Prelude.{ℕ, ℤ, Bool, false, Option, Some, List}
use Rattle.stream_config.specs.declared.attrs.StreamName.{StreamName}
use Rattle.stream_config.specs.declared.attrs.StreamAttrs.{StreamAttrs}
use Rattle.stream_config.specs.declared.event.StreamEvent.{StreamEvent}
use Rattle.stream_config.specs.declared.mark.Mark.{Mark}
use Rattle.record_print.specs.declared.record.Header.{Header}
use Rattle.log_history.specs.Changes.{Stored, Filtered}
use Rattle.log_history.specs.Times.{record_at}
use Rattle.log_history.specs.Marks.{is_filtered}
use Rattle.log_history.specs.Table.{LogTable}
use Rattle.log_history.specs.KeptAnswers.{open_status, write_status, filter_status, kept_mark}
use Rattle.log_service.specs.Moments.{second_of}
use Rattle.log_service.specs.State.{Came}
use Rattle.log_service.specs.Opening.{opening_in, mark_in}
use Rattle.log_service.specs.Planning.{Plans}
use Rattle.log_service.specs.declared.plan.LogPlan.{LogPlan}

-- whether a stream's mask does not let a record with this header pass
abbrev pub filters_in : LogTable → StreamName → Header → Bool
filters_in kept name header = is_filtered (kept_mark kept.streams name).mask header

-- a stream's mark, as an ok write tells it
abbrev pub mark_told : LogTable → StreamName → Option Mark
mark_told kept name = Some (kept_mark kept.streams name)

-- an open as it is planned, by the entry of this number
abbrev pub PlansOpening : LogTable → (client : ℕ) → StreamName → Option StreamAttrs → (now : ℤ) (number : ℕ) → LogPlan → Type 0
PlansOpening kept client name create now number =
    Plans kept (open_status kept client name create) false (Some (mark_in kept.streams name create number))
    (opening_in kept.streams client name create now number)

-- a write as it is planned
abbrev pub PlansWrite : LogTable → (client : ℕ) → StreamName → (flags : ℕ) (time : ℤ) → Header → List ℕ → (now : ℤ) → LogPlan → Type 0
PlansWrite kept client name flags time header body now =
    Plans kept (write_status kept client name flags time header body now) (filters_in kept name header) (mark_told kept name)
    (Stored name (record_at time header body now) (second_of now))

-- the setting of a mask as it is planned, by the entry of this number
abbrev pub PlansFilter : LogTable → (client : ℕ) → StreamName → (mask number : ℕ) → LogPlan → Type 0
PlansFilter kept client name mask number =
    Plans kept (filter_status kept client name mask) false (Some (record { since = number; mask = mask })) (Filtered client name mask number)

-- what an ok write came to: its record is stored, or it is filtered and nothing changed
abbrev pub HasWritten : StreamName → (time : ℤ) → Header → List ℕ → (now : ℤ) → (old new : LogTable) → List StreamEvent → Type 0
HasWritten name time header body now old new events =
    Came (filters_in old name header) (Stored name (record_at time header body now) (second_of now)) old new events
