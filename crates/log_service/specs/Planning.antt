-- Words of public clauses: what a planned call tells, what it makes of the state, and when it can be made.
use Rattle.std.specs.Prelude.{◌≡◌, ◌≢◌, ◌<◌, ◌≤◌, ◌+◌, ℕ, ◌==◌, Bool, false, Option, Some, pos, ◌≤ℤ◌, unsigned_abs, List, [], ◌∷◌, ◌++◌, length}
use Rattle.std.specs.List.{list_any}
use Rattle.ais_values.specs.declared.status.Status.{Status}
use Rattle.ais_values.specs.declared.status.Status.TheVariants as status
use Rattle.client_set.specs.Edits.{change_at}
use Rattle.client_set.specs.Rising.{without}
use Rattle.stream_config.specs.declared.mark.Mark.{Mark}
use Rattle.stream_config.specs.declared.state.LogFile.{LogFile}
use Rattle.stream_config.specs.Events.{last_with}
use Rattle.log_history.specs.Changes.{LogChange}
use Rattle.log_history.specs.Table.{OpenStream, LogTable, with_mark, has_nobody, kept_streams, closed_streams, left_streams}
use Rattle.log_service.specs.State.{Came, Left, Tells, AreFew, table_with}
use Rattle.log_service.specs.declared.step.Step.{Step}
use Rattle.log_service.specs.declared.files.Filed.{Filed}
use Rattle.log_service.specs.declared.files.Filed.TheVariants.{Grown, Begun}
use Rattle.log_service.specs.declared.plan.Doing.{Doing}
use Rattle.log_service.specs.declared.plan.Doing.TheVariants.{Stay, Begin, Join, Make, Store, Set, Leave, End}
use Rattle.log_service.specs.declared.plan.LogPlan.{LogPlan}

-- what the planned call is answered and does to streams
abbrev pub step_of : LogPlan → Step
step_of plan = plan.step

abbrev pub with_openers : List ℕ → OpenStream → OpenStream
with_openers openers stream = record { state = stream.state; openers = openers; mark = stream.mark }

abbrev pub with_files : (taken opened : ℕ) → List LogFile → OpenStream → OpenStream
with_files taken opened files stream = record {
  state = record { name = stream.state.name; attrs = stream.state.attrs; taken = taken; opened = opened; files = files };
  openers = stream.openers;
  mark = stream.mark;
}

-- the files once the last one ends there, or once another is begun
abbrev pub files_after : Filed → List LogFile → List LogFile
files_after (Grown end room) files = last_with 0 end files
files_after (Begun begun) files = begun

abbrev pub filed_in : (taken opened : ℕ) → Filed → OpenStream → OpenStream
filed_in taken opened filed stream = with_files taken opened (files_after filed stream.state.files) stream

-- the living streams once that is done
abbrev pub streams_after : Doing → List OpenStream → List OpenStream
streams_after Stay streams = streams
streams_after (Begin users) streams = streams
streams_after (Join place openers) streams = change_at (with_openers openers) streams place
streams_after (Make stream) streams = streams ++ stream ∷ []
streams_after (Store place taken opened filed) streams = change_at (filed_in taken opened filed) streams place
streams_after (Set place mark) streams = change_at (with_mark mark) streams place
streams_after (Leave name client) streams = kept_streams (closed_streams client name streams)
streams_after (End client) streams = kept_streams (left_streams client streams)

-- the clients that use the service then
abbrev pub users_after : Doing → List ℕ → List ℕ
users_after (Begin begun) users = begun
users_after (End client) users = without (λ other. other == client) users
users_after _ users = users

-- there is the stream that changes, and no more files were made of it than its records ask for
abbrev pub CanDo : Doing → List OpenStream → Type 0
CanDo (Join place openers) streams = place < length streams
CanDo (Store place taken opened filed) streams = (place < length streams) × (opened ≤ taken + 1)
CanDo (Set place mark) streams = place < length streams
CanDo _ streams = Unit {0}

-- there is room for the stream that is made, if one is made
abbrev pub IsRoomFor : Doing → (spare : ℕ) → Type 0
IsRoomFor (Make stream) spare = 1 ≤ spare
IsRoomFor _ spare = Unit {0}

-- what the planned call makes of a state
abbrev pub planned : LogPlan → LogTable → LogTable
planned plan before =
    table_with (unsigned_abs plan.last) (users_after plan.doing before.users) (streams_after plan.doing before.streams)

-- the planned call can be made of a state: the plan is one for it, and what it makes of it is a state that is kept
pub record CanCommit (before : LogTable) (plan : LogPlan) : Type 0 where
  pub from : pos 0 ≤ℤ plan.last
  pub can : CanDo plan.doing before.streams
  pub few : AreFew (streams_after plan.doing before.streams)
  pub busy : list_any has_nobody (streams_after plan.doing before.streams) ≡ false

-- there is room for the stream that the planned call makes, if it makes one
abbrev pub HasRoom : LogPlan → (spare : ℕ) → Type 0
HasRoom plan spare = IsRoomFor plan.doing spare

-- the plan with a mark told
abbrev pub marked_plan : Mark → LogPlan → LogPlan
marked_plan mark plan = record {
  step = record { status = plan.step.status; filtered = plan.step.filtered; mark = Some mark; events = plan.step.events };
  last = plan.last;
  doing = plan.doing;
}

-- the plan, for this state, of a call that is answered so, and that tells this and makes this change where it is ok
pub record Plans (before : LogTable) (answered : Status) (filtered : Bool) (mark : Option Mark) (change : LogChange) (plan : LogPlan) : Type 0 where
  pub answer : plan.step.status ≡ answered
  pub told : Tells filtered mark plan.step
  pub ok : plan.step.status ≡ status.Ok → Came filtered change before (planned plan before) plan.step.events
  pub refused : plan.step.status ≢ status.Ok → Left before (planned plan before) plan.step.events
  pub can : CanCommit before plan
