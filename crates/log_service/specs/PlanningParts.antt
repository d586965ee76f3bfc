-- Words of bodies alone: what the plans of calls do to the living streams.
use Rattle.std.specs.Prelude.{◌≡◌, ℕ, ℤ, false, List, [], ◌∷◌, ◌++◌, Option, None}
use Rattle.ais_values.specs.declared.status.Status.TheVariants as status
use Rattle.stream_config.specs.declared.attrs.StreamAttrs.{StreamAttrs}
use Rattle.stream_config.specs.declared.attrs.StreamName.{StreamName}
use Rattle.stream_config.specs.declared.mark.Mark.{Mark}
use Rattle.record_print.specs.declared.record.LogRecord.{LogRecord}
use Rattle.log_history.specs.Firsts.{change_first}
use Rattle.log_history.specs.Table.{OpenStream, is_named, with_opener, with_mark}
use Rattle.log_service.specs.State.{made_event}
use Rattle.log_service.specs.Changing.{OpensIn, StoresIn}
use Rattle.log_service.specs.Planning.{CanDo, HasRoom, streams_after, users_after}
use Rattle.log_service.specs.declared.plan.LogPlan.{LogPlan}

-- a plan of an ok call that leaves the clients that use the service, and tells nothing more
pub record IsOfStreams (streams : List OpenStream) (plan : LogPlan) : Type 0 where
  pub ok : plan.step.status ≡ status.Ok
  pub passed : plan.step.filtered ≡ false
  pub unmarked : plan.step.mark ≡ None
  pub users : (users : List ℕ) → users_after plan.doing users ≡ users
  pub can : CanDo plan.doing streams

-- it makes this stream, at this stamp
pub record PlansMaking (streams : List OpenStream) (created : ℤ) (stream : OpenStream) (plan : LogPlan) : Type 0 where
  pub sound : IsOfStreams streams plan
  pub stamp : plan.last ≡ created
  pub events : plan.step.events ≡ made_event stream ∷ []
  pub now : streams_after plan.doing streams ≡ streams ++ stream ∷ []

-- by it a client joins the openers of a stream
pub record PlansJoining (last : ℤ) (client : ℕ) (name : StreamName) (streams : List OpenStream) (plan : LogPlan) : Type 0 where
  pub sound : IsOfStreams streams plan
  pub stamp : plan.last ≡ last
  pub events : plan.step.events ≡ []
  pub now : streams_after plan.doing streams ≡ change_first (is_named name) (with_opener client) streams

-- by it a client opens a stream, which lives or not
pub record PlansOpening (last now : ℤ) (client number : ℕ) (name : StreamName) (making : Option StreamAttrs)
    (streams : List OpenStream) (plan : LogPlan) : Type 0 where
  pub sound : IsOfStreams streams plan
  pub opens : OpensIn last now client number name making streams (streams_after plan.doing streams) (plan.last, plan.step.events)

-- by it a stream gets a mark
pub record PlansMarking (last : ℤ) (name : StreamName) (mark : Mark) (streams : List OpenStream) (plan : LogPlan) : Type 0 where
  pub sound : IsOfStreams streams plan
  pub stamp : plan.last ≡ last
  pub events : plan.step.events ≡ []
  pub now : streams_after plan.doing streams ≡ change_first (is_named name) (with_mark mark) streams
  pub room : (spare : ℕ) → HasRoom plan spare

-- by it a record is stored
pub record PlansStoring (last now : ℤ) (name : StreamName) (rec : LogRecord) (streams : List OpenStream) (plan : LogPlan) : Type 0 where
  pub sound : IsOfStreams streams plan
  pub stores : StoresIn last now name rec streams (streams_after plan.doing streams) (plan.last, plan.step.events)
  pub room : (spare : ℕ) → HasRoom plan spare
