-- Words of laws: what a line of a kind makes of the time in force, of refusals, and of the calls that agents keep.
use Rattle.std.specs.Prelude.{◌≡◌, ℕ, ◌<◌, ℤ, List, [], ◌++◌, Option, Some, None}
use Rattle.std.specs.List.{AllByRecursion}
use Rattle.script_lines.specs.declared.line.Line.{Line}
use Rattle.cluster_facts.specs.Types.{Status}
use Rattle.cluster_facts.specs.Messages.{messages_in, sent_by}
use Rattle.cluster_facts.specs.Agents.{refusal, dispatch_refusal}
use Rattle.cluster_facts.specs.World.{World}
use Rattle.cluster_events.specs.Lines.{Told}
use Rattle.cluster_events.specs.Saying.{replies_told}
use Rattle.cluster_events.proofs.Walking.{Kind, Times, Asks, Dispatches, Others, kind_of}
use Rattle.cluster_rounds.specs.Timely.{AreTimely, IsTimelyIn}
use Rattle.played_runs.specs.Refusing.{refusals_told, refused_as, waiting_of}

-- the kind of a line, by what is shared of it: one of a world's own asks its servers for something
abbrev pub kind_by : Option Line → Kind
kind_by None = Others
kind_by (Some next) = kind_of next

-- Time.

-- the time in force behind a line of a kind
abbrev pub time_by : ℤ → Kind → ℤ
time_by now (Times later) = later
time_by now _ = now

-- only a line that sets the time moves it; what is committed in a line, or waits behind it, is from before it
pub record InTime (kind : Kind) (old new : World) (told : List Told) : Type 0 where
  pub now : new.now ≡ time_by old.now kind
  pub entries : AreTimely old told
  pub waits : IsTimelyIn old new.core.hand

-- Refusals: those of the client's agent, and otherwise none.

abbrev pub refused_of : Kind → World → List (ℕ × Status)
refused_of (Asks client asked) world = refused_as client (refusal asked (world.agents client))
refused_of (Dispatches client) world = refused_as client (dispatch_refusal (world.agents client))
refused_of _ world = []

abbrev pub Refuses : Kind → World → World → List Told → Type 0
Refuses kind old new told = refusals_told told ≡ refused_of kind old

-- Calls that wait.

-- what lines leave of the calls that an agent keeps, where no call is sent
pub record Passes (old new : World) (told : List Told) : Type 0 where
  pub kept : (client : ℕ) → (new.agents client).kept ≡ waiting_of (replies_told client told) (old.agents client).kept
  pub sent : (client : ℕ) → sent_by client (messages_in new.net) ≡ sent_by client (messages_in old.net)

-- agents keep the calls to which no line tells the reply
abbrev pub KeepsWaiting : World → List Told → Type 0
KeepsWaiting world told = (client : ℕ) → (world.agents client).kept ≡ waiting_of (replies_told client told) (sent_by client (messages_in world.net))

-- all replies told are to calls with lower numbers than the next
abbrev pub AreBelow : World → List Told → Type 0
AreBelow world told = (client : ℕ) → AllByRecursion (λ reply. reply.0 < (world.agents client).next) (replies_told client told)

-- what a line of a kind leaves of it: a call that is sent waits, and other lines pass
abbrev pub Waits : Kind → World → World → List Told → Type 0
Waits (Asks client asked) old new told =
    (before : List Told) → AreBelow old before → KeepsWaiting old before → KeepsWaiting new (told ++ before)
Waits _ old new told = Passes old new told
