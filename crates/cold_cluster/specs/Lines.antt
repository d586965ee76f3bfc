-- Words of public clauses: what the lines of a script do with one server and its journal, and whole runs.
use Rattle.std.specs.Prelude.{◌≡◌, ℕ, ◌≤◌, Bool, true, false, ◌||◌, ◌⊎◌, Option, Some, None, List}
use Rattle.disk_model.specs.Counts.{reaches}
use Rattle.script_lines.specs.declared.line.Line.{Line}
use Rattle.script_lines.specs.declared.line.Line.TheVariants as line
use Rattle.script_lines.specs.declared.line.Server.TheVariants.{A, B, C}
use Rattle.cluster_facts.specs.Types.{Entry, Message, Answer, Delivery}
use Rattle.cluster_facts.specs.Lists.{without}
use Rattle.cluster_facts.specs.Agents.{resent}
use Rattle.cluster_facts.specs.History.{Hand, Waiting, Ready}
use Rattle.cluster_facts.specs.Messages.{Posting, Spelled, Raw}
use Rattle.cluster_facts.specs.Service.{Plain}
use Rattle.cluster_facts.specs.World.{posting_at, number_of}
use Rattle.cluster_events.specs.Lines.{Ignored, is_ignored}
use Rattle.cluster_events.specs.declared.lines.Why.TheVariants.{Bad, ServerDown}
use Rattle.cluster_events.specs.Outcomes.{Outcome, telling, for_each}
use Rattle.cluster_events.specs.ClientEvents.{take_reply, take_item}
use Rattle.cluster_events.specs.Servers.{State, Servers, in_world}
use Rattle.cluster_events.specs.Devices.{Device}
use Rattle.cluster_events.specs.Ending.{EndAt, SettleEnds}
use Rattle.cluster_events.specs.Events.{refuse, mirror_next, work_next}
use Rattle.cluster_events.specs.Running.{Shelf, Happens}
use Rattle.cluster_events.specs.Runs.{StepBy}
use Rattle.cluster_events.specs.Settling.{Settles}
use Rattle.cold_cluster.specs.Cold.{Alone, append_count, cold}
use Rattle.cold_cluster.specs.Falling.{Restarts, armed_alone, fallen}
use Rattle.cold_cluster.specs.Standing.{standing_cold}

-- the server and the journal, as they are shown
abbrev pub alone : Plain → Device → Servers Alone
alone plain device = cold standing_cold plain device

-- While the server is up.

-- whether the journal's disk stops in the append of an entry that waits
abbrev pub stops_append : Hand → Option ℕ → Bool
stops_append (Waiting entry) beside = reaches append_count beside
stops_append _ beside = false

-- whether the record disk stops in the deeds of an entry that is ready
abbrev pub stops_work : Device → List Entry → Hand → Option ℕ → Bool
stops_work device past (Ready entry) armed = reaches (device.calls past entry) armed
stops_work device past _ armed = false

-- a step in which a disk stops takes the server down
abbrev pub or_fall : Bool → Outcome (State Alone) → State Alone → Outcome (State Alone)
or_fall true outcome state = fallen state
or_fall false outcome state = outcome

-- `mirror`: the entry that waits is appended to the journal
abbrev pub append_next : Plain → Device → State Alone → Outcome (State Alone)
append_next plain device state =
    or_fall (stops_append state.world.core.hand state.peers.beside) (mirror_next (alone plain device) state) state

-- `work`
abbrev pub perform_next : Plain → Device → State Alone → Outcome (State Alone)
perform_next plain device state =
    or_fall (stops_work device state.world.core.answered state.world.core.hand state.peers.armed)
    (work_next (alone plain device) state) state

-- no count has come to its end
abbrev pub IsLeft : Option ℕ → Type 0
IsLeft None = Unit {0}
IsLeft (Some left) = 1 ≤ left

abbrev pub AreLeft : Alone → Type 0
AreLeft peers = IsLeft peers.armed × IsLeft peers.beside

-- a disk stops in the next step of a drain, and none did before
pub record HaltsStep (device : Device) (state : State Alone) (end : Outcome (State Alone)) : Type 0 where
  pub left : AreLeft state.peers
  pub stops :
      (stops_append state.world.core.hand state.peers.beside
      || stops_work device state.world.core.answered state.world.core.hand state.peers.armed) ≡ true
  pub is : end ≡ fallen state

-- `settle` comes to its end, and no disk stops in it
abbrev pub SettlesUp : Plain → Device → State Alone → Outcome (State Alone) → Type 0
SettlesUp plain device state outcome =
    Settles plain (alone plain device) state outcome.state outcome.told × AreLeft outcome.state.peers

-- or it ends in a step
pub record SettleStops (plain : Plain) (device : Device) (EndsStep : EndAt Alone) (state : State Alone) (outcome : Outcome (State Alone)) : Type 0 where
  pub whole : Outcome (State Alone)
  pub ends : SettleEnds plain (alone plain device) EndsStep state whole
  pub is : outcome ≡ record { state = whole.state; told = without is_ignored whole.told }

-- what a line leads to and prints while the server is up
abbrev pub HappensUp : Plain → Shelf → Device → Line → State Alone → Outcome (State Alone) → Type 0
HappensUp plain shelf device line.Mirror state outcome = outcome ≡ append_next plain device state
HappensUp plain shelf device line.Work state outcome = outcome ≡ perform_next plain device state
HappensUp plain shelf device line.Settle state outcome =
    SettlesUp plain device state outcome ⊎ SettleStops plain device (HaltsStep device) state outcome
HappensUp plain shelf device (line.Crash A) state outcome = outcome ≡ fallen state
HappensUp plain shelf device (line.Crash server) state outcome = outcome ≡ refuse (alone plain device) (line.Crash server) state
HappensUp plain shelf device (line.Arm A count) state outcome =
    (1 ≤ count) × (outcome ≡ armed_alone (Some count) state.peers.beside state)
HappensUp plain shelf device (line.Arm B count) state outcome =
    (1 ≤ count) × (outcome ≡ armed_alone state.peers.armed (Some count) state)
HappensUp plain shelf device (line.Arm C count) state outcome =
    (1 ≤ count) × (outcome ≡ refuse (alone plain device) (line.Arm C count) state)
HappensUp plain shelf device line.Disarm state outcome = outcome ≡ armed_alone None None state
HappensUp plain shelf device (line.Restart server) state outcome =
    outcome ≡ refuse (alone plain device) (line.Restart server) state
HappensUp plain shelf device next state outcome = Happens plain shelf (alone plain device) next state outcome

-- While it is down.

-- a request or a receipt has no effect; replies and items go to the client's agent
abbrev pub delivered_down : Plain → ℕ → Message → State Alone → Outcome (State Alone)
delivered_down plain place (Answer client number reply) state = in_world (take_reply place client number reply) state
delivered_down plain place (Delivery client key item) state = in_world (take_item plain place client key item) state
delivered_down plain place message state = telling state (Ignored place ServerDown)

abbrev pub deliver_down_by : Plain → Device → ℕ → Option Posting → State Alone → Outcome (State Alone)
deliver_down_by plain device place None state = refuse (alone plain device) (line.Deliver place) state
deliver_down_by plain device place (Some (Spelled message)) state = delivered_down plain place message state
deliver_down_by plain device place (Some (Raw bytes front why)) state = telling state (Ignored place (Bad front why))

abbrev pub deliver_down : Plain → Device → ℕ → State Alone → Outcome (State Alone)
deliver_down plain device place state =
    deliver_down_by plain device place (posting_at place state.world.net) state

-- nothing that is sent again has an effect
abbrev pub resend_down : Plain → ℕ → State Alone → Outcome (State Alone)
resend_down plain client state =
    for_each (λ message now. telling now (Ignored (number_of plain message now.world.net) ServerDown))
    (resent client (state.world.agents client)) state

-- what asks for an active server is refused
abbrev pub HappensDown : Plain → Shelf → Device → Line → State Alone → Outcome (State Alone) → Type 0
HappensDown plain shelf device (line.Deliver place) state outcome = outcome ≡ deliver_down plain device place state
HappensDown plain shelf device (line.Resend client) state outcome = outcome ≡ resend_down plain client state
HappensDown plain shelf device line.Mirror state outcome = outcome ≡ refuse (alone plain device) line.Mirror state
HappensDown plain shelf device line.Ack state outcome = outcome ≡ refuse (alone plain device) line.Ack state
HappensDown plain shelf device line.Work state outcome = outcome ≡ refuse (alone plain device) line.Work state
HappensDown plain shelf device line.Push state outcome = outcome ≡ refuse (alone plain device) line.Push state
HappensDown plain shelf device line.Settle state outcome = outcome ≡ refuse (alone plain device) line.Settle state
HappensDown plain shelf device (line.Crash server) state outcome =
    outcome ≡ refuse (alone plain device) (line.Crash server) state
HappensDown plain shelf device (line.Arm server count) state outcome =
    outcome ≡ refuse (alone plain device) (line.Arm server count) state
HappensDown plain shelf device line.Disarm state outcome = outcome ≡ armed_alone None None state
HappensDown plain shelf device (line.Restart A) state outcome = Restarts state outcome
HappensDown plain shelf device (line.Restart server) state outcome =
    outcome ≡ refuse (alone plain device) (line.Restart server) state
HappensDown plain shelf device next state outcome = Happens plain shelf (alone plain device) next state outcome

-- What a line leads to and prints.

abbrev pub HappensBy : Bool → Plain → Shelf → Device → Line → State Alone → Outcome (State Alone) → Type 0
HappensBy true plain shelf device next state outcome = HappensUp plain shelf device next state outcome
HappensBy false plain shelf device next state outcome = HappensDown plain shelf device next state outcome

abbrev pub ColdHappens : Plain → Shelf → Device → Line → State Alone → Outcome (State Alone) → Type 0
ColdHappens plain shelf device next state outcome = HappensBy state.peers.up plain shelf device next state outcome

-- Whole runs, with any mark. Calls are counted by the deeds of an entry behind a history.
abbrev pub ColdStepBy : {M : Type 0} → Plain → Shelf → (List Entry → Entry → ℕ) → StepBy M Line Alone
ColdStepBy plain shelf calls before next state outcome after =
    ColdHappens plain shelf (record { calls = calls; fails = λ number. 0 }) next state outcome
