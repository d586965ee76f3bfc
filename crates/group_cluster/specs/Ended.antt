-- Words of public clauses: where a fault of the disk ends a run, since no server is left that could go on.
use Rattle.std.specs.Prelude.{◌≡◌, ℕ, ℤ, suc, ◌≤◌, Bool, true, false, None, List, [], ◌∷◌, ◌++◌}
use Rattle.script_lines.specs.declared.line.Line.{Line}
use Rattle.script_lines.specs.declared.line.Line.TheVariants as line
use Rattle.script_lines.specs.declared.line.Server.{Server}
use Rattle.cluster_facts.specs.Types.{Entry}
use Rattle.cluster_facts.specs.Lists.{without}
use Rattle.cluster_facts.specs.Messages.{messages_in}
use Rattle.cluster_facts.specs.Service.{Plain, IsPlain}
use Rattle.cluster_facts.specs.History.{Empty, Ready, committed_by}
use Rattle.cluster_events.specs.Lines.{Told, Stood, is_ignored}
use Rattle.cluster_events.specs.declared.lines.ServerRole.TheVariants as role
use Rattle.cluster_events.specs.Outcomes.{Outcome}
use Rattle.cluster_events.specs.Cores.{with_core}
use Rattle.cluster_events.specs.Servers.{State}
use Rattle.cluster_events.specs.Devices.{Device}
use Rattle.cluster_events.specs.Ending.{EndAt, LacksLast, StepEnds, SettleEnds, is_crash}
use Rattle.cluster_events.specs.Serving.{IsSteady}
use Rattle.cluster_events.specs.Running.{Shelf}
use Rattle.cluster_events.specs.Runs.{RunBy}
use Rattle.cluster_events.specs.Promises.{AtEnd}
use Rattle.group_cluster.specs.Seats.{Stance, Out, Owed, Linking, Peers, IsGroup, is_standby, any_seat, count_seats, on_seats}
use Rattle.group_cluster.specs.Falling.{catches, caught_seats, caught_hand, caught_lines, failing, is_fresh, named, all_stood}
use Rattle.group_cluster.specs.Group.{falls, group, group_start, CanStart}
use Rattle.group_cluster.specs.Running.{GroupStepBy}

-- what is left of a server: a standby failed, and one that joins goes on joining, though nothing comes to it any more
abbrev pub left_out : Stance → Stance
left_out Owed = Linking false
left_out (Linking sent) = Linking false
left_out _ = Out

-- the active server is down, and each standby failed as it took over: what was committed is left, an entry that waited is gone, unless a
-- standby applied it
abbrev pub ended_by : Bool → State Peers → Outcome (State Peers)
ended_by catching state =
    let past = state.world.core.answered in
    let hand = state.world.core.hand in
    let seats = caught_seats catching state.peers.seats in
    record {
      state = record {
        world = with_core (committed_by past (caught_hand catching hand)) Empty state.world;
        peers = record { acting = state.peers.acting; seats = on_seats left_out seats; armed = None };
      };
      told = all_stood role.Down (named is_standby seats) (Stood state.peers.acting role.Down ∷ caught_lines catching past hand);
    }

abbrev pub ended : State Peers → Outcome (State Peers)
ended state = ended_by (catches state.peers.seats state.world.core.hand) state

-- A fault in a call of the deeds of the entry in hand ends the run: the active server falls in them, each standby fails in its takeover,
-- and the last one too. How many fell before the last one is what the device tells. Where it tells as many, the work may also end in a
-- takeover by the last one, since the device does not tell whether that one fails too: the outcome does
pub record EndsGroup (device : Device) (state : State Peers) (end : Outcome (State Peers)) : Type 0 where
  pub entry : Entry
  pub ready : state.world.core.hand ≡ Ready entry
  pub calls : 1 ≤ device.calls state.world.core.answered entry
  pub fell : any_seat is_standby state.peers.seats ≡ true → falls device state.world.core.answered entry state.peers ≡ true
  pub row : count_seats is_standby state.peers.seats ≤ suc (failing device (entry ∷ state.world.core.answered))
  pub is : end ≡ ended state

-- the last entry of a history has deeds
abbrev pub HasCalls : Device → List Entry → Type 0
HasCalls device [] = ⊥
HasCalls device (entry ∷ past) = 1 ≤ device.calls past entry

-- the active server crashes, and each standby fails in a call of its takeover: all of them keep deeds
pub record EndsCrash (device : Device) (server : Server) (state : State Peers) (end : Outcome (State Peers)) : Type 0 where
  pub active : state.peers.acting ≡ server
  pub standby : any_seat is_standby state.peers.seats ≡ true
  pub none : any_seat is_fresh (caught_seats (catches state.peers.seats state.world.core.hand) state.peers.seats) ≡ false
  pub calls : HasCalls device end.state.world.core.answered
  pub row : count_seats is_standby state.peers.seats ≤ suc (failing device end.state.world.core.answered)
  pub is : end ≡ ended state

-- a step of the servers ends as the entry in hand is worked
abbrev pub EndsGroupStep : Plain → Device → EndAt Peers
EndsGroupStep plain device = StepEnds (group plain device) (λ now last. EndsGroup device now last)

-- `settle` ends in one of its rounds, and prints no line on a message without effect
pub record EndsSettle (plain : Plain) (device : Device) (state : State Peers) (end : Outcome (State Peers)) : Type 0 where
  pub whole : Outcome (State Peers)
  pub ends : SettleEnds plain (group plain device) (EndsGroupStep plain device) state whole
  pub is : end ≡ record { state = whole.state; told = without is_ignored whole.told }

-- where the event of a line ends the run
abbrev pub GroupEnds : Plain → Device → Line → State Peers → Outcome (State Peers) → Type 0
GroupEnds plain device line.Work state end = EndsGroup device state end
GroupEnds plain device (line.Crash server) state end = EndsCrash device server state end
GroupEnds plain device line.Settle state end = EndsSettle plain device state end
GroupEnds plain device _ state end = ⊥

-- all promises hold there too
abbrev pub EndKeepsPromises : Type 0
EndKeepsPromises =
    (size : ℕ) (plain : Plain) → IsPlain plain → (shelf : Shelf) (calls : List Entry → Entry → ℕ) (device : Device) (others : List Server)
    → CanStart size others → (now : ℤ) (places first : ℕ) (lines : List Line) (state : State Peers) (told : List Told) (mark : ℕ)
    (next : Line) (end : Outcome (State Peers))
    → RunBy (GroupStepBy plain shelf calls) (group_start others now places) first lines state told mark
    → GroupEnds plain device next state end
    → AtEnd plain end.state.world (end.told ++ told)

-- and no reply is posted to the last call, whose work failed, but behind a crash
abbrev pub EndLacksReply : Type 0
EndLacksReply =
    (size : ℕ) (plain : Plain) → IsPlain plain → (device : Device) (next : Line) (state : State Peers) (end : Outcome (State Peers))
    → IsSteady plain (IsGroup size) state → is_crash next ≡ false → GroupEnds plain device next state end
    → LacksLast end.state.world.core.answered (messages_in end.state.world.net)
