-- Which servers go down in a line, and where the disk's count of faults rises.
use Rattle.std.proofs.Common.{◌≡◌, ℕ, ◌⊎◌, inl, inr, true, false, if◌then◌else◌, Option, Some, None, List, [], ◌∷◌, refl, sym, subst}
use Rattle.disk_model.specs.Disk.{Files}
use Rattle.script_lines.specs.declared.line.Line.{Line}
use Rattle.script_lines.specs.declared.line.Line.TheVariants as line
use Rattle.script_lines.specs.declared.line.Server.{Server}
use Rattle.trio_lines.specs.declared.line.TrioLine.{TrioLine}
use Rattle.trio_lines.specs.declared.line.TrioLine.TheVariants.{Plain, Crash, Arm, Restart, Mirror, Ack}
use Rattle.service_laws.specs.PlainOf.{plain_of}
use Rattle.service_laws.proofs.ServiceLaws.{is_plain}
use Rattle.cluster_facts.specs.Types.{Entry}
use Rattle.cluster_facts.specs.Service.{Plain as PlainService, IsPlain}
use Rattle.cluster_events.specs.Devices.{Device}
use Rattle.cluster_events.specs.Ending.{is_crash}
use Rattle.cluster_events.specs.Lines.{Told}
use Rattle.cluster_events.specs.Outcomes.{Outcome}
use Rattle.cluster_events.specs.Running.{Shelf}
use Rattle.cluster_events.specs.Servers.{State}
use Rattle.cluster_events.specs.Serving.{IsSteady}
use Rattle.group_cluster.specs.Seats.{Clear, Sent, Took, Stance, Out, Owed, Linking, Standby, Seat, Peers, IsGroup, is_up, same_server}
use Rattle.group_cluster.specs.Falling.{crash}
use Rattle.group_cluster.specs.Group.{Turn, confirmed, first_turn, mirrored, only, step_by, turned_or}
use Rattle.group_cluster.specs.Running.{GroupHappens}
use Rattle.group_cluster.specs.Standing.{CrashesOne, IsShort, StayUp}
use Rattle.group_cluster.proofs.Crashing.{crash-takes-one}
use Rattle.group_cluster.proofs.Staying.{Stay, servers-stay-up, stay-same, stay-stance}
use Rattle.played_runs.proofs.PlayLaws.{each-played, played-says}
use Rattle.spare_server.specs.Game.{trio_game}
use Rattle.spare_server.specs.GameLaws.{device_in, trio_plays}
use Rattle.spare_server.specs.Happening.{TrioHappens, group_line, name_of, or_refused}
use Rattle.trio_runs.specs.Counting.{CallsCounted}
use Rattle.trio_runs.specs.Falling.{CrashesOwn, FallsByCause, FaultsFell}
use Rattle.trio_runs.specs.Sentences.{OfAllLines, OfAllLinesOf}

-- A message to one server, or from it, leaves all up that were.

abbrev Raises : Turn → Type 0
Raises turn = (server : Server) (stance : Stance) (found : Stance × List Told) → turn server stance ≡ Some found → is_up found.0 ≡ true

mirror-raises : (past : List Entry) → Raises (mirrored past)
mirror-raises past server Out found is = cc
mirror-raises past server Owed found is = cc
mirror-raises past server (Linking true) found is = cc
mirror-raises past server (Linking false) found is = cc
mirror-raises past server (Standby on_way Sent keeps) found is = cc
mirror-raises past server (Standby on_way Clear keeps) found is = cc
mirror-raises past server (Standby on_way Took keeps) found is = cc

ack-raises : Raises confirmed
ack-raises server Out found is = cc
ack-raises server Owed found is = cc
ack-raises server (Linking sent) found is = cc
ack-raises server (Standby (Some number) mark keeps) found is = cc
ack-raises server (Standby None Took keeps) found is = cc
ack-raises server (Standby None Clear keeps) found is = cc
ack-raises server (Standby None Sent keeps) found is = cc

only-raises : (one : Server) (turn : Turn) → Raises turn → Raises (only one turn)
only-raises one turn raises server stance found = elim (same_server one server) as (λ b. (if b then turn server stance else None) ≡ Some found → is_up found.0 ≡ true) [
  | true ↦ λ is. raises server stance found is
  | false ↦ λ is. cc
]

abbrev StaysTo : List Seat → Option (List Seat × List Told) → Type 0
StaysTo seats None = Unit {0}
StaysTo seats (Some turned) = Stay seats turned.0

stays-or : (seat : Seat) (found : Option (Stance × List Told)) (seats : List Seat) (rest : Option (List Seat × List Told)) → ((now : Stance × List Told) → found ≡ Some now → is_up now.0 ≡ true) → StaysTo seats rest → StaysTo (seat ∷ seats) (turned_or seat found seats rest)
stays-or seat (Some now) seats rest raises stays = ((refl, λ up. raises now refl), stay-same seats)
stays-or seat None seats None raises stays = tt
stays-or seat None seats (Some later) raises stays = ((refl, λ up. up), stays)

stays-first : (turn : Turn) → Raises turn → (seats : List Seat) → StaysTo seats (first_turn turn seats)
stays-first turn raises [] = tt
stays-first turn raises (seat ∷ seats) =
    stays-or seat (turn seat.server seat.stance) seats (first_turn turn seats) (raises seat.server seat.stance) (stays-first turn raises seats)

turned-up : (next : TrioLine) (found : Option (List Seat × List Told)) (state : State Peers) → StaysTo state.peers.seats found → StayUp state.peers (or_refused next (step_by found state) state).state.peers
turned-up next None state stays = record { active = refl; others = λ server up. up }
turned-up next (Some turned) state stays = record { active = refl; others = stay-stance state.peers.seats turned.0 stays }

-- **where no work fails and no armed count comes to its end, only a crash takes a server down**
stay-up : (plain : PlainService) → IsPlain plain → (shelf : Shelf) (device : Device) → ((number : ℕ) → device.fails number ≡ 0) → (next : TrioLine) (state : State Peers) (outcome : Outcome (State Peers)) → IsSteady plain (IsGroup 3) state → is_crash (group_line next) ≡ false → TrioHappens plain shelf device next state outcome → IsShort (group_line next) state.peers.armed outcome.state.peers.armed → StayUp state.peers outcome.state.peers
stay-up plain plainly shelf device never (Mirror one) state outcome steady calm happens short =
    let turn = only (name_of one) (mirrored state.world.core.answered) in
    subst (λ (o : Outcome (State Peers)). StayUp state.peers o.state.peers) (sym happens)
    (turned-up (Mirror one) (first_turn turn state.peers.seats) state (stays-first turn (only-raises (name_of one) (mirrored state.world.core.answered) (mirror-raises state.world.core.answered)) state.peers.seats))
stay-up plain plainly shelf device never (Ack one) state outcome steady calm happens short =
    let turn = only (name_of one) confirmed in
    subst (λ (o : Outcome (State Peers)). StayUp state.peers o.state.peers) (sym happens)
    (turned-up (Ack one) (first_turn turn state.peers.seats) state (stays-first turn (only-raises (name_of one) confirmed ack-raises) state.peers.seats))
stay-up plain plainly shelf device never (Plain next) state outcome steady calm happens short =
    servers-stay-up 3 plain plainly shelf device never next state outcome steady calm happens short
stay-up plain plainly shelf device never Crash state outcome steady calm happens short = cc
stay-up plain plainly shelf device never (Arm k) state outcome steady calm happens short =
    servers-stay-up 3 plain plainly shelf device never (group_line (Arm k)) state outcome steady calm happens short
stay-up plain plainly shelf device never Restart state outcome steady calm happens short =
    servers-stay-up 3 plain plainly shelf device never (group_line Restart) state outcome steady calm happens short

-- and that takes down its own
own-crash : (device : Device) → ((number : ℕ) → device.fails number ≡ 0) → (server : Server) (state : State Peers) (outcome : Outcome (State Peers)) → IsGroup 3 state → outcome ≡ crash device server state → CrashesOwn (line.Crash server) state.peers outcome.state.peers
own-crash device never server state outcome good is =
    subst (λ (o : Outcome (State Peers)). CrashesOwn (line.Crash server) state.peers o.state.peers) (sym is) (by (crash-takes-one 3 device never server state good))
  where
    by : ((crash device server state).state ≡ state) ⊎ CrashesOne server state.peers (crash device server state).state.peers → CrashesOwn (line.Crash server) state.peers (crash device server state).state.peers
    by (inl same) = inl (λ i. (same i).peers)
    by (inr own) = inr own

plain-crash : (plain : PlainService) (shelf : Shelf) (device : Device) → ((number : ℕ) → device.fails number ≡ 0) → (next : Line) (state : State Peers) (outcome : Outcome (State Peers)) → IsGroup 3 state → GroupHappens plain shelf device next state outcome → CrashesOwn next state.peers outcome.state.peers
plain-crash plain shelf device never (line.Crash server) state outcome good happens = own-crash device never server state outcome good happens
plain-crash plain shelf device never _ state outcome good happens = tt

crashes-own : (plain : PlainService) (shelf : Shelf) (device : Device) → ((number : ℕ) → device.fails number ≡ 0) → (next : TrioLine) (state : State Peers) (outcome : Outcome (State Peers)) → IsGroup 3 state → TrioHappens plain shelf device next state outcome → CrashesOwn (group_line next) state.peers outcome.state.peers
crashes-own plain shelf device never (Plain next) state outcome good happens = plain-crash plain shelf device never next state outcome good happens
crashes-own plain shelf device never Crash state outcome good happens = plain-crash plain shelf device never (group_line Crash) state outcome good happens
crashes-own plain shelf device never (Arm k) state outcome good happens = tt
crashes-own plain shelf device never Restart state outcome good happens = tt
crashes-own plain shelf device never (Mirror one) state outcome good happens = tt
crashes-own plain shelf device never (Ack one) state outcome good happens = tt

pub falls-by-cause : (held : Option Files) → OfAllLines held FallsByCause
falls-by-cause held =
    each-played trio_game trio_plays held (λ setup. FallsByCause) (λ setup places first lines state told before next outcome after run done stood.
    let plain = plain_of setup in
    let device = device_in done in
    let never = done.step.caused stood in
    let steady = (played-says trio_game trio_plays setup places held first run).0 in (
      λ calm short. stay-up plain (is_plain setup) done.shelf device never next state outcome steady calm done.step.happens short,
      crashes-own plain done.shelf device never next state outcome steady.good done.step.happens,
    ))

pub faults-fell : (held : Option Files) → OfAllLines held FaultsFell
faults-fell held =
    each-played trio_game trio_plays held (λ setup. FaultsFell) (λ setup places first lines state told before next outcome after run done. (done.later, done.felled))

pub calls-counted : (held : Option Files) → OfAllLinesOf held (CallsCounted held)
calls-counted held =
    each-played trio_game trio_plays held (CallsCounted held) (λ setup places first lines state told before next outcome after run done.
    record { fails = done.step.fails; caused = done.step.caused; shelf = done.shelf; happens = done.step.happens; counts = done.counts })
