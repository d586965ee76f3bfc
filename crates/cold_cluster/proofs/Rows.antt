-- Worked rows of one server and its journal, over a service that answers every call and deeds of one changing call each.
use Rattle.std.proofs.Common.{◌≡◌, Some, None, pos, [], ◌∷◌, refl}
use Rattle.script_lines.specs.declared.line.Line.TheVariants as line
use Rattle.script_lines.specs.declared.line.Server.TheVariants.{A, B}
use Rattle.script_language.specs.Printing.{line_text}
use Rattle.cluster_facts.specs.Types.{Start, Other, Log, Done, Called, Answer}
use Rattle.cluster_events.specs.Lines.{Posted, Committed, Ignored, Refused, Stood}
use Rattle.cluster_events.specs.declared.lines.Why.TheVariants as because
use Rattle.cluster_events.specs.declared.lines.ServerRole.TheVariants.{Active, Armed, Down, Journal}
use Rattle.cluster_events.specs.declared.lines.Roles.TheVariants.{Two}
use Rattle.cluster_events.specs.Servers.{State, Servers, in_world}
use Rattle.cluster_events.specs.Devices.{Device}
use Rattle.cluster_events.specs.ClientEvents.{ask}
use Rattle.cluster_events.specs.Events.{ack_next, deliver, list_servers, resend}
use Rattle.cluster_events.specs.Settling.{round}
use Rattle.group_cluster.proofs.Rows.{device, ready, write}
use Rattle.cold_cluster.specs.Cold.{Alone, cold_begun}
use Rattle.cold_cluster.specs.Falling.{armed_alone, back_with, fallen}
use Rattle.cold_cluster.specs.Lines.{alone, append_next, deliver_down, perform_next, resend_down}

abbrev calls : Device
calls = device (λ number. 0)

abbrev servers : Servers Alone
servers = alone ready calls

-- a call is answered, and a write sent and heard: its entry waits for the journal
abbrev begun : State Alone
begun = (round ready servers (in_world (ask ready 1 (Start Log (record { release = 65; major = 2; minor = 1 }))) (cold_begun (pos 5) 8)).state).state

abbrev waits : State Alone
waits = (deliver ready servers 3 (in_world (ask ready 1 (Other write)) begun).state).state

pub wait_shows : (deliver ready servers 9 waits).told ≡ Refused (line_text (line.Deliver 9)) (record { roles = Two Active Journal; net = 3; link = 1; back = 0; in_hand = Some 2 }) ∷ []
wait_shows = refl

-- The entry joins the journal, and so is committed.

pub append_tells : (append_next ready calls waits).told ≡ Committed 2 (Called 1 2 (pos 5) write) ∷ []
append_tells = refl

-- an append is four changing calls
pub fourth_stops : (append_next ready calls (armed_alone None (Some 4) waits).state).told ≡ Stood A Down ∷ []
fourth_stops = refl

pub fifth_goes_on : (append_next ready calls (armed_alone None (Some 5) waits).state).told ≡ Committed 2 (Called 1 2 (pos 5) write) ∷ []
fifth_goes_on = refl

pub fifth_is_left : (append_next ready calls (armed_alone None (Some 5) waits).state).state.peers.beside ≡ Some 1
fifth_is_left = refl

-- It is performed.

abbrev applied : State Alone
applied = (ack_next servers (append_next ready calls waits).state).state

pub work_tells : (perform_next ready calls applied).told ≡ Posted 4 (Answer 1 2 Done) ∷ []
work_tells = refl

pub first_stops : (perform_next ready calls (armed_alone (Some 1) None applied).state).told ≡ Stood A Down ∷ []
first_stops = refl

pub second_is_left : (perform_next ready calls (armed_alone (Some 2) None applied).state).state.peers.armed ≡ Some 1
second_is_left = refl

-- The server is shown as armed where a disk is.

pub armed_shows : (list_servers servers (armed_alone None (Some 4) waits).state).told ≡ Stood B Journal ∷ Stood A Armed ∷ []
armed_shows = refl

-- While it is down nothing is heard, and nothing on the way or in hand is shown.

abbrev lost : State Alone
lost = (fallen waits).state

pub down_ignores : (deliver_down ready calls 3 lost).told ≡ Ignored 3 because.ServerDown ∷ []
down_ignores = refl

pub again_ignored : (resend_down ready 1 lost).told ≡ Ignored 3 because.ServerDown ∷ []
again_ignored = refl

pub down_shows : (deliver_down ready calls 9 lost).told ≡ Refused (line_text (line.Deliver 9)) (record { roles = Two Down Journal; net = 3; link = 0; back = 0; in_hand = None }) ∷ []
down_shows = refl

-- It comes back. Where the journal has the entry that waited, its saved reply is given; else it is new once it is sent again.

pub found_answers : (resend ready servers 1 (back_with (Called 1 2 (pos 5) write ∷ lost.world.core.answered) [] lost).state).told ≡ Posted 4 (Answer 1 2 Done) ∷ []
found_answers = refl

pub new_waits : (resend ready servers 1 (back_with lost.world.core.answered [] lost).state).told ≡ []
new_waits = refl
