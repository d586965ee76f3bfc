-- Worked rows of two servers, and of three, over a service that answers every call.
use Rattle.std.proofs.Common.{◌≡◌, ℕ, Option, Some, None, Bool, true, false, if◌then◌else◌, ◌&&◌, ◌==◌, pos, [], ◌∷◌, refl, codes}
use Rattle.script_lines.specs.declared.line.Line.TheVariants as line
use Rattle.script_lines.specs.declared.line.Server.{Server}
use Rattle.script_lines.specs.declared.line.Server.TheVariants.{A, B, C}
use Rattle.script_language.specs.Printing.{line_text}
use Rattle.stream_config.specs.declared.attrs.StreamName.TheVariants.{System}
use Rattle.record_print.specs.declared.record.Header.{Header}
use Rattle.record_print.specs.declared.record.Header.TheVariants.{Generic}
use Rattle.cluster_facts.specs.Types.{Notification, Ask, Start, Other, Log, Ntf, Call, LogWrite, NtfSubscribe, Single, Done, Called, Notified, Message, Request, Answer, Delivery, Receipt}
use Rattle.ntf_filters.specs.declared.filter.FilterSet.{FilterSet}
use Rattle.cluster_facts.specs.Service.{Plain}
use Rattle.cluster_events.specs.Lines.{Posted, Committed, Replied, HandedOut, Dispatched, Ignored, Refused, Stood}
use Rattle.cluster_events.specs.declared.lines.Why.TheVariants as because
use Rattle.cluster_events.specs.declared.lines.ServerRole.TheVariants.{Active, Armed, Standby, Joining, Down}
use Rattle.cluster_events.specs.declared.lines.Roles.TheVariants.{Two, Three}
use Rattle.cluster_events.specs.Outcomes.{Outcome, quietly, and_then}
use Rattle.cluster_events.specs.Servers.{State, Servers, in_world}
use Rattle.cluster_events.specs.Devices.{Device}
use Rattle.cluster_events.specs.ClientEvents.{ask, dispatch_all}
use Rattle.cluster_events.specs.Events.{deliver, resend, mirror_next, ack_next, work_next, push, list_servers}
use Rattle.cluster_events.specs.Settling.{round}
use Rattle.group_cluster.specs.Seats.{Peers}
use Rattle.group_cluster.specs.Falling.{crash as crash_on, arm, disarm, restart}
use Rattle.group_cluster.specs.Group.{group, group_start, mirror_at, ack_at}
use Rattle.group_cluster.specs.Ended.{ended}

abbrev same_message : Message → Message → Bool
same_message (Request client number call) (Request other index asked) = client == other && number == index
same_message (Answer client number reply) (Answer other index told) = client == other && number == index
same_message _ _ = false

abbrev pub ready : Plain
ready = record {
  reply = λ past client number time call. Done;
  made = λ past client key. [];
  through = λ past client key. 0;
  lasts = λ past client key. false;
  held = λ past. [];
  same = same_message;
}

-- each entry's deeds make one changing call, and the disk fails in the works of these entries
abbrev pub device : (ℕ → ℕ) → Device
device fails = record { calls = λ past entry. 1; fails = fails }

abbrev calm : Servers Peers
calm = group ready (device (λ number. 0))

-- a crash over a disk that does not fail
abbrev crash : Server → State Peers → Outcome (State Peers)
crash server state = crash_on (device (λ number. 0)) server state

abbrev header : Header
header = Generic (record { vendor = 1; major = 2; minor = 3 }) (codes "safApp=web") 6

abbrev pub write : Call
write = LogWrite System 7 1 (pos 0) header (codes "service started")

abbrev or_same : Option (Outcome (State Peers)) → State Peers → Outcome (State Peers)
or_same None state = quietly state
or_same (Some outcome) state = outcome

abbrev ask_for : Ask → State Peers → Outcome (State Peers)
ask_for asked state = in_world (ask ready 1 asked) state

abbrev start : State Peers
start = group_start (B ∷ []) (pos 5) 8

-- a call is answered, and a write sent
abbrev begun : State Peers
begun = (round ready calm (ask_for (Start Log (record { release = 65; major = 2; minor = 1 })) start).state).state

abbrev sent : State Peers
sent = (ask_for (Other write) begun).state

-- an entry goes to the standby, and so is committed, worked and answered
pub settles : (round ready calm sent).told ≡ Replied 1 2 write Done ∷ Posted 4 (Answer 1 2 Done) ∷ Committed 2 (Called 1 2 (pos 5) write) ∷ []
settles = refl

-- The active server crashes at rest: its standby answers the next call, and commits it at once.

abbrev crashed : Outcome (State Peers)
crashed = crash A (round ready calm sent).state

pub crash_tells : crashed.told ≡ Stood B Active ∷ Stood A Down ∷ []
crash_tells = refl

pub other_answers : (round ready calm (ask_for (Other write) crashed.state).state).told ≡ Replied 1 3 write Done ∷ Posted 6 (Answer 1 3 Done) ∷ Committed 3 (Called 1 3 (pos 5) write) ∷ []
other_answers = refl

-- The armed server stops in a work: the other one answers the call that is sent again.

abbrev stopped : Outcome (State Peers)
stopped = round ready calm (arm A 1 sent).state

pub stop_tells : stopped.told ≡ Stood B Active ∷ Stood A Down ∷ Committed 2 (Called 1 2 (pos 5) write) ∷ []
stop_tells = refl

pub reply_after_stop : (round ready calm stopped.state).told ≡ Replied 1 2 write Done ∷ Posted 4 (Answer 1 2 Done) ∷ []
reply_after_stop = refl

-- a greater count is lowered
pub count_lowers : (round ready calm (arm A 2 sent).state).state.peers.armed ≡ Some 1
count_lowers = refl

-- The active server crashes with an entry that its standby applied: that entry stays, and its saved reply is given.

abbrev applied : Outcome (State Peers)
applied = and_then (deliver ready calm 3 sent) (mirror_next calm)

pub applied_tells : applied.told ≡ Committed 2 (Called 1 2 (pos 5) write) ∷ []
applied_tells = refl

pub applied_stays : (resend ready calm 1 (crash A applied.state).state).told ≡ Posted 4 (Answer 1 2 Done) ∷ []
applied_stays = refl

-- It crashes with an entry that waits: that entry is gone, and committed once it is sent again.

abbrev lost : State Peers
lost = (crash A (deliver ready calm 3 sent).state).state

pub waiting_goes : (resend ready calm 1 lost).told ≡ Committed 2 (Called 1 2 (pos 5) write) ∷ []
waiting_goes = refl

pub worked_then : (work_next calm (resend ready calm 1 lost).state).told ≡ Posted 4 (Answer 1 2 Done) ∷ []
worked_then = refl

-- An armed server is not in service, so the standby may not crash.

abbrev armed : State Peers
armed = (arm A 5 start).state

pub standby_serves : (crash B armed).told ≡ Refused (line_text (line.Crash B)) (record { roles = Two Armed Standby; net = 0; link = 0; back = 0; in_hand = None }) ∷ []
standby_serves = refl

pub armed_listed : (list_servers calm armed).told ≡ Stood B Standby ∷ Stood A Armed ∷ []
armed_listed = refl

pub disarmed : (crash B (disarm armed).state).told ≡ Stood B Down ∷ []
disarmed = refl

-- The disk fails in a work: the other server takes over, and answers the call that is sent again.

abbrev failing : Servers Peers
failing = group ready (device (λ number. if number == 2 then 1 else 0))

pub fault_tells : (round ready failing sent).told ≡ Stood B Active ∷ Stood A Down ∷ Committed 2 (Called 1 2 (pos 5) write) ∷ []
fault_tells = refl

-- An entry without deeds makes no call that could fail.

abbrev callless : Servers Peers
callless = group ready (record { calls = λ past entry. 0; fails = λ number. if number == 2 then 1 else 0 })

pub callless_tells : (round ready callless sent).told ≡ Replied 1 2 write Done ∷ Posted 4 (Answer 1 2 Done) ∷ Committed 2 (Called 1 2 (pos 5) write) ∷ []
callless_tells = refl

pub reply_after_fault : (round ready failing (round ready failing sent).state).told ≡ Replied 1 2 write Done ∷ Posted 4 (Answer 1 2 Done) ∷ []
reply_after_fault = refl

-- A server goes down, comes back and joins.

abbrev down : State Peers
down = (crash B start).state

pub join_tells : (and_then (and_then (restart B down) (mirror_next calm)) (ack_next calm)).told ≡ Stood B Standby ∷ Stood B Joining ∷ []
join_tells = refl

pub joined_listed : (list_servers calm (and_then (and_then (restart B down) (mirror_next calm)) (ack_next calm)).state).told ≡ Stood B Standby ∷ Stood A Active ∷ []
joined_listed = refl

-- The standby crashes while an entry waits for it: the entry is committed at that moment. A server that comes back then waits for the work.

abbrev alone_ready : Outcome (State Peers)
alone_ready = crash B (deliver ready calm 3 sent).state

pub commits_then : alone_ready.told ≡ Stood B Down ∷ Committed 2 (Called 1 2 (pos 5) write) ∷ []
commits_then = refl

pub snapshot_owed : (mirror_next calm (restart B alone_ready.state).state).told ≡ Refused (line_text line.Mirror) (record { roles = Two Active Joining; net = 3; link = 0; back = 0; in_hand = Some 2 }) ∷ []
snapshot_owed = refl

pub snapshot_sent : (mirror_next calm (work_next calm (restart B alone_ready.state).state).state).told ≡ Stood B Standby ∷ []
snapshot_sent = refl

-- Refusals.

pub down_twice : (crash B down).told ≡ Refused (line_text (line.Crash B)) (record { roles = Two Active Down; net = 0; link = 0; back = 0; in_hand = None }) ∷ []
down_twice = refl

pub last_stays : (crash A down).told ≡ Refused (line_text (line.Crash A)) (record { roles = Two Active Down; net = 0; link = 0; back = 0; in_hand = None }) ∷ []
last_stays = refl

pub last_unarmed : (arm A 1 down).told ≡ Refused (line_text (line.Arm A 1)) (record { roles = Two Active Down; net = 0; link = 0; back = 0; in_hand = None }) ∷ []
last_unarmed = refl

pub standby_unarmed : (arm B 1 start).told ≡ Refused (line_text (line.Arm B 1)) (record { roles = Two Active Standby; net = 0; link = 0; back = 0; in_hand = None }) ∷ []
standby_unarmed = refl

pub standing_again : (restart A start).told ≡ Refused (line_text (line.Restart A)) (record { roles = Two Active Standby; net = 0; link = 0; back = 0; in_hand = None }) ∷ []
standing_again = refl

-- A fault in the work of a server that has no standby ends the run, and so does one in a takeover.

pub last_falls : (ended (deliver ready calm 5 (ask_for (Other write) crashed.state).state).state).told ≡ Stood B Down ∷ []
last_falls = refl

pub takeover_fails : (ended start).told ≡ Stood B Down ∷ Stood A Down ∷ []
takeover_fails = refl

-- A service with one item, that of the subscription of client 1 by its call 2.

abbrev pub same_spelling : Message → Message → Bool
same_spelling (Delivery client key item) (Delivery other index asked) = client == other && (key == index && item.number == asked.number)
same_spelling (Receipt client key through) (Receipt other index asked) = client == other && (key == index && through == asked)
same_spelling one other = same_message one other

module _ (notification : Notification) (filters : FilterSet) where
  abbrev item : Message
  item = Delivery 1 2 (record { number = 1; content = Single notification })

  abbrev telling : Plain
  telling = record {
    reply = λ past client number time call. Done;
    made = λ past client key. Single notification ∷ [];
    through = λ past client key. 0;
    lasts = λ past client key. true;
    held = λ past. item ∷ [];
    same = same_spelling;
  }

  abbrev calm_telling : Servers Peers
  calm_telling = group telling (device (λ number. 0))

  abbrev asked_of : Ask → State Peers → Outcome (State Peers)
  asked_of asked state = in_world (ask telling 1 asked) state

  -- the client has the item, and the server that pushed it crashes
  abbrev told_once : State Peers
  told_once = (crash A (round telling calm_telling (and_then (asked_of (Start Ntf (record { release = 65; major = 1; minor = 1 })) start) (asked_of (Other (NtfSubscribe 9 filters)))).state).state).state

  pub taken_once : (deliver telling calm_telling 5 told_once).told ≡ Ignored 5 because.TakenItem ∷ []
  taken_once = refl

  pub pushed_once : (push telling calm_telling told_once).told ≡ []
  pushed_once = refl

  pub called_once : (in_world (dispatch_all 1) told_once).told ≡ Dispatched 1 1 ∷ HandedOut 1 1 (Notified 9 notification) ∷ []
  called_once = refl

-- Three servers.

abbrev trio : State Peers
trio = group_start (B ∷ C ∷ []) (pos 5) 8

-- a call is answered, and a write sent
abbrev trio_begun : State Peers
trio_begun = (round ready calm (ask_for (Start Log (record { release = 65; major = 2; minor = 1 })) trio).state).state

abbrev trio_sent : State Peers
trio_sent = (ask_for (Other write) trio_begun).state

-- an entry goes to both standbys, and is committed once
pub trio_settles : (round ready calm trio_sent).told ≡ Replied 1 2 write Done ∷ Posted 4 (Answer 1 2 Done) ∷ Committed 2 (Called 1 2 (pos 5) write) ∷ []
trio_settles = refl

-- two servers crash one after another, and the third answers
abbrev first_crash : Outcome (State Peers)
first_crash = crash A (round ready calm trio_sent).state

abbrev second_crash : Outcome (State Peers)
second_crash = crash B first_crash.state

pub first_tells : first_crash.told ≡ Stood B Active ∷ Stood A Down ∷ []
first_tells = refl

pub second_tells : second_crash.told ≡ Stood C Active ∷ Stood B Down ∷ []
second_tells = refl

pub third_answers : (round ready calm (ask_for (Other write) second_crash.state).state).told ≡ Replied 1 3 write Done ∷ Posted 6 (Answer 1 3 Done) ∷ Committed 3 (Called 1 3 (pos 5) write) ∷ []
third_answers = refl

pub trio_listed : (list_servers calm second_crash.state).told ≡ Stood C Active ∷ Stood B Down ∷ Stood A Down ∷ []
trio_listed = refl

-- an armed server is not in service, so the last standby may not crash; the other one may, and the arm stays
pub last_standby : (crash C (arm A 5 (crash B trio).state).state).told ≡ Refused (line_text (line.Crash C)) (record { roles = Three Armed Down Standby; net = 0; link = 0; back = 0; in_hand = None }) ∷ []
last_standby = refl

pub arm_stays : (list_servers calm (crash B (arm A 5 trio).state).state).told ≡ Stood C Standby ∷ Stood B Down ∷ Stood A Armed ∷ []
arm_stays = refl

-- a standby applied the waiting entry: the other one applies it too, and it is committed; the first in order takes over
abbrev half : State Peers
half = (and_then (deliver ready calm 3 trio_sent) (λ now. or_same (mirror_at C now) now)).state

pub half_catches : (crash A half).told ≡ Stood B Active ∷ Stood A Down ∷ Committed 2 (Called 1 2 (pos 5) write) ∷ []
half_catches = refl

pub half_answers : (resend ready calm 1 (crash A half).state).told ≡ Posted 4 (Answer 1 2 Done) ∷ []
half_answers = refl

-- none applied it: it is gone. A standby that joined since takes over before one that keeps deeds, and a server that joins is standby then
abbrev later_joins : State Peers
later_joins = (and_then (restart B (crash B (round ready calm trio_sent).state).state) (mirror_next calm)).state

pub fresh_first : (crash A later_joins).told ≡ Stood B Active ∷ Stood A Down ∷ []
fresh_first = refl

pub joins_at_once : (crash A (restart B (crash B (round ready calm trio_sent).state).state).state).told ≡ Stood B Standby ∷ Stood C Active ∷ Stood A Down ∷ []
joins_at_once = refl

pub fresh_last : (crash A (and_then (restart C (crash C (round ready calm trio_sent).state).state) (mirror_next calm)).state).told ≡ Stood C Active ∷ Stood A Down ∷ []
fresh_last = refl

-- the active server fails in a work, and so does the first standby as it takes over
abbrev fall_twice : Servers Peers
fall_twice = group ready (device (λ number. if number == 2 then 2 else 0))

pub twice_tells : (round ready fall_twice trio_sent).told ≡ Stood C Active ∷ Stood B Down ∷ Stood A Down ∷ Committed 2 (Called 1 2 (pos 5) write) ∷ []
twice_tells = refl

pub all_fall : (ended (deliver ready calm 3 trio_sent).state).told ≡ Stood C Down ∷ Stood B Down ∷ Stood A Down ∷ []
all_fall = refl

-- a message goes to one server alone, and comes from it
pub at_none : mirror_at C half ≡ None
at_none = refl

pub at_others : (or_same (ack_at B half) half).told ≡ []
at_others = refl

pub at_last : (or_same (mirror_at B half) half).told ≡ Committed 2 (Called 1 2 (pos 5) write) ∷ []
at_last = refl

-- `restart` of a server that is none of the servers is refused
pub none_joins : (restart C start).told ≡ Refused (line_text (line.Restart C)) (record { roles = Two Active Standby; net = 0; link = 0; back = 0; in_hand = None }) ∷ []
none_joins = refl
