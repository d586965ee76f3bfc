-- Worked rows of clients' calls, over an active server beside which no other is up, and a service that answers every call.
use Rattle.std.proofs.Common.{◌≡◌, ℕ, zero, suc, Some, None, true, ◌&&◌, ◌==◌, pos, List, [], ◌∷◌, ◌++◌, drop, refl}
use Rattle.stream_config.specs.declared.attrs.StreamName.TheVariants.{System}
use Rattle.ntf_types.specs.declared.notification.Notification.{Notification}
use Rattle.ntf_filters.specs.declared.filter.FilterSet.{FilterSet}
use Rattle.cluster_facts.specs.Types.{Ask, Start, Other, Log, Ntf, LogInit, LogFini, LogClose, NtfSend, NtfSubscribe, Content, Single, Done, Success, BadHandle, VersionRefused, TryAgain, Entry, Called, Receipted, Written, Notified, Message, Request, Answer, Delivery, Receipt}
use Rattle.cluster_facts.specs.Service.{Plain}
use Rattle.cluster_facts.specs.World.{empty_world}
use Rattle.cluster_events.specs.Lines.{Posted, Committed, Replied, Declined, HandedOut, Dispatched, Ignored, Refused}
use Rattle.cluster_events.specs.declared.lines.Why.TheVariants as because
use Rattle.cluster_events.specs.Outcomes.{Outcome, and_then}
use Rattle.cluster_events.specs.Servers.{State, Servers, in_world}
use Rattle.cluster_events.specs.ClientEvents.{ask, dispatch_one, dispatch_all}
use Rattle.script_lines.specs.declared.line.Line.TheVariants.{Deliver, Push}
use Rattle.script_lines.specs.declared.line.Server.TheVariants.{A, B}
use Rattle.script_language.specs.Printing.{line_text}
use Rattle.cluster_events.specs.declared.lines.ServerRole.TheVariants.{Active, Down}
use Rattle.cluster_events.specs.declared.lines.Roles.TheVariants.{Two}
use Rattle.cluster_events.specs.Events.{deliver, push}
use Rattle.cluster_events.specs.Settling.{round, is_loud}
use Rattle.group_cluster.specs.Seats.{Peers, Out}
use Rattle.group_cluster.specs.Group.{group}
use Rattle.group_cluster.proofs.Rows.{ready, device, write, same_spelling}

-- the active server, with the other one down
abbrev alone : Plain → Servers Peers
alone plain = group plain (device (λ number. 0))

abbrev start : ℕ → State Peers
start places = record {
  world = empty_world (pos 5) places;
  peers = record { acting = A; seats = record { server = A; stance = Out } ∷ record { server = B; stance = Out } ∷ []; armed = None };
}

abbrev initialise : Ask
initialise = Start Log (record { release = 65; major = 2; minor = 1 })

abbrev ask_for : Ask → State Peers → Outcome (State Peers)
ask_for asked state = in_world (ask ready 1 asked) state

abbrev begun : Outcome (State Peers)
begun = and_then (ask_for initialise (start 8)) (ask_for (Other write))

-- two calls are sent
sends : begun.told ≡ Posted 2 (Request 1 2 write) ∷ Posted 1 (Request 1 1 LogInit) ∷ []
sends = refl

abbrev first_round : Outcome (State Peers)
first_round = round ready (alone ready) begun.state

-- in the first round both are accepted and answered, and the replies are taken
settles : first_round.told ≡ Replied 1 2 write Done ∷ Posted 4 (Answer 1 2 Done) ∷ Committed 2 (Called 1 2 (pos 5) write) ∷ Replied 1 1 LogInit Done ∷ Posted 3 (Answer 1 1 Done) ∷ Committed 1 (Called 1 1 (pos 5) LogInit) ∷ []
settles = refl

goes_on : is_loud first_round.told ≡ true
goes_on = refl

-- the second is the last, and prints nothing
ends : (round ready (alone ready) first_round.state).told ≡ []
ends = refl

-- the callback of the write is handed out
hands_out : (in_world (dispatch_all 1) first_round.state).told ≡ Dispatched 1 1 ∷ HandedOut 1 1 (Written 7 Success) ∷ []
hands_out = refl

-- a finalisation is sent: the agent then refuses each call, and the first request delivered again prints nothing
abbrev finalised : Outcome (State Peers)
finalised = ask_for (Other LogFini) first_round.state

repeats_quietly : (deliver ready (alone ready) 1 finalised.state).told ≡ []
repeats_quietly = refl

refuses : (ask_for (Other (LogClose System)) finalised.state).told ≡ Declined 1 BadHandle ∷ []
refuses = refl

-- a request that is delivered while an entry is in hand finds the server busy
busy : (and_then (deliver ready (alone ready) 1 begun.state) (deliver ready (alone ready) 2)).told ≡ Ignored 2 (because.Busy 1) ∷ Committed 1 (Called 1 1 (pos 5) LogInit) ∷ []
busy = refl

-- one that is ahead of the next prints so
ahead : (deliver ready (alone ready) 2 begun.state).told ≡ Ignored 2 because.AheadRequest ∷ []
ahead = refl

-- while an entry is in hand nothing is pushed
push_refused : (push ready (alone ready) (deliver ready (alone ready) 1 begun.state).state).told ≡ Refused (line_text Push) (record { roles = Two Active Down; net = 2; link = 0; back = 0; in_hand = Some 1 }) ∷ []
push_refused = refl

-- a message that was not posted cannot be delivered
deliver_refused : (deliver ready (alone ready) 3 begun.state).told ≡ Refused (line_text (Deliver 3)) (record { roles = Two Active Down; net = 2; link = 0; back = 0; in_hand = None }) ∷ []
deliver_refused = refl

-- with one place for callbacks the reply of a second write is left, and its call stays unanswered
abbrev crowded : Outcome (State Peers)
crowded = and_then (and_then (ask_for initialise (start 1)) (ask_for (Other write))) (ask_for (Other write))

leaves_one : (round ready (alone ready) crowded.state).told ≡ Ignored 6 because.Left ∷ Posted 6 (Answer 1 3 Done) ∷ Committed 3 (Called 1 3 (pos 5) write) ∷ Replied 1 2 write Done ∷ Posted 5 (Answer 1 2 Done) ∷ Committed 2 (Called 1 2 (pos 5) write) ∷ Replied 1 1 LogInit Done ∷ Posted 4 (Answer 1 1 Done) ∷ Committed 1 (Called 1 1 (pos 5) LogInit) ∷ []
leaves_one = refl

-- a version that is not served is refused, and nothing is sent
refuses_version : (ask_for (Start Log (record { release = 66; major = 1; minor = 1 })) (start 8)).told ≡ Declined 1 VersionRefused ∷ []
refuses_version = refl

-- of 33 writes without reply the last is refused
abbrev writes : ℕ → State Peers → State Peers
writes zero state = state
writes (suc count) state = (ask_for (Other write) (writes count state)).state

refuses_the_33rd : (ask_for (Other write) (writes 32 (round ready (alone ready) (ask_for initialise (start 8)).state).state)).told ≡ Declined 1 TryAgain ∷ []
refuses_the_33rd = refl

-- a dispatch of one hands out the oldest, one of all the rest, and then nothing is left
abbrev three_written : State Peers
three_written = (round ready (alone ready) (writes 3 (ask_for initialise (start 8)).state)).state

abbrev one_handed : Outcome (State Peers)
one_handed = in_world (dispatch_one 1) three_written

hands_out_the_oldest : one_handed.told ≡ Dispatched 1 1 ∷ HandedOut 1 1 (Written 7 Success) ∷ []
hands_out_the_oldest = refl

abbrev all_handed : Outcome (State Peers)
all_handed = in_world (dispatch_all 1) one_handed.state

hands_out_the_rest : all_handed.told ≡ Dispatched 1 2 ∷ HandedOut 1 3 (Written 7 Success) ∷ HandedOut 1 2 (Written 7 Success) ∷ []
hands_out_the_rest = refl

hands_out_nothing : (in_world (dispatch_all 1) all_handed.state).told ≡ Dispatched 1 0 ∷ []
hands_out_nothing = refl

-- A service with one subscription, that of client 1 by its call 2, for which every notification sent is an item.

abbrev items_sent : List Entry → List Content
items_sent [] = []
items_sent (Called client number time (NtfSend notification) ∷ past) = items_sent past ++ Single notification ∷ []
items_sent (_ ∷ past) = items_sent past

abbrev last_receipt : List Entry → ℕ
last_receipt [] = 0
last_receipt (Receipted client key through time ∷ past) = through
last_receipt (_ ∷ past) = last_receipt past

abbrev deliveries : ℕ → List Content → List Message
deliveries before [] = []
deliveries before (content ∷ contents) =
    Delivery 1 2 (record { number = suc before; content = content }) ∷ deliveries (suc before) contents

abbrev telling_all : Plain
telling_all = record {
  reply = λ past client number time call. Done;
  made = λ past client key. items_sent past;
  through = λ past client key. last_receipt past;
  lasts = λ past client key. client == 1 && key == 2;
  held = λ past. deliveries (last_receipt past) (drop (last_receipt past) (items_sent past));
  same = same_spelling;
}

module _ (notification : Notification) (filters : FilterSet) where
  abbrev asked_of : ℕ → Ask → State Peers → Outcome (State Peers)
  asked_of client asked state = in_world (ask telling_all client asked) state

  abbrev subscribed_state : State Peers
  subscribed_state = (round telling_all (alone telling_all) (and_then (asked_of 1 (Start Ntf (record { release = 65; major = 1; minor = 1 })) (start 8)) (asked_of 1 (Other (NtfSubscribe 9 filters)))).state).state

  abbrev sent : Outcome (State Peers)
  sent = asked_of 1 (Other (NtfSend notification)) subscribed_state

  abbrev item : Message
  item = Delivery 1 2 (record { number = 1; content = Single notification })

  abbrev item_round : Outcome (State Peers)
  item_round = round telling_all (alone telling_all) sent.state

  -- a notification is sent: the round answers it, pushes the item, and the client takes it and posts a receipt
  pushes_item : item_round.told ≡ Posted 8 (Receipt 1 2 1) ∷ Posted 7 item ∷ Replied 1 3 (NtfSend notification) Done ∷ Posted 6 (Answer 1 3 Done) ∷ Committed 3 (Called 1 3 (pos 5) (NtfSend notification)) ∷ []
  pushes_item = refl

  -- the next round hears the receipt, and that after it is the last
  abbrev receipt_round : Outcome (State Peers)
  receipt_round = round telling_all (alone telling_all) item_round.state

  hears_receipt : receipt_round.told ≡ Committed 4 (Receipted 1 2 1 (pos 5)) ∷ []
  hears_receipt = refl

  -- the item delivered again is taken already, and so is the receipt
  takes_once : (deliver telling_all (alone telling_all) 7 receipt_round.state).told ≡ Ignored 7 because.TakenItem ∷ []
  takes_once = refl

  hears_once : (deliver telling_all (alone telling_all) 8 receipt_round.state).told ≡ Ignored 8 because.DoneReceipt ∷ []
  hears_once = refl

  hands_out_item : (in_world (dispatch_all 1) receipt_round.state).told ≡ Dispatched 1 1 ∷ HandedOut 1 1 (Notified 9 notification) ∷ []
  hands_out_item = refl
