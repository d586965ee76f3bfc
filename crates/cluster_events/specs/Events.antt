-- Words of public clauses: what is delivered to a server, and the events of a script line over any servers.
use Rattle.std.specs.Prelude.{ℕ, suc, Bool, true, false, ◌==◌, if◌then◌else◌, Option, Some, None, List, [], ◌∷◌, length}
use Rattle.script_lines.specs.declared.line.Line.{Line}
use Rattle.script_lines.specs.declared.line.Line.TheVariants.{Deliver, Mirror, Ack, Work, Push}
use Rattle.script_language.specs.Printing.{line_text}
use Rattle.cluster_facts.specs.Types.{Call, Reply, Called, Receipted, Message, Request, Answer, Delivery, Receipt}
use Rattle.cluster_facts.specs.Service.{Plain, answers_in, is_new}
use Rattle.cluster_facts.specs.Agents.{resent}
use Rattle.cluster_facts.specs.History.{Hand, Empty, Judged, New, Repeat, Old, Ahead, judged_call}
use Rattle.cluster_facts.specs.Messages.{Posting, Spelled, Raw}
use Rattle.cluster_facts.specs.World.{World, posting_at, number_of}
use Rattle.cluster_events.specs.Lines.{Ignored, Refused, listed_roles, roles_told}
use Rattle.cluster_events.specs.declared.lines.Why.TheVariants.{OldRequest, AheadRequest, Busy, DoneReceipt, Bad}
use Rattle.cluster_events.specs.Outcomes.{Outcome, quietly, telling, for_each}
use Rattle.cluster_events.specs.Servers.{State, Servers, in_world}
use Rattle.cluster_events.specs.ClientEvents.{post, take_reply, take_item}

-- the reply to the call of this number, if there is one
abbrev pub reply_at : ℕ → List (ℕ × Reply) → Option Reply
reply_at number [] = None
reply_at number (told ∷ replies) = if told.0 == number then Some told.1 else reply_at number replies

-- a repeated request gets its saved reply
abbrev pub post_again : Plain → ℕ → ℕ → Option Reply → World → Outcome World
post_again plain client number None world = quietly world
post_again plain client number (Some reply) world = post plain (Answer client number reply) world

abbrev pub request_as : {P : Type 0} → Plain → Servers P → ℕ → ℕ → ℕ → Call → Judged → State P → Outcome (State P)
request_as plain servers place client number call New state = servers.accept (Called client number state.world.now call) state
request_as plain servers place client number call Repeat state =
    in_world (post_again plain client number (reply_at number (answers_in plain client state.world.core.answered))) state
request_as plain servers place client number call Old state = telling state (Ignored place OldRequest)
request_as plain servers place client number call Ahead state = telling state (Ignored place AheadRequest)

abbrev pub receipt_as : {P : Type 0} → Servers P → ℕ → ℕ → ℕ → ℕ → Bool → State P → Outcome (State P)
receipt_as servers place client key through true state = servers.accept (Receipted client key through state.world.now) state
receipt_as servers place client key through false state = telling state (Ignored place DoneReceipt)

-- the active server hears a request or a receipt: while an entry is in hand it is busy
abbrev pub hear_at_rest : {P : Type 0} → Plain → Servers P → ℕ → Message → State P → Outcome (State P)
hear_at_rest plain servers place (Request client number call) state =
    request_as plain servers place client number call (judged_call state.world.core.answered client number) state
hear_at_rest plain servers place (Receipt client key through) state =
    receipt_as servers place client key through (is_new plain state.world.core.answered client key through) state
hear_at_rest plain servers place _ state = quietly state

abbrev pub hear_by : {P : Type 0} → Plain → Servers P → ℕ → Message → Hand → State P → Outcome (State P)
hear_by plain servers place message Empty state = hear_at_rest plain servers place message state
hear_by plain servers place message _ state =
    telling state (Ignored place (Busy (suc (length state.world.core.answered))))

abbrev pub hear : {P : Type 0} → Plain → Servers P → ℕ → Message → State P → Outcome (State P)
hear plain servers place message state = hear_by plain servers place message state.world.core.hand state

-- a message of the net is delivered: requests and receipts to the active server, replies and items to the client's agent
abbrev pub delivered : {P : Type 0} → Plain → Servers P → ℕ → Message → State P → Outcome (State P)
delivered plain servers place (Answer client number reply) state = in_world (take_reply place client number reply) state
delivered plain servers place (Delivery client key item) state = in_world (take_item plain place client key item) state
delivered plain servers place message state = hear plain servers place message state

-- the event of a line is refused
abbrev pub refuse : {P : Type 0} → Servers P → Line → State P → Outcome (State P)
refuse servers line state = telling state (Refused (line_text line) (servers.standing state))

-- bytes that no message spells have no effect, whatever is in hand
abbrev pub deliver_by : {P : Type 0} → Plain → Servers P → ℕ → Option Posting → State P → Outcome (State P)
deliver_by plain servers place None state = refuse servers (Deliver place) state
deliver_by plain servers place (Some (Spelled message)) state = delivered plain servers place message state
deliver_by plain servers place (Some (Raw bytes front why)) state = telling state (Ignored place (Bad front why))

-- `deliver K`
abbrev pub deliver : {P : Type 0} → Plain → Servers P → ℕ → State P → Outcome (State P)
deliver plain servers place state = deliver_by plain servers place (posting_at place state.world.net) state

-- `resend C`: the server hears each message that the agent sends again
abbrev pub resend : {P : Type 0} → Plain → Servers P → ℕ → State P → Outcome (State P)
resend plain servers client state =
    for_each (λ message now. hear plain servers (number_of plain message now.world.net) message now) (resent client (state.world.agents client)) state

abbrev pub step_or_refuse : {P : Type 0} → Servers P → Line → Option (Outcome (State P)) → State P → Outcome (State P)
step_or_refuse servers line None state = refuse servers line state
step_or_refuse servers line (Some outcome) state = outcome

-- `mirror`, `ack` and `work`
abbrev pub mirror_next : {P : Type 0} → Servers P → State P → Outcome (State P)
mirror_next servers state = step_or_refuse servers Mirror (servers.mirror state) state

abbrev pub ack_next : {P : Type 0} → Servers P → State P → Outcome (State P)
ack_next servers state = step_or_refuse servers Ack (servers.ack state) state

abbrev pub work_next : {P : Type 0} → Servers P → State P → Outcome (State P)
work_next servers state = step_or_refuse servers Work (servers.work state) state

-- all items without receipt are posted, in order
abbrev pub push_by : {P : Type 0} → Plain → Servers P → Hand → State P → Outcome (State P)
push_by plain servers Empty state = for_each (λ item. in_world (post plain item)) (plain.held state.world.core.answered) state
push_by plain servers _ state = refuse servers Push state

-- `push`
abbrev pub push : {P : Type 0} → Plain → Servers P → State P → Outcome (State P)
push plain servers state = push_by plain servers state.world.core.hand state

-- `servers`
abbrev pub list_servers : {P : Type 0} → Servers P → State P → Outcome (State P)
list_servers servers state = record {
  state = state;
  told = roles_told (listed_roles (servers.standing state).roles) [];
}
