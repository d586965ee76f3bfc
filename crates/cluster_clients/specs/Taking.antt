-- Words of bodies alone: what an agent makes of a reply or an item, and what is told of it.
use Rattle.std.specs.Prelude.{◌≡◌, ℕ, Option, Some, None, List, [], ◌∷◌, ◌++◌, slice_get, slice_set, nat_lt, Bool, true, false, length}
use Rattle.cluster_facts.specs.Types.{Message, Answer, Delivery}
use Rattle.cluster_facts.specs.Agents.{Agent}
use Rattle.cluster_events.specs.declared.lines.Why.{Why}
use Rattle.cluster_events.specs.declared.lines.Why.TheVariants.{AnsweredReply, Left, TakenItem, AheadItem, GoneItem}
use Rattle.client_agent.specs.declared.answers.MissedWhy.{MissedWhy}
use Rattle.client_agent.specs.declared.answers.MissedWhy.TheVariants as missed
use Rattle.client_agent.specs.declared.answers.Taken.{Taken}
use Rattle.client_agent.specs.declared.answers.Taken.TheVariants.{Answered, Item as TookItem, Missed}
use Rattle.wire.specs.MessageSpelling.{MessageInRange}
use Rattle.client_agent.specs.Seen.{Seen, seen_of}
use Rattle.client_agent.specs.Steps.{IsTaken}
use Rattle.event_text.specs.Texts.{ignored_line, reply_line}
use Rattle.cluster_clients.specs.Spelled.{Posts, PostsOrNot}

-- the client that a reply or an item is for
abbrev pub receiver_of : Message → Option ℕ
receiver_of (Answer client number reply) = Some client
receiver_of (Delivery client key item) = Some client
receiver_of _ = None

-- why a client without an agent misses it
abbrev pub missed_by_none : Message → Why
missed_by_none (Answer client number reply) = AnsweredReply
missed_by_none _ = GoneItem

-- the reason as lines tell it
abbrev pub why_of : MissedWhy → Why
why_of missed.Answered = AnsweredReply
why_of missed.Left = Left
why_of missed.Taken = TakenItem
why_of missed.Ahead = AheadItem
why_of missed.Gone = GoneItem

-- the agent at a place took a message or missed it
abbrev pub IsTakenAt : ℕ → Message → List Seen → Taken → List Seen → Type 0
IsTakenAt at message old taken new =
    (client places : ℕ) (agent : Agent) → slice_get old at ≡ Some (seen_of client places agent) → (seen : Seen)
    × IsTaken client places message agent taken seen × (new ≡ slice_set old at seen)

-- the receipt, if there is one, can be posted
abbrev pub HasFitReceipt : Taken → Type 0
HasFitReceipt (TookItem receipt) = MessageInRange receipt
HasFitReceipt _ = Unit {0}

-- what is told of a message without effect, where its number is given
abbrev pub missed_lines : Option ℕ → Why → List (List ℕ)
missed_lines None why = []
missed_lines (Some place) why = ignored_line place why ∷ []

-- what became of a delivered message is told: by a line, or by the posting of the receipt
abbrev pub IsTold : Option ℕ → ℕ → Taken → List (List ℕ) → List (List ℕ) → List (List ℕ) → List (List ℕ) → Bool → Type 0
IsTold place client (Answered number reply) old new before after loud =
    (new ≡ old) × (after ≡ before ++ reply_line client number reply ∷ []) × (loud ≡ true)
IsTold place client (TookItem receipt) old new before after loud =
    Posts receipt old new before after × (loud ≡ nat_lt (length old) (length new))
IsTold place client (Missed why) old new before after loud =
    (new ≡ old) × (after ≡ before ++ missed_lines place (why_of why)) × (loud ≡ false)

-- of what an agent took or missed, the receipt was posted or not
abbrev pub MayPost : Taken → List (List ℕ) → List (List ℕ) → Type 0
MayPost (TookItem receipt) old new = PostsOrNot receipt old new
MayPost _ old new = new ≡ old
