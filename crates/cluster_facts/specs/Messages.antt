-- Words of public clauses: what stands in the net, a list whose newest element comes first, and the calls and receipts of a history.
use Rattle.std.specs.Prelude.{ℕ, ◌==◌, if◌then◌else◌, List, [], ◌∷◌}
use Rattle.cluster_facts.specs.Types.{Call, Reply, Entry, Called, Receipted, Message, Request, Answer, Receipt, WireWhy}

-- a byte string of the net, by what it is: the spelling of a message; or one that was injected and that no message spells: so many
-- of its bytes, and no more, are the front of a spelling, and this is wrong there
pub data Posting : Type 0 where
  Spelled : (message : Message) → Posting
  Raw : (bytes : List ℕ) (front : ℕ) (why : WireWhy) → Posting

-- the messages of a net
abbrev pub messages_in : List Posting → List Message
messages_in [] = []
messages_in (Spelled message ∷ net) = message ∷ messages_in net
messages_in (Raw bytes front why ∷ net) = messages_in net

-- the calls that the client sent, each with its number
abbrev pub sent_by : ℕ → List Message → List (ℕ × Call)
sent_by client [] = []
sent_by client (Request sender number call ∷ net) =
    if sender == client then (number, call) ∷ sent_by client net else sent_by client net
sent_by client (_ ∷ net) = sent_by client net

-- the replies to the client that were posted, each with its call's number
abbrev pub answers_to : ℕ → List Message → List (ℕ × Reply)
answers_to client [] = []
answers_to client (Answer receiver number reply ∷ net) =
    if receiver == client then (number, reply) ∷ answers_to client net else answers_to client net
answers_to client (_ ∷ net) = answers_to client net

-- the receipts that the client posted, each as the subscription's key and the number through which it goes
abbrev pub receipts_of : ℕ → List Message → List (ℕ × ℕ)
receipts_of client [] = []
receipts_of client (Receipt sender key through ∷ net) =
    if sender == client then (key, through) ∷ receipts_of client net else receipts_of client net
receipts_of client (_ ∷ net) = receipts_of client net

-- the client's calls in a history, each with its number
abbrev pub calls_in : ℕ → List Entry → List (ℕ × Call)
calls_in client [] = []
calls_in client (Called caller number time call ∷ past) =
    if caller == client then (number, call) ∷ calls_in client past else calls_in client past
calls_in client (_ ∷ past) = calls_in client past

-- the message whose acceptance is the entry
abbrev pub message_of : Entry → Message
message_of (Called client number time call) = Request client number call
message_of (Receipted client key through time) = Receipt client key through
