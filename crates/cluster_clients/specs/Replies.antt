-- Words of public clauses: replies in the net, by the calls that they answer.
use Rattle.std.specs.Prelude.{◌≡◌, ℕ, true, nat_eq, Option, Some, None, List, [], ◌∷◌, ◌++◌}
use Rattle.std.specs.List.{starts_with}
use Rattle.wire_code.specs.Spelling.{number_text}
use Rattle.wire.specs.Messages.{Spells}
use Rattle.cluster_facts.specs.Types.{Message, Reply, Answer}
use Rattle.cluster_facts.specs.Messages.{Posting, answers_to, messages_in}
use Rattle.cluster_events.specs.Events.{reply_at}
use Rattle.cluster_clients.specs.Spelled.{AreSpelled}

-- how the spelling of a reply to a client's call begins
abbrev pub reply_front : ℕ → ℕ → List ℕ
reply_front client number = 2 ∷ (number_text 2 client ++ number_text 4 number)

-- bytes that begin so are the spelling of this message; other bytes, or such as no message spells, are none
abbrev pub IsReplyIn : List ℕ → List ℕ → Option Message → Type 0
IsReplyIn front bytes None = starts_with nat_eq bytes front ≡ true → (message : Message) → ¬ Spells message bytes
IsReplyIn front bytes (Some message) = (starts_with nat_eq bytes front ≡ true) × Spells message bytes

-- the newest message of the net whose spelling begins so, if there is one
pub data FindsFirst (front : List ℕ) : List (List ℕ) → Option Message → Type 0 where
  Nothing : FindsFirst front [] None
  Here : {net : List (List ℕ)} → (bytes : List ℕ) (message : Message) → IsReplyIn front bytes (Some message)
      → FindsFirst front (bytes ∷ net) (Some message)
  Passed : {net : List (List ℕ)} {found : Option Message} → (bytes : List ℕ) → IsReplyIn front bytes None → FindsFirst front net found
      → FindsFirst front (bytes ∷ net) found

-- what was found, beside the reply that the messages give
abbrev pub IsReplyFound : ℕ → ℕ → Option Reply → Option Message → Type 0
IsReplyFound client number value None = value ≡ None
IsReplyFound client number value (Some message) =
    (reply : Reply) × (message ≡ Answer client number reply) × (value ≡ Some reply)

-- the newest reply to the call among the messages of the net, if there is one
abbrev pub FindsReply : ℕ → ℕ → List (List ℕ) → Option Message → Type 0
FindsReply client number net found =
    (postings : List Posting) → AreSpelled postings net
    → IsReplyFound client number (reply_at number (answers_to client (messages_in postings))) found
