-- Words of public clauses: how the net of byte strings is one of messages and of strings that no message spells.
use Rattle.std.specs.Prelude.{◌≡◌, ℕ, ◌⊎◌, Bool, true, false, List, [], ◌∷◌, ◌++◌, Option, Some, None}
use Rattle.wire_code.specs.Spelling.{IsBytes}
use Rattle.wire.specs.declared.message.Message.{Message}
use Rattle.wire.specs.declared.message.WireWhy.{WireWhy}
use Rattle.wire.specs.MessageSpelling.{message_text, MessageFits}
use Rattle.wire.specs.Messages.{Spells, IsRefusedAt}
use Rattle.cluster_facts.specs.Messages.{Posting, Spelled, Raw}
use Rattle.cluster_facts.specs.Service.{Plain, IsPlain}
use Rattle.cluster_facts.specs.World.{posted, injected, number_of, posting_at}
use Rattle.cluster_events.specs.ClientEvents.{post_lines, inject_lines}
use Rattle.event_text.specs.Texts.{printed}
use Rattle.cluster_clients.specs.declared.fetching.Fetched.{Fetched}
use Rattle.cluster_clients.specs.declared.fetching.Fetched.TheVariants.{Whole, Bad}

-- a byte string is the spelling of its message, or one that no message spells
abbrev pub IsString : Posting → List ℕ → Type 0
IsString (Spelled message) bytes = Spells message bytes
IsString (Raw raw front why) bytes = (bytes ≡ raw) × IsBytes raw × IsRefusedAt raw front why

-- each byte string is what stands at its place
abbrev pub AreSpelled : List Posting → List (List ℕ) → Type 0
AreSpelled [] [] = Unit {0}
AreSpelled (posting ∷ postings) (bytes ∷ net) = IsString posting bytes × AreSpelled postings net
AreSpelled _ _ = ⊥

-- no spelling is a proper front of another, and messages of one spelling are the same
abbrev pub SpellingsTell : Type 0
SpellingsTell =
    (one other : Message) (more : List ℕ) → MessageFits one → MessageFits other
    → message_text other ≡ message_text one ++ more → (one ≡ other) × (more ≡ [])

-- a message was posted to a net in which these stand: the net that there is now, and the lines
abbrev pub Posts : Message → List (List ℕ) → List (List ℕ) → List (List ℕ) → List (List ℕ) → Type 0
Posts message old new before after =
    (plain : Plain) (postings : List Posting) → IsPlain plain → AreSpelled postings old → AreSpelled (posted plain message postings) new
    × (after ≡ before ++ printed (post_lines plain message postings))

-- a message was posted or not: the net that is left
abbrev pub PostsOrNot : Message → List (List ℕ) → List (List ℕ) → Type 0
PostsOrNot message old new =
    (plain : Plain) (postings : List Posting) → IsPlain plain → AreSpelled postings old
    → AreSpelled postings new ⊎ AreSpelled (posted plain message postings) new

-- bytes are a message's spelling, or none
abbrev pub IsSpelling : List ℕ → Type 0
IsSpelling bytes = (message : Message) × Spells message bytes

pub record IsRaw (bytes : List ℕ) : Type 0 where
  pub front : ℕ
  pub why : WireWhy
  pub refused : IsRefusedAt bytes front why

-- bytes that no message spells were injected: the net that there is now, and the lines
abbrev pub InjectsRaw : List ℕ → List (List ℕ) → List (List ℕ) → List (List ℕ) → List (List ℕ) → Type 0
InjectsRaw bytes old new before after =
    (front : ℕ) (why : WireWhy) (postings : List Posting) → IsRefusedAt bytes front why → AreSpelled postings old
    → AreSpelled (injected bytes front why postings) new × (after ≡ before ++ printed (inject_lines bytes front why postings))

-- bytes were injected, or a message spells them and nothing was done
abbrev pub Injects : List ℕ → Bool → List (List ℕ) → List (List ℕ) → List (List ℕ) → List (List ℕ) → Type 0
Injects bytes true old new before after = IsRaw bytes × InjectsRaw bytes old new before after
Injects bytes false old new before after = IsSpelling bytes × (new ≡ old) × (after ≡ before)

-- bytes were injected or not: the net that is left
abbrev pub InjectsOrNot : List ℕ → List (List ℕ) → List (List ℕ) → Type 0
InjectsOrNot bytes old new =
    (new ≡ old)
    ⊎ (IsRaw bytes
    × ((front : ℕ) (why : WireWhy) (postings : List Posting) → IsRefusedAt bytes front why → AreSpelled postings old
    → AreSpelled (injected bytes front why postings) new))

-- the place is the number of the message in a net in which these stand
abbrev pub IsNumberIn : Message → List (List ℕ) → ℕ → Type 0
IsNumberIn message net place =
    (plain : Plain) (postings : List Posting) → IsPlain plain → AreSpelled postings net → place ≡ number_of plain message postings

-- what the net has at this place
abbrev pub IsFetched : ℕ → List (List ℕ) → Option Fetched → Type 0
IsFetched place net None = (postings : List Posting) → AreSpelled postings net → posting_at place postings ≡ None
IsFetched place net (Some (Whole message)) =
    MessageFits message × ((postings : List Posting) → AreSpelled postings net → posting_at place postings ≡ Some (Spelled message))
IsFetched place net (Some (Bad front why)) =
    (postings : List Posting) → AreSpelled postings net → (bytes : List ℕ) × (posting_at place postings ≡ Some (Raw bytes front why))
