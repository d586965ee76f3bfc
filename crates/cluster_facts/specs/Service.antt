-- Words of public clauses: the plain service as the cluster sees it: what it answers, makes and holds after a history. A history is a list of entries
-- whose newest comes first.
use Rattle.std.specs.Prelude.{◌≡◌, ℕ, suc, ◌<◌, ◌⊎◌, Bool, true, ◌&&◌, ◌==◌, nat_lt, nat_le, if◌then◌else◌, ℤ, Some, List, [], ◌∷◌, ◌++◌, length, slice_get}
use Rattle.std.specs.List.{AllByRecursion}
use Rattle.cluster_facts.specs.Types.{Call, NtfSubscribe, NtfUnsubscribe, NtfFini, Reply, Refused, Status}
use Rattle.cluster_facts.specs.Types.{Content, Entry, Called, Receipted, Message, Delivery, Receipt}
use Rattle.cluster_facts.specs.Lists.{Stands, IsNumbered, without}
use Rattle.cluster_facts.specs.Messages.{calls_in, message_of}

-- a service by what it does after each history
pub record Plain : Type 0 where
  -- the reply to a client's call of this number that is accepted at this time
  pub reply : List Entry → ℕ → ℕ → ℤ → Call → Reply
  -- what all items hold that were ever made for the subscription of this client and key, the first made first
  pub made : List Entry → ℕ → ℕ → List Content
  -- the number of the item through which that subscription has a receipt
  pub through : List Entry → ℕ → ℕ → ℕ
  -- whether that subscription stands
  pub lasts : List Entry → ℕ → ℕ → Bool
  -- the items without receipt, as messages, by client, key and number
  pub held : List Entry → List Message
  -- whether two messages have one spelling
  pub same : Message → Message → Bool

-- a receipt is new where the subscription stands and its number is that of an item without receipt
abbrev pub is_new : Plain → List Entry → ℕ → ℕ → ℕ → Bool
is_new plain past client key number =
    plain.lasts past client key && (nat_lt (plain.through past client key) number && nat_le number (length (plain.made past client key)))

-- the replies to the client's calls of a history, each with its call's number
abbrev pub answers_in : Plain → ℕ → List Entry → List (ℕ × Reply)
answers_in plain client [] = []
answers_in plain client (Called caller number time call ∷ past) =
    if caller == client then (number, plain.reply past caller number time call) ∷ answers_in plain client past else answers_in plain client past
answers_in plain client (_ ∷ past) = answers_in plain client past

-- the id of a subscribing call, as the key that it gives a subscription and that id
abbrev pub subscribes : ℕ → Call → List (ℕ × ℕ)
subscribes number (NtfSubscribe id filters) = (number, id) ∷ []
subscribes number _ = []

-- every subscription that was ever asked for by these calls, as key and id
abbrev pub asked_for : List (ℕ × Call) → List (ℕ × ℕ)
asked_for [] = []
asked_for (sent ∷ calls) = subscribes sent.0 sent.1 ++ asked_for calls

-- the subscriptions that a call leaves of those asked for: a finalisation ends all, an unsubscription those of its id
abbrev pub subscribed_after : ℕ → Call → List (ℕ × ℕ) → List (ℕ × ℕ)
subscribed_after number (NtfSubscribe id filters) subscriptions = (number, id) ∷ subscriptions
subscribed_after number (NtfUnsubscribe id) subscriptions = without (λ subscription. subscription.1 == id) subscriptions
subscribed_after number NtfFini subscriptions = []
subscribed_after number _ subscriptions = subscriptions

-- the subscriptions that were asked for and not given up since, as key and id
abbrev pub subscribed : List (ℕ × Call) → List (ℕ × ℕ)
subscribed [] = []
subscribed (sent ∷ calls) = subscribed_after sent.0 sent.1 (subscribed calls)

-- an item of its number was made of the subscription
abbrev pub IsMade : Plain → List Entry → ℕ → ℕ → ℕ → Content → Type 0
IsMade plain past client key number content =
    (before : ℕ) × (number ≡ suc before) × (slice_get (plain.made past client key) before ≡ Some content)

-- a message is an item without receipt that was made for a subscription that stands
abbrev pub IsHeldItem : Plain → List Entry → Message → Type 0
IsHeldItem plain past (Delivery client key item) =
    (plain.lasts past client key ≡ true) × (plain.through past client key < item.number) × IsMade plain past client key item.number item.content
IsHeldItem plain past _ = ⊥

-- what the cluster asks of a service
pub record IsPlain (plain : Plain) : Type 0 where
  -- messages of one spelling are equal
  pub same_is : (one other : Message) → plain.same one other ≡ true → one ≡ other
  pub same_self : (message : Message) → plain.same message message ≡ true
  -- items that were made stay
  pub grows : (entry : Entry) (past : List Entry) (client key : ℕ) → (more : List Content)
      × (plain.made (entry ∷ past) client key ≡ plain.made past client key ++ more)
  -- a subscription goes on by receipts alone
  pub begins : (client key : ℕ) → plain.through [] client key ≡ 0
  pub moves : (entry : Entry) (past : List Entry) (client key : ℕ) → (plain.through (entry ∷ past) client key ≡ plain.through past client key)
      ⊎ (message_of entry ≡ Receipt client key (plain.through (entry ∷ past) client key))
  pub received : (past : List Entry) (client key number : ℕ) (time : ℤ) → is_new plain past client key number ≡ true
      → plain.through (Receipted client key number time ∷ past) client key ≡ number
  -- a subscription that stands was asked for, not given up and not refused
  pub lasting : (past : List Entry) (client key : ℕ) → IsNumbered (calls_in client past) → plain.lasts past client key ≡ true → (id : ℕ)
      × Stands (key, id) (subscribed (calls_in client past)) × ((status : Status) → Stands (key, Refused status) (answers_in plain client past) → ⊥)
  -- the items held are those made, and the first without receipt is among them
  pub held_of : (past : List Entry) → AllByRecursion (IsHeldItem plain past) (plain.held past)
  pub held_first : (past : List Entry) (client key : ℕ) (content : Content) → plain.lasts past client key ≡ true
      → slice_get (plain.made past client key) (plain.through past client key) ≡ Some content
      → Stands (Delivery client key (record { number = suc (plain.through past client key); content = content })) (plain.held past)
