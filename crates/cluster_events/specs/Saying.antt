-- Words of public clauses: what the lines of events say of history, replies, callbacks and net.
use Rattle.std.specs.Prelude.{◌≡◌, ℕ, suc, ◌+◌, ◌<◌, ◌⊎◌, ◌==◌, if◌then◌else◌, None, List, [], ◌∷◌, ◌++◌, length}
use Rattle.std.specs.List.{AllByRecursion}
use Rattle.cluster_facts.specs.Types.{Call, Reply, Entry, Callback, Written, MaskSet, StreamName, Mark}
use Rattle.cluster_facts.specs.Lists.{Stands, EndsIn}
use Rattle.cluster_facts.specs.Messages.{Posting, Spelled, Raw}
use Rattle.cluster_facts.specs.Service.{Plain, answers_in}
use Rattle.cluster_facts.specs.Storage.{dealt_in}
use Rattle.cluster_facts.specs.Agents.{Agent, fed_of, kept_call, callbacks_of, told_mark, marks_with}
use Rattle.cluster_facts.specs.History.{committed}
use Rattle.cluster_facts.specs.World.{World}
use Rattle.cluster_events.specs.Lines.{Told, Posted, Injected, Committed, Replied, HandedOut}

-- what is read of each line, joined
abbrev pub gathered : {X : Type 0} → (Told → List X) → List Told → List X
gathered read [] = []
gathered read (line ∷ told) = read line ++ gathered read told

abbrev pub post_in : Told → List (ℕ × Posting)
post_in (Posted number message) = (number, Spelled message) ∷ []
post_in (Injected number bytes front why) = (number, Raw bytes front why) ∷ []
post_in _ = []

abbrev pub entry_in : Told → List (ℕ × Entry)
entry_in (Committed number entry) = (number, entry) ∷ []
entry_in _ = []

abbrev pub reply_in : ℕ → Told → List (ℕ × Reply)
reply_in client (Replied other number call reply) = if other == client then (number, reply) ∷ [] else []
reply_in client _ = []

abbrev pub deal_in : ℕ → Told → List (ℕ × Call × Reply)
deal_in client (Replied other number call reply) = if other == client then (number, call, reply) ∷ [] else []
deal_in client _ = []

abbrev pub callback_in : ℕ → Told → List (ℕ × Callback)
callback_in client (HandedOut other number callback) = if other == client then (number, callback) ∷ [] else []
callback_in client _ = []

-- the marks that a client has seen behind a line, and the callbacks that a line's reply gives it, from those seen before
abbrev pub mark_in : ℕ → Told → List (StreamName × Mark) → List (StreamName × Mark)
mark_in client (Replied other number call reply) marks = if other == client then marks_with (told_mark call reply) marks else marks
mark_in client _ marks = marks

abbrev pub called_in : ℕ → Told → List (StreamName × Mark) → List Callback
called_in client (Replied other number call reply) marks = if other == client then callbacks_of marks call reply else []
called_in client _ marks = []

-- the `post` lines, the `acc` lines, and the client's `reply` and `callback` lines, each with its number; the calls of the client's
-- `reply` lines with their numbers and replies
abbrev pub posts_told : List Told → List (ℕ × Posting)
posts_told told = gathered post_in told

abbrev pub entries_told : List Told → List (ℕ × Entry)
entries_told told = gathered entry_in told

abbrev pub replies_told : ℕ → List Told → List (ℕ × Reply)
replies_told client told = gathered (reply_in client) told

abbrev pub deals_told : ℕ → List Told → List (ℕ × Call × Reply)
deals_told client told = gathered (deal_in client) told

abbrev pub callbacks_told : ℕ → List Told → List (ℕ × Callback)
callbacks_told client told = gathered (callback_in client) told

-- the marks that a client has seen behind lines, and the callbacks that its replies gave, from the marks seen before each
abbrev pub marks_seen : ℕ → List (StreamName × Mark) → List Told → List (StreamName × Mark)
marks_seen client marks [] = marks
marks_seen client marks (line ∷ told) = mark_in client line (marks_seen client marks told)

abbrev pub called_back : ℕ → List (StreamName × Mark) → List Told → List Callback
called_back client marks [] = []
called_back client marks (line ∷ told) = called_in client line (marks_seen client marks told) ++ called_back client marks told

-- lines are numbered on from a start
abbrev pub IsNumberedFrom : {X : Type 0} → ℕ → List (ℕ × X) → Type 0
IsNumberedFrom start [] = Unit {0}
IsNumberedFrom start (x ∷ xs) = (x.0 ≡ suc (start + length xs)) × IsNumberedFrom start xs

abbrev pub seconds : {X : Type 0} → List (ℕ × X) → List X
seconds [] = []
seconds (x ∷ xs) = x.1 ∷ seconds xs

-- a list grew by what the lines tell, under the numbers that they tell
pub record Grows {X : Type 0} (old new : List X) (lines : List (ℕ × X)) : Type 0 where
  pub numbered : IsNumberedFrom (length old) lines
  pub grown : new ≡ seconds lines ++ old

-- the client's call of this number was sent, and its reply taken
pub record IsDone (agent : Agent) (number : ℕ) : Type 0 where
  pub sent : number < agent.next
  pub taken : kept_call number agent.kept ≡ None

-- no number stands twice
abbrev pub IsOnce : {X : Type 0} → List (ℕ × X) → Type 0
IsOnce [] = Unit {0}
IsOnce {X} (x ∷ xs) = AllByRecursion (λ (y : ℕ × X). (y.0 ≡ x.0) → ⊥) xs × IsOnce xs

-- one of these has this number
abbrev pub HasNumber : {X : Type 0} → ℕ → List (ℕ × X) → Type 0
HasNumber number [] = ⊥
HasNumber number (x ∷ xs) = (x.0 ≡ number) ⊎ HasNumber number xs

-- the reply lines of a client: each is of a call that was not done before and is done after, no others were done meanwhile, no two are of
-- one call, and each tells the service's reply
pub record TellsReplies (old new : Agent) (answers replies : List (ℕ × Reply)) : Type 0 where
  pub later : (number : ℕ) → IsDone old number → IsDone new number
  pub only : (number : ℕ) → IsDone new number → IsDone old number ⊎ HasNumber number replies
  pub fresh : AllByRecursion (λ (reply : ℕ × Reply). IsDone old reply.0 → ⊥) replies
  pub done : AllByRecursion (λ (reply : ℕ × Reply). IsDone new reply.0) replies
  pub once : IsOnce replies
  pub right : AllByRecursion (λ (reply : ℕ × Reply). Stands reply answers) replies

-- the callbacks of replies among a client's callbacks
abbrev pub of_reply : Callback → List Callback
of_reply (Written invocation status) = Written invocation status ∷ []
of_reply (MaskSet name mask written) = MaskSet name mask written ∷ []
of_reply _ = []

abbrev pub of_replies : List Callback → List Callback
of_replies [] = []
of_replies (callback ∷ callbacks) = of_reply callback ++ of_replies callbacks

-- what lines say of the worlds before and after them: the net grew by the `post` lines, the history by the `acc` lines, the
-- callbacks handed out by the `callback` lines; replies are told rightly; and the callbacks of replies came by `reply` lines, from the
-- marks seen before each
pub record Says (plain : Plain) (old new : World) (told : List Told) : Type 0 where
  pub posts : Grows old.net new.net (posts_told told)
  pub entries : Grows (committed old.core) (committed new.core) (entries_told told)
  pub answers : EndsIn new.core.answered old.core.answered
  pub replies : (client : ℕ) → TellsReplies (old.agents client) (new.agents client) (answers_in plain client new.core.answered) (replies_told client told)
  pub deals : (client : ℕ) → AllByRecursion (λ (deal : ℕ × Call × Reply). Stands deal (dealt_in plain client new.core.answered)) (deals_told client told)
  pub callbacks : (client : ℕ) → Grows (old.agents client).handed (new.agents client).handed (callbacks_told client told)
  pub marks : (client : ℕ) → (new.agents client).marks ≡ marks_seen client (old.agents client).marks told
  pub called : (client : ℕ)
      → of_replies (fed_of (new.agents client)) ≡ called_back client (old.agents client).marks told ++ of_replies (fed_of (old.agents client))
