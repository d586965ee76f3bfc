-- Words of public clauses: what a run's lines and its world promise, each sentence by itself. `told` are all lines printed, the last first.
use Rattle.std.specs.Prelude.{◌≡◌, ℕ, ℤ, List, [], ◌∷◌, ◌++◌}
use Rattle.std.specs.List.{AllByRecursion}
use Rattle.cluster_facts.specs.Types.{Call, ReaderRead, Reply, Entry, Called}
use Rattle.cluster_facts.specs.Lists.{Stands, EndsIn}
use Rattle.cluster_facts.specs.Messages.{sent_by, receipts_of, calls_in, messages_in}
use Rattle.cluster_facts.specs.Service.{Plain}
use Rattle.cluster_facts.specs.Agents.{fed_of}
use Rattle.cluster_facts.specs.History.{IsLegal, committed}
use Rattle.cluster_facts.specs.World.{World}
use Rattle.cluster_events.specs.Lines.{Told}
use Rattle.cluster_events.specs.Taking.{items_in, taken_of, AreFirstItems}
use Rattle.cluster_events.specs.Saying.{Grows, IsOnce, entries_told, posts_told, replies_told, deals_told, callbacks_told, called_back, of_replies}

-- a list is what these lines print, in order, with the numbers 1, 2, 3 and so on
abbrev pub Prints : {X : Type 0} → List X → List (ℕ × X) → Type 0
Prints xs lines = Grows [] xs lines

-- one history: it is legal, and its entries are those of the `acc` lines, in order
pub record OneHistory (plain : Plain) (world : World) (told : List Told) : Type 0 where
  pub legal : IsLegal plain world.now (committed world.core)
  pub printed : Prints (committed world.core) (entries_told told)

-- each client's calls stand in the history in their order: they are the first of those that it sent
abbrev pub InOrder : World → Type 0
InOrder world = (client : ℕ) → EndsIn (sent_by client (messages_in world.net)) (calls_in client (committed world.core))

-- the `post` lines are the byte strings of the net, in order
abbrev pub PostsPrinted : World → List Told → Type 0
PostsPrinted world told = Prints world.net (posts_told told)

-- a client's call of this number stands in the history, and this reply is the plain service's to it after the entries before it
pub record IsAnswered (plain : Plain) (past : List Entry) (client : ℕ) (deal : ℕ × Call × Reply) : Type 0 where
  pub later : List Entry
  pub earlier : List Entry
  pub time : ℤ
  pub stands : past ≡ later ++ Called client deal.0 time deal.1 ∷ earlier
  pub reply : deal.2 ≡ plain.reply earlier client deal.0 time deal.1

-- each `reply` line tells the plain service's answer on the history, and each call has at most one
pub record RepliesRight (plain : Plain) (world : World) (told : List Told) : Type 0 where
  pub once : (client : ℕ) → IsOnce (replies_told client told)
  pub right : (client : ℕ) → AllByRecursion (IsAnswered plain world.core.answered client) (deals_told client told)

-- so does each line that replies to a reader's read
abbrev pub ReadersRight : Plain → World → List Told → Type 0
ReadersRight plain world told =
    (client number direction : ℕ) (reply : Reply) → Stands (number, ReaderRead direction, reply) (deals_told client told)
    → IsAnswered plain world.core.answered client (number, ReaderRead direction, reply)

-- the `callback` lines of a client are the callbacks handed out to it, each once, by number
abbrev pub CallbacksPrinted : World → List Told → Type 0
CallbacksPrinted world told = (client : ℕ) → Prints (world.agents client).handed (callbacks_told client told)

-- of each subscription a client got its first items, in order, each once
abbrev pub ItemsInOrder : Plain → World → Type 0
ItemsInOrder plain world =
    (client key : ℕ) → AreFirstItems plain world.core.answered (sent_by client (messages_in world.net)) client key
    (taken_of key (receipts_of client (messages_in world.net)) (items_in (fed_of (world.agents client))))

-- the callbacks of replies that a client got are, in order, those that its `reply` lines give: one where the mark that it is told sets
-- the last one of its stream to another mask, and else one for a write that asked for it
abbrev pub RepliesCalledBack : World → List Told → Type 0
RepliesCalledBack world told = (client : ℕ) → of_replies (fed_of (world.agents client)) ≡ called_back client [] told

-- what holds at the end of each line of a run
pub record AtEnd (plain : Plain) (world : World) (told : List Told) : Type 0 where
  pub history : OneHistory plain world told
  pub order : InOrder world
  pub posts : PostsPrinted world told
  pub replies : RepliesRight plain world told
  pub readers : ReadersRight plain world told
  pub callbacks : CallbacksPrinted world told
  pub items : ItemsInOrder plain world
  pub called : RepliesCalledBack world told
