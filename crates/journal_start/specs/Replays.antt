-- Words of public clauses: what a server that follows a journal's bytes comes to.
use Rattle.std.specs.Prelude.{◌≡◌, ◌≢◌, ◌<◌, ◌≤◌, ◌+◌, ◌-◌, ℕ, Bool, true, false, Option, Some, None, List, [], ◌∷◌, ◌++◌, length, reverse, Result, Ok, Err}
use Rattle.calls.specs.declared.entry.Entry.{Entry}
use Rattle.wire.specs.declared.message.Message.{Message}
use Rattle.wire.specs.declared.message.Message.TheVariants.{Mirror, Snapshot}
use Rattle.wire.specs.Messages.{Spells}
use Rattle.mirror.specs.declared.state.NodeState.{NodeState as Node}
use Rattle.mirror.specs.declared.heard.Role.TheVariants.{Standby}
use Rattle.mirror.specs.Replicas.{started}
use Rattle.mirror.specs.Pairing.{alone, joining, Admits}
use Rattle.std.specs.Option.{option_to_list}
use Rattle.journal_frames.specs.Frames.{AreShort, framed}
use Rattle.journal_found.specs.Found.{texts_of, is_journal, AllFit, Chain, CanCome, follower_after, Follower, RefusedAt}
use Rattle.journal_start.specs.declared.replaying.Replayed.{Replayed}
use Rattle.journal_start.specs.declared.replaying.ReplayAnswer.{ReplayAnswer}
use Rattle.journal_start.specs.declared.replaying.ReplayAnswer.TheVariants.{Memory, NoJournal, Refused}

-- the server that follows
abbrev pub node_of : Option Follower → Node
node_of None = alone joining
node_of (Some follower) = record (alone (started Standby follower.saved)) { kept = follower.kept }

-- the entries of a message, in order
abbrev pub entries_in : Message → List Entry
entries_in (Mirror number entry) = entry ∷ []
entries_in _ = []

-- how many entries a service has behind a message
abbrev pub number_behind : Message → ℕ
number_behind (Snapshot saved) = saved.number
number_behind (Mirror number entry) = number
number_behind _ = 0

-- a text was followed, or it is that of no message that may come
abbrev pub FollowsText : Bool → List ℕ → Option Follower → Node → List Entry → List Entry → ℕ → Type 0
FollowsText true text follower node before after number =
    (message : Message)
    × Spells message text
    × CanCome message follower
    × (node ≡ node_of (follower_after message follower))
    × (after ≡ before ++ entries_in message)
    × (number ≡ number_behind message)
FollowsText false text follower node before after number = (message : Message) → Spells message text → CanCome message follower → ⊥

-- Words of bodies alone: the steps by which a text is followed. They are records, so that nothing takes them apart unasked.

-- the message of a text that the server admits, or there is none
pub record ReadsSome (text : List ℕ) (node : Node) (message : Message) : Type 0 where
  pub spells : Spells message text
  pub admits : Admits message node

pub record ReadsNone (text : List ℕ) (node : Node) : Type 0 where
  pub none : (message : Message) → Spells message text → Admits message node → ⊥

abbrev pub ReadsNext : List ℕ → Node → Option Message → Type 0
ReadsNext text node None = ReadsNone text node
ReadsNext text node (Some message) = ReadsSome text node message

-- the server received a message
pub record IsTaken (message : Message) (old new : Node) (entry : Option Entry) : Type 0 where
  pub taken : (follower : Option Follower) → old ≡ node_of follower
      → (new ≡ node_of (follower_after message follower)) × (option_to_list entry ≡ entries_in message)

-- a text was followed, or it was not
pub record HasFollowed (known : Bool) (text : List ℕ) (old new : Node) (before after : List Entry) (number : ℕ) : Type 0 where
  pub followed : (follower : Option Follower) → old ≡ node_of follower → FollowsText known text follower new before after number

-- the bytes are those of messages that come one behind the other, and these bytes behind them
pub record Followed (bytes rest : List ℕ) (place : ℕ) (entries : List Entry) (follower : Option Follower) : Type 0 where
  pub messages : List Message
  pub past : List Entry
  pub fits : AllFit messages
  pub short : AreShort (texts_of messages)
  pub chain : Chain messages past follower
  pub is : bytes ≡ framed (texts_of messages) ++ rest
  pub at : place ≡ length (framed (texts_of messages))
  pub entries_are : entries ≡ reverse past

-- what is so of a server as it follows
pub record Following (bytes rest : List ℕ) (place number : ℕ) (entries : List Entry) (node : Node) : Type 0 where
  pub follower : Option Follower
  pub followed : Followed bytes rest place entries follower
  pub node_is : node ≡ node_of follower
  pub number_is : (f : Follower) → follower ≡ Some f → number ≡ f.saved.number

-- the byte at the front
abbrev pub first_byte : List ℕ → ℕ
first_byte [] = 0
first_byte (byte ∷ bytes) = byte

-- a frame was passed, or its gate is refused
pub record Passed (rest behind : List ℕ) (old new : Node) (before after : List Entry) (count number : ℕ) : Type 0 where
  pub some : 1 ≤ length behind
  pub fewer : length behind < length rest
  pub on : (bytes : List ℕ) (place : ℕ) → Following bytes rest place count before old
      → Following bytes behind (place + (length rest - length behind)) number after new

pub record PassedNot (rest : List ℕ) (old : Node) (before : List Entry) (count : ℕ) : Type 0 where
  pub refused : (bytes : List ℕ) (place : ℕ) → is_journal bytes ≡ true → Following bytes rest place count before old
      → first_byte rest ≡ 1 → RefusedAt bytes place

abbrev pub PassesAs : Option (List ℕ) → List ℕ → Node → Node → List Entry → List Entry → ℕ → ℕ → Type 0
PassesAs None rest old new before after count number = PassedNot rest old before count
PassesAs (Some behind) rest old new before after count number = Passed rest behind old new before after count number

-- all open gates were passed
pub record ReadWhole (bytes : List ℕ) (read : Replayed) : Type 0 where
  pub follower : Follower
  pub gate : ℕ
  pub behind : List ℕ
  pub followed : Followed bytes (gate ∷ behind) read.place read.entries (Some follower)
  pub node : read.node ≡ node_of (Some follower)
  pub number : read.number ≡ follower.saved.number
  pub shut : gate ≢ 1
  pub is_closed : read.closed ≡ true → gate ≡ 0
  pub is_torn : read.closed ≡ false → gate ≢ 0

-- what bytes were read as: each answer says what the bytes hold, of which only one can be so
abbrev pub IsRead : List ℕ → Result Replayed ReplayAnswer → Type 0
IsRead bytes (Ok read) = ReadWhole bytes read
IsRead bytes (Err Memory) = Unit {0}
IsRead bytes (Err NoJournal) = is_journal bytes ≡ false
IsRead bytes (Err (Refused place)) = RefusedAt bytes place
