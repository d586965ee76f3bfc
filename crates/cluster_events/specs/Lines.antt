-- Words of public clauses: the lines that events print.
use Rattle.std.specs.Prelude.{ℕ, Bool, true, false, List, [], ◌∷◌}
use Rattle.script_lines.specs.declared.line.Server.{Server}
use Rattle.script_lines.specs.declared.line.Server.TheVariants.{A, B, C}
pub use Rattle.cluster_events.specs.declared.lines.ServerRole.{ServerRole}
pub use Rattle.cluster_events.specs.declared.lines.Why.{Why}
pub use Rattle.cluster_events.specs.declared.lines.Standing.{Standing}
use Rattle.cluster_events.specs.declared.lines.Roles.{Roles}
use Rattle.cluster_events.specs.declared.lines.Roles.TheVariants.{Two, Three}
use Rattle.cluster_facts.specs.Types.{Call, Reply, Status, Entry, Callback, Message, Receipt, WireWhy}

-- a line
pub data Told : Type 0 where
  -- a message enters the net under this number
  Posted : (number : ℕ) (message : Message) → Told
  -- injected bytes that no message spells enter the net under this number; the front that they share with spellings, and what is
  -- wrong behind it, are not printed
  Injected : (number : ℕ) (bytes : List ℕ) (front : ℕ) (why : WireWhy) → Told
  -- the entry of this number is committed
  Committed : (number : ℕ) (entry : Entry) → Told
  -- a client's agent takes the reply to its call of this number; the call itself is not printed
  Replied : (client number : ℕ) (call : Call) (reply : Reply) → Told
  -- a client's agent refuses what is asked of it
  Declined : (client : ℕ) (status : Status) → Told
  -- a client's callback of this number is handed out; a dispatch handed out so many
  HandedOut : (client number : ℕ) (callback : Callback) → Told
  Dispatched : (client count : ℕ) → Told
  -- the delivered byte string of this number had no effect
  Ignored : (place : ℕ) (why : Why) → Told
  -- the event of a script's line of this text is refused
  Refused : (text : List ℕ) (standing : Standing) → Told
  -- a server's role
  Stood : (server : Server) (role : ServerRole) → Told
  -- a file and its length; a line of a file
  Listed : (name : List ℕ) (length : ℕ) → Told
  Shown : (text : List ℕ) → Told

-- whether the line is one on a message without effect
abbrev pub is_ignored : Told → Bool
is_ignored (Ignored place why) = true
is_ignored _ = false

-- whether the line tells that an entry was committed, a reply taken or an item taken, of which a receipt is posted
abbrev pub is_progress : Told → Bool
is_progress (Committed number entry) = true
is_progress (Replied client number call reply) = true
is_progress (Posted number (Receipt client key through)) = true
is_progress _ = false

-- the servers with their roles, in the order in which they are shown
abbrev pub listed_roles : Roles → List (Server × ServerRole)
listed_roles (Two a b) = (A, a) ∷ (B, b) ∷ []
listed_roles (Three a b c) = (A, a) ∷ (B, b) ∷ (C, c) ∷ []

-- a line for each of them, the last one in front
abbrev pub roles_told : List (Server × ServerRole) → List Told → List Told
roles_told [] told = told
roles_told (one ∷ others) told = roles_told others (Stood one.0 one.1 ∷ told)
