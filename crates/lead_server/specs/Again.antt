-- Words of bodies alone: a message to which the active server answers as it did before.
use Rattle.std.specs.Prelude.{ℤ, Bool, false, Option, Some, None, List, [], ◌∷◌, ℕ, zero, suc}
use Rattle.std.specs.Str.{bytes_eq}
use Rattle.calls.specs.declared.reply.Reply.{Reply}
use Rattle.calls.specs.declared.saved.Saved.{Saved}
use Rattle.wire.specs.declared.message.Message.{Message}
use Rattle.wire.specs.declared.message.Message.TheVariants.{Request, Reply as Answer}
use Rattle.wire.specs.MessageSpelling.{message_text}
use Rattle.message_net.specs.Nets.{bytes_at, front_of, newest_with}
use Rattle.cluster_clients.specs.Posted.{PostsAll}
use Rattle.mirror.specs.declared.state.NodeState.{NodeState as Node}
use Rattle.mirror.specs.ByValue.{reply_again}
use Rattle.mirror.specs.Hearing.{repeated}
use Rattle.mirror.specs.Pairing.{IsHeard}

-- the string at a place of the net, if there is one
abbrev pub string_at : Option ℕ → List (List ℕ) → Option (List ℕ)
string_at None net = None
string_at (Some place) net = bytes_at place net

-- the newest string of the net with this front
abbrev pub newest_like : ℕ → List (List ℕ) → Option (List ℕ)
newest_like front net = string_at (newest_with front net) net

-- what was found is this text
abbrev pub is_text : Option (List ℕ) → List ℕ → Bool
is_text None text = false
is_text (Some known) text = bytes_eq known text

-- a message is the newest of the net among those that begin as it does
abbrev pub is_newest : Message → List (List ℕ) → Bool
is_newest message net = is_text (newest_like (front_of (message_text message)) net) (message_text message)

-- the reply that a call of this number gets again, by a value of the service; none has the number 0
abbrev pub reply_to : Saved → (client number : ℕ) → Option Reply
reply_to saved client zero = None
reply_to saved client (suc number) = reply_again saved client (suc number)

-- it gets one again, which is the newest of the net to it
abbrev pub is_reply : (client number : ℕ) → Option Reply → List (List ℕ) → Bool
is_reply client number None net = false
is_reply client number (Some reply) net = is_newest (Answer client number reply) net

-- a message is a call that the net answers as the server would
abbrev pub is_answered : Saved → Message → List (List ℕ) → Bool
is_answered saved (Request client number call) net = is_reply client number (reply_to saved client number) net
is_answered saved _ net = false

-- to post it changes nothing, and no line tells of it
abbrev pub IsPosted : Message → List (List ℕ) → Type 0
IsPosted answer net = (lines : List (List ℕ)) → PostsAll (answer ∷ []) net net lines lines

-- at any moment this is posted again, and nothing else changes
abbrev pub AnswersAs : Message → Node → Message → Type 0
AnswersAs message active answer = (now : ℤ) → IsHeard message now active (repeated answer) active

-- and the net has it
abbrev pub IsAnswered : Message → Node → List (List ℕ) → Type 0
IsAnswered message active net = (answer : Message) × AnswersAs message active answer × IsPosted answer net
