-- Words of public clauses: the journal of a history, and what is found in a journal's bytes.
use Rattle.std.specs.Prelude.{◌≡◌, ◌⊎◌, ℕ, suc, Bool, true, false, ◌==◌, Option, Some, None, List, [], ◌∷◌, ◌++◌, length, map}
use Rattle.std.specs.List.{AllByRecursion}
use Rattle.disk_model.specs.Disk.{Files}
use Rattle.calls.specs.declared.entry.Entry.{Entry}
use Rattle.calls.specs.declared.saved.Saved.{Saved}
use Rattle.stream_layout.specs.declared.deed.Deed.{Deed}
use Rattle.wire.specs.declared.message.Message.{Message}
use Rattle.wire.specs.declared.message.Message.TheVariants.{Snapshot, Mirror}
use Rattle.wire.specs.MessageSpelling.{message_text, MessageFits}
use Rattle.plain_service.specs.Fitness.{IsFit}
use Rattle.plain_service.specs.Setups.{Setup}
use Rattle.plain_service.specs.Storing.{deeds_of}
use Rattle.plain_service.specs.Values.{saved_of}
use Rattle.service_core.specs.Applying.{CanApply}
use Rattle.service_core.specs.Valuing.{value_after, deeds_by_value}
use Rattle.journal_frames.specs.Frames.{HasFile, HasJournal, Holds, IsShort, AreShort, frame, framed, journal_name}

-- The journal of a history.

-- the message by which an entry joins the journal of the history before it
abbrev pub next_message : List Entry → Entry → Message
next_message past entry = Mirror (suc (length past)) entry

-- its messages: the opening's value, and the entries, numbered from 1
abbrev pub messages_of : Setup → List Entry → List Message
messages_of setup [] = Snapshot (saved_of setup []) ∷ []
messages_of setup (entry ∷ past) = messages_of setup past ++ next_message past entry ∷ []

abbrev pub texts_of : List Message → List (List ℕ)
texts_of messages = map message_text messages

abbrev pub AllFit : List Message → Type 0
AllFit messages = AllByRecursion MessageFits messages

-- a message can stand in a frame: it has a spelling, which is not too long
abbrev pub CanJoin : Message → Type 0
CanJoin message = MessageFits message × IsShort (message_text message)

-- the disk has the journal of a history, and nothing of it is loose
pub record JournalOf (setup : Setup) (past : List Entry) (files : Files) : Type 0 where
  pub fits : AllFit (messages_of setup past)
  pub has : HasJournal (texts_of (messages_of setup past)) files

-- What a journal tells, message by message.

-- a server that follows it: the value of its service, and the deeds of the last entry, if it applied one
pub record Follower : Type 0 where
  pub saved : Saved
  pub kept : Option (List Deed)

-- What may come next: at first a fit value, and then the entry of the next number, which can be applied.
abbrev pub CanCome : Message → Option Follower → Type 0
CanCome (Snapshot saved) None = IsFit saved
CanCome (Mirror number entry) (Some follower) = (number ≡ suc follower.saved.number) × CanApply entry follower.saved
CanCome _ _ = ⊥

-- the entries, the latest first, and the server after a message that may come
abbrev pub entries_after : Message → List Entry → List Entry
entries_after (Mirror number entry) past = entry ∷ past
entries_after _ past = past

abbrev pub follower_after : Message → Option Follower → Option Follower
follower_after (Snapshot saved) None = Some (record { saved = saved; kept = None })
follower_after (Mirror number entry) (Some follower) =
    Some (record { saved = value_after entry follower.saved; kept = Some (deeds_by_value entry follower.saved) })
follower_after _ follower = follower

-- messages each of which may come behind those before it, what they tell, and who follows them
pub data Chain : List Message → List Entry → Option Follower → Type 0 where
  starts : Chain [] [] None
  goes : {messages : List Message} {past : List Entry} {follower : Option Follower} → (message : Message)
      → Chain messages past follower → CanCome message follower
      → Chain (messages ++ message ∷ []) (entries_after message past) (follower_after message follower)

-- What bytes hold.

-- there is a journal: the first gate is open, and a byte stands behind it
abbrev pub is_journal : List ℕ → Bool
is_journal (gate ∷ next ∷ rest) = gate == 1
is_journal _ = false

-- these entries are found, and this server follows them: each open gate has its whole frame and a further byte, up to a gate that is not
-- open
pub record Found (bytes : List ℕ) (past : List Entry) (follower : Follower) : Type 0 where
  pub messages : List Message
  pub fits : AllFit messages
  pub chain : Chain messages past (Some follower)
  pub holds : Holds (texts_of messages) bytes

-- the open gate at this place has no whole frame with a further byte behind it, and it is the first such gate
pub record RefusedAt (bytes : List ℕ) (place : ℕ) : Type 0 where
  pub journal : is_journal bytes ≡ true
  pub messages : List Message
  pub past : List Entry
  pub follower : Option Follower
  pub fits : AllFit messages
  pub short : AreShort (texts_of messages)
  pub chain : Chain messages past follower
  pub rest : List ℕ
  pub is : bytes ≡ framed (texts_of messages) ++ 1 ∷ rest
  pub at : place ≡ length (framed (texts_of messages))
  pub none : (message : Message) (behind : List ℕ) → CanJoin message → CanCome message follower
      → 1 ∷ rest ≡ frame (message_text message) ++ behind → behind ≡ []

-- What is found where a history's next entry was to join.

-- the server that has followed a history
abbrev pub last_deeds : Setup → List Entry → Option (List Deed)
last_deeds setup [] = None
last_deeds setup (entry ∷ past) = Some (deeds_of setup past entry)

abbrev pub follower_of : Setup → List Entry → Follower
follower_of setup past = record { saved = saved_of setup past; kept = last_deeds setup past }

-- the history's entries are found, or those and one more
abbrev pub FindsOrOneMore : Setup → Entry → List Entry → Files → Type 0
FindsOrOneMore setup entry past files =
    HasFile journal_name
    (λ file. Found file.bytes past (follower_of setup past) ⊎ Found file.bytes (entry ∷ past) (follower_of setup (entry ∷ past))) files
