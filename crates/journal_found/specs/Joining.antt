-- Words of laws: an entry joins the journal of the history before it, and where that breaks off.
use Rattle.std.specs.Prelude.{◌≡◌, ◌⊎◌, ℕ, List, ◌∷◌, length, Some}
use Rattle.std.specs.FinMap.{get}
use Rattle.disk_model.specs.Disk.{File, Files}
use Rattle.disk_model.specs.DeviceCalls.{DeviceCall}
use Rattle.disk_model.specs.declared.answers.DiskAnswer.{DiskAnswer}
use Rattle.calls.specs.declared.entry.Entry.{Entry}
use Rattle.wire.specs.MessageSpelling.{message_text}
use Rattle.plain_service.specs.Legal.{IsHistory}
use Rattle.plain_service.specs.Setups.{Setup}
use Rattle.journal_frames.specs.Frames.{AreShort, append_calls, framed, journal_name}
use Rattle.journal_frames.specs.Staging.{AppendBreaks, HasStaged}
use Rattle.journal_found.specs.Found.{AllFit, CanJoin, Follower, Found, JournalOf, follower_of, messages_of, next_message, texts_of}

-- the calls by which an entry joins the journal of the history before it
abbrev pub calls_of_next : Setup → List Entry → Entry → List DeviceCall
calls_of_next setup past entry =
    append_calls (length (framed (texts_of (messages_of setup past)))) (message_text (next_message past entry))

-- they broke off: so many of them were done, and the next one gave an answer
abbrev pub NextBreaks : Setup → List Entry → Entry → Files → Files → Type 0
NextBreaks setup past entry old new =
    (answer : DiskAnswer) × (count : ℕ)
    × AppendBreaks (texts_of (messages_of setup past)) (message_text (next_message past entry)) answer count old new

-- the journal of a history that its next entry was to join, wherever that broke off
pub record JournalStaged (setup : Setup) (past : List Entry) (entry : Entry) (files : Files) : Type 0 where
  pub fits : AllFit (messages_of setup past)
  pub short : AreShort (texts_of (messages_of setup past))
  pub joins : CanJoin (next_message past entry)
  pub has : HasStaged (texts_of (messages_of setup past)) (message_text (next_message past entry)) files

-- the journal's file
abbrev pub IsFile : File → Files → Type 0
IsFile file files = get files journal_name ≡ Some file

-- what is found is a history: its entries, the server that followed them, and its messages
pub record IsHistoryFound {bytes : List ℕ} {late : List Entry} {follower : Follower} (setup : Setup) (past : List Entry)
    (found : Found bytes late follower) : Type 0 where
  pub entries : late ≡ past
  pub server : follower ≡ follower_of setup past
  pub messages : found.messages ≡ messages_of setup past

-- in the file of a history's journal that history is found
abbrev pub JournalTells : Setup → List Entry → Type 0
JournalTells setup past =
    (late : List Entry) (files : Files) (file : File) (follower : Follower) (found : Found file.bytes late follower)
    → IsHistory setup past → JournalOf setup past files → IsFile file files → IsHistoryFound setup past found

-- in the file of one that the next entry was to join, that history or the one with the entry
abbrev pub StagedTells : Setup → List Entry → Entry → Type 0
StagedTells setup past entry =
    (late : List Entry) (files : Files) (file : File) (follower : Follower) (found : Found file.bytes late follower)
    → IsHistory setup (entry ∷ past) → JournalStaged setup past entry files → IsFile file files
    → IsHistoryFound setup past found ⊎ IsHistoryFound setup (entry ∷ past) found
