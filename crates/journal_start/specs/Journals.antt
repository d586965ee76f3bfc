-- Words of public clauses: a journal that is made, and one that a message joins.
use Rattle.std.specs.Prelude.{◌≡◌, ◌⊎◌, ◌+◌, ℕ, List, length, Option, Result, IsErrOf}
use Rattle.disk_model.specs.Disk.{Files}
use Rattle.disk_model.specs.DeviceCalls.{DeviceCall, Performs}
use Rattle.disk_model.specs.declared.answers.DiskAnswer.{DiskAnswer}
use Rattle.disk_model.specs.declared.answers.DiskAnswer.TheVariants.{Memory}
use Rattle.disk_model.specs.declared.tally.Tally.{Tally}
use Rattle.wire.specs.declared.message.Message.{Message}
use Rattle.wire.specs.MessageSpelling.{message_text, MessageFits}
use Rattle.journal_frames.specs.Frames.{behind_gate, IsShort}
use Rattle.journal_start.specs.declared.journal.Journal.{Journal}

-- the place of the closed gate of a journal of one text, and where one more joins
abbrev pub made_of : List ℕ → Journal
made_of text = record { end = 5 + length text; number = 0 }

abbrev pub longer_by : ℕ → Journal → Journal
longer_by size journal = record { end = journal.end + size; number = journal.number + 1 }

abbrev pub pushed : List ℕ → Journal → Journal
pushed text journal = longer_by (5 + length text) journal

-- the calls were made, or memory ran out before the first
abbrev pub PerformsOrLacks : {T : Type 0} → List DeviceCall → Result T DiskAnswer → Option Files → Option Files → Tally → Tally → Type 0
PerformsOrLacks calls result old new before after =
    (IsErrOf result Memory × (new ≡ old) × (after ≡ before)) ⊎ Performs calls result old new before after

-- Words of bodies alone: what is put behind the closed gate for a message.
pub record Spelled (message : Message) (bytes : List ℕ) : Type 0 where
  pub fits : MessageFits message
  pub short : IsShort (message_text message)
  pub is : bytes ≡ behind_gate (message_text message)
