-- Words of public clauses: the first message on the way joins the journal.
use Rattle.std.specs.Prelude.{◌≡◌, ℕ, Option, Some, None, List, [], ◌∷◌, ◌++◌, Result, IsOk}
use Rattle.disk_model.specs.Seen.{DiskSeen}
use Rattle.disk_model.specs.declared.answers.DiskAnswer.{DiskAnswer}
use Rattle.wire.specs.declared.message.Message.{Message}
use Rattle.wire.specs.declared.message.Message.TheVariants.{MirrorAck}
use Rattle.wire.specs.MessageSpelling.{message_text}
use Rattle.journal_frames.specs.Frames.{append_calls}
use Rattle.journal_found.specs.Found.{CanJoin}
use Rattle.journal_start.specs.Journals.{PerformsOrLacks, pushed}
use Rattle.lone_server.specs.declared.lone.Lone.{Lone}

-- it joined, or there was none
pub record JoinsFirst (message : Message) (old new : Lone) : Type 0 where
  pub rest : List Message
  pub first : old.link ≡ message ∷ rest
  pub is : new ≡ record old { journal = pushed (message_text message) old.journal; link = rest }
  pub can : CanJoin message

abbrev pub AppendsFirst : Option Message → Lone → Lone → Type 0
AppendsFirst None old new = (old.link ≡ []) × (new ≡ old)
AppendsFirst (Some message) old new = JoinsFirst message old new

-- the first message is on the way no more, and the journal's field is as it was
pub record LosesFirst (old new : Lone) : Type 0 where
  pub message : Message
  pub rest : List Message
  pub first : old.link ≡ message ∷ rest
  pub is : new ≡ record old { link = rest }

-- the calls of its append are made, or memory ran out before the first; where nothing is on the way none is made
abbrev pub AppendsCalls : {T : Type 0} → List Message → ℕ → Result T DiskAnswer → DiskSeen → DiskSeen → Type 0
AppendsCalls [] end result held left = IsOk result × (left ≡ held)
AppendsCalls (message ∷ link) end result held left =
    PerformsOrLacks (append_calls end (message_text message)) result held.files left.files held.tally left.tally

-- the first message on the way can stand in the journal
abbrev pub FirstCanJoin : List Message → Type 0
FirstCanJoin [] = ⊥
FirstCanJoin (message ∷ link) = CanJoin message

-- that the entry of this number joined is on the way back
abbrev pub confirmed_by : ℕ → Lone → Lone
confirmed_by number servers = record {
  node = servers.node;
  journal = servers.journal;
  link = servers.link;
  back = servers.back ++ MirrorAck number ∷ [];
  armed = servers.armed;
}
