-- Words of public clauses: the entry that is first on the way joins the journal, and so is committed; or the server goes down in that.
use Rattle.std.specs.Prelude.{◌≡◌, ◌⊎◌, ℕ, Bool, true, false, Option, Some, None, is_some, List, [], ◌∷◌, ◌++◌, Result, Ok, Err}
use Rattle.disk_model.specs.Seen.{DiskSeen}
use Rattle.disk_model.specs.declared.answers.DiskAnswer.{DiskAnswer}
use Rattle.disk_model.specs.declared.answers.DiskAnswer.TheVariants.{Memory, Failed, Stopped}
use Rattle.script_lines.specs.declared.line.Server.TheVariants.{A}
use Rattle.calls.specs.declared.entry.Entry.{Entry}
use Rattle.wire.specs.declared.message.Message.{Message}
use Rattle.wire.specs.MessageSpelling.{message_text}
use Rattle.wire.specs.Mirrored.{entry_in}
use Rattle.cluster_events.specs.declared.lines.ServerRole.TheVariants.{Down}
use Rattle.event_text.specs.Texts.{server_line}
use Rattle.lead_server.specs.Told.{Commits}
use Rattle.journal_found.specs.Found.{CanJoin}
use Rattle.journal_start.specs.Journals.{pushed}
use Rattle.lone_server.specs.declared.lone.Lone.{Lone}
use Rattle.lone_server.specs.Appends.{AppendsCalls, FirstCanJoin, JoinsFirst, LosesFirst, confirmed_by}
use Rattle.lone_server.specs.Falls.{downed, unarmed}

-- the entry that joined is committed, and that it joined is on the way back; a message without one, which is never on the way, changes
-- nothing
abbrev pub CommitsJoined : Option (ℕ × Entry) → Lone → Lone → List Entry → List Entry → List (List ℕ) → List (List ℕ) → Type 0
CommitsJoined None old new past entries before after = (new ≡ old) × (entries ≡ past) × (after ≡ before)
CommitsJoined (Some found) old new past entries before after =
    (new ≡ confirmed_by found.0 old) × Commits (Some found.1) past entries before after

-- it is committed or not
abbrev pub CommitsOrNot : Option (ℕ × Entry) → List Entry → List Entry → Type 0
CommitsOrNot None past entries = entries ≡ past
CommitsOrNot (Some found) past entries = (entries ≡ past) ⊎ (entries ≡ found.1 ∷ past)

-- the first message joined the journal
pub record JoinsOne (old new : Lone) (past entries : List Entry) (before after : List (List ℕ)) : Type 0 where
  pub message : Message
  pub rest : List Message
  pub first : old.link ≡ message ∷ rest
  pub can : CanJoin message
  pub commits : CommitsJoined (entry_in message)
      (record old { journal = pushed (message_text message) old.journal; link = rest }) new past entries before after

-- there was one, or none
abbrev pub Joins : Bool → Lone → Lone → List Entry → List Entry → List (List ℕ) → List (List ℕ) → Type 0
Joins true old new past entries before after = JoinsOne old new past entries before after
Joins false old new past entries before after = (old.link ≡ []) × (new ≡ old) × (entries ≡ past) × (after ≡ before)

-- of the messages on the way the first one is committed or not
abbrev pub FirstOrNot : List Message → List Entry → List Entry → Type 0
FirstOrNot [] past entries = entries ≡ past
FirstOrNot (message ∷ rest) past entries = CommitsOrNot (entry_in message) past entries

-- the message for which the disk was asked can stand in the journal
abbrev pub CanJoinBy : Result (Option Message) DiskAnswer → List Message → DiskSeen → DiskSeen → Type 0
CanJoinBy (Ok None) link held left = Unit {0}
CanJoinBy (Ok (Some message)) link held left = FirstCanJoin link
CanJoinBy (Err answer) link held left = (left ≡ held) ⊎ FirstCanJoin link

-- no entry is committed where the append was not done
abbrev pub KeepsOrNot : {T : Type 0} → Result T DiskAnswer → List Message → List Entry → List Entry → Type 0
KeepsOrNot (Ok done) link past entries = FirstOrNot link past entries
KeepsOrNot (Err answer) link past entries = entries ≡ past

-- memory ran out, by how far the append came: it was not begun, and all stays; or it was not done, and the message is lost; or it was done, the
-- message is not on the way back, and its entry is committed or not
abbrev pub JoinLacks : Lone → Lone → List Entry → List Entry → DiskSeen → DiskSeen → Type 0
JoinLacks old new past entries held left =
    ((new ≡ old) × (entries ≡ past) × (left ≡ held))
    ⊎ (LosesFirst old new × (entries ≡ past) × AppendsCalls {T = Option Message} old.link old.journal.end (Err Memory) held left)
    ⊎ ((message : Message) × JoinsFirst message old new × CommitsOrNot (entry_in message) past entries
    × AppendsCalls old.link old.journal.end (Ok (Some message)) held left)

-- what is left where it broke off, by the answer: where the journal's disk stopped or had a fault the server is down, which is told
abbrev pub JoinBreaks : DiskAnswer → Lone → Lone → List Entry → List Entry → List (List ℕ) → List (List ℕ) → DiskSeen → DiskSeen → Type 0
JoinBreaks Memory old new past entries before after held left = JoinLacks old new past entries held left
JoinBreaks _ old new past entries before after held left =
    (new ≡ downed old) × (entries ≡ past) × (after ≡ before ++ server_line A Down ∷ [])

-- how the append ended that it did: memory may run out behind one that is done
abbrev pub EndsWith : Result Bool DiskAnswer → Result (Option Message) DiskAnswer → Type 0
EndsWith (Ok went) (Ok found) = went ≡ is_some found
EndsWith (Err Memory) (Ok found) = is_some found ≡ true
EndsWith (Err Memory) (Err Memory) = Unit {0}
EndsWith (Err Failed) (Err Failed) = Unit {0}
EndsWith (Err Stopped) (Err Stopped) = Unit {0}
EndsWith _ _ = ⊥

-- a disk as it is left: not armed where the server is down
abbrev pub left_by : {T : Type 0} → Result T DiskAnswer → DiskSeen → DiskSeen
left_by (Ok done) seen = seen
left_by (Err Memory) seen = seen
left_by (Err _) seen = unarmed seen

-- what it did to the disks: an append to the journal's. The history is as it was where that was not done
pub record JoinsOver (link : List Message) (end : ℕ) (past entries : List Entry) (result : Result Bool DiskAnswer)
    (first first_left held left : DiskSeen) : Type 0 where
  pub appended : Result (Option Message) DiskAnswer
  pub mid : DiskSeen
  pub calls : AppendsCalls link end appended held mid
  pub joins : CanJoinBy appended link held mid
  pub ends : EndsWith result appended
  pub history : KeepsOrNot appended link past entries
  pub journal : left ≡ left_by appended mid
  pub disk : first_left ≡ left_by appended first
