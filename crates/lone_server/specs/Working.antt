-- Words of public clauses: the entry in hand is worked, or the server goes down in that; and it hears what came back from the journal.
use Rattle.std.specs.Prelude.{◌≡◌, ◌⊎◌, ℕ, ℤ, Bool, true, false, List, [], ◌∷◌, ◌++◌, Result, Ok, Err}
use Rattle.std.specs.List.{AllByRecursion}
use Rattle.disk_model.specs.DeviceCalls.{DeviceCall, Performs}
use Rattle.disk_model.specs.Seen.{DiskSeen}
use Rattle.disk_model.specs.declared.answers.DiskAnswer.{DiskAnswer}
use Rattle.disk_model.specs.declared.answers.DiskAnswer.TheVariants.{Memory, Failed, Stopped}
use Rattle.stream_layout.specs.Deeds.{calls_of_all}
use Rattle.script_lines.specs.declared.line.Server.TheVariants.{A}
use Rattle.wire.specs.declared.message.Message.{Message}
use Rattle.cluster_events.specs.declared.lines.ServerRole.TheVariants.{Down}
use Rattle.cluster_clients.specs.Posted.{PostsAll, PostsSome}
use Rattle.event_text.specs.Texts.{server_line}
use Rattle.mirror.specs.declared.heard.Heard.{Heard}
use Rattle.mirror.specs.declared.state.NodeState.{NodeState}
use Rattle.mirror.specs.Pairing.{CanReceive, worked_out}
use Rattle.mirror.specs.Working.{deeds_in, replies_in}
use Rattle.lead_server.specs.Heard.{IsConfirmed}
use Rattle.journal_start.specs.Journals.{PerformsOrLacks}
use Rattle.lone_server.specs.declared.lone.Lone.{Lone}
use Rattle.lone_server.specs.Falls.{downed}
use Rattle.lone_server.specs.Joining.{left_by}

-- nothing is in hand any more
abbrev pub worked_lone : Lone → Lone
worked_lone servers = record servers { node = worked_out servers.node }

-- the deeds of what was in hand are done, and its reply is posted
pub record Works (old new : Lone) (old_net new_net before after : List (List ℕ)) : Type 0 where
  pub servers : new ≡ worked_lone old
  pub posts : PostsAll (replies_in old.node.replica.owed) old_net new_net before after

-- memory ran out, by how far the deeds came: they were not done, all stays, and they can be done again; or they were, and the reply was posted
-- or not
abbrev pub WorkLacks : Lone → Lone → List (List ℕ) → List (List ℕ) → DiskSeen → DiskSeen → Type 0
WorkLacks old new old_net new_net held left =
    let calls = calls_of_all (deeds_in old.node.replica.owed) in
    ((new ≡ old) × (new_net ≡ old_net) × PerformsOrLacks {T = Heard} calls (Err Memory) held.files left.files held.tally left.tally)
    ⊎ ((new ≡ worked_lone old) × PostsSome (replies_in old.node.replica.owed) old_net new_net
    × Performs {T = Unit {0}} calls (Ok tt) held.files left.files held.tally left.tally)

-- what is left where it broke off, by the answer: where the record disk stopped or had a fault the server is down, which is told
abbrev pub WorkBreaks : DiskAnswer → Lone → Lone → List (List ℕ) → List (List ℕ) → List (List ℕ) → List (List ℕ) → DiskSeen → DiskSeen → Type 0
WorkBreaks Memory old new old_net new_net before after held left = WorkLacks old new old_net new_net held left
WorkBreaks _ old new old_net new_net before after held left =
    (new ≡ downed old) × (new_net ≡ old_net) × (after ≡ before ++ server_line A Down ∷ [])

-- how the work ended that it did: memory may run out behind one that is done
abbrev pub EndsWork : {T U : Type 0} → Result T DiskAnswer → Result U DiskAnswer → Type 0
EndsWork (Ok done) (Ok heard) = Unit {0}
EndsWork (Err Memory) (Ok heard) = Unit {0}
EndsWork (Err Memory) (Err Memory) = Unit {0}
EndsWork (Err Failed) (Err Failed) = Unit {0}
EndsWork (Err Stopped) (Err Stopped) = Unit {0}
EndsWork _ _ = ⊥

-- what it did to the disks: these calls of the record disk
pub record WorksOver {T : Type 0} (calls : List DeviceCall) (result : Result T DiskAnswer) (held left beside beside_left : DiskSeen) : Type 0 where
  pub worked : Result Heard DiskAnswer
  pub mid : DiskSeen
  pub performs : PerformsOrLacks calls worked held.files mid.files held.tally mid.tally
  pub ends : EndsWork result worked
  pub disk : left ≡ left_by worked mid
  pub journal : beside_left ≡ left_by worked beside

-- the server can be told each of these
abbrev pub CanHearAll : NodeState → List Message → Type 0
CanHearAll node messages = AllByRecursion (λ (message : Message). (moment : ℤ) → CanReceive message moment node) messages

-- the first message that came back was heard, if there was one
pub record HearsOne (old new : Lone) : Type 0 where
  pub message : Message
  pub rest : List Message
  pub first : old.back ≡ message ∷ rest
  pub back : new.back ≡ rest
  pub link : new.link ≡ old.link
  pub journal : new.journal ≡ old.journal
  pub armed : new.armed ≡ old.armed
  pub confirmed : IsConfirmed message old.node new.node

abbrev pub HearsBack : Bool → Lone → Lone → Type 0
HearsBack true old new = HearsOne old new
HearsBack false old new = (old.back ≡ []) × (new ≡ old)

-- the first message that came back is lost, and nothing else changes
pub record LosesBack (old new : Lone) : Type 0 where
  pub message : Message
  pub rest : List Message
  pub first : old.back ≡ message ∷ rest
  pub is : new ≡ record old { back = rest }
