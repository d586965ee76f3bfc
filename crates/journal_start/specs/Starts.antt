-- Words of public clauses: what a cold start comes to.
use Rattle.std.specs.Prelude.{◌≡◌, ◌⊎◌, ◌≤◌, ℕ, false, List, length, reverse, Option, Some, None, option_map, IfSome, Result, IsErrOf, MatchResult}
use Rattle.std.specs.FinMap.{get}
use Rattle.ais_values.specs.Causes.{Rose}
use Rattle.disk_model.specs.Disk.{File, Files}
use Rattle.disk_model.specs.DeviceCalls.{all_applied, BreaksOff, LeftOn}
use Rattle.disk_model.specs.declared.answers.DiskAnswer.{DiskAnswer}
use Rattle.disk_model.specs.declared.answers.DiskAnswer.TheVariants as disk
use Rattle.stream_layout.specs.declared.deed.Deed.{Deed}
use Rattle.stream_layout.specs.Deeds.{calls_of_all}
use Rattle.calls.specs.declared.entry.Entry.{Entry}
use Rattle.mirror.specs.Pairing.{deeds_kept, taken_over}
use Rattle.journal_frames.specs.Frames.{HasJournal, framed, journal_name}
use Rattle.journal_found.specs.Found.{texts_of, is_journal, Follower, Found, RefusedAt}
use Rattle.journal_start.specs.Replays.{node_of}
use Rattle.journal_start.specs.declared.cold.Cold.{Cold}
use Rattle.journal_start.specs.declared.cold.ColdAnswer.{ColdAnswer}
use Rattle.journal_start.specs.declared.cold.ColdAnswer.TheVariants.{Memory, Failed, Stopped, NoJournal, Refused}
use Rattle.journal_start.specs.declared.replaying.Replayed.{Replayed}

-- the bytes of the journal's file, if it stands
abbrev pub bytes_in : Files → Option (List ℕ)
bytes_in files = option_map (λ (file : File). file.bytes) (get files journal_name)

abbrev pub told_as : DiskAnswer → ColdAnswer
told_as disk.Memory = Memory
told_as disk.Failed = Failed
told_as disk.Stopped = Stopped

-- there is no journal
abbrev pub HoldsNone : Option (List ℕ) → Type 0
HoldsNone None = Unit {0}
HoldsNone (Some bytes) = is_journal bytes ≡ false

-- a gate of the journal is refused
abbrev pub IsRefusedIn : Option (List ℕ) → ℕ → Type 0
IsRefusedIn None place = ⊥
IsRefusedIn (Some bytes) place = RefusedAt bytes place

-- A server started: the journal's bytes tell its entries and its value; it is active, the deeds of the last entry are done, and the journal
-- is that of what was found. A disk that told no files tells none.
pub record HasStarted (cold : Cold) (held left before after : Option Files) : Type 0 where
  pub bytes : List ℕ
  pub read : IfSome held (λ files. Some bytes ≡ bytes_in files)
  pub past : List Entry
  pub follower : Follower
  pub found : Found bytes past follower
  pub entries : cold.entries ≡ reverse past
  pub node : cold.node ≡ taken_over (node_of (Some follower))
  pub number : cold.journal.number ≡ follower.saved.number
  pub end : cold.journal.end ≡ length (framed (texts_of found.messages))
  pub mended : IfSome held (λ files. IfSome left (HasJournal (texts_of found.messages)))
  pub untold : held ≡ None → left ≡ None
  pub deeds : after ≡ option_map (all_applied (calls_of_all (deeds_kept follower.kept))) before

-- two counts of which one rose where the answer is this error; on every other answer both are what they were
pub record RoseByEither {T E : Type 0} (one now_one two now_two : ℕ) (result : Result T E) (error : E) : Type 0 where
  pub later : one ≤ now_one
  pub later_too : two ≤ now_two
  pub rose : IsErrOf result error → Rose one now_one ⊎ Rose two now_two
  pub stands : MatchResult result (λ _. (now_one ≡ one) × (now_two ≡ two))
      (λ answer. (answer ≡ error) ⊎ ((now_one ≡ one) × (now_two ≡ two)))

-- the server that followed a journal took over
abbrev pub TakesOver : Replayed → Cold → Option Files → Option Files → Type 0
TakesOver replayed cold before after =
    (cold.node ≡ taken_over replayed.node)
    × (cold.entries ≡ replayed.entries)
    × (cold.journal ≡ record { end = replayed.place; number = replayed.number })
    × (after ≡ option_map (all_applied (calls_of_all (deeds_kept replayed.node.kept))) before)

-- an answer that comes of memory or a disk
abbrev pub IsOfDisk : ColdAnswer → Type 0
IsOfDisk NoJournal = ⊥
IsOfDisk (Refused place) = ⊥
IsOfDisk _ = Unit {0}

-- some of the calls of these deeds were done, and the next one was not
abbrev pub TriesDeeds : List Deed → Option Files → Option Files → Type 0
TriesDeeds deeds before after = (answer : DiskAnswer) × (count : ℕ) × BreaksOff (LeftOn answer) (calls_of_all deeds) count before after

abbrev pub TriesOrNot : List Deed → Option Files → Option Files → Type 0
TriesOrNot deeds before after = (after ≡ before) ⊎ TriesDeeds deeds before after

-- the record disk was left alone, or the last deeds of what was found broke off
abbrev pub TriesFound : Option Files → Option Files → Option Files → Type 0
TriesFound held before after =
    (after ≡ before)
    ⊎ ((bytes : List ℕ) × (past : List Entry) × (follower : Follower)
    × IfSome held (λ files. Some bytes ≡ bytes_in files)
    × Found bytes past follower
    × TriesDeeds (deeds_kept follower.kept) before after)
