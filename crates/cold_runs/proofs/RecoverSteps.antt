-- What is told of a start from a journal that stands.
use Rattle.std.proofs.Common.{◌≡◌, ℕ, ◌≤◌, ◌⊎◌, inl, inr, Option, Some, None, List, [], ◌++◌, length, Err, refl, ap, sym, ◌∙◌, subst, arith}
use Rattle.std.specs.Prelude.{IfSome}
use Rattle.std.specs.FinMap as files
use Rattle.std.proofs.lemmas.List.{length-reverse}
use Rattle.ais_values.specs.Causes.{Rose}
use Rattle.disk_model.specs.Disk.{Files}
use Rattle.disk_model.specs.Seen.{DiskSeen}
use Rattle.cluster_clients.specs.Files.{ListsFiles, listed_lines, sizes_of}
use Rattle.journal_start.specs.Starts.{HasStarted, IsOfDisk, RoseByEither, TriesFound}
use Rattle.journal_start.specs.declared.cold.Cold.{Cold}
use Rattle.journal_start.specs.declared.cold.ColdAnswer.{ColdAnswer}
use Rattle.journal_start.specs.declared.cold.ColdAnswer.TheVariants.{Failed}
use Rattle.command_journal.specs.Worlds.{both}
use Rattle.command_journal.specs.declared.world.ColdWorld.{ColdWorld}
use Rattle.played_runs.specs.Counts.{HasRisen, HasStood}
use Rattle.played_runs.specs.Edges.{Edge}
use Rattle.played_runs.specs.Ends.{fault_line}
use Rattle.played_runs.specs.Writing.{IsNever, IsNone, IsText, Written, joined_lines}
use Rattle.played_runs.specs.declared.ending.Status8.{Status8}
use Rattle.played_runs.specs.declared.ending.Status8.TheVariants as status
use Rattle.played_runs.proofs.EndingSteps.{lacked, text-ends, text-written}
use Rattle.played_runs.proofs.WritingSteps.{written-as}
use Rattle.cold_runs.specs.Ends.{refused_line}
use Rattle.cold_runs.specs.Recovering.{IsRefusedBy, KeepsStaged, ListsEnds, RecoverEnds, RecoverLacks, RecoversNot, RecoversPartly, Starts, file_lines, history_line}
use Rattle.cold_runs.specs.Stages.{BothStood, ColdScene, OneRisen, cold_scene}

-- neither count moved, where a start was not done for another reason
pub stood-apart : {T : Type 0} (one now_one two now_two : ℕ) (answer other : ColdAnswer) → RoseByEither {T = T} one now_one two now_two (Err answer) Failed → answer ≡ other → (other ≡ Failed → ⊥) → (now_one ≡ one) × (now_two ≡ two)
stood-apart one now_one two now_two answer other cause is apart = by cause.stands
  where
    by : (answer ≡ Failed) ⊎ ((now_one ≡ one) × (now_two ≡ two)) → (now_one ≡ one) × (now_two ≡ two)
    by (inl failed) = absurd (apart (sym is ∙ failed))
    by (inr stood) = stood

module _ {K : Type 0} (disk mid disk_left journal journal_left : DiskSeen) (world : ColdWorld) (sink : Edge K (List ℕ)) where
  abbrev scene : ColdScene
  scene = cold_scene (both disk journal) (both disk_left journal_left) world world

  abbrev Tells : Status8 → Type 0
  Tells ended = Written (RecoverEnds scene) (RecoverLacks scene) sink ended

  -- A server that started, and the record disk read behind it.

  module _ (cold : Cold) (count : ℕ) (has : HasStarted cold journal.files journal_left.files disk.files mid.files) (counted : count ≡ length cold.entries) (stood : (journal_left.faults ≡ journal.faults) × (mid.faults ≡ disk.faults)) (same : disk_left.files ≡ mid.files) (kept : KeepsStaged journal.files journal_left.files) where
    abbrev started : Starts scene
    started = record {
      bytes = has.bytes;
      read = has.read;
      past = has.past;
      follower = has.follower;
      found = has.found;
      deeds = same ∙ has.deeds;
      mended = has.mended;
    }

    number : count ≡ length has.past
    number = counted ∙ ap length has.entries ∙ length-reverse has.past

    both-so : HasStood (mid.faults, disk_left.faults) → BothStood scene
    both-so still = (still ∙ stood.1, stood.0)

    one-so : HasRisen (mid.faults, disk_left.faults) → OneRisen scene
    one-so risen =
        let records : mid.faults ≡ disk.faults = stood.1 in
        let journals : journal_left.faults ≡ journal.faults = stood.0 in
        let later : mid.faults ≤ disk_left.faults = risen.0 in
        record {
          later = record { disk = omega (arith, records, later); journal = omega (arith, journals) };
          rose = inl (subst (λ (before : ℕ). Rose before disk_left.faults) records risen.1);
        }

    lists-ends : (reached : Option Status8) (text : List ℕ) → ListsEnds count mid disk_left reached text → RecoverEnds scene reached text
    lists-ends None text ends = absurd ends
    lists-ends (Some status.Done) text ends =
        let listed = ends.1 in (
          record {
            starts = started;
            listed = listed.0;
            files = subst (λ (held : Option Files). IfSome held (λ one. listed.0 ≡ file_lines one)) (sym same) listed.1;
            printed = listed.2 ∙ ap (λ (n : ℕ). history_line n ++ listed.0) number;
            world = refl;
          },
          both-so ends.0,
        )
    lists-ends (Some status.ScriptRefused) text ends = absurd ends
    lists-ends (Some status.Usage) text ends = absurd ends
    lists-ends (Some status.Memory) text ends = absurd ends
    lists-ends (Some status.ReadFault) text ends = absurd ends
    lists-ends (Some status.WriteFault) text ends = absurd ends
    lists-ends (Some status.DiskFault) text ends = (ends.0, record { tries = inr started; kept = kept; world = refl }, one-so ends.1)
    lists-ends (Some status.RootNotEmpty) text ends = absurd ends
    lists-ends (Some status.TooLong) text ends = absurd ends
    lists-ends (Some status.JournalRefused) text ends = absurd ends
    lists-ends (Some status.Inseparable) text ends = absurd ends

    pub recovers-started : (ended : Status8) → Written (ListsEnds count mid disk_left) (λ text. (text ≡ []) × HasStood (mid.faults, disk_left.faults)) sink ended → Tells ended
    recovers-started ended written =
        written-as (ListsEnds count mid disk_left) (RecoverEnds scene) (λ text. (text ≡ []) × HasStood (mid.faults, disk_left.faults)) (RecoverLacks scene) sink ended
        lists-ends
        (λ text lacks. (lacks.0, record { tries = inr started; kept = kept; world = refl }, both-so lacks.1))
        written

  -- A start that was not done.

  partly : TriesFound journal.files disk.files disk_left.files → KeepsStaged journal.files journal_left.files → RecoversPartly scene
  partly tries kept = record { tries = inl tries; kept = kept; world = refl }

  pub recovers-not : (place : Option ℕ) (ended : Status8) → IsRefusedBy journal.files place → (journal_left.files ≡ journal.files) × (disk_left.files ≡ disk.files) → (journal_left.faults ≡ journal.faults) × (disk_left.faults ≡ disk.faults) → KeepsStaged journal.files journal_left.files → Written (IsText status.JournalRefused (refused_line place)) IsNone sink ended → Tells ended
  recovers-not place ended why same stood kept written =
      let both_so : BothStood scene = (stood.1, stood.0) in
      let refused : RecoversNot scene (refused_line place) = record { place = place; why = why; disk = same.1; journal = same.0; printed = refl; world = refl } in
      written-as (IsText status.JournalRefused (refused_line place)) (RecoverEnds scene) IsNone (RecoverLacks scene) sink ended
      (text-ends (RecoverEnds scene) status.JournalRefused (refused_line place) (refused, both_so))
      (λ text none. (none, partly (inl same.1) kept, both_so))
      written

  pub recovers-failed : {T : Type 0} (ended : Status8) (answer : ColdAnswer) → answer ≡ Failed → TriesFound journal.files disk.files disk_left.files → RoseByEither {T = T} journal.faults journal_left.faults disk.faults disk_left.faults (Err answer) Failed → KeepsStaged journal.files journal_left.files → Written (IsText status.DiskFault fault_line) IsNever sink ended → Tells ended
  recovers-failed ended answer is tries cause kept written =
      let one : OneRisen scene = record { later = record { disk = cause.later_too; journal = cause.later }; rose = swapped (cause.rose (ap Err is)) } in
      text-written (RecoverEnds scene) (RecoverLacks scene) status.DiskFault fault_line sink ended (refl, partly tries kept, one) written
    where
      swapped : Rose journal.faults journal_left.faults ⊎ Rose disk.faults disk_left.faults → Rose disk.faults disk_left.faults ⊎ Rose journal.faults journal_left.faults
      swapped (inl rose) = inr rose
      swapped (inr rose) = inl rose

  pub recovers-lack : TriesFound journal.files disk.files disk_left.files → (journal_left.faults ≡ journal.faults) × (disk_left.faults ≡ disk.faults) → KeepsStaged journal.files journal_left.files → sink.new ≡ sink.old → Tells status.Memory
  recovers-lack tries stood kept same = lacked (RecoverEnds scene) (RecoverLacks scene) sink (refl, partly tries kept, (stood.1, stood.0)) same

-- what was not of a disk left both as they were
pub untouched-by : (answer other : ColdAnswer) (P : Type 0) → answer ≡ other → (IsOfDisk other → ⊥) → IsOfDisk answer ⊎ P → P
untouched-by answer other P is never (inl of_disk) = absurd (never (subst IsOfDisk is of_disk))
untouched-by answer other P is never (inr same) = same

-- What is told of a history of so many entries, and of the files of a disk.
module _ {K : Type 0} (count : ℕ) (held left : DiskSeen) (sink : Edge K (List ℕ)) where
  abbrev ListsLack : List ℕ → Type 0
  ListsLack text = (text ≡ []) × HasStood (held.faults, left.faults)

  -- all was written
  pub lists-told : (ended : Status8) (lines : List (List ℕ)) → ListsFiles held.files lines → left.faults ≡ held.faults → Written (IsText status.Done (history_line count ++ joined_lines lines)) IsNever sink ended → Written (ListsEnds count held left) ListsLack sink ended
  lists-told ended lines lists stood written =
      let told = told-as held.files (λ one. sizes_of one (files.keys one)) lists.listed lists.told in
      let listed = ap joined_lines lists.shown in
      text-written (ListsEnds count held left) ListsLack status.Done (history_line count ++ joined_lines lines) sink ended
      (stood, (joined_lines (listed_lines lists.listed), told, ap (λ (all : List ℕ). history_line count ++ all) listed))
      written
    where
      told-as : (one : Option Files) (sizes : Files → List (List ℕ × ℕ)) (listed : List (List ℕ × ℕ)) → IfSome one (λ f. listed ≡ sizes f) → IfSome one (λ f. joined_lines (listed_lines listed) ≡ joined_lines (listed_lines (sizes f)))
      told-as None sizes listed told = tt
      told-as (Some f) sizes listed told = ap (λ (all : List (List ℕ × ℕ)). joined_lines (listed_lines all)) told

  pub lists-lack : left.faults ≡ held.faults → sink.new ≡ sink.old → Written (ListsEnds count held left) ListsLack sink status.Memory
  lists-lack stood same = lacked (ListsEnds count held left) ListsLack sink (refl, stood) same

  pub lists-fail : (ended : Status8) → HasRisen (held.faults, left.faults) → Written (IsText status.DiskFault fault_line) IsNever sink ended → Written (ListsEnds count held left) ListsLack sink ended
  lists-fail ended risen written =
      text-written (ListsEnds count held left) ListsLack status.DiskFault fault_line sink ended (refl, risen) written
