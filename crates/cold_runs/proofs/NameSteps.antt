-- Both disks are asked for their names.
use Rattle.std.proofs.Common.{◌≡◌, ℕ, ◌≤◌, ◌⊎◌, inl, inr, Option, Some, None, List, ◌++◌, Result, Ok, Err, refl, ap, sym, subst, arith}
use Rattle.std.specs.Prelude.{codes}
use Rattle.ais_values.specs.Causes.{RoseExactlyOn}
use Rattle.disk_model.specs.Counts.{read_more}
use Rattle.disk_model.specs.Seen.{DiskSeen}
use Rattle.disk_model.specs.declared.answers.DiskAnswer.{DiskAnswer}
use Rattle.disk_model.specs.declared.answers.DiskAnswer.TheVariants as disk
use Rattle.script_lines.specs.declared.line.Line.{Line}
use Rattle.cold_servers.specs.ColdSeen.{ColdSeen, Outlives}
use Rattle.command_journal.specs.declared.world.ColdWorld.{ColdWorld}
use Rattle.played_runs.specs.Edges.{Edge}
use Rattle.played_runs.specs.Ends.{fault_line}
use Rattle.played_runs.specs.Steps.{FindsNames}
use Rattle.played_runs.specs.Views.{HoldsNone, NamesFailed, names_told}
use Rattle.played_runs.specs.Writing.{IsNever, IsNone, IsText, Reaching, Written}
use Rattle.played_runs.specs.declared.ending.Status8.{Status8}
use Rattle.played_runs.specs.declared.ending.Status8.TheVariants as status
use Rattle.played_runs.proofs.CountSteps.{other-stood}
use Rattle.played_runs.proofs.EndingSteps.{lacked, names-told, text-ends, text-written}
use Rattle.played_runs.proofs.WritingSteps.{written-as}
use Rattle.cold_runs.specs.Ends.{AtNames, AtNamesToo, ColdEnds, ColdFails, ColdLacks, OfJournal, OfRecords, PlaysCold, RisesCold, RootsHold, Unopened, both_named, record_named}
use Rattle.cold_runs.specs.Stages.{ColdScene, cold_scene}
use Rattle.cold_runs.specs.Steps.{AsksNames, FirstOfBoth, NamesBroken, NamesOf}

pub names-found : (held left : DiskSeen) (found : Option (List ℕ)) → FindsNames held.files found → left.files ≡ held.files → left.stops ≡ held.stops → left.tally ≡ read_more 1 held.tally → left.faults ≡ held.faults → NamesOf held left (Ok found)
names-found held left found finds same stopped counted stood = (finds, names-told held left same counted stood stopped)

pub names-broken : {T : Type 0} (held left : DiskSeen) (answer : DiskAnswer) → left.files ≡ held.files → left.stops ≡ held.stops → left.tally ≡ read_more 1 held.tally → RoseExactlyOn {T = T} held.faults left.faults (Err answer) disk.Failed → NamesOf held left (Err answer)
names-broken held left disk.Memory same stopped counted cause =
    names-told held left same counted (other-stood held.faults left.faults disk.Memory disk.Failed disk.Memory cause refl (λ is. cc)) stopped
names-broken held left disk.Failed same stopped counted cause =
    (record { files = same; tally = counted; stops = stopped }, (cause.later, cause.rose refl))
names-broken held left disk.Stopped same stopped counted cause =
    names-told held left same counted (other-stood held.faults left.faults disk.Stopped disk.Failed disk.Stopped cause refl (λ is. cc)) stopped

-- both, by each
both-seen : (one two : ColdSeen) → one.disk ≡ two.disk → one.journal ≡ two.journal → one ≡ two
both-seen one two records journals = λ i. record { disk = records i; journal = journals i }

still-there : (held left : DiskSeen) → left ≡ names_told held → held.faults ≤ left.faults
still-there held left told =
    let same : left.faults ≡ held.faults = ap (λ (seen : DiskSeen). seen.faults) told in
    omega (arith, same)

same-faults : (held left : DiskSeen) → left ≡ held → held.faults ≤ left.faults
same-faults held left told =
    let same : left.faults ≡ held.faults = ap (λ (seen : DiskSeen). seen.faults) told in
    omega (arith, same)

-- the record disk holds none, and the journal's is asked
pub then-asked : (held left : ColdSeen) (result : Result (Option (List ℕ)) DiskAnswer) → HoldsNone held.disk.files → left.disk ≡ names_told held.disk → NamesOf held.journal left.journal result → AsksNames held left result
then-asked held left (Ok None) none told answered = (none, answered.0, both-seen left (both_named held) told answered.1)
then-asked held left (Ok (Some name)) none told answered = inr (none, answered.0, both-seen left (both_named held) told answered.1)
then-asked held left (Err disk.Memory) none told answered = inr (both-seen left (both_named held) told answered)
then-asked held left (Err disk.Failed) none told answered = (
  record { later = record { disk = still-there held.disk left.disk told; journal = answered.1.0 }; rose = inr answered.1.1 },
  inr (told, answered.0),
)
then-asked held left (Err disk.Stopped) none told answered = inr (both-seen left (both_named held) told answered)

-- it holds one
pub first-found : (held left : ColdSeen) (name : List ℕ) → NamesOf held.disk left.disk (Ok (Some name)) → left.journal ≡ held.journal → AsksNames held left (Ok (Some name))
first-found held left name answered same = inl (answered.0, both-seen left (record_named held) answered.1 same)

-- or broke off
pub first-broken : (held left : ColdSeen) (answer : DiskAnswer) → NamesOf held.disk left.disk (Err answer) → left.journal ≡ held.journal → AsksNames held left (Err answer)
first-broken held left disk.Memory answered same = inl (both-seen left (record_named held) answered same)
first-broken held left disk.Failed answered same = (
  record { later = record { disk = answered.1.0; journal = same-faults held.journal left.journal same }; rose = inl answered.1.1 },
  inl (answered.0, same),
)
first-broken held left disk.Stopped answered same = inl (both-seen left (record_named held) answered same)

-- neither holds a file, as before, and neither is armed that was not
pub still-bare : (held left : ColdSeen) → FirstOfBoth held left None → HoldsNone left.disk.files × HoldsNone left.journal.files
still-bare held left found =
    (subst (λ (seen : ColdSeen). HoldsNone seen.disk.files) (sym found.2) found.0, subst (λ (seen : ColdSeen). HoldsNone seen.journal.files) (sym found.2) found.1)

pub still-unarmed : (held left : ColdSeen) → FirstOfBoth held left None → held.disk.tally.armed ≡ None → left.disk.tally.armed ≡ None
still-unarmed held left found unarmed = subst (λ (seen : ColdSeen). seen.disk.tally.armed ≡ None) (sym found.2) unarmed

pub still-unarmed-too : (held left : ColdSeen) → FirstOfBoth held left None → held.journal.tally.armed ≡ None → left.journal.tally.armed ≡ None
still-unarmed-too held left found unarmed = subst (λ (seen : ColdSeen). seen.journal.tally.armed ≡ None) (sym found.2) unarmed

-- The ends there.

module _ {K : Type 0} (script : List Line) (held left : ColdSeen) (world : ColdWorld) (sink : Edge K (List ℕ)) where
  abbrev scene : ColdScene
  scene = cold_scene held left world world

  abbrev EndsSo : Reaching
  EndsSo reached text = ColdEnds script scene reached text × RisesCold reached scene

  abbrev LacksSo : List ℕ → Type 0
  LacksSo text = ColdLacks script scene text × Outlives held left

  root-holds : (name : List ℕ) → FirstOfBoth held left (Some name) → RootsHold scene (codes "root not empty: " ++ (name ++ codes "\n"))
  root-holds name (inl found) = OfRecords name found.0 found.1 refl refl
  root-holds name (inr found) = OfJournal name found.0 found.1 found.2 refl refl

  -- what a seen disk counted is what it had counted
  named-stood : (named : ColdSeen) → left ≡ named → named.disk.faults ≡ held.disk.faults → named.journal.faults ≡ held.journal.faults → (left.disk.faults ≡ held.disk.faults) × (left.journal.faults ≡ held.journal.faults)
  named-stood named is records journals =
      (subst (λ (seen : ColdSeen). seen.disk.faults ≡ held.disk.faults) (sym is) records, subst (λ (seen : ColdSeen). seen.journal.faults ≡ held.journal.faults) (sym is) journals)

  first-stood : (name : List ℕ) → FirstOfBoth held left (Some name) → (left.disk.faults ≡ held.disk.faults) × (left.journal.faults ≡ held.journal.faults)
  first-stood name (inl found) = named-stood (record_named held) found.1 refl refl
  first-stood name (inr found) = named-stood (both_named held) found.2 refl refl

  stood-on : (left.disk.faults ≡ held.disk.faults) × (left.journal.faults ≡ held.journal.faults) → Outlives held left
  stood-on stood =
      let records : left.disk.faults ≡ held.disk.faults = stood.0 in
      let journals : left.journal.faults ≡ held.journal.faults = stood.1 in
      record { disk = omega (arith, records); journal = omega (arith, journals) }

  -- a disk held a file
  pub root-ends : (name : List ℕ) (ended : Status8) → FirstOfBoth held left (Some name) → Written (IsText status.RootNotEmpty (codes "root not empty: " ++ (name ++ codes "\n"))) IsNone sink ended → PlaysCold script scene sink ended
  root-ends name ended found written =
      let text = codes "root not empty: " ++ (name ++ codes "\n") in
      let stood = first-stood name found in
      written-as (IsText status.RootNotEmpty text) EndsSo IsNone LacksSo sink ended
      (text-ends EndsSo status.RootNotEmpty text (root-holds name found, stood))
      (λ one none. (Unopened none (named found) refl, stood-on stood))
      written
    where
      named : FirstOfBoth held left (Some name) → (left ≡ record_named held) ⊎ (left ≡ both_named held)
      named (inl one) = inl one.1
      named (inr one) = inr one.2

  -- memory was wanting
  pub names-lack : NamesBroken disk.Memory held left → sink.new ≡ sink.old → PlaysCold script scene sink status.Memory
  names-lack lacks same =
      lacked EndsSo LacksSo sink (Unopened refl lacks refl, stood-on (by lacks)) same
    where
      by : (left ≡ record_named held) ⊎ (left ≡ both_named held) → (left.disk.faults ≡ held.disk.faults) × (left.journal.faults ≡ held.journal.faults)
      by (inl is) = named-stood (record_named held) is refl refl
      by (inr is) = named-stood (both_named held) is refl refl

  -- a disk failed
  pub names-fail : (ended : Status8) → NamesBroken disk.Failed held left → Written (IsText status.DiskFault fault_line) IsNever sink ended → PlaysCold script scene sink ended
  names-fail ended fails written =
      text-written EndsSo LacksSo status.DiskFault fault_line sink ended (inl (by fails.1), fails.0) written
    where
      by : (NamesFailed held.disk left.disk × (left.journal ≡ held.journal)) ⊎ ((left.disk ≡ names_told held.disk) × NamesFailed held.journal left.journal) → ColdFails script scene fault_line
      by (inl failed) = AtNames failed.0 failed.1 refl refl
      by (inr failed) = AtNamesToo failed.0 failed.1 refl refl
