-- The start of a group's servers on a disk.
use Rattle.std.proofs.Common.{◌≡◌, ℕ, suc, false, List, [], ◌∷◌, Option, Some, None, refl, ap, sym, subst, ◌∙◌, inl, inr}
use Rattle.std.specs.Prelude.{ℤ, option_map, length, Err}
use Rattle.ais_values.specs.Causes.{RoseExactlyOn}
use Rattle.disk_model.specs.Disk.{Files}
use Rattle.disk_model.specs.Failures.{WhereTold}
use Rattle.disk_model.specs.Seen.{DiskSeen}
use Rattle.disk_model.specs.Counts.{lowered, passed, reaches}
use Rattle.disk_model.specs.DeviceCalls.{DeviceCall, all_applied, DoesFront, FailsAfter, LacksMemoryAfter, Breaks}
use Rattle.disk_model.specs.declared.answers.DiskAnswer.{DiskAnswer}
use Rattle.disk_model.specs.declared.answers.DiskAnswer.TheVariants.{Memory, Failed, Stopped}
use Rattle.disk_model.specs.declared.tally.Tally.{Tally}
use Rattle.stream_layout.specs.Deeds.{calls_of_all}
use Rattle.stream_layout.specs.declared.deed.Deed.{Deed}
use Rattle.script_lines.specs.declared.line.WellOptions.{WellOptions}
use Rattle.script_lines.specs.declared.line.Line.{Line}
use Rattle.script_lines.specs.declared.line.Line.TheVariants.{Cluster}
use Rattle.script_lines.specs.declared.line.Server.TheVariants.{B}
use Rattle.script_language.specs.Lines.{Spells}
use Rattle.stream_config.specs.declared.attrs.StreamAttrs.{StreamAttrs}
use Rattle.plain_service.specs.Setups.{Setup, CanBegin}
use Rattle.plain_service.specs.Storing.{opening_of}
use Rattle.plain_service.proofs.FilesLaws.{files-open}
use Rattle.service_core.specs.Beginning.{BeginsAs}
use Rattle.group_cluster.specs.Group.{group_start}
use Rattle.cluster_clients.specs.declared.answer.EventAnswer.{EventAnswer}
use Rattle.cluster_rounds.specs.Worlds.{LeavesFiles}
use Rattle.cluster_lines.specs.Beginning.{Begins}
use Rattle.cluster_lines.proofs.BeginSpelled.{spelled-begins}
use Rattle.played_runs.specs.Views.{HoldsNone, LackedDeeds, behind_deeds, counters_of}
use Rattle.played_runs.specs.Games.{LeavesOpening}
use Rattle.played_runs.proofs.CountSteps.{other-stood}
use Rattle.script_language.specs.Streams.{wells_of}
use Rattle.group_begin.specs.Starting.{broken_by}

pub files-start : (setup : Setup) (places : ℕ) (held left : Option Files) → CanBegin setup → HoldsNone held → left ≡ option_map (all_applied (calls_of_all (opening_of setup))) held → LeavesFiles setup (group_start (B ∷ []) setup.start places) held left
files-start setup places None left begins none done = done
files-start setup places (Some files) left begins none done =
    done ∙ ap Some (ap (all_applied (calls_of_all (opening_of setup))) none ∙ files-open setup begins)

-- calls that are done leave a disk unarmed that was
pub passed-unarmed : (count : ℕ) (before after : Tally) → after ≡ passed count before → before.armed ≡ None → after.armed ≡ None
passed-unarmed count before after is unarmed = ap (λ (t : Tally). t.armed) is ∙ ap (lowered count) unarmed

-- calls that are done are those that the disk counted
pub begun-counts : (setup : Setup) (deeds : List Deed) (held left : DiskSeen) → deeds ≡ opening_of setup → left.tally ≡ passed (length (calls_of_all deeds)) held.tally → left.faults ≡ held.faults → left.stops ≡ held.stops → counters_of left ≡ behind_deeds setup (counters_of held)
begun-counts setup deeds held left are counted stood stopped =
    let tally : left.tally ≡ passed (length (calls_of_all (opening_of setup))) held.tally =
    counted ∙ ap (λ (made : List Deed). passed (length (calls_of_all made)) held.tally) are in
    λ i. record { faults = stood i; stops = stopped i; tally = tally i }

-- the start was not done

front-stands : (done : List DeviceCall) (old new : Option Files) → WhereTold (λ before after. after ≡ all_applied done before) old new → new ≡ option_map (all_applied done) old
front-stands done None None told = refl
front-stands done None (Some new) told = absurd told
front-stands done (Some old) None told = absurd told
front-stands done (Some old) (Some new) told = ap Some told

-- before the deeds nothing was asked of the disk
pub unbegun-stands : (setup : Setup) (held : DiskSeen) → held.tally.armed ≡ None → LackedDeeds setup held held
unbegun-stands setup held unarmed = record {
  front = record { done = []; undone = calls_of_all (opening_of setup); in_order = refl; stands = same held.files };
  calls = inl refl;
  faults = refl;
  stops = refl;
  armed = unarmed;
}
  where
    same : (files : Option Files) → files ≡ option_map (all_applied []) files
    same None = refl
    same (Some one) = refl

broken-stands : (T : Type 0) (setup : Setup) (answer : DiskAnswer) (calls : List DeviceCall) (held left : DiskSeen) → calls ≡ calls_of_all (opening_of setup) → held.tally.armed ≡ None → RoseExactlyOn {T = T} held.faults left.faults (Err answer) Failed → RoseExactlyOn {T = T} held.stops left.stops (Err answer) Stopped → Breaks answer calls held.files left.files held.tally left.tally → LeavesOpening {T = T} setup held left (Err (broken_by answer))
broken-stands T setup Memory calls held left are unarmed cause stop broke = record {
  front =
      subst (λ cs. DoesFront cs held.files left.files) are
      (record { done = broke.1.done; undone = broke.1.broken ∷ broke.1.undone; in_order = broke.1.in_order; stands = front-stands broke.1.done held.files left.files broke.1.left });
  calls = inr (broke.0, subst (λ cs. LacksMemoryAfter cs broke.0 held.files left.files) are broke.1, broke.2.1);
  faults = other-stood held.faults left.faults Memory Failed Memory cause refl (λ is. cc);
  stops = other-stood held.stops left.stops Memory Stopped Memory stop refl (λ is. cc);
  armed = ap (λ (t : Tally). t.armed) broke.2.1 ∙ ap (lowered broke.0) unarmed;
}
broken-stands T setup Failed calls held left are unarmed cause stop broke = (
  refl,
  record {
    count = broke.0;
    fails = subst (λ cs. FailsAfter cs broke.0 held.files left.files) are broke.1;
    tally = broke.2.1;
    stops = other-stood held.stops left.stops Failed Stopped Failed stop refl (λ is. cc);
  },
)
broken-stands T setup Stopped calls held left are unarmed cause stop broke =
    let none : reaches (suc broke.0) held.tally.armed ≡ false = ap (reaches (suc broke.0)) unarmed in absurd (cc (none, broke.2.1))

pub start-broken : (T : Type 0) (setup : Setup) (answer : DiskAnswer) (told : EventAnswer) (deeds : List Deed) (held left : DiskSeen) → deeds ≡ opening_of setup → told ≡ broken_by answer → held.tally.armed ≡ None → RoseExactlyOn {T = T} held.faults left.faults (Err answer) Failed → RoseExactlyOn {T = T} held.stops left.stops (Err answer) Stopped → Breaks answer (calls_of_all deeds) held.files left.files held.tally left.tally → LeavesOpening {T = T} setup held left (Err told)
start-broken T setup answer told deeds held left are told_is unarmed cause stop broke =
    subst (λ t. LeavesOpening {T = T} setup held left (Err t)) (sym told_is)
    (broken-stands T setup answer (calls_of_all deeds) held left (ap calls_of_all are) unarmed cause stop broke)

-- a cluster line of a script tells what a service begins as
pub begins-as : (one : Line) (start : ℤ) (queue callbacks : ℕ) (alarm ntf sys : WellOptions) (wells : List StreamAttrs) → one ≡ Cluster start queue callbacks alarm ntf sys → wells ≡ wells_of alarm ntf sys
    → (raw : List ℕ) → Spells one raw → (setup : Setup) (places : ℕ) → Begins one setup places → BeginsAs setup start queue wells
begins-as one start queue callbacks alarm ntf sys wells is attributes raw spelled setup places begins =
    let tells : Begins (Cluster start queue callbacks alarm ntf sys) setup places = subst (λ l. Begins l setup places) is begins in
    let wells_by : Setup → List StreamAttrs = λ s. s.alarm ∷ s.notification ∷ s.system ∷ [] in
    record {
      start_is = ap (λ (s : Setup). s.start) tells.0;
      capacity_is = ap (λ (s : Setup). s.capacity) tells.0;
      attributes = attributes ∙ sym (ap wells_by tells.0);
      sound = spelled-begins one raw setup places spelled begins;
    }
