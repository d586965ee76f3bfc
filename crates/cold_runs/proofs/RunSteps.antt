-- What both disks hold and count behind lines that were played.
use Rattle.std.proofs.Common.{◌≡◌, ℕ, Option, Some, None, List, refl, sym, ◌∙◌}
use Rattle.disk_model.specs.Disk.{Files}
use Rattle.plain_service.specs.Setups.{Setup}
use Rattle.script_lines.specs.declared.line.Line.{Line}
use Rattle.cluster_events.specs.Lines.{Told}
use Rattle.cluster_events.specs.Servers.{State}
use Rattle.cluster_events.specs.Runs.RunBy.{Started, Went}
use Rattle.cold_cluster.specs.Cold.{Alone}
use Rattle.cold_servers.specs.ColdLaws.{cold_laws}
use Rattle.cold_servers.specs.ColdSeen.{ArmsBoth, ColdSeen, JournalHeld, LeavesTold, TellsBoth}
use Rattle.command_journal.specs.Beginning.{start_of}
use Rattle.cold_runs.specs.Playing.{ColdFront, Opened, Ran}

-- what both disks hold of a state, and their armed counts
pub record SeenAt (setup : Setup) (state : State Alone) (seen : ColdSeen) : Type 0 where
  pub count : ArmsBoth state.peers seen
  pub tells : TellsBoth setup state seen

pub run-seen : {setup : Setup} {places : ℕ} {held first : ColdSeen} → Opened setup places held first → {lines : List Line} {state : State Alone} {told : List Told} {seen : ColdSeen} → Ran setup places first lines state told seen → SeenAt setup state seen
run-seen {setup = setup} {places = places} {held = held} {first = first} opened Started =
    record { count = opened.count; tells = cold_laws.left_told setup (start_of setup places) held first opened.leaves }
run-seen {setup = setup} opened (Went {before = before} next outcome after run step) =
    record { count = step.count; tells = cold_laws.left_told setup outcome.state before after step.leaves }

-- a disk that tells nothing told nothing
told-back : (P : Files → Type 0) (held left : Option Files) → LeavesTold P held left → left ≡ None → held ≡ None
told-back P None left leaves none = refl
told-back P (Some files) left leaves none =
    let e : Some leaves.0 ≡ None = sym leaves.1 ∙ none in
    absurd cc

run-silent : {setup : Setup} {places : ℕ} {first : ColdSeen} {lines : List Line} {state : State Alone} {told : List Told} {seen : ColdSeen} → Ran setup places first lines state told seen → seen.journal.files ≡ None → first.journal.files ≡ None
run-silent Started none = none
run-silent {setup = setup} (Went {before = before} next outcome after run step) none =
    run-silent run (told-back (JournalHeld setup outcome.state) before.journal.files after.journal.files step.leaves.journal none)

pub front-silent : {held : ColdSeen} {script done rest : List Line} {text : List ℕ} → (front : ColdFront held script done rest text) → front.seen.journal.files ≡ None → held.journal.files ≡ None
front-silent {held = held} front none =
    told-back (JournalHeld front.setup (start_of front.setup front.places)) held.journal.files front.first.journal.files front.opened.leaves.journal (run-silent front.run none)
