-- Files that one disk tells, over events in a row.
use Rattle.std.proofs.Common.{◌≡◌, List, sym, subst, Option, Some, None, refl, ap, ◌∙◌}
use Rattle.std.specs.Prelude.{IfSome, option_map}
use Rattle.disk_model.specs.Disk.{Files}
use Rattle.plain_service.specs.Setups.{Setup, CanBegin}
use Rattle.plain_service.specs.Storing.{files_of}
use Rattle.service_laws.specs.Disks.{service_disk}
use Rattle.service_laws.specs.PlainOf.{plain_of}
use Rattle.service_laws.specs.StorageOf.{storage_of}
use Rattle.service_laws.proofs.StorageLaws.{is_storage}
use Rattle.cluster_facts.specs.Types.{Entry}
use Rattle.cluster_facts.specs.Facts.{IsSound}
use Rattle.cluster_facts.specs.History.{accepted, committed}
use Rattle.cluster_facts.specs.Ranges.{AreInRange}
use Rattle.cluster_events.specs.Servers.{State}
use Rattle.cluster_events.proofs.Filed.{stand-between}
use Rattle.cluster_rounds.specs.Broken.{LeavesBetween}
use Rattle.cluster_rounds.specs.Worlds.{LeavesFiles, TellsFiles}

module _ {P : Type 0} where
  -- what a disk is left with it tells
  pub left-told : (setup : Setup) (state : State P) (held left : Option Files) → LeavesFiles setup state held left → TellsFiles setup state left
  left-told setup state None None leaves = tt
  left-told setup state None (Some files) leaves = cc
  left-told setup state (Some files) None leaves = tt
  left-told setup state (Some files) (Some left) leaves = cc

  -- a disk that tells the files is left with them where nothing is done
  pub left-same : (setup : Setup) (state : State P) (held : Option Files) → TellsFiles setup state held → LeavesFiles setup state held held
  left-same setup state None tells = refl
  left-same setup state (Some files) tells = ap Some tells

  -- one event after another
  pub left-both : (setup : Setup) (middle state : State P) (held between left : Option Files) → LeavesFiles setup middle held between → LeavesFiles setup state between left → LeavesFiles setup state held left
  left-both setup middle state None between left first then =
      then ∙ ap (option_map (λ (files : Files). files_of setup state.world.core.answered)) first
  left-both setup middle state (Some files) between left first then =
      then ∙ ap (option_map (λ (files : Files). files_of setup state.world.core.answered)) first

  -- files of a state whose answered history is that of another
  pub files-same : (setup : Setup) (old new : State P) (held : Option Files) → new.world.core.answered ≡ old.world.core.answered → TellsFiles setup old held → LeavesFiles setup new held held
  files-same setup old new held same tells =
      let T : List Entry → Type 0 = λ past. IfSome held (λ files. files ≡ files_of setup past) in
      left-same setup new held (subst T (sym same) tells)

  -- those of a whole state are between
  pub left-between : (setup : Setup) (state : State P) (held left : Option Files) → CanBegin setup → IsSound (plain_of setup) state.world → AreInRange (accepted state.world.core) → LeavesFiles setup state held left → LeavesBetween setup (committed state.world.core) held left
  left-between setup state None left begins sound range leaves = leaves
  left-between setup state (Some held) left begins sound range leaves = (
    files_of setup state.world.core.answered,
    leaves,
    stand-between (plain_of setup) service_disk (storage_of setup) (is_storage setup begins) state.world (files_of setup state.world.core.answered) sound range refl,
  )

  -- one event happened, and the next broke off
  pub between-behind : (setup : Setup) (middle : State P) (past : List Entry) (held told left : Option Files) → LeavesFiles setup middle held told → LeavesBetween setup past told left → LeavesBetween setup past held left
  between-behind setup middle past None None left leaves next = next
  between-behind setup middle past None (Some told) left leaves next = cc
  between-behind setup middle past (Some held) None left leaves next = cc
  between-behind setup middle past (Some held) (Some told) left leaves next = next
