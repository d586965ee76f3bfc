-- The deeds of further entries, performed one entry after another.
use Rattle.std.proofs.Common.{◌≡◌, ℤ, List, [], ◌∷◌, ◌++◌, refl, ap, ◌∙◌}
use Rattle.cluster_facts.specs.Types.{Entry}
use Rattle.cluster_facts.specs.Service.{Plain}
use Rattle.cluster_facts.specs.Storage.{Disk, Storage, all_applied}
use Rattle.cluster_facts.specs.History.{IsLegal}
use Rattle.cluster_facts.specs.Ranges.{AreInRange}
use Rattle.cluster_facts.proofs.Growing.{IsLegal-before}
use Rattle.cluster_events.specs.Filing.{IsStorage}
use Rattle.cluster_events.specs.OnDisk.{performed}

-- the deeds of further entries lead from the files of a history to those with these entries
pub performed-files : (plain : Plain) (disk : Disk) (storage : Storage disk) → IsStorage plain disk storage → (now : ℤ) (more past : List Entry) → IsLegal plain now (more ++ past) → AreInRange (more ++ past) → performed disk storage more past (storage.files past) ≡ storage.files (more ++ past)
performed-files plain disk storage is_storage now [] past legal range = refl
performed-files plain disk storage is_storage now (entry ∷ more) past legal range =
    ap (λ (files : disk.Files). all_applied disk (storage.deeds (more ++ past) entry) files) (performed-files plain disk storage is_storage now more past (IsLegal-before plain now entry (more ++ past) legal) range.1)
    ∙ is_storage.works now entry (more ++ past) legal range

-- entries in range before further ones
pub range-before : (more past : List Entry) → AreInRange (more ++ past) → AreInRange past
range-before [] past range = range
range-before (entry ∷ more) past range = range-before more past range.1
