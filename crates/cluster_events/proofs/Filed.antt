-- What the files promise, wherever the world is sound.
use Rattle.std.proofs.Common.{ℤ, inr, List, [], ◌∷◌, refl, sym, subst}
use Rattle.cluster_facts.specs.Types.{Entry, Answer}
use Rattle.cluster_facts.specs.Messages.{messages_in}
use Rattle.cluster_facts.specs.Service.{Plain}
use Rattle.cluster_facts.specs.Storage.{Disk, Storage, all_applied, Attempt, Attempts, Between}
use Rattle.cluster_facts.specs.Storage.Attempts.{none as no_attempt, more as one_more}
use Rattle.cluster_facts.specs.History.{Hand, Empty, Waiting, Applied, Ready, IsLegal, accepted, accepted_by, committed_by}
use Rattle.cluster_facts.specs.Ranges.{AreInRange}
use Rattle.cluster_facts.specs.World.{World}
use Rattle.cluster_facts.specs.Facts.{IsSound, IsOfRun}
use Rattle.cluster_facts.proofs.Words.{All-at}
use Rattle.cluster_facts.proofs.Growing.{IsLegal-before}
use Rattle.cluster_events.specs.Filing.{IsStorage, RecordsStay, FilesStand}
use Rattle.cluster_events.proofs.Dealing.{answers-dealt}

-- the history without the entry in hand is legal
pub answered-legal : (plain : Plain) (now : ℤ) (past : List Entry) (hand : Hand) → IsLegal plain now (accepted_by past hand) → IsLegal plain now past
answered-legal plain now past Empty legal = legal
answered-legal plain now past (Waiting entry) legal = IsLegal-before plain now entry past legal
answered-legal plain now past (Applied entry) legal = IsLegal-before plain now entry past legal
answered-legal plain now past (Ready entry) legal = IsLegal-before plain now entry past legal

-- what was answered as stored stands at its place, wherever the files are those of the history without the entry in hand
pub records-stay : (plain : Plain) (disk : Disk) (storage : Storage disk) → IsStorage plain disk storage → (world : World) (files : disk.Files) → IsSound plain world → AreInRange world.core.answered → FilesStand disk storage world files → RecordsStay plain disk storage world files
records-stay plain disk storage is_storage world files sound range stand client number reply posted =
    let past = world.core.answered in
    let legal = answered-legal plain world.now past world.core.hand sound.facts.legal in
    let dealt = answers-dealt plain client number reply past (All-at (IsOfRun plain past) (Answer client number reply) (messages_in world.net) sound.facts.run posted) in
    record {
      call = dealt.0;
      dealt = dealt.1;
      stays = λ stored_is.
          let found = is_storage.stores world.now past client number dealt.0 reply legal range dealt.1 stored_is in (
            found.0,
            found.1,
            λ spot place.
                subst (λ (f : disk.Files). storage.IsAt found.0 spot f) (sym stand) (is_storage.stays world.now past client number found.0 spot legal range found.1 place),
          );
    }

-- Files between.

whole-attempt : (disk : Disk) (calls : List disk.DeviceCall) (files : disk.Files) → Attempt disk calls files (all_applied disk calls files)
whole-attempt disk [] files = refl
whole-attempt disk (call ∷ calls) files = inr (inr (whole-attempt disk calls (disk.applied call files)))

files-between : (plain : Plain) (disk : Disk) (storage : Storage disk) → IsStorage plain disk storage → (now : ℤ) (past : List Entry) → IsLegal plain now past → AreInRange past → Between disk storage past (storage.files past)
files-between plain disk storage is_storage now [] legal range =
    subst (λ (f : disk.Files). Attempts disk storage.opening disk.no_files f) is_storage.opens (one_more no_attempt (whole-attempt disk storage.opening disk.no_files))
files-between plain disk storage is_storage now (entry ∷ past) legal range =
    subst (λ (f : disk.Files). Attempts disk (storage.deeds past entry) (storage.files past) f) (is_storage.works now entry past legal range) (one_more no_attempt (whole-attempt disk (storage.deeds past entry) (storage.files past)))

by-hand : (plain : Plain) (disk : Disk) (storage : Storage disk) → IsStorage plain disk storage → (now : ℤ) (past : List Entry) (hand : Hand) → IsLegal plain now (accepted_by past hand) → AreInRange (accepted_by past hand) → Between disk storage (committed_by past hand) (storage.files past)
by-hand plain disk storage is_storage now past Empty legal range = files-between plain disk storage is_storage now past legal range
by-hand plain disk storage is_storage now past (Waiting entry) legal range = files-between plain disk storage is_storage now past (IsLegal-before plain now entry past legal) range.1
by-hand plain disk storage is_storage now past (Applied entry) legal range = no_attempt
by-hand plain disk storage is_storage now past (Ready entry) legal range = no_attempt

-- the files of a sound world are between those of the history without its last entry and those of the history
pub stand-between : (plain : Plain) (disk : Disk) (storage : Storage disk) → IsStorage plain disk storage → (world : World) (files : disk.Files) → IsSound plain world → AreInRange (accepted world.core) → FilesStand disk storage world files → Between disk storage (committed_by world.core.answered world.core.hand) files
stand-between plain disk storage is_storage world files sound range stand =
    subst (λ (f : disk.Files). Between disk storage (committed_by world.core.answered world.core.hand) f) (sym stand) (by-hand plain disk storage is_storage world.now world.core.answered world.core.hand sound.facts.legal range)
