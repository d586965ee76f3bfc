-- Words of public clauses: the files that the plain service keeps, and the device calls by which it makes them. They are no part of the world: what the
-- files are follows from the history.
use Rattle.std.specs.Prelude.{◌≡◌, ℕ, Bool, ◌==◌, if◌then◌else◌, Option, ◌⊎◌, List, [], ◌∷◌}
use Rattle.cluster_facts.specs.Types.{Call, Reply, Entry, Called}
use Rattle.cluster_facts.specs.Service.{Plain}

-- the words of a disk: its files, its changing calls, what a done call makes of the files, and what a failed one may leave
pub record Disk : Type 1 where
  pub Files : Type 0
  pub DeviceCall : Type 0
  pub no_files : Files
  pub applied : DeviceCall → Files → Files
  pub Torn : DeviceCall → Files → Files → Type 0

abbrev pub all_applied : (disk : Disk) → List disk.DeviceCall → disk.Files → disk.Files
all_applied disk [] files = files
all_applied disk (call ∷ calls) files = all_applied disk calls (disk.applied call files)

-- one attempt of these calls from these files: some were done, from the first on, and the next left anything that it may, or all were done
abbrev pub Attempt : (disk : Disk) → List disk.DeviceCall → disk.Files → disk.Files → Type 0
Attempt disk [] old new = new ≡ old
Attempt disk (call ∷ calls) old new = (new ≡ old) ⊎ disk.Torn call old new ⊎ Attempt disk calls (disk.applied call old) new

-- any number of attempts, one after another
pub data Attempts (disk : Disk) (calls : List disk.DeviceCall) (old : disk.Files) : disk.Files → Type 0 where
  none : Attempts disk calls old old
  more : {mid new : disk.Files} → Attempts disk calls old mid → Attempt disk calls mid new → Attempts disk calls old new

-- a stored record: its bytes, and where they stand
pub record Storage (disk : Disk) : Type 1 where
  -- the files of a history, whose newest entry comes first
  pub files : List Entry → disk.Files
  -- the device calls of an entry after a history, and those of the start
  pub deeds : List Entry → Entry → List disk.DeviceCall
  pub opening : List disk.DeviceCall
  -- what was stored by an entry, whether a reply says that it is stored, and where it stands after a history, if still
  pub Record : Type 0
  pub Place : Type 0
  pub is_stored : Call → Reply → Bool
  pub record_of : List Entry → ℕ → ℕ → Option Record
  pub place : List Entry → Record → Option Place
  pub IsAt : Record → Place → disk.Files → Type 0

-- the files between those of a history without its last entry and those of the history: any attempts of the last entry's deeds
abbrev pub Between : (disk : Disk) → Storage disk → List Entry → disk.Files → Type 0
Between disk storage [] files = Attempts disk storage.opening disk.no_files files
Between disk storage (entry ∷ past) files = Attempts disk (storage.deeds past entry) (storage.files past) files

-- the replies to the client's calls of a history, each with its call's number and the call
abbrev pub dealt_in : Plain → ℕ → List Entry → List (ℕ × Call × Reply)
dealt_in plain client [] = []
dealt_in plain client (Called caller number time call ∷ past) =
    if caller == client then (number, call, plain.reply past caller number time call) ∷ dealt_in plain client past else dealt_in plain client past
dealt_in plain client (_ ∷ past) = dealt_in plain client past
