-- Words of public clauses, here and above: which files a living stream can have, which of its records is the first that stands, when its file changes.
use Rattle.std.specs.Prelude.{◌≡◌, ◌≢◌, ℕ, ◌+◌, ◌-◌, ◌*◌, ◌/◌, ◌≤◌, ◌<◌, ⊤, min, max, ℤ, int_lt, Bool, true, false, not, ◌&&◌}
use Rattle.std.specs.Prelude.{IsTrue, List, [], ◌∷◌, ◌++◌, length, is_some, is_none}
use Rattle.std.specs.Option.{option_to_list}
use Rattle.stream_config.specs.declared.attrs.FullAction.{FullAction}
use Rattle.stream_config.specs.declared.attrs.FullAction.TheVariants.{Wrap, Halt, Rotate}
use Rattle.stream_config.specs.declared.attrs.StreamAttrs.{StreamAttrs}
use Rattle.stream_config.specs.declared.state.LogFile.{LogFile}
use Rattle.stream_config.specs.declared.state.StreamState.{StreamState}
use Rattle.stream_config.specs.Sizes.{records_per_file, has_room}

-- all stamps of files, in order
abbrev pub stamps_of : List LogFile → List ℤ
stamps_of [] = []
stamps_of (file ∷ files) = file.created ∷ option_to_list file.closed ++ stamps_of files

-- each stamp is later than the one before
abbrev pub rises : List ℤ → Bool
rises [] = true
rises (stamp ∷ []) = true
rises (stamp ∷ next ∷ stamps) = int_lt stamp next && rises (next ∷ stamps)

-- the last file alone is not closed
abbrev pub is_last_open : List LogFile → Bool
is_last_open [] = false
is_last_open (file ∷ []) = is_none file.closed
is_last_open (file ∷ next ∷ files) = is_some file.closed && is_last_open (next ∷ files)

-- how many files stand of so many that were ever made
abbrev pub count_standing : FullAction → (rotated opened : ℕ) → ℕ
count_standing Wrap rotated opened = opened
count_standing Halt rotated opened = opened
count_standing Rotate rotated opened = min opened rotated

-- the number behind those of a file's records: of the first record of the next file, or of the record that comes
abbrev pub next_first : List LogFile → (taken : ℕ) → ℕ
next_first [] taken = taken
next_first (file ∷ files) taken = file.first

-- the number of the first record that stands, of so many that were taken, where the files that stand begin with this one
abbrev pub first_in : FullAction → (n taken first : ℕ) → ℕ
first_in Wrap n taken first = taken - n
first_in Halt n taken first = first
first_in Rotate n taken first = first

-- the same of a stream as it stands
abbrev pub first_standing : StreamState → ℕ
first_standing state =
    first_in state.attrs.action (records_per_file state.attrs) state.taken (next_first state.files state.taken)

-- how many of its records stand in a file: the last n, where they wrap
abbrev pub count_in : FullAction → (n count : ℕ) → ℕ
count_in Wrap n count = min count n
count_in Halt n count = count
count_in Rotate n count = count

-- a file with so many records can have so many bytes
pub record HasFitBytes (attrs : StreamAttrs) (count bytes : ℕ) : Type 0 where
  pub alike : 0 < attrs.record_size → (bytes ≡ count * attrs.record_size) × (count ≤ records_per_file attrs)
  pub free : attrs.record_size ≡ 0 → (count ≤ bytes) × (bytes ≤ count * 16384) × (bytes ≤ attrs.max_file)

-- a file has one record at least, but for the only file of a stream that has taken none
pub record IsFilled (attrs : StreamAttrs) (taken next : ℕ) (file : LogFile) : Type 0 where
  pub order : file.first ≤ next
  pub some : 0 < taken → file.first < next
  pub bytes : HasFitBytes attrs (count_in attrs.action (records_per_file attrs) (next - file.first)) file.bytes

abbrev pub AreFilled : StreamAttrs → (taken : ℕ) → List LogFile → Type 0
AreFilled attrs taken [] = ⊤
AreFilled attrs taken (file ∷ files) = IsFilled attrs taken (next_first files taken) file × AreFilled attrs taken files

-- the file of this number and those behind it begin every n records
abbrev pub BeginEvenly : (n number : ℕ) → List LogFile → Type 0
BeginEvenly n number [] = ⊤
BeginEvenly n number (file ∷ files) = (file.first ≡ number * n) × BeginEvenly n (number + 1) files

-- of records of one size, under ROTATE: as many files were made as the records ask for, and each begins n records behind the one before
pub record AreEven (state : StreamState) : Type 0 where
  pub opened : state.opened ≡ (state.taken - 1) / records_per_file state.attrs + 1
  pub firsts : BeginEvenly (records_per_file state.attrs) (state.opened - length state.files) state.files

-- the file changes before a record of so many bytes, as it has no room behind those of the current one
abbrev pub is_rotating : FullAction → Bool
is_rotating Rotate = true
is_rotating _ = false

abbrev pub changes_file : StreamAttrs → (bytes len : ℕ) → Bool
changes_file attrs bytes len = is_rotating attrs.action && not (has_room attrs bytes len)

-- the files of a living stream
pub record HasFitFiles (state : StreamState) : Type 0 where
  pub rising : IsTrue (rises (stamps_of state.files))
  pub last_open : IsTrue (is_last_open state.files)
  pub some : 1 ≤ state.opened
  pub one : state.attrs.action ≢ Rotate → state.opened ≡ 1
  pub few : state.opened ≤ max 1 state.taken
  pub count : length state.files ≡ count_standing state.attrs.action state.attrs.rotated state.opened
  pub begins : length state.files ≡ state.opened → next_first state.files 0 ≡ 0
  pub filled : AreFilled state.attrs state.taken state.files
  pub even : state.attrs.action ≡ Rotate → 0 < state.attrs.record_size → AreEven state
