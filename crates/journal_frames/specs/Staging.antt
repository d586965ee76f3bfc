-- Words of public clauses: a journal's file where a text was to join it, wherever that broke off, and what closes its gate again.
use Rattle.std.specs.Prelude.{◌≡◌, ◌≢◌, ◌⊎◌, ℕ, ◌≤◌, Bool, true, false, Option, Some, None, List, [], ◌∷◌, ◌++◌, length, ⊤}
use Rattle.std.specs.List.{All}
use Rattle.disk_model.specs.Disk.{File, Files, overwritten}
use Rattle.disk_model.specs.DeviceCalls.{BreaksOff, LeftOn}
use Rattle.disk_model.specs.Failures.{Torn}
use Rattle.disk_model.specs.declared.answers.DiskAnswer.{DiskAnswer}
use Rattle.journal_frames.specs.Frames.{AreShort, HasFile, append_calls, behind_gate, framed, journal_name, journal_of}

-- of the calls by which a text joins a journal so many were done, and the next one gave this answer
abbrev pub AppendBreaks : List (List ℕ) → List ℕ → DiskAnswer → ℕ → Files → Files → Type 0
AppendBreaks texts text answer count old new =
    BreaksOff (LeftOn answer) (append_calls (length (framed texts)) text) count (Some old) (Some new)

-- a file between one that is whole and the same one with bytes put at a place
pub record IsBetween (at : ℕ) (bytes whole : List ℕ) (file : File) : Type 0 where
  pub torn : Torn ((at, length bytes) ∷ []) (length whole) (length (overwritten whole at bytes)) whole file.bytes
  pub loose : All (λ (range : ℕ × ℕ). range ≡ (at, length bytes)) file.loose
  pub low : length whole ≤ file.settled
  pub fits : file.settled ≤ length file.bytes

-- a file that begins with this front, which nothing loose touches
pub record Shut (front : List ℕ) (file : File) : Type 0 where
  pub behind : List ℕ
  pub is : file.bytes ≡ front ++ behind
  pub loose : All (λ (range : ℕ × ℕ). length front ≤ range.0) file.loose
  pub settled : length front ≤ file.settled

-- a journal in which the gate behind its texts moves, as one more text stands wholly behind it
abbrev pub IsMoving : List (List ℕ) → List ℕ → File → Type 0
IsMoving texts text file = IsBetween (length (framed texts)) (1 ∷ []) (framed texts ++ 0 ∷ behind_gate text) file

-- A journal that one more text was to join, wherever that broke off: its texts stand and their gate is closed for good, or the gate
-- moves, or the texts stand with this one and are closed for good.
abbrev pub Staged : List (List ℕ) → List ℕ → File → Type 0
Staged texts text file = Shut (journal_of texts) file ⊎ (IsMoving texts text file ⊎ Shut (journal_of (texts ++ text ∷ [])) file)

abbrev pub HasStaged : List (List ℕ) → List ℕ → Files → Type 0
HasStaged texts text files = HasFile journal_name (Staged texts text) files

-- the texts of the bytes end at this place, where a gate stands that is not open; whether it is closed
pub record EndsAt (bytes : List ℕ) (end : ℕ) (closed : Bool) : Type 0 where
  pub texts : List (List ℕ)
  pub short : AreShort texts
  pub gate : ℕ
  pub behind : List ℕ
  pub is : bytes ≡ framed texts ++ gate ∷ behind
  pub shut : gate ≢ 1
  pub at : end ≡ length (framed texts)
  pub is_closed : closed ≡ true → gate ≡ 0
  pub is_torn : closed ≡ false → gate ≢ 0

-- what was so of the files is so of them now, where the disk tells them
abbrev pub Keeps : (Files → Type 0) → (Files → Type 0) → Option Files → Option Files → Type 0
Keeps P Q None new = ⊤
Keeps P Q (Some old) None = P old → ⊥
Keeps P Q (Some old) (Some new) = P old → Q new

-- a journal that is mended: its gate stands where its texts end
abbrev pub IsMended : List (List ℕ) → List ℕ → ℕ → Bool → Files → Type 0
IsMended texts text end closed files =
    HasFile journal_name (λ file. Staged texts text file × EndsAt file.bytes end closed) files
