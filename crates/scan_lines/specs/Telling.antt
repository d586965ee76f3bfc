-- Words of public clauses: what is printed of the records of a file's bytes.
use Rattle.std.specs.Prelude.{◌≡◌, ℕ, ◌+◌, List, [], ◌∷◌, ◌++◌}
use Rattle.std.specs.List.{All as Each, concat}
use Rattle.format_expr.specs.declared.piece.Piece.{Piece}
use Rattle.record_scan.specs.Fits.{Fits}
use Rattle.record_scan.specs.Numbers.{IsRecord, AreRecords}
use Rattle.scan_lines.specs.declared.shown.Shown.{Shown}
use Rattle.scan_lines.specs.Lines.{IsShown, read_line, rest_line, unread_line}

-- what is printed of a record: a line of its texts, where they fit and it is to be shown; else what stands for one without texts, or nothing
pub data IsTold (shown : Shown) (pieces : List Piece) (size : ℕ) (wanted : List ℕ) (number : ℕ) (rec line : List ℕ) : Type 0 where
  Shows :
      (texts : List (List ℕ)) → Fits pieces size rec texts → IsShown shown wanted texts → line ≡ read_line pieces number texts
      → IsTold shown pieces size wanted number rec line
  Hides : (texts : List (List ℕ)) → Fits pieces size rec texts → (IsShown shown wanted texts → ⊥) → line ≡ [] → IsTold shown pieces size wanted number rec line
  Unreadable :
      ((texts : List (List ℕ)) → Fits pieces size rec texts → ⊥) → line ≡ unread_line shown number → IsTold shown pieces size wanted number rec line

-- what is printed of records one after another, the first having this number, by what is printed of each
abbrev pub AreTold : (ℕ → List ℕ → List ℕ → Type 0) → (first : ℕ) → (records : List (List ℕ)) → (text : List ℕ) → Type 0
AreTold Told first [] text = text ≡ []
AreTold Told first (rec ∷ records) text =
    (line : List ℕ) × (later : List ℕ) × Told first rec line × (text ≡ line ++ later) × AreTold Told (first + 1) records later

-- what is printed of the first records of bytes
pub record TellsFront (shown : Shown) (pieces : List Piece) (size : ℕ) (wanted bytes text : List ℕ) : Type 0 where
  pub records : List (List ℕ)
  pub left : List ℕ
  pub parts : bytes ≡ concat records ++ left
  pub each : Each (IsRecord size) records
  pub told : AreTold (IsTold shown pieces size wanted) 1 records text

-- what is printed of all records of bytes, and of what is left
pub record TellsAll (shown : Shown) (pieces : List Piece) (size : ℕ) (wanted bytes text : List ℕ) : Type 0 where
  pub records : List (List ℕ)
  pub rest : List ℕ
  pub parts : AreRecords size bytes records rest
  pub lines : List ℕ
  pub told : AreTold (IsTold shown pieces size wanted) 1 records lines
  pub printed : text ≡ lines ++ rest_line shown rest
