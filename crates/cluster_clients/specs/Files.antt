-- Words of public clauses: what is shown of the files of a disk.
use Rattle.std.specs.Prelude.{◌≡◌, ℕ, List, map, Option, IfSome, option_map}
use Rattle.std.specs.List.{filter_map}
use Rattle.std.specs.FinMap as files
use Rattle.disk_model.specs.Disk.{File, Files, length_of}
use Rattle.event_text.specs.Texts.{file_line}

-- these names with the lengths of their files, as far as the disk tells a length
abbrev pub sizes_of : Files → List (List ℕ) → List (List ℕ × ℕ)
sizes_of held names = filter_map (λ name. option_map (λ size. (name, size)) (length_of held name)) names

-- what is printed of names and lengths
abbrev pub listed_lines : List (List ℕ × ℕ) → List (List ℕ)
listed_lines listed = map (λ (file : List ℕ × ℕ). file_line file.0 file.1) listed

-- the lines of the files of a disk, in byte order of their names; any files where it does not tell them
pub record ListsFiles (held : Option Files) (lines : List (List ℕ)) : Type 0 where
  pub listed : List (List ℕ × ℕ)
  pub shown : lines ≡ listed_lines listed
  pub told : IfSome held (λ f. listed ≡ sizes_of f (files.keys f))

-- the bytes of the file of a name, if it stands
abbrev pub bytes_of : Files → List ℕ → Option (List ℕ)
bytes_of held name = option_map (λ (file : File). file.bytes) (files.get held name)
