-- Words of bodies alone: the steps of a listing.
use Rattle.std.specs.Prelude.{◌≡◌, ℕ, List, ◌++◌, take, Option, IfSome, option_map}
use Rattle.std.specs.Option.{option_to_list}
use Rattle.disk_model.specs.Disk.{Files, length_of}
use Rattle.cluster_clients.specs.Files.{sizes_of, listed_lines}

-- the line of a name's file was added, if the file has a length
pub record AddsLine (held : Option Files) (name : List ℕ) (before after : List (List ℕ)) : Type 0 where
  pub size : Option ℕ
  pub added : after ≡ before ++ listed_lines (option_to_list (option_map (λ length. (name, length)) size))
  pub told : IfSome held (λ f. size ≡ length_of f name)

-- the lines of the first names' files are made
pub record Listing (names : List (List ℕ)) (count : ℕ) (held now : Option Files) (lines : List (List ℕ)) : Type 0 where
  pub listed : List (List ℕ × ℕ)
  pub shown : lines ≡ listed_lines listed
  pub told : IfSome held (λ f. listed ≡ sizes_of f (take count names))
  pub same : now ≡ held
