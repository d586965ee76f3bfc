-- Words of public clauses: every name that a file of records ever had.
use Rattle.std.specs.Prelude.{ℕ, pos, List, [], ◌∷◌, ◌++◌, Option, Some, None}
use Rattle.client_set.specs.Members.{Stands}
use Rattle.stream_config.specs.declared.attrs.StreamAttrs.{StreamAttrs}
use Rattle.stream_layout.specs.Names.{stamped_name}
use Rattle.log_history.specs.Changes.{LogChange}
use Rattle.log_history.specs.Chronicle.{LogSetup, Stream, chronicle}

-- no element stands twice in the list
abbrev pub NoneTwice : {X : Type 0} → List X → Type 0
NoneTwice [] = Unit {0}
NoneTwice (x ∷ xs) = (Stands x xs → ⊥) × NoneTwice xs

-- the names of files that were closed: each had one while it was current, and has another since
abbrev pub names_of_full : StreamAttrs → List (ℕ × ℕ) → List (List ℕ)
names_of_full attrs [] = []
names_of_full attrs (file ∷ files) =
    stamped_name attrs (pos file.0) None ∷ stamped_name attrs (pos file.0) (Some (pos file.1)) ∷ names_of_full attrs files

-- the name of a stream's last file since it was closed, if it was
abbrev pub last_names : StreamAttrs → (created : ℕ) → Option ℕ → List (List ℕ)
last_names attrs created None = []
last_names attrs created (Some closed) = stamped_name attrs (pos created) (Some (pos closed)) ∷ []

-- every name that a file of a stream ever had
abbrev pub names_in : Stream → List (List ℕ)
names_in stream =
    names_of_full stream.attrs stream.full
    ++ stamped_name stream.attrs (pos stream.current) None ∷ last_names stream.attrs stream.current stream.ended

-- every name that a file of these streams ever had
abbrev pub names_of_all : List Stream → List (List ℕ)
names_of_all [] = []
names_of_all (stream ∷ streams) = names_in stream ++ names_of_all streams

-- every name that a file of records had in a history
abbrev pub names_ever : LogSetup → List LogChange → List (List ℕ)
names_ever setup past = names_of_all (chronicle setup past).streams
