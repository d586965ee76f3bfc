-- Words of public clauses: an entry that waits as servers go down.
use Rattle.std.specs.Prelude.{ℕ, nat_le, if◌then◌else◌, Option, Some, None, List, [], ◌∷◌}
use Rattle.cluster_facts.specs.Types.{Entry}
use Rattle.event_text.specs.Texts.{entry_line}
use Rattle.mirror.specs.declared.state.NodeState.{NodeState as Node}
use Rattle.mirror.specs.Replicas.{number_in_hand}

-- the entry in hand, with its number, where it waits and is not in a history of so many
abbrev pub waiting_by : Option ℕ → Option Entry → ℕ → Option (ℕ × Entry)
waiting_by None waits entries = None
waiting_by (Some number) None entries = None
waiting_by (Some number) (Some entry) entries = if nat_le number entries then None else Some (number, entry)

abbrev pub waiting_in : Node → ℕ → Option (ℕ × Entry)
waiting_in active entries = waiting_by (number_in_hand active.replica) active.waits entries

abbrev pub waiting_lines : Option (ℕ × Entry) → List (List ℕ)
waiting_lines None = []
waiting_lines (Some found) = entry_line found.0 found.1 ∷ []
