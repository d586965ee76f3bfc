-- Words of bodies alone: what is told of a server that worked.
use Rattle.std.specs.Prelude.{ℕ, List}
use Rattle.mirror.specs.declared.heard.Heard.{Heard}
use Rattle.mirror.specs.declared.state.NodeState.{NodeState as Node}
use Rattle.cluster_clients.specs.Posted.{PostsAll}
use Rattle.group_servers.specs.declared.group.Seat.{Seat}
use Rattle.group_servers.specs.Owing.{LinksAll}

-- what it asks for is posted, and each server that joins gets what it is owed
abbrev pub TellsWorked : Heard → List (List ℕ) → List (List ℕ) → Node → Node → List Seat → List Seat → List (List ℕ) → List (List ℕ) → Type 0
TellsWorked heard old_net new_net old new seats news before after =
    PostsAll heard.to_net old_net new_net before after × LinksAll seats news old new
