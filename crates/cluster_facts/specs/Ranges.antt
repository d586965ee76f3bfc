-- Words of public clauses: what the entries of a run are beside their order: clients, times and their count lie within bounds.
use Rattle.std.specs.Prelude.{ℕ, ◌≤◌, ◌<◌, pos, ◌≤ℤ◌, List, [], ◌∷◌, length}
use Rattle.ais_values.specs.Bounds.{last_moment, most_entries}
use Rattle.cluster_facts.specs.Types.{Entry, Called, Receipted}
use Rattle.cluster_facts.specs.History.{time_of}

abbrev pub client_of : Entry → ℕ
client_of (Called client number time call) = client
client_of (Receipted client key through time) = client

-- an entry can come after so many
pub record CanCome (entry : Entry) (past : List Entry) : Type 0 where
  pub from : 1 ≤ client_of entry
  pub to : client_of entry ≤ 4096
  pub early : pos 0 ≤ℤ time_of entry
  pub late : time_of entry ≤ℤ pos last_moment
  pub few : length past < most_entries

abbrev pub AreInRange : List Entry → Type 0
AreInRange [] = Unit {0}
AreInRange (entry ∷ past) = CanCome entry past × AreInRange past
