-- Words of public clauses: what leads from a state to another without asking a disk.
use Rattle.std.specs.Prelude.{◌≡◌}
use Rattle.cluster_facts.specs.Types.{Entry}
use Rattle.cluster_facts.specs.History.{Empty}
use Rattle.cluster_events.specs.Servers.{State, Servers}

-- nothing changed but net, agents and time, or the active server accepted an entry
pub data Rests {P : Type 0} (servers : Servers P) (old : State P) : State P → Type 0 where
  begun : Rests servers old old
  moved : {now : State P} → Rests servers old now → (new : State P) → new.world.core ≡ now.world.core → new.peers ≡ now.peers → Rests servers old new
  accepted : {now : State P} → Rests servers old now → (entry : Entry) → now.world.core.hand ≡ Empty → Rests servers old (servers.accept entry now).state
