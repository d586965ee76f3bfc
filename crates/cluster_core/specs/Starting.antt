-- Words of bodies alone: the steps of a start.
use Rattle.std.specs.Prelude.{◌≡◌, ℕ, ℤ, false, List, []}
use Rattle.calls.specs.History.{empty_history}
use Rattle.stream_layout.specs.declared.deed.Deed.{Deed}
use Rattle.plain_service.specs.Setups.{Setup}
use Rattle.plain_service.specs.Storing.{opening_of}
use Rattle.mirror.specs.declared.state.NodeState.{NodeState as Node}
use Rattle.group_servers.specs.GroupNodes.{standby_by}
use Rattle.group_begin.specs.Starting.{active_at}
use Rattle.cluster_core.specs.declared.world.World.{World}

-- a world in which nothing was posted, with these servers
abbrev pub world_of : Node → Node → ℤ → ℕ → World
world_of active standby start callbacks = record {
  a = active;
  b = standby;
  link = [];
  back = [];
  net = [];
  agents = [];
  history = empty_history;
  now = start;
  armed = false;
  callbacks = callbacks;
}

-- both servers, and the deeds of the start
abbrev pub StartsBoth : Setup → Node → Node → List Deed → Type 0
StartsBoth setup active standby deeds = (active ≡ active_at setup) × (standby ≡ standby_by setup [] false) × (deeds ≡ opening_of setup)

-- the world at the start of a setup, and the deeds of the start
abbrev pub StartsWorld : Setup → ℕ → World → List Deed → Type 0
StartsWorld setup places world deeds =
    (world ≡ world_of (active_at setup) (standby_by setup [] false) setup.start places) × (deeds ≡ opening_of setup)
