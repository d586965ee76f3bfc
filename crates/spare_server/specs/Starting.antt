-- Words of bodies alone: the steps of a start.
use Rattle.std.specs.Prelude.{◌≡◌, ℕ, ℤ, false, List, []}
use Rattle.calls.specs.History.{empty_history}
use Rattle.stream_layout.specs.declared.deed.Deed.{Deed}
use Rattle.plain_service.specs.Setups.{Setup}
use Rattle.plain_service.specs.Storing.{opening_of}
use Rattle.mirror.specs.declared.state.NodeState.{NodeState as Node}
use Rattle.group_servers.specs.GroupNodes.{standby_by}
use Rattle.group_begin.specs.Starting.{active_at}
use Rattle.spare_server.specs.declared.world.TrioWorld.{TrioWorld}

-- a world in which nothing was posted, with these servers
abbrev pub world_of : (active one other : Node) → ℤ → ℕ → TrioWorld
world_of active one other start callbacks = record {
  a = active;
  b = one;
  c = other;
  link_a = [];
  link_b = [];
  link_c = [];
  back_a = [];
  back_b = [];
  back_c = [];
  net = [];
  agents = [];
  history = empty_history;
  now = start;
  armed = false;
  callbacks = callbacks;
}

-- the standbys at the start of a setup
abbrev pub StartOthers : Setup → Node → Node → Type 0
StartOthers setup one other = (one ≡ standby_by setup [] false) × (other ≡ standby_by setup [] false)

-- all servers, and the deeds of the start
abbrev pub StartAll : Setup → (active one other : Node) → List Deed → Type 0
StartAll setup active one other deeds = (active ≡ active_at setup) × StartOthers setup one other × (deeds ≡ opening_of setup)

-- the world at the start of a setup, and the deeds of the start
abbrev pub world_at : Setup → ℕ → TrioWorld
world_at setup places = world_of (active_at setup) (standby_by setup [] false) (standby_by setup [] false) setup.start places

abbrev pub StartsTrio : Setup → ℕ → TrioWorld → List Deed → Type 0
StartsTrio setup places world deeds = (world ≡ world_at setup places) × (deeds ≡ opening_of setup)
