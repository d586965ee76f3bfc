-- Words of public clauses: the server goes down, comes back with what the journal holds, and its disks are armed.
use Rattle.std.specs.Prelude.{◌≡◌, ℕ, suc, false, Option, None, List, [], ◌∷◌, length}
use Rattle.script_lines.specs.declared.line.Server.TheVariants.{A}
use Rattle.cluster_facts.specs.Types.{Entry}
use Rattle.cluster_facts.specs.History.{Empty, Waiting, committed}
use Rattle.cluster_events.specs.Lines.{Told, Committed, Stood}
use Rattle.cluster_events.specs.declared.lines.ServerRole.TheVariants as role
use Rattle.cluster_events.specs.Outcomes.{Outcome, quietly, telling}
use Rattle.cluster_events.specs.Cores.{with_core}
use Rattle.cluster_events.specs.Servers.{State}
use Rattle.cold_cluster.specs.Cold.{Alone, at_rest}

-- The server goes down, and no disk is armed. Nothing else of the world changes: what is in hand may be found in the journal.
abbrev pub down_of : Alone → Alone
down_of peers = record { mirrored = peers.mirrored; up = false; armed = None; beside = None }

abbrev pub fallen : State Alone → Outcome (State Alone)
fallen state = telling (record { world = state.world; peers = down_of state.peers }) (Stood A role.Down)

-- it came back with these entries
abbrev pub back_with : List Entry → List Told → State Alone → Outcome (State Alone)
back_with found told state = record {
  state = record { world = with_core found Empty state.world; peers = at_rest };
  told = Stood A role.Active ∷ told;
}

-- A cold start finds what was committed, or the entry that waited too.
pub data Restarts (state : State Alone) : Outcome (State Alone) → Type 0 where
  as_was : Restarts state (back_with (committed state.world.core) [] state)
  one_more : (entry : Entry) → state.world.core.hand ≡ Waiting entry
      → Restarts state (back_with (entry ∷ state.world.core.answered) (Committed (suc (length state.world.core.answered)) entry ∷ []) state)

-- other counts are in force: of the record disk, and of the journal's
abbrev pub armed_alone : Option ℕ → Option ℕ → State Alone → Outcome (State Alone)
armed_alone armed beside state = quietly (record {
  world = state.world;
  peers = record { mirrored = state.peers.mirrored; up = state.peers.up; armed = armed; beside = beside };
})
