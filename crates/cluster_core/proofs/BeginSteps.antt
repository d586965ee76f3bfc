-- The start of a cluster.
use Rattle.std.proofs.Common.{◌≡◌, ℕ, false, List, [], ◌∷◌, Option, None, refl, ap, sym, subst, ◌∙◌, inr}
use Rattle.std.specs.Prelude.{ℤ, option_map}
use Rattle.disk_model.specs.Disk.{Files}
use Rattle.disk_model.specs.Seen.{DiskSeen}
use Rattle.disk_model.specs.Counts.{passed}
use Rattle.disk_model.specs.DeviceCalls.{all_applied}
use Rattle.stream_layout.specs.Deeds.{calls_of_all}
use Rattle.stream_layout.specs.declared.deed.Deed.{Deed}
use Rattle.script_lines.specs.declared.line.WellOptions.{WellOptions}
use Rattle.script_lines.specs.declared.line.Line.{Line}
use Rattle.script_lines.specs.declared.line.Line.TheVariants.{Cluster}
use Rattle.script_lines.specs.declared.line.Server.TheVariants.{B}
use Rattle.plain_service.specs.Setups.{Setup, CanBegin}
use Rattle.plain_service.specs.Storing.{opening_of}
use Rattle.service_laws.specs.PlainOf.{plain_of}
use Rattle.group_cluster.proofs.Running.{start-steady}
use Rattle.group_servers.specs.GroupNodes.{standby_by}
use Rattle.mirror.specs.declared.state.NodeState.{NodeState as Node}
use Rattle.group_begin.specs.Starting.{active_at}
use Rattle.group_begin.proofs.StartSteps.{files-start, passed-unarmed}
use Rattle.cluster_core.specs.Game.{world_game}
use Rattle.cluster_core.specs.declared.world.World.{World}
use Rattle.cluster_core.specs.Worlds.{Shows, IsGood, pair_start}
use Rattle.cluster_lines.specs.Beginning.{Begins}
use Rattle.played_runs.specs.Views.{HoldsNone}
use Rattle.played_runs.specs.Games.{Begun}
use Rattle.cluster_core.specs.Starting.{world_of, StartsBoth, StartsWorld}

good-start : (setup : Setup) (places : ℕ) → CanBegin setup → IsGood setup (pair_start setup.start places)
good-start setup places begins = record {
  begins = begins;
  steady = start-steady 2 (plain_of setup) (B ∷ []) refl setup.start places;
  range = tt;
  moment = begins.start;
}

shows-start : (setup : Setup) (places : ℕ) → Shows setup (pair_start setup.start places) (world_of (active_at setup) (standby_by setup [] false) setup.start places)
shows-start setup places = record {
  own = refl;
  net = tt;
  agents = record { shown = refl; rising = tt; listed = λ client. inr refl };
  history = refl;
  now = refl;
  callbacks = refl;
}

-- **the start was done**
pub begun : (setup : Setup) (places count : ℕ) (held : Option Files) (before left : DiskSeen) (world : World) → CanBegin setup → world ≡ world_of (active_at setup) (standby_by setup [] false) setup.start places → HoldsNone held → left.files ≡ option_map (all_applied (calls_of_all (opening_of setup))) held → left.tally ≡ passed count before.tally → before.tally.armed ≡ None → (Begun world_game) setup places held left world
begun setup places count held before left world begins is none done counted unarmed = record {
  good = good-start setup places begins;
  shows = subst (λ w. Shows setup (pair_start setup.start places) w) (sym is) (shows-start setup places);
  files = files-start setup places held left.files begins none done;
  armed = passed-unarmed count before.tally left.tally counted unarmed;
}

-- and the world at the start
pub starts-world : (one : Line) (start : ℤ) (queue callbacks : ℕ) (alarm ntf sys : WellOptions) (active standby : Node) (deeds : List Deed) (world : World) → one ≡ Cluster start queue callbacks alarm ntf sys → world ≡ world_of active standby start callbacks
    → (setup : Setup) (places : ℕ) → Begins one setup places → StartsBoth setup active standby deeds → StartsWorld setup places world deeds
starts-world one start queue callbacks alarm ntf sys active standby deeds world is made setup places begins starts =
    let tells : Begins (Cluster start queue callbacks alarm ntf sys) setup places = subst (λ l. Begins l setup places) is begins in
    let first = standby_by setup [] false in (
      made
          ∙ ap (λ a. world_of a standby start callbacks) starts.0
          ∙ ap (λ b. world_of (active_at setup) b start callbacks) starts.1
          ∙ ap (λ now. world_of (active_at setup) first now callbacks) (sym (ap (λ (s : Setup). s.start) tells.0))
          ∙ ap (λ n. world_of (active_at setup) first setup.start n) (sym tells.1),
      starts.2,
    )
