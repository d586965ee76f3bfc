-- The start of three servers.
use Rattle.std.proofs.Common.{◌≡◌, ℕ, false, List, [], ◌∷◌, Option, None, refl, ap, sym, subst, ◌∙◌, inr}
use Rattle.std.specs.Prelude.{ℤ, option_map}
use Rattle.disk_model.specs.Disk.{Files}
use Rattle.disk_model.specs.Seen.{DiskSeen}
use Rattle.disk_model.specs.Counts.{passed}
use Rattle.disk_model.specs.DeviceCalls.{all_applied}
use Rattle.stream_layout.specs.Deeds.{calls_of_all}
use Rattle.stream_layout.specs.declared.deed.Deed.{Deed}
use Rattle.script_lines.specs.declared.line.WellOptions.{WellOptions}
use Rattle.script_lines.specs.declared.line.Line.{Line}
use Rattle.script_lines.specs.declared.line.Line.TheVariants.{Cluster}
use Rattle.script_lines.specs.declared.line.Server.TheVariants.{B, C}
use Rattle.plain_service.specs.Setups.{Setup, CanBegin}
use Rattle.plain_service.specs.Storing.{opening_of}
use Rattle.service_laws.specs.PlainOf.{plain_of}
use Rattle.trio_lines.specs.declared.line.TrioLine.{TrioLine}
use Rattle.trio_lines.specs.declared.line.TrioLine.TheVariants.{Plain}
use Rattle.trio_lines.specs.Lines.{SpellsTrio}
use Rattle.group_cluster.proofs.Running.{start-steady}
use Rattle.group_servers.specs.GroupNodes.{standby_by}
use Rattle.mirror.specs.declared.state.NodeState.{NodeState as Node}
use Rattle.cluster_lines.specs.Beginning.{Begins}
use Rattle.group_begin.specs.Starting.{active_at}
use Rattle.cluster_lines.proofs.BeginSpelled.{spelled-begins}
use Rattle.group_begin.proofs.StartSteps.{files-start, passed-unarmed}
use Rattle.played_runs.specs.Views.{HoldsNone}
use Rattle.played_runs.specs.Games.{Begun}
use Rattle.spare_server.specs.declared.world.TrioWorld.{TrioWorld}
use Rattle.spare_server.specs.Game.{trio_game}
use Rattle.spare_server.specs.Playing.{BeginsTrio}
use Rattle.spare_server.specs.Starting.{StartAll, StartsTrio, world_at, world_of}
use Rattle.spare_server.specs.Worlds.{IsGood, Shows, trio_start}

good-start : (setup : Setup) (places : ℕ) → CanBegin setup → IsGood setup (trio_start setup.start places)
good-start setup places begins = record {
  begins = begins;
  steady = start-steady 3 (plain_of setup) (B ∷ C ∷ []) refl setup.start places;
  range = tt;
  moment = begins.start;
}

shows-start : (setup : Setup) (places : ℕ) → Shows setup (trio_start setup.start places) (world_at setup places)
shows-start setup places = record {
  own = refl;
  net = tt;
  agents = record { shown = refl; rising = tt; listed = λ client. inr refl };
  history = refl;
  now = refl;
  callbacks = refl;
}

-- **the start was done**
pub begun : (setup : Setup) (places count : ℕ) (held : Option Files) (before left : DiskSeen) (world : TrioWorld) → CanBegin setup → world ≡ world_at setup places → HoldsNone held → left.files ≡ option_map (all_applied (calls_of_all (opening_of setup))) held → left.tally ≡ passed count before.tally → before.tally.armed ≡ None → (Begun trio_game) setup places held left world
begun setup places count held before left world begins is none done counted unarmed = record {
  good = good-start setup places begins;
  shows = subst (λ w. Shows setup (trio_start setup.start places) w) (sym is) (shows-start setup places);
  files = files-start setup places held left.files begins none done;
  armed = passed-unarmed count before.tally left.tally counted unarmed;
}

-- a cluster line of a script tells a setup with which a service can begin
pub trio-begins : (one : TrioLine) (raw : List ℕ) (setup : Setup) (places : ℕ) → SpellsTrio one raw → BeginsTrio one setup places → CanBegin setup
trio-begins (Plain next) raw setup places spelled begins = spelled-begins next raw setup places spelled begins
trio-begins _ raw setup places spelled begins = absurd begins

-- and the world at the start
pub starts-trio : (next : Line) (start : ℤ) (queue callbacks : ℕ) (alarm ntf sys : WellOptions) (active one other : Node) (deeds : List Deed) (world : TrioWorld) → next ≡ Cluster start queue callbacks alarm ntf sys → world ≡ world_of active one other start callbacks
    → (setup : Setup) (places : ℕ) → Begins next setup places → StartAll setup active one other deeds → StartsTrio setup places world deeds
starts-trio next start queue callbacks alarm ntf sys active one other deeds world is made setup places begins starts =
    let tells : Begins (Cluster start queue callbacks alarm ntf sys) setup places = subst (λ l. Begins l setup places) is begins in
    let standby = standby_by setup [] false in (
      made
          ∙ ap (λ a. world_of a one other start callbacks) starts.0
          ∙ ap (λ b. world_of (active_at setup) b other start callbacks) starts.1.0
          ∙ ap (λ c. world_of (active_at setup) standby c start callbacks) starts.1.1
          ∙ ap (λ now. world_of (active_at setup) standby standby now callbacks) (sym (ap (λ (s : Setup). s.start) tells.0))
          ∙ ap (λ n. world_of (active_at setup) standby standby setup.start n) (sym tells.1),
      starts.2,
    )
