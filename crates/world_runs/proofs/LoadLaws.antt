-- The world of two servers plays shared lines as they are shared.
use Rattle.std.proofs.Common.{◌≡◌, ℤ, true, refl}
use Rattle.std.specs.Prelude.{pos}
use Rattle.ais_values.specs.declared.kind.StreamKind.TheVariants as kind
use Rattle.script_lines.specs.declared.line.Line.{Line}
use Rattle.script_lines.specs.declared.line.Line.TheVariants as line
use Rattle.script_language.specs.Streams.{well_attrs}
use Rattle.load_lines.specs.Lines.{no_options}
use Rattle.plain_service.specs.Setups.{Setup}
use Rattle.load_runs.specs.Handed.{PlaysLoads, is_untimed}
use Rattle.cluster_core.specs.Game.{world_game}
use Rattle.group_begin.specs.Lines.{IsEventLine}

-- the cluster that the first line begins
abbrev load_setup : Setup
load_setup = record {
  start = pos 1704067200000000000;
  capacity = 2;
  alarm = well_attrs kind.Alarm no_options;
  notification = well_attrs kind.Notification no_options;
  system = well_attrs kind.System no_options;
}

untimed-follows : (now : ℤ) (next : Line) → is_untimed next ≡ true → IsEventLine now next
untimed-follows now (line.Cluster start queue callbacks alarm ntf sys) untimed = absurd (cc)
untimed-follows now (line.Time later) untimed = absurd (cc)
untimed-follows now _ untimed = tt

pub world-loads : PlaysLoads world_game
world-loads = record {
  spelled = λ next raw spells. spells;
  follows = untimed-follows;
  begins = (load_setup, 256, (refl, refl));
}
