-- The world of two servers plays the lines of scripts as they are shared.
use Rattle.std.proofs.Common.{◌≡◌, ℤ, ◌≤ℤ◌, Bool, true, false, if◌then◌else◌, Some, None, refl, ap, sym, arith}
use Rattle.std.specs.Prelude.{ℕ, int_lt}
use Rattle.std.proofs.lemmas.Int.{ints}
use Rattle.script_lines.specs.declared.line.Line.{Line}
use Rattle.script_lines.specs.declared.line.Line.TheVariants as line
use Rattle.script_lines.specs.declared.answer.ScriptWhy.TheVariants as why
use Rattle.script_language.specs.Scripts.{misplaced, time_after}
use Rattle.plain_service.specs.Setups.{Setup}
use Rattle.cluster_lines.specs.Beginning.{Begins}
use Rattle.cluster_core.specs.Game.{world_game}
use Rattle.group_begin.specs.Lines.{IsEventLine}
use Rattle.played_runs.specs.Steps.{time_behind}
use Rattle.script_runs.specs.Handed.{PlaysScriptLines}

-- a time that is not below the one in force
not-below : (now later : ℤ) → (below : Bool) → int_lt later now ≡ below → (if below then Some why.Time else None) ≡ None → now ≤ℤ later
not-below now later true is placed = absurd cc
not-below now later false is placed = omega (arith, ints, is)

-- a line that can stand behind the first can be played
event-line : (now : ℤ) (one : Line) → misplaced (Some now) one ≡ None → IsEventLine now one
event-line now (line.Cluster start queue callbacks alarm ntf sys) placed = absurd cc
event-line now (line.Time later) placed = not-below now later (int_lt later now) refl placed
event-line now _ placed = tt

time-behind : (now : ℤ) (one : Line) → misplaced (Some now) one ≡ None → time_after (Some now) one ≡ Some (time_behind now (Some one))
time-behind now (line.Cluster start queue callbacks alarm ntf sys) placed = absurd cc
time-behind now (line.Time later) placed = refl
time-behind now _ placed = refl

-- a line that can stand first begins a cluster
begins : (opening : Line) → misplaced None opening ≡ None → (setup : Setup) × (places : ℕ) × Begins opening setup places
begins (line.Cluster start queue callbacks alarm ntf sys) placed = (_, _, (refl, refl))
begins _ placed = absurd (cc)

-- at its time
starts : (opening : Line) (setup : Setup) (places : ℕ) → Begins opening setup places → time_after None opening ≡ Some setup.start
starts (line.Cluster start queue callbacks alarm ntf sys) setup places begun = sym (ap (λ (one : Setup). Some one.start) begun.0)
starts _ setup places begun = absurd begun

pub world-scripts : PlaysScriptLines world_game
world-scripts = record {
  spelled = λ next raw spells. spells;
  follows = event-line;
  times = time-behind;
  begins = begins;
  starts = starts;
}
