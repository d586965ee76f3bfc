-- Words of public clauses: what a cluster line begins.
use Rattle.std.specs.Prelude.{◌≡◌, ℕ}
use Rattle.ais_values.specs.declared.kind.StreamKind.TheVariants.{Alarm, Notification, System}
use Rattle.script_lines.specs.declared.line.Line.{Line}
use Rattle.script_lines.specs.declared.line.Line.TheVariants.{Cluster}
use Rattle.script_language.specs.Streams.{well_attrs}
use Rattle.plain_service.specs.Setups.{Setup}

-- a cluster line tells this setup, and how many callbacks each agent's queue holds; no other line tells one
abbrev pub Begins : Line → Setup → ℕ → Type 0
Begins (Cluster start queue callbacks alarm ntf sys) setup places =
    (setup
    ≡ record {
      start = start;
      capacity = queue;
      alarm = well_attrs Alarm alarm;
      notification = well_attrs Notification ntf;
      system = well_attrs System sys;
    })
    × (places ≡ callbacks)
Begins _ setup places = ⊥
