-- What a cluster line that can stand in a script gives.
use Rattle.std.proofs.Common.{ℕ, List, sym, subst, refl}
use Rattle.script_lines.specs.declared.line.Line.{Line}
use Rattle.script_lines.specs.declared.line.Line.TheVariants.{Cluster}
use Rattle.script_language.specs.Lines.{Spells}
use Rattle.plain_service.specs.Setups.{Setup, CanBegin}
use Rattle.cluster_lines.specs.Beginning.{Begins}
use Rattle.cluster_lines.proofs.LineSpelled.{CanOpen, spelled-fits}

opens-setup : (one : Line) (setup : Setup) (places : ℕ) → CanOpen one → Begins one setup places → CanBegin setup
opens-setup (Cluster start queue callbacks alarm ntf sys) setup places (sound, moment, capacity) begins =
    subst CanBegin (sym begins.0)
    (record {
      start = moment;
      capacity = capacity;
      streams = record {
        alarm = sound.0;
        notification = sound.1;
        system = sound.2;
        first_apart = refl;
        second_apart = refl;
        third_apart = refl;
      };
    })
opens-setup _ setup places can begins = absurd begins

-- **a cluster line of a script tells a setup with which a service can begin**
pub spelled-begins : (one : Line) (raw : List ℕ) (setup : Setup) (places : ℕ) → Spells one raw → Begins one setup places → CanBegin setup
spelled-begins one raw setup places spelled begins =
    opens-setup one setup places (spelled-fits one raw spelled).1 begins
