-- Words of bodies and laws: what lines of the servers' own come to.
use Rattle.std.specs.Prelude.{ℕ, List, Result, OnOk, IfErr}
use Rattle.disk_model.specs.declared.answers.DiskAnswer.{DiskAnswer}
use Rattle.script_lines.specs.declared.line.Line.{Line}
use Rattle.plain_service.specs.Setups.{Setup}
use Rattle.cluster_events.specs.Servers.{State}
use Rattle.cluster_rounds.specs.declared.cluster.Cluster.{Cluster}
use Rattle.cluster_rounds.specs.Kits.{Kit}
use Rattle.cluster_rounds.specs.Scripts.{Script}
use Rattle.cluster_rounds.specs.Counted.{Counted}
use Rattle.cluster_rounds.specs.Worlds.{Event, HasStateOn, Happened, IsGood, Shows, any_state}
use Rattle.cluster_lines.specs.Playing.{BreaksOff, Plays}

module _ {Peers Group : Type 0} (kit : Kit Peers Group) (script : Script Peers kit.Seen) where
  -- over disks: the event of a line, which works nothing, happened over each state that tells of the disks' armed counts
  abbrev pub DoesOn : Line → Event kit → Cluster Group → Cluster Group → List (List ℕ) → List (List ℕ) → kit.Seen → kit.Seen → Type 0
  DoesOn next event old new before after held left =
      (setup : Setup) (state : State Peers) → IsGood kit setup state → Shows kit setup state old → kit.Armed state.peers held
      → Happened kit setup (event setup state) new before after × kit.Armed (event setup state).state.peers left
      × (kit.Tells setup state held → kit.Leaves setup (event setup state).state held left)
      × script.Uses next setup (λ number. 0) state (event setup state) held left

-- all that a line came to, by its result
pub record PlaysLine {Peers Group T : Type 0} (kit : Kit Peers Group) (script : Script Peers kit.Seen) (result : Result T DiskAnswer) (next : Line)
    (old new : Cluster Group) (before after : List (List ℕ)) (held left : kit.Seen) : Type 0 where
  pub ok : OnOk result (Plays kit script next old new before after held left)
  pub stands : OnOk result (HasStateOn kit any_state new left)
  pub broken : IfErr result (λ answer. BreaksOff kit script answer next old new before after held left)
  pub counts : Counted kit held left result
