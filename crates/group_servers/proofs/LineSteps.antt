-- What the lines on messages between the servers come to, and the steps of a drain.
use Rattle.std.proofs.Common.{◌≡◌, ℕ, true, false, Option, Some, None, List, ap, sym, subst}
use Rattle.script_lines.specs.declared.line.Line.{Line}
use Rattle.script_lines.specs.declared.line.Line.TheVariants.{Mirror, Ack}
use Rattle.plain_service.specs.Setups.{Setup}
use Rattle.cluster_events.specs.Events.{step_or_refuse}
use Rattle.cluster_events.specs.Outcomes.{Outcome}
use Rattle.cluster_events.specs.Servers.{State}
use Rattle.group_cluster.specs.Seats.{Peers}
use Rattle.group_cluster.specs.Group.{mirror_group, ack_group}
use Rattle.cluster_rounds.specs.declared.cluster.Cluster.{Cluster}
use Rattle.cluster_rounds.specs.Kits.{calm_servers}
use Rattle.cluster_rounds.specs.Worlds.{Does, Event, Happened, Shows}
use Rattle.group_servers.specs.declared.group.Group.{Group}
use Rattle.group_servers.specs.GroupKit.{group_kit}
use Rattle.group_servers.specs.Steps.{StepsBy, refused_by, mirrored_next, acked_next}

module _ (n : ℕ) where
  -- a step as the event of its line
  step-does : (step : State Peers → Option (Outcome (State Peers))) (event : Event (group_kit n)) (old new : Cluster (Group n)) (before after : List (List ℕ)) → ((setup : Setup) (state : State Peers) (outcome : Outcome (State Peers)) → step state ≡ Some outcome → event setup state ≡ outcome) → StepsBy n step true old new before after → Does (group_kit n) event old new before after
  step-does step event old new before after leads steps setup state good shows =
      let done = steps setup state good shows in
      subst (λ (o : Outcome (State Peers)). Happened (group_kit n) setup o new before after) (sym (leads setup state done.0 done.1)) done.2

  -- where there is none the line is refused
  step-refused : (step : State Peers → Option (Outcome (State Peers))) (event : Event (group_kit n)) (line : Line) (old new : Cluster (Group n)) (before between after : List (List ℕ)) → ((setup : Setup) (state : State Peers) → step state ≡ None → event setup state ≡ refused_by n line setup state) → StepsBy n step false old new before between → Does (group_kit n) (refused_by n line) new new between after → Does (group_kit n) event old new before after
  step-refused step event line old new before between after leads steps does setup state good shows =
      let shows_new = subst (λ (world : Cluster (Group n)). Shows (group_kit n) setup state world) (sym steps.0) shows in
      let done : Happened (group_kit n) setup (refused_by n line setup state) new before after = subst (λ lines. Happened (group_kit n) setup (refused_by n line setup state) new lines after) steps.1 (does setup state good shows_new) in
      subst (λ (o : Outcome (State Peers)). Happened (group_kit n) setup o new before after) (sym (leads setup state (steps.2 setup state good shows))) done

  pub mirror-does : (old new : Cluster (Group n)) (before after : List (List ℕ)) → StepsBy n mirror_group true old new before after → Does (group_kit n) (mirrored_next n) old new before after
  mirror-does old new before after steps =
      step-does mirror_group (mirrored_next n) old new before after (λ setup state outcome is. ap (λ found. step_or_refuse (calm_servers (group_kit n) setup) Mirror found state) is) steps

  pub mirror-refused : (old new : Cluster (Group n)) (before between after : List (List ℕ)) → StepsBy n mirror_group false old new before between → Does (group_kit n) (refused_by n Mirror) new new between after → Does (group_kit n) (mirrored_next n) old new before after
  mirror-refused old new before between after steps does =
      step-refused mirror_group (mirrored_next n) Mirror old new before between after (λ setup state is. ap (λ found. step_or_refuse (calm_servers (group_kit n) setup) Mirror found state) is) steps does

  pub ack-does : (old new : Cluster (Group n)) (before after : List (List ℕ)) → StepsBy n ack_group true old new before after → Does (group_kit n) (acked_next n) old new before after
  ack-does old new before after steps =
      step-does ack_group (acked_next n) old new before after (λ setup state outcome is. ap (λ found. step_or_refuse (calm_servers (group_kit n) setup) Ack found state) is) steps

  pub ack-refused : (old new : Cluster (Group n)) (before between after : List (List ℕ)) → StepsBy n ack_group false old new before between → Does (group_kit n) (refused_by n Ack) new new between after → Does (group_kit n) (acked_next n) old new before after
  ack-refused old new before between after steps does =
      step-refused ack_group (acked_next n) Ack old new before between after (λ setup state is. ap (λ found. step_or_refuse (calm_servers (group_kit n) setup) Ack found state) is) steps does
