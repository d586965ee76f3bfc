-- The lines on one server's messages: what they come to, and refusals.
use Rattle.std.proofs.Common.{◌≡◌, ℕ, true, false, Option, Some, None, List, [], ◌∷◌, ◌++◌, refl, ap, sym, ◌∙◌, subst}
use Rattle.std.specs.Prelude.{Result, OnOk, OnErr, IfErr, IfSome}
use Rattle.disk_model.specs.Seen.{DiskSeen}
use Rattle.disk_model.specs.declared.answers.DiskAnswer.{DiskAnswer}
use Rattle.script_lines.specs.declared.line.Line.TheVariants as line
use Rattle.plain_service.specs.Setups.{Setup}
use Rattle.plain_service.specs.Storing.{files_of}
use Rattle.trio_lines.specs.Printing.{trio_line_text}
use Rattle.trio_lines.specs.declared.line.TrioLine.{TrioLine}
use Rattle.trio_lines.specs.declared.line.TrioLine.TheVariants.{Mirror, Ack}
use Rattle.trio_lines.specs.declared.line.TrioServer.{TrioServer}
use Rattle.cluster_facts.specs.Types.{Entry}
use Rattle.cluster_events.specs.Lines.{Told}
use Rattle.cluster_events.specs.Outcomes.{Outcome}
use Rattle.cluster_events.specs.Servers.{State}
use Rattle.event_text.specs.Texts.{refused_line}
use Rattle.group_cluster.specs.Seats as defined
use Rattle.group_cluster.specs.Seats.{Peers}
use Rattle.group_cluster.specs.Group.{confirmed, first_turn, mirrored, only, step_by, mirror_at, ack_at}
use Rattle.cluster_rounds.specs.declared.cluster.Cluster.{Cluster}
use Rattle.cluster_rounds.specs.Broken.{BreaksAlone}
use Rattle.cluster_rounds.specs.Counted.{Counted}
use Rattle.cluster_rounds.specs.Seen.{counters_of}
use Rattle.cluster_rounds.specs.Worlds.{Does, Event, Happened, Shows}
use Rattle.cluster_lines.specs.Answers.{EndsAs}
use Rattle.cluster_lines.specs.Shelves.{shelf_of}
use Rattle.cluster_lines.proofs.LineBroken.{ends-broken, ends-counts}
use Rattle.cluster_lines.proofs.LineSteps.{ends-ok, own-shelf}
use Rattle.group_servers.specs.declared.group.Group.{Group}
use Rattle.group_servers.specs.GroupKit.{group_kit, group_script}
use Rattle.group_servers.specs.GroupLaws.{group_laws}
use Rattle.group_servers.specs.GroupScript.{calm-uses, group_follows}
use Rattle.group_servers.specs.GroupUses.{spent-none}
use Rattle.group_servers.specs.Standing.{standing_as}
use Rattle.group_servers.specs.Steps.{StepsBy}
use Rattle.group_servers.proofs.StandingSteps.{standing-is}
use Rattle.spare_server.specs.Happening.{name_of, or_refused}
use Rattle.spare_server.specs.Lines.{acked_at, mirrored_at, refused_as}
use Rattle.spare_server.specs.Parts.{Breaks, Plays}

-- a refusal leaves all as it is, and prints its line
pub refuses : (next : TrioLine) (world : Cluster (Group 3)) (before after : List (List ℕ)) → after ≡ before ++ refused_line (trio_line_text next) (standing_as world) ∷ [] → Does (group_kit 3) (refused_as next) world world before after
refuses next world before after is setup state good shows =
    (shows, good, is ∙ ap (λ standing. before ++ refused_line (trio_line_text next) standing ∷ []) (standing-is 3 setup state world good shows))

-- a step as the event of its line
step-does : (step : State Peers → Option (Outcome (State Peers))) (next : TrioLine) (event : Event (group_kit 3)) (old new : Cluster (Group 3)) (before after : List (List ℕ)) → ((setup : Setup) (state : State Peers) → event setup state ≡ or_refused next (step state) state) → StepsBy 3 step true old new before after → Does (group_kit 3) event old new before after
step-does step next event old new before after is steps setup state good shows =
    let done = steps setup state good shows in
    subst (λ (o : Outcome (State Peers)). Happened (group_kit 3) setup o new before after) (sym (is setup state ∙ ap (λ found. or_refused next found state) done.1)) done.2

-- where there is none the line is refused
step-refused : (step : State Peers → Option (Outcome (State Peers))) (next : TrioLine) (event : Event (group_kit 3)) (old new : Cluster (Group 3)) (before between after : List (List ℕ)) → ((setup : Setup) (state : State Peers) → event setup state ≡ or_refused next (step state) state) → StepsBy 3 step false old new before between → Does (group_kit 3) (refused_as next) new new between after → Does (group_kit 3) event old new before after
step-refused step next event old new before between after is steps does setup state good shows =
    let shows_new = subst (λ (world : Cluster (Group 3)). Shows (group_kit 3) setup state world) (sym steps.0) shows in
    let done : Happened (group_kit 3) setup (refused_as next setup state) new before after = subst (λ lines. Happened (group_kit 3) setup (refused_as next setup state) new lines after) steps.1 (does setup state good shows_new) in
    subst (λ (o : Outcome (State Peers)). Happened (group_kit 3) setup o new before after) (sym (is setup state ∙ ap (λ found. or_refused next found state) (steps.2 setup state good shows))) done

pub mirror-does : (one : TrioServer) (old new : Cluster (Group 3)) (before after : List (List ℕ)) → StepsBy 3 (mirror_at (name_of one)) true old new before after → Does (group_kit 3) (mirrored_at one) old new before after
mirror-does one old new before after steps = step-does (mirror_at (name_of one)) (Mirror one) (mirrored_at one) old new before after (λ setup state. refl) steps

pub mirror-refused : (one : TrioServer) (old new : Cluster (Group 3)) (before between after : List (List ℕ)) → StepsBy 3 (mirror_at (name_of one)) false old new before between → Does (group_kit 3) (refused_as (Mirror one)) new new between after → Does (group_kit 3) (mirrored_at one) old new before after
mirror-refused one old new before between after steps does =
    step-refused (mirror_at (name_of one)) (Mirror one) (mirrored_at one) old new before between after (λ setup state. refl) steps does

pub ack-does : (one : TrioServer) (old new : Cluster (Group 3)) (before after : List (List ℕ)) → StepsBy 3 (ack_at (name_of one)) true old new before after → Does (group_kit 3) (acked_at one) old new before after
ack-does one old new before after steps = step-does (ack_at (name_of one)) (Ack one) (acked_at one) old new before after (λ setup state. refl) steps

pub ack-refused : (one : TrioServer) (old new : Cluster (Group 3)) (before between after : List (List ℕ)) → StepsBy 3 (ack_at (name_of one)) false old new before between → Does (group_kit 3) (refused_as (Ack one)) new new between after → Does (group_kit 3) (acked_at one) old new before after
ack-refused one old new before between after steps does =
    step-refused (ack_at (name_of one)) (Ack one) (acked_at one) old new before between after (λ setup state. refl) steps does

-- What such a line leaves of the servers' armed count and of what is answered.

abbrev LeavesBoth : State Peers → Outcome (State Peers) → Type 0
LeavesBoth state outcome = (outcome.state.peers.armed ≡ state.peers.armed) × (outcome.state.world.core.answered ≡ state.world.core.answered)

leaves : (next : TrioLine) (found : Option (List defined.Seat × List Told)) (state : State Peers) → LeavesBoth state (or_refused next (step_by found state) state)
leaves next None state = (refl, refl)
leaves next (Some turned) state = (refl, refl)

-- **what the line leads to**
module _ {T E : Type 0} (r : Result T E) (s : Result T DiskAnswer) (old new : Cluster (Group 3)) (before after : List (List ℕ)) (held : DiskSeen) where
  pub mirror-plays : (one : TrioServer) → EndsAs r s → OnOk r (Does (group_kit 3) (mirrored_at one) old new before after) → OnOk s (Plays (Mirror one) old new before after held held)
  mirror-plays one same does = ends-ok r s same (λ (d : Does (group_kit 3) (mirrored_at one) old new before after). played d) does
    where
      played : Does (group_kit 3) (mirrored_at one) old new before after → Plays (Mirror one) old new before after held held
      played d setup state good shows armed tells =
          let left = leaves (Mirror one) (first_turn (only (name_of one) (mirrored state.world.core.answered)) state.peers.seats) state in
          let outcome = mirrored_at one setup state in
          record {
            shelf = shelf_of setup;
            shelf_is = own-shelf setup held.files;
            happened = λ number. 0;
            outcome = outcome;
            leads = refl;
            uses = calm-uses setup line.Mirror state outcome held held refl (spent-none (counters_of held));
            is = d setup state good shows;
            count = armed ∙ sym left.0;
            files = (group_laws 3).left_same setup outcome.state held (subst (λ (past : List Entry). IfSome held.files (λ files. files ≡ files_of setup past)) (sym left.1) tells);
          }

  pub ack-plays : (one : TrioServer) → EndsAs r s → OnOk r (Does (group_kit 3) (acked_at one) old new before after) → OnOk s (Plays (Ack one) old new before after held held)
  ack-plays one same does = ends-ok r s same (λ (d : Does (group_kit 3) (acked_at one) old new before after). played d) does
    where
      played : Does (group_kit 3) (acked_at one) old new before after → Plays (Ack one) old new before after held held
      played d setup state good shows armed tells =
          let left = leaves (Ack one) (first_turn (only (name_of one) confirmed) state.peers.seats) state in
          let outcome = acked_at one setup state in
          record {
            shelf = shelf_of setup;
            shelf_is = own-shelf setup held.files;
            happened = λ number. 0;
            outcome = outcome;
            leads = refl;
            uses = calm-uses setup line.Ack state outcome held held refl (spent-none (counters_of held));
            is = d setup state good shows;
            count = armed ∙ sym left.0;
            files = (group_laws 3).left_same setup outcome.state held (subst (λ (past : List Entry). IfSome held.files (λ files. files ≡ files_of setup past)) (sym left.1) tells);
          }

  -- or what it left
  pub mirror-breaks : (one : TrioServer) → EndsAs r s → OnErr r (BreaksAlone (group_kit 3) old new) → IfErr s (λ answer. Breaks answer (Mirror one) old new before after held held)
  mirror-breaks one same breaks =
      (ends-broken (group_kit 3) (group_laws 3) group_script (group_follows 3)) r s line.Mirror old new before after held same breaks

  pub ack-breaks : (one : TrioServer) → EndsAs r s → OnErr r (BreaksAlone (group_kit 3) old new) → IfErr s (λ answer. Breaks answer (Ack one) old new before after held held)
  ack-breaks one same breaks =
      (ends-broken (group_kit 3) (group_laws 3) group_script (group_follows 3)) r s line.Ack old new before after held same breaks

pub own-counts : {T E : Type 0} (r : Result T E) (s : Result T DiskAnswer) (held : DiskSeen) → EndsAs r s → Counted (group_kit 3) held held s
own-counts r s held same = (ends-counts (group_kit 3) (group_laws 3)) r s held same
