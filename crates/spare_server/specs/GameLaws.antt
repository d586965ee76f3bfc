-- What is asked of a world that plays the lines of scripts holds of that of three servers.
use Rattle.std.specs.Prelude.{◌≡◌, Option, Some, None, IfSome, List, [], ◌∷◌, option_map}
use Rattle.std.proofs.Common.{refl, ap, sym, subst}
use Rattle.disk_model.specs.Counts.{Counters}
use Rattle.disk_model.specs.Disk.{Files}
use Rattle.disk_model.specs.Seen.{DiskSeen}
use Rattle.script_lines.specs.declared.line.Line.{Line}
use Rattle.script_lines.specs.declared.line.Line.TheVariants as line
use Rattle.script_lines.specs.declared.line.Server.{Server}
use Rattle.script_lines.specs.declared.line.Server.TheVariants as server
use Rattle.plain_service.specs.Setups.{Setup}
use Rattle.plain_service.specs.Storing.{files_of}
use Rattle.trio_lines.specs.declared.line.TrioLine.{TrioLine}
use Rattle.trio_lines.specs.declared.line.TrioLine.TheVariants.{Plain, Crash, Arm, Restart, Mirror, Ack}
use Rattle.trio_lines.specs.Lines.{shared_line}
use Rattle.trio_lines.specs.Printing.{trio_line_text}
use Rattle.cluster_facts.specs.Service.{Plain as PlainService, IsPlain}
use Rattle.cluster_facts.specs.World.{World}
use Rattle.cluster_events.specs.Lines.{Told}
use Rattle.cluster_events.specs.Cores.{IsCored}
use Rattle.cluster_events.specs.Outcomes.{Outcome}
use Rattle.cluster_events.specs.Servers.{State}
use Rattle.cluster_events.specs.Devices.{Device}
use Rattle.cluster_events.specs.Running.{Shelf}
use Rattle.cluster_events.specs.Saying.{Says}
use Rattle.cluster_events.specs.Serving.{IsSteady, IsStepped}
use Rattle.cluster_events.specs.Settled.{IsSettled}
use Rattle.cluster_events.proofs.Carrying.{IsTold}
use Rattle.cluster_events.proofs.Ending.{settle-settles}
use Rattle.cluster_events.proofs.Walking.{ByKind, IsByKind, Others}
use Rattle.service_laws.specs.PlainOf.{plain_of}
use Rattle.service_laws.proofs.ServiceLaws.{is_plain}
use Rattle.cluster_rounds.specs.Kits.{device_by}
use Rattle.cluster_lines.specs.Shelves.{shelf_of}
use Rattle.group_cluster.specs.Seats.{Peers, IsGroup, standing_group}
use Rattle.group_cluster.specs.Group.{group, mirror_at, ack_at}
use Rattle.group_cluster.proofs.Ended.{end-walks, line-tells, line-lacks}
use Rattle.group_cluster.proofs.Lines.{at-steps, back-steps}
use Rattle.group_cluster.proofs.Running.{start-steady, group-kept}
use Rattle.group_cluster.proofs.Saying.{group-serves, group-spends, says-borne}
use Rattle.group_cluster.proofs.Serving.{stepped-by}
use Rattle.group_cluster.proofs.Stepping.{Bears}
use Rattle.group_cluster.proofs.Walking.{group-walks, told-bears}
use Rattle.group_servers.specs.GroupCounts.{CountsLine}
use Rattle.played_runs.specs.Kinds.{InTime, Refuses, Waits, kind_by}
use Rattle.played_runs.specs.Laws.{DoneFacts, EndFacts, IsGame}
use Rattle.played_runs.specs.Views.{files_told}
use Rattle.played_runs.proofs.RefusalLaws.{refuses-told, refuses-cored, refuses-by-kind}
use Rattle.played_runs.proofs.TimeLaws.{in_time-told, in_time-cored, in_time-by-kind}
use Rattle.played_runs.proofs.WaitingLaws.{passes-told, passes-cored, waits-by-kind}
use Rattle.group_begin.specs.Lines.{calls_by}
use Rattle.spare_server.specs.declared.world.TrioWorld.{TrioWorld}
use Rattle.spare_server.specs.Ended.{TrioEnded}
use Rattle.spare_server.specs.Game.{trio_game}
use Rattle.spare_server.specs.Happening.{TrioHappens, group_line, name_of, or_refused}
use Rattle.spare_server.specs.Playing.{TrioDone}

-- A message to one server alone, or from it, keeps what a message keeps.
module _ (plain : PlainService) (is_plain : IsPlain plain) (device : Device) (R : World → World → List Told → Type 0) (bears : Bears plain R) where
  abbrev Keeps : State Peers → Outcome (State Peers) → Type 0
  Keeps state outcome = IsSteady plain (IsGroup 3) outcome.state × R state.world outcome.state.world outcome.told

  or-keeps :
      (next : TrioLine) (step : State Peers → Option (Outcome (State Peers))) → IsStepped plain (IsGroup 3) R step
      → (found : Option (Outcome (State Peers))) (state : State Peers) → step state ≡ found → IsSteady plain (IsGroup 3) state
      → Keeps state (or_refused next found state)
  or-keeps next step stepped None state is steady = (steady, bears.refused state.world (trio_line_text next) (standing_group state))
  or-keeps next step stepped (Some outcome) state is steady = stepped.steps state outcome is steady

  mirror-keeps :
      (next : TrioLine) (server : Server) (state : State Peers) → IsSteady plain (IsGroup 3) state
      → Keeps state (or_refused next (mirror_at server state) state)
  mirror-keeps next server state steady =
      or-keeps next (mirror_at server) (stepped-by 3 plain is_plain device R bears (mirror_at server) (at-steps 3 plain is_plain device R bears server))
      (mirror_at server state) state refl steady

  ack-keeps :
      (next : TrioLine) (server : Server) (state : State Peers) → IsSteady plain (IsGroup 3) state
      → Keeps state (or_refused next (ack_at server state) state)
  ack-keeps next server state steady =
      or-keeps next (ack_at server) (stepped-by 3 plain is_plain device R bears (ack_at server) (back-steps 3 plain is_plain device R bears server))
      (ack_at server state) state refl steady

-- every line keeps the facts, and says what it must
trio-kept :
    (plain : PlainService) → IsPlain plain → (shelf : Shelf) (device : Device) (next : TrioLine) (state : State Peers) (outcome : Outcome (State Peers))
    → IsSteady plain (IsGroup 3) state → TrioHappens plain shelf device next state outcome
    → IsSteady plain (IsGroup 3) outcome.state × Says plain state.world outcome.state.world outcome.told
trio-kept plain plainly shelf device (Mirror one) state outcome steady happens =
    let K : Outcome (State Peers) → Type 0 = λ o. IsSteady plain (IsGroup 3) o.state × Says plain state.world o.state.world o.told in
    subst K (sym happens) (mirror-keeps plain plainly device (Says plain) (says-borne plain) (Mirror one) (name_of one) state steady)
trio-kept plain plainly shelf device (Ack one) state outcome steady happens =
    let K : Outcome (State Peers) → Type 0 = λ o. IsSteady plain (IsGroup 3) o.state × Says plain state.world o.state.world o.told in
    subst K (sym happens) (ack-keeps plain plainly device (Says plain) (says-borne plain) (Ack one) (name_of one) state steady)
trio-kept plain plainly shelf device (Plain next) state outcome steady happens =
    group-kept 3 plain plainly shelf device next state outcome steady happens
trio-kept plain plainly shelf device Crash state outcome steady happens =
    group-kept 3 plain plainly shelf device (group_line Crash) state outcome steady happens
trio-kept plain plainly shelf device (Arm k) state outcome steady happens =
    group-kept 3 plain plainly shelf device (group_line (Arm k)) state outcome steady happens
trio-kept plain plainly shelf device Restart state outcome steady happens =
    group-kept 3 plain plainly shelf device (group_line Restart) state outcome steady happens

-- and the relation of its kind
trio-walks :
    (plain : PlainService) → IsPlain plain → (shelf : Shelf) (device : Device) (R : ByKind) → IsTold plain (R Others) → IsCored (R Others) → IsByKind plain R
    → (next : TrioLine) (state : State Peers) (outcome : Outcome (State Peers)) → IsSteady plain (IsGroup 3) state
    → TrioHappens plain shelf device next state outcome → R (kind_by (shared_line next)) state.world outcome.state.world outcome.told
trio-walks plain plainly shelf device R told cored by_kind (Mirror one) state outcome steady happens =
    let bears = told-bears plain (R Others) told by_kind.shows cored in
    subst (λ (o : Outcome (State Peers)). R Others state.world o.state.world o.told) (sym happens)
    (mirror-keeps plain plainly device (R Others) bears (Mirror one) (name_of one) state steady).1
trio-walks plain plainly shelf device R told cored by_kind (Ack one) state outcome steady happens =
    let bears = told-bears plain (R Others) told by_kind.shows cored in
    subst (λ (o : Outcome (State Peers)). R Others state.world o.state.world o.told) (sym happens)
    (ack-keeps plain plainly device (R Others) bears (Ack one) (name_of one) state steady).1
trio-walks plain plainly shelf device R told cored by_kind (Plain next) state outcome steady happens =
    (group-walks 3 plain plainly shelf device R told cored by_kind next state outcome steady happens).1
trio-walks plain plainly shelf device R told cored by_kind Crash state outcome steady happens =
    (group-walks 3 plain plainly shelf device R told cored by_kind (group_line Crash) state outcome steady happens).1
trio-walks plain plainly shelf device R told cored by_kind (Arm k) state outcome steady happens =
    (group-walks 3 plain plainly shelf device R told cored by_kind (group_line (Arm k)) state outcome steady happens).1
trio-walks plain plainly shelf device R told cored by_kind Restart state outcome steady happens =
    (group-walks 3 plain plainly shelf device R told cored by_kind (group_line Restart) state outcome steady happens).1

-- the device of a line that was done
abbrev pub device_in :
    {setup : Setup} {held : Option Files} {before after : Counters} {next : TrioLine} {state : State Peers} {outcome : Outcome (State Peers)}
    → TrioDone setup held before next state outcome after → Device
device_in {setup = setup} done = record { calls = calls_by setup; fails = done.step.fails }

-- what is shown of a disk that told files is shown where it told them before
still-shown : (X : Type 0) (held : Option Files) (files : Files) → IfSome (files_told files held) (λ _. X) → IfSome held (λ _. X)
still-shown X None files shown = tt
still-shown X (Some one) files shown = shown

-- the files that a history has, where a disk tells any
still-told : (one : Files) (held : Option Files) (files : Files) → option_map (λ _. one) (files_told files held) ≡ option_map (λ _. one) held
still-told one None files = refl
still-told one (Some told) files = refl

done-facts :
    (setup : Setup) (held : Option Files) (before : Counters) (next : TrioLine) (state : State Peers) (outcome : Outcome (State Peers)) (after : Counters)
    → IsSteady (plain_of setup) (IsGroup 3) state → TrioDone setup held before next state outcome after → DoneFacts trio_game setup next state outcome
done-facts setup held before next state outcome after steady done =
    let plain = plain_of setup in
    let plainly = is_plain setup in
    let device = device_in done in
    let happens = done.step.happens in
    record {
      keeps = trio-kept plain plainly done.shelf device next state outcome steady happens;
      in_time =
          trio-walks plain plainly done.shelf device InTime (in_time-told plain) in_time-cored (in_time-by-kind plain)
          next state outcome steady happens;
      refuses =
          trio-walks plain plainly done.shelf device Refuses (refuses-told plain) refuses-cored (refuses-by-kind plain)
          next state outcome steady happens;
      waits =
          trio-walks plain plainly done.shelf device Waits (passes-told plain) passes-cored (waits-by-kind plain)
          next state outcome steady happens;
    }

end-facts :
    (setup : Setup) (state : State Peers) (next : TrioLine) (told : List Told) (held left : DiskSeen) (world : TrioWorld)
    → (ended : TrioEnded setup state next told held left world) → IsSteady (plain_of setup) (IsGroup 3) state
    → EndFacts trio_game setup next state ended.end
end-facts setup state next told held left world ended steady =
    let plain = plain_of setup in
    let device = device_by setup ended.happened in
    let last = line-tells 3 plain (is_plain setup) device (group_line next) state ended.end steady ended.ends in
    record {
      keeps = last.0;
      times =
          (end-walks 3 plain (is_plain setup) device InTime (in_time-told plain) in_time-cored (in_time-by-kind plain)
          (group_line next) state ended.end steady ended.ends).entries;
      idle = last.1;
      lacks = λ calm. line-lacks 3 plain (is_plain setup) device (group_line next) state ended.end steady calm ended.ends;
    }

settled-by :
    (setup : Setup) (held : Option Files) (before : Counters) (state : State Peers) (outcome : Outcome (State Peers)) (after : Counters)
    → IsSteady (plain_of setup) (IsGroup 3) state → TrioDone setup held before (Plain line.Settle) state outcome after
    → IsSettled (plain_of setup) outcome.state.world
settled-by setup held before state outcome after steady done =
    let plain = plain_of setup in
    let device = device_in done in
    let happens = done.step.happens in
    settle-settles plain (is_plain setup) (group plain device) (IsGroup 3) (group-serves 3 plain device (is_plain setup))
    (group-spends 3 plain device (is_plain setup)) state outcome.state happens.lines steady happens.rounds

-- the line that is shared
abbrev line_in : Option Line → Line
line_in None = line.Files
line_in (Some next) = next

settled :
    (setup : Setup) (held : Option Files) (before : Counters) (next : TrioLine) (state : State Peers) (outcome : Outcome (State Peers)) (after : Counters)
    → shared_line next ≡ Some line.Settle → IsSteady (plain_of setup) (IsGroup 3) state → TrioDone setup held before next state outcome after
    → IsSettled (plain_of setup) outcome.state.world
settled setup held before (Plain next) state outcome after is steady done =
    settled-by setup held before state outcome after steady
    (subst (λ (one : Line). TrioDone setup held before (Plain one) state outcome after) (ap line_in is) done)
settled setup held before _ state outcome after is steady done = cc

pub trio_plays : IsGame trio_game
trio_plays = record {
  steady = λ setup places. start-steady 3 (plain_of setup) (server.B ∷ server.C ∷ []) refl setup.start places;
  empty = λ setup places. refl;
  unarmed = λ setup places. refl;
  clock = λ peers world. refl;
  retold = λ setup held files before next state outcome after done. record {
    shelf = done.shelf;
    shown = still-shown (done.shelf ≡ shelf_of setup) held files done.shown;
    step = done.step;
    later = done.later;
    felled = done.felled;
    counts =
        subst (λ (shown : Option Files). CountsLine (group_line next) (device_by setup done.step.fails) shown state outcome.state before after)
        (still-told (files_of setup state.world.core.answered) held files) done.counts;
  };
  done = done-facts;
  settles = settled;
  stands = λ setup state next told held left world ended. record {
    printed = ended.printed;
    range = ended.good.range;
    files = ended.files;
  };
  ends = end-facts;
}
