-- What is asked of a world that plays the lines of scripts holds of that of two servers.
use Rattle.std.specs.Prelude.{◌≡◌, Option, Some, None, IfSome, List, [], ◌∷◌, option_map}
use Rattle.std.proofs.Common.{refl, ap, subst}
use Rattle.disk_model.specs.Counts.{Counters}
use Rattle.disk_model.specs.Disk.{Files}
use Rattle.disk_model.specs.Seen.{DiskSeen}
use Rattle.script_lines.specs.declared.line.Line.{Line}
use Rattle.script_lines.specs.declared.line.Line.TheVariants as line
use Rattle.script_lines.specs.declared.line.Server.TheVariants.{B}
use Rattle.plain_service.specs.Setups.{Setup}
use Rattle.plain_service.specs.Storing.{files_of}
use Rattle.cluster_events.specs.Lines.{Told}
use Rattle.cluster_events.specs.Outcomes.{Outcome}
use Rattle.cluster_events.specs.Servers.{State}
use Rattle.cluster_events.specs.Devices.{Device}
use Rattle.cluster_events.specs.Serving.{IsSteady}
use Rattle.cluster_events.specs.Settled.{IsSettled}
use Rattle.cluster_events.proofs.Ending.{settle-settles}
use Rattle.service_laws.specs.PlainOf.{plain_of}
use Rattle.service_laws.proofs.ServiceLaws.{is_plain}
use Rattle.cluster_rounds.specs.Kits.{device_by}
use Rattle.cluster_lines.specs.Shelves.{shelf_of}
use Rattle.group_cluster.specs.Seats.{Peers, IsGroup}
use Rattle.group_cluster.specs.Group.{group}
use Rattle.group_cluster.proofs.Ended.{end-walks, line-tells, line-lacks}
use Rattle.group_cluster.proofs.Running.{start-steady, group-kept}
use Rattle.group_cluster.proofs.Saying.{group-serves, group-spends}
use Rattle.group_cluster.proofs.Walking as walking
use Rattle.group_servers.specs.GroupCounts.{CountsLine}
use Rattle.played_runs.specs.Kinds.{InTime, Refuses, Waits}
use Rattle.played_runs.specs.Laws.{DoneFacts, EndFacts, IsGame}
use Rattle.played_runs.specs.Views.{files_told}
use Rattle.played_runs.proofs.RefusalLaws.{refuses-told, refuses-cored, refuses-by-kind}
use Rattle.played_runs.proofs.TimeLaws.{in_time-told, in_time-cored, in_time-by-kind}
use Rattle.played_runs.proofs.WaitingLaws.{passes-told, passes-cored, waits-by-kind}
use Rattle.cluster_core.specs.declared.world.World.{World}
use Rattle.cluster_core.specs.Broken.{EventEnded}
use Rattle.cluster_core.specs.Game.{world_game}
use Rattle.group_begin.specs.Lines.{calls_by}
use Rattle.cluster_core.specs.Playing.{LineDone}

-- the device of a line that was done
abbrev pub device_in :
    {setup : Setup} {held : Option Files} {before after : Counters} {next : Line} {state : State Peers} {outcome : Outcome (State Peers)}
    → LineDone setup held before next state outcome after → Device
device_in {setup = setup} done = record { calls = calls_by setup; fails = done.step.fails }

-- what is shown of a disk that told files is shown where it told them before
still-shown : (X : Type 0) (held : Option Files) (files : Files) → IfSome (files_told files held) (λ _. X) → IfSome held (λ _. X)
still-shown X None files shown = tt
still-shown X (Some one) files shown = shown

-- the files that a history has, where a disk tells any
still-told : (one : Files) (held : Option Files) (files : Files) → option_map (λ _. one) (files_told files held) ≡ option_map (λ _. one) held
still-told one None files = refl
still-told one (Some told) files = refl

done-facts :
    (setup : Setup) (held : Option Files) (before : Counters) (next : Line) (state : State Peers) (outcome : Outcome (State Peers)) (after : Counters)
    → IsSteady (plain_of setup) (IsGroup 2) state → LineDone setup held before next state outcome after → DoneFacts world_game setup next state outcome
done-facts setup held before next state outcome after steady done =
    let plain = plain_of setup in
    let device = device_in done in
    let happens = done.step.happens in
    record {
      keeps = group-kept 2 plain (is_plain setup) done.shelf device next state outcome steady happens;
      in_time =
          (walking.group-walks 2 plain (is_plain setup) done.shelf device InTime (in_time-told plain) in_time-cored
          (in_time-by-kind plain) next state outcome steady happens).1;
      refuses =
          (walking.group-walks 2 plain (is_plain setup) done.shelf device Refuses (refuses-told plain) refuses-cored
          (refuses-by-kind plain) next state outcome steady happens).1;
      waits =
          (walking.group-walks 2 plain (is_plain setup) done.shelf device Waits (passes-told plain) passes-cored
          (waits-by-kind plain) next state outcome steady happens).1;
    }

end-facts :
    (setup : Setup) (state : State Peers) (next : Line) (told : List Told) (held left : DiskSeen) (world : World)
    → (ended : EventEnded setup state next told held left world) → IsSteady (plain_of setup) (IsGroup 2) state
    → EndFacts world_game setup next state ended.end
end-facts setup state next told held left world ended steady =
    let plain = plain_of setup in
    let device = device_by setup ended.happened in
    let last = line-tells 2 plain (is_plain setup) device next state ended.end steady ended.ends in
    record {
      keeps = last.0;
      times =
          (end-walks 2 plain (is_plain setup) device InTime (in_time-told plain) in_time-cored (in_time-by-kind plain)
          next state ended.end steady ended.ends).entries;
      idle = last.1;
      lacks = λ calm. line-lacks 2 plain (is_plain setup) device next state ended.end steady calm ended.ends;
    }

settle-settled :
    (setup : Setup) (held : Option Files) (before : Counters) (state : State Peers) (outcome : Outcome (State Peers)) (after : Counters)
    → IsSteady (plain_of setup) (IsGroup 2) state → LineDone setup held before line.Settle state outcome after
    → IsSettled (plain_of setup) outcome.state.world
settle-settled setup held before state outcome after steady done =
    let plain = plain_of setup in
    let device = device_in done in
    let happens = done.step.happens in
    settle-settles plain (is_plain setup) (group plain device) (IsGroup 2) (group-serves 2 plain device (is_plain setup))
    (group-spends 2 plain device (is_plain setup)) state outcome.state happens.lines steady happens.rounds

-- the line that is shared
abbrev line_in : Option Line → Line
line_in None = line.Settle
line_in (Some next) = next

settled :
    (setup : Setup) (held : Option Files) (before : Counters) (next : Line) (state : State Peers) (outcome : Outcome (State Peers)) (after : Counters)
    → Some next ≡ Some line.Settle → IsSteady (plain_of setup) (IsGroup 2) state → LineDone setup held before next state outcome after
    → IsSettled (plain_of setup) outcome.state.world
settled setup held before next state outcome after is steady done =
    settle-settled setup held before state outcome after steady
    (subst (λ (one : Line). LineDone setup held before one state outcome after) (ap line_in is) done)

pub world_plays : IsGame world_game
world_plays = record {
  steady = λ setup places. start-steady 2 (plain_of setup) (B ∷ []) refl setup.start places;
  empty = λ setup places. refl;
  unarmed = λ setup places. refl;
  clock = λ peers world. refl;
  retold = λ setup held files before next state outcome after done. record {
    shelf = done.shelf;
    shown = still-shown (done.shelf ≡ shelf_of setup) held files done.shown;
    step = done.step;
    later = done.later;
    felled = done.felled;
    counts =
        subst (λ (shown : Option Files). CountsLine next (device_by setup done.step.fails) shown state outcome.state before after)
        (still-told (files_of setup state.world.core.answered) held files) done.counts;
  };
  done = done-facts;
  settles = settled;
  stands = λ setup state next told held left world ended. record {
    printed = ended.printed;
    range = ended.good.range;
    files = ended.files;
  };
  ends = end-facts;
}
