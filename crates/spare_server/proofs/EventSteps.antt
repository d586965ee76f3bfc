-- An event of a world is one of its parts.
use Rattle.std.proofs.Common.{◌≡◌, ℕ, Option, Some, None, List, [], ◌++◌, refl, ap, sym, ◌∙◌, subst}
use Rattle.std.specs.Prelude.{IfSome, option_map}
use Rattle.disk_model.specs.Disk.{Files}
use Rattle.disk_model.specs.Seen.{DiskSeen}
use Rattle.disk_model.specs.declared.answers.DiskAnswer.TheVariants.{Memory, Failed, Stopped}
use Rattle.script_lines.specs.declared.line.Line.{Line}
use Rattle.script_lines.specs.declared.line.Line.TheVariants as line
use Rattle.script_lines.specs.declared.line.Server.{Server}
use Rattle.plain_service.specs.Setups.{Setup}
use Rattle.plain_service.specs.Storing.{files_of}
use Rattle.trio_lines.specs.declared.line.TrioLine.{TrioLine}
use Rattle.trio_lines.specs.declared.line.TrioLine.TheVariants.{Plain, Crash}
use Rattle.cluster_events.specs.Lines.{Told}
use Rattle.cluster_events.specs.Servers.{State}
use Rattle.cluster_events.specs.Ending.{is_crash}
use Rattle.event_text.specs.Texts.{printed}
use Rattle.group_cluster.specs.Seats.{Peers, count_seats, is_standby}
use Rattle.cluster_rounds.specs.declared.cluster.Cluster.{Cluster}
use Rattle.cluster_rounds.specs.Broken as cluster
use Rattle.cluster_rounds.specs.Kits.{device_by}
use Rattle.cluster_rounds.specs.Seen.{IsRead}
use Rattle.cluster_rounds.specs.Worlds as clusters
use Rattle.cluster_lines.specs.Playing.{FaultLeaves as FaultLeavesParts, LineEnded, ShowFails}
use Rattle.group_servers.specs.declared.group.Group.{Group}
use Rattle.group_servers.specs.GroupKit.{group_kit, group_script}
use Rattle.group_servers.specs.GroupCounts.{CountsLine, FellIn}
use Rattle.group_servers.specs.GroupUses.{lacks-alike}
use Rattle.played_runs.specs.Games.{Broken, BreaksOn, DoesEvent, EndsEvent, FaultLeaves, HasState, Lacks}
use Rattle.played_runs.specs.Views.{counters_of}
use Rattle.played_runs.proofs.GoingSteps.{told-same}
use Rattle.spare_server.specs.declared.world.TrioWorld.{TrioWorld}
use Rattle.spare_server.specs.Ended.{TrioEnded}
use Rattle.spare_server.specs.Game.{trio_game}
use Rattle.spare_server.specs.Happening.{group_line}
use Rattle.spare_server.specs.Parts.{BreaksWhole, PlaysWhole, acting_in, whole_of}
use Rattle.spare_server.specs.Standbys.{FollowsBehind}
use Rattle.spare_server.specs.Worlds.{IsGood, Shows, parts_of}
use Rattle.spare_server.proofs.StandbySteps.{all-follow}
use Rattle.spare_server.proofs.ThreeSeats.{acts-in, fallen-seats, parts-back, same-whole, shown-seats, told-alike}

parts-show : (setup : Setup) (state : State Peers) (world : TrioWorld) → IsGood setup state → Shows setup state world → (clusters.Shows (group_kit 3)) setup state (parts_of (acting_in world) world)
parts-show setup state world good shows =
    subst (λ (acting : Server). (clusters.Shows (group_kit 3)) setup state (parts_of acting world)) (sym (acts-in setup state world good.steady.good shows.own)) shows

whole-shows : (setup : Setup) (state : State Peers) (parts : Cluster (Group 3)) (world : TrioWorld) → world ≡ whole_of parts → IsGood setup state → (clusters.Shows (group_kit 3)) setup state parts → Shows setup state world
whole-shows setup state parts world is good shows =
    let same : parts.servers.acting ≡ state.peers.acting = ap (λ (servers : Group 3). servers.acting) shows.own in
    let seats = shown-seats setup state parts.servers good.steady.good shows.own in
    let back : parts_of state.peers.acting (whole_of parts) ≡ parts = ap (λ acting. parts_of acting (whole_of parts)) (sym same) ∙ parts-back parts seats in
    subst (λ (w : TrioWorld). Shows setup state w) (sym is) (subst (λ (p : Cluster (Group 3)). (clusters.Shows (group_kit 3)) setup state p) (sym back) shows)

-- what a call of the parts asks for
pub parts-stand : (old : TrioWorld) (held : DiskSeen) → (HasState trio_game) old held.tally.armed → (clusters.HasStateOn (group_kit 3)) clusters.any_state (parts_of (acting_in old) old) held
parts-stand old held has = record { setup = has.setup; state = has.state; good = has.good; shows = parts-show has.setup has.state old has.good has.shows; count = has.count; so = tt }

-- where a crash outlives a fault there are two standbys
few-fell : (standbys : ℕ) (next : Line) (before now : ℕ) (told : List Told) → FellIn standbys next before now told → FellIn 2 next before now told
few-fell standbys (line.Crash server) before now told fell = λ less. (refl, (fell less).1)
few-fell standbys _ before now told fell = λ less. fell less

-- files that a disk tells are those of the history, where it tells any
files-told : (held : Option Files) (files : Files) → IfSome held (λ one. one ≡ files) → held ≡ option_map (λ _. files) held
files-told None files told = refl
files-told (Some one) files told = ap Some told

-- **what a line led the parts to it led the world to**
pub does-event : (next : TrioLine) (old new : TrioWorld) (before after lines : List (List ℕ)) (held left : DiskSeen) → before ≡ [] → lines ≡ after → PlaysWhole next old new before after held left → (DoesEvent trio_game) next lines old new held left
does-event next old new before after lines held left none same whole setup state good shows armed tells =
    let parts = whole.0 in
    let done = whole.2 setup state good (parts-show setup state old good shows) armed tells in
    record {
      outcome = done.outcome;
      done = record {
        shelf = done.shelf;
        shown = done.shelf_is;
        step = record { fails = done.happened; happens = done.leads; caused = done.uses.caused };
        later = done.uses.later;
        felled = few-fell (count_seats is_standby state.peers.seats) (group_line next) held.faults left.faults done.outcome.told done.uses.felled;
        counts =
            let C : Option Files → Type 0 = λ shown. CountsLine (group_line next) (device_by setup done.happened) shown state done.outcome.state (counters_of held) (counters_of left) in
            subst C (files-told held.files (files_of setup state.world.core.answered) tells) done.uses.counts;
      };
      good = done.is.1;
      shows = whole-shows setup done.outcome.state parts new whole.1 done.is.1 done.is.0;
      armed = done.count;
      text = same ∙ done.is.2 ∙ ap (λ (front : List (List ℕ)). front ++ printed done.outcome.told) none;
      files = done.files;
    }

-- **behind it each standby can take over**
pub follows-event : (next : TrioLine) (old new : TrioWorld) (before after : List (List ℕ)) (held left : DiskSeen) → PlaysWhole next old new before after held left → FollowsBehind old new held left
follows-event next old new before after held left whole setup state good shows armed tells =
    let parts = whole.0 in
    let done = whole.2 setup state good (parts-show setup state old good shows) armed tells in
    let now = done.outcome.state in
    let stands = whole-shows setup now parts new whole.1 done.is.1 done.is.0 in
    (now, done.is.1, stands, all-follow setup now left.files new done.is.1 stands (told-same held.files left.files (files_of setup now.world.core.answered) done.files))

-- **what a line left the parts as it left the world as**

parts-broken : (acting : Server) (setup : Setup) (state : State Peers) (held left : DiskSeen) (parts : Cluster (Group 3)) → (cluster.Broken (group_kit 3)) setup state held left parts → (cluster.Broken (group_kit 3)) setup state held left (parts_of acting (whole_of parts))
parts-broken acting setup state held left parts broken = record {
  rest = broken.rest;
  unseen = broken.unseen;
  tells = broken.tells;
  holds = broken.holds;
  deals = broken.deals;
  asked = broken.asked;
  fed = broken.fed;
  times = broken.times;
  stays = broken.stays;
  net = broken.net;
  agents = broken.agents;
  history = broken.history;
  now = broken.now;
  armed = broken.armed;
  files = broken.files;
}

pub lacks-event : (next : TrioLine) (old new : TrioWorld) (before after : List (List ℕ)) (held left : DiskSeen) → BreaksWhole Memory next old new before after held left → (BreaksOn trio_game) next old new held left
lacks-event next old new before after held left whole setup state good shows armed =
    let parts = whole.0 in
    let broken = whole.2 setup state good (parts-show setup state old good shows) armed in
    let acting = state.peers.acting in
    subst (λ (w : TrioWorld). (Broken trio_game) setup state held left w × (Lacks trio_game) setup state next held left w) (sym whole.1) (
      parts-broken acting setup state held left parts broken.0,
      lacks-alike (is_crash (group_line next)) setup state parts.history.entries parts.servers (parts_of acting (whole_of parts)).servers (counters_of held)
          (counters_of left) (told-alike acting parts) broken.1,
    )

-- no event of a state ends as the disk stops
pub stops-event : (next : TrioLine) (old new : TrioWorld) (before after : List (List ℕ)) (held left : DiskSeen) → BreaksWhole Stopped next old new before after held left → (BreaksOn trio_game) next old new held left
stops-event next old new before after held left whole setup state good shows armed =
    absurd (whole.2 setup state good (parts-show setup state old good shows) armed)

-- a line that ended
ends-event : (next : TrioLine) (old new : TrioWorld) (parts : Cluster (Group 3)) (before after : List (List ℕ)) (held left : DiskSeen) → new ≡ whole_of parts → ((setup : Setup) (state : State Peers) → (clusters.IsGood (group_kit 3)) setup state → (clusters.Shows (group_kit 3)) setup state (parts_of (acting_in old) old) → (group_kit 3).Armed state.peers held → (LineEnded (group_kit 3) group_script) setup state (group_line next) parts before after held left) → (EndsEvent trio_game) next old new before after held left
ends-event next old new parts before after held left is ends setup state good shows armed =
    let ended = ends setup state good (parts-show setup state old good shows) armed in
    let acting = ended.end.state.peers.acting in
    let back : parts_of acting (whole_of parts) ≡ parts = ap (λ one. parts_of one (whole_of parts)) (sym ended.fell.acting) ∙ parts-back parts (fallen-seats setup ended.end.state parts.servers ended.good.steady.good ended.fell.acting ended.fell.seats) in
    let E : TrioWorld → Type 0 = λ world. TrioEnded setup state next ended.end.told held left world in (
      ended.end.told,
      subst E (sym is) (record {
        happened = ended.happened;
        end = ended.end;
        ends = ended.ends;
        printed = refl;
        between = ended.faults.between;
        before_it = ended.faults.before_it;
        caused = ended.faults.caused;
        behind_it = ended.faults.behind_it;
        rose = ended.faults.rose;
        ended = ended.faults.ended;
        good = ended.good;
        shows = record {
          fell = subst (λ (p : Cluster (Group 3)). (group_kit 3).Fell setup ended.end.state p.servers left) (sym back) ended.fell;
          net = ended.net;
          agents = ended.agents;
          history = ended.history;
          now = ended.now;
          callbacks = ended.callbacks;
        };
        files = ended.files;
      }),
      ended.lines,
    )

-- files that were to be shown were only read
shown-read : (held left : DiskSeen) → (ShowFails (group_kit 3) group_script) held left → IsRead held left
shown-read held left shows =
    subst (λ (disk : DiskSeen). IsRead disk left) (sym shows.held_is)
    (subst (λ (disk : DiskSeen). IsRead shows.one disk) (sym shows.left_is) shows.read)

fault-leaves : (next : TrioLine) (old new : TrioWorld) (parts : Cluster (Group 3)) (before after : List (List ℕ)) (held left : DiskSeen) → new ≡ whole_of parts → (FaultLeavesParts (group_kit 3) group_script) (group_line next) (parts_of (acting_in old) old) parts before after held left → (FaultLeaves trio_game) next old new before after held left
fault-leaves (Plain line.Files) old new parts before after held left is same =
    (is ∙ ap whole_of same.0 ∙ same-whole (acting_in old) old, same.1, shown-read held left same.2)
fault-leaves (Plain (line.Cat name)) old new parts before after held left is same =
    (is ∙ ap whole_of same.0 ∙ same-whole (acting_in old) old, same.1, shown-read held left same.2)
fault-leaves next old new parts before after held left is ends = ends-event next old new parts before after held left is ends

pub faults-event : (next : TrioLine) (old new : TrioWorld) (before after lines : List (List ℕ)) (held left : DiskSeen) → before ≡ [] → lines ≡ after → BreaksWhole Failed next old new before after held left → (FaultLeaves trio_game) next old new [] lines held left
faults-event next old new before after lines held left none same whole =
    let own = fault-leaves next old new whole.0 before after held left whole.1 whole.2 in
    subst (λ (l : List (List ℕ)). (FaultLeaves trio_game) next old new [] l held left) (sym same)
    (subst (λ (front : List (List ℕ)). (FaultLeaves trio_game) next old new front after held left) none own)
