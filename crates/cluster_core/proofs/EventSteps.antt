-- An event of a world is one of its parts.
use Rattle.std.proofs.Common.{◌≡◌, ℕ, suc, ◌≤◌, Option, Some, None, List, [], ◌++◌, refl, ap, sym, ◌∙◌, subst, arith}
use Rattle.std.proofs.lemmas.Bool.{ltb-true}
use Rattle.std.specs.Prelude.{ℤ, IfSome, option_map}
use Rattle.disk_model.specs.Disk.{Files}
use Rattle.disk_model.specs.Seen.{DiskSeen}
use Rattle.disk_model.specs.declared.answers.DiskAnswer.TheVariants.{Memory, Failed, Stopped}
use Rattle.script_lines.specs.declared.line.Line.{Line}
use Rattle.script_lines.specs.declared.line.Line.TheVariants as line
use Rattle.script_lines.specs.declared.line.Server.{Server}
use Rattle.script_lines.specs.declared.line.Server.TheVariants.{A, B, C}
use Rattle.wire.specs.declared.message.Message.{Message}
use Rattle.plain_service.specs.Setups.{Setup}
use Rattle.plain_service.specs.Storing.{files_of}
use Rattle.cluster_facts.specs.Types.{Entry}
use Rattle.cluster_facts.specs.History.{Hand, Empty, Waiting, Applied, Ready}
use Rattle.cluster_events.specs.Lines.{Told}
use Rattle.cluster_events.specs.Servers.{State}
use Rattle.cluster_events.specs.Ending.{is_crash}
use Rattle.event_text.specs.Texts.{printed}
use Rattle.mirror.specs.declared.state.NodeState.{NodeState as Node}
use Rattle.group_cluster.specs.Seats as defined
use Rattle.group_cluster.specs.Seats.{Stance, Out, Owed, Linking, Standby, Peers, count_seats, is_standby}
use Rattle.cluster_rounds.specs.declared.cluster.Cluster.{Cluster}
use Rattle.cluster_rounds.specs.Broken as cluster
use Rattle.cluster_rounds.specs.Kits.{device_by}
use Rattle.cluster_rounds.specs.Seen.{IsRead}
use Rattle.cluster_rounds.specs.Worlds as clusters
use Rattle.cluster_lines.specs.Lines.{CanPlay}
use Rattle.cluster_lines.specs.Playing.{FaultLeaves as FaultLeavesParts, LineEnded, ShowFails}
use Rattle.group_servers.specs.declared.group.Seat.{Seat}
use Rattle.group_servers.specs.declared.group.Group.{Group}
use Rattle.group_servers.specs.GroupKit.{group_kit, group_script}
use Rattle.group_servers.specs.GroupNodes.{active_by, node_by, seats_by}
use Rattle.group_servers.specs.GroupCounts.{CountsLine, FellIn}
use Rattle.group_servers.specs.GroupUses.{AreToldAlike, lacks-alike}
use Rattle.group_servers.proofs.FallSteps.{few-standbys}
use Rattle.cluster_core.specs.Game.{world_game}
use Rattle.cluster_core.specs.declared.world.World.{World}
use Rattle.cluster_core.specs.Worlds.{IsGood, Shows, named, parts_of, seats_beside, unnamed}
use Rattle.played_runs.specs.Games.{HasState}
use Rattle.played_runs.specs.Games.{Broken, BreaksOn, Lacks}
use Rattle.played_runs.specs.Views.{counters_of}
use Rattle.group_begin.specs.Lines.{IsEventLine}
use Rattle.played_runs.specs.Games.{DoesEvent, EndsEvent, FaultLeaves}
use Rattle.cluster_core.specs.Parts.{BreaksWhole, PlaysWhole, acting_as, acting_in, other_seat, whole_of}
use Rattle.cluster_core.proofs.TwoSeats.{AreBeside, IsOfTwo, fallen-beside, shown-beside, two-good, two_beside}

-- Who is active.

other-acts : (setup : Setup) (past : List Entry) (hand : Hand) (stance : Stance) → acting_as (node_by setup past hand stance).replica.role ≡ A
other-acts setup past hand Out = refl
other-acts setup past hand Owed = refl
other-acts setup past hand (Linking sent) = refl
other-acts setup past hand (Standby on_way mark keeps) = refl

active-acts : (setup : Setup) (past : List Entry) (hand : Hand) (seats : List defined.Seat) → acting_as (active_by setup past hand seats).replica.role ≡ B
active-acts setup past Empty seats = refl
active-acts setup past (Waiting entry) seats = refl
active-acts setup past (Applied entry) seats = refl
active-acts setup past (Ready entry) seats = refl

acts-by : (acting : Server) → IsOfTwo acting → (setup : Setup) (past : List Entry) (hand : Hand) (seats : List defined.Seat) (stance : Stance) (a b : Node) (link back : List Message) → named acting a b ≡ active_by setup past hand seats → seats_beside acting (unnamed acting a b) link back ≡ seats_by setup past hand (two_beside acting stance) → acting_as b.replica.role ≡ acting
acts-by A of_two setup past hand seats stance a b link back active others = ap (λ (s : List Seat). acting_as (other_seat A s).node.replica.role) others ∙ other-acts setup past hand stance
acts-by B of_two setup past hand seats stance a b link back active others = ap (λ (node : Node). acting_as node.replica.role) active ∙ active-acts setup past hand seats
acts-by C of_two setup past hand seats stance a b link back active others = elim of_two [ ]

-- **the active server of a world is that of each good state that it stands for**
acts : (setup : Setup) (state : State Peers) (world : World) → IsGood setup state → Shows setup state world → acting_in world ≡ state.peers.acting
acts setup state world good shows =
    let core = state.world.core in
    let two = two-good state good.steady.good in
    acts-by state.peers.acting two.acts setup core.answered core.hand state.peers.seats two.stance world.a world.b world.link world.back
    (ap (λ (servers : Group 2). servers.active) shows.own)
    (ap (λ (servers : Group 2). servers.seats) shows.own ∙ ap (seats_by setup core.answered core.hand) two.is)

parts-show : (setup : Setup) (state : State Peers) (world : World) → IsGood setup state → Shows setup state world → (clusters.Shows (group_kit 2)) setup state (parts_of (acting_in world) world)
parts-show setup state world good shows =
    subst (λ (acting : Server). (clusters.Shows (group_kit 2)) setup state (parts_of acting world)) (sym (acts setup state world good shows)) shows

-- a world of parts, taken apart by who is active in them, is these parts, where the active server's own seat is empty
parts-by : (acting : Server) → IsOfTwo acting → (other : Node) (link back : List Message) (parts : Cluster (Group 2)) → parts_of acting (whole_of (record parts { servers = record parts.servers { acting = acting; seats = seats_beside acting other link back } })) ≡ record parts { servers = record parts.servers { acting = acting; seats = seats_beside acting other link back } }
parts-by A of_two other link back parts = refl
parts-by B of_two other link back parts = refl
parts-by C of_two other link back parts = elim of_two [ ]

parts-back : (parts : Cluster (Group 2)) → AreBeside parts.servers.acting parts.servers.seats → parts_of parts.servers.acting (whole_of parts) ≡ parts
parts-back parts beside =
    let with_seats : List Seat → Cluster (Group 2) = λ seats. record parts { servers = record parts.servers { seats = seats } } in
    subst (λ (seats : List Seat). parts_of parts.servers.acting (whole_of (with_seats seats)) ≡ with_seats seats) (sym beside.is)
    (parts-by parts.servers.acting beside.acts beside.other beside.link beside.back parts)

whole-shows : (setup : Setup) (state : State Peers) (parts : Cluster (Group 2)) (world : World) → world ≡ whole_of parts → IsGood setup state → (clusters.Shows (group_kit 2)) setup state parts → Shows setup state world
whole-shows setup state parts world is good shows =
    let same : parts.servers.acting ≡ state.peers.acting = ap (λ (servers : Group 2). servers.acting) shows.own in
    let beside = shown-beside setup state parts.servers good.steady.good shows.own in
    let back : parts_of state.peers.acting (whole_of parts) ≡ parts = ap (λ acting. parts_of acting (whole_of parts)) (sym same) ∙ parts-back parts beside in
    subst (λ (w : World). Shows setup state w) (sym is) (subst (λ (p : Cluster (Group 2)). (clusters.Shows (group_kit 2)) setup state p) (sym back) shows)

-- What a call of the parts asks for.

pub parts-stand : (old : World) (held : DiskSeen) → (HasState world_game) old held.tally.armed → (clusters.HasStateOn (group_kit 2)) clusters.any_state (parts_of (acting_in old) old) held
parts-stand old held has = record { setup = has.setup; state = has.state; good = has.good; shows = parts-show has.setup has.state old has.good has.shows; count = has.count; so = tt }

pub can-play : (now : ℤ) (next : Line) → IsEventLine now next → CanPlay group_script now next
can-play now (line.Cluster start queue callbacks alarm ntf sys) can = can
can-play now (line.Time later) can = can
can-play now _ can = tt

at-most-one : (standbys : ℕ) → suc standbys ≤ 2 → standbys ≤ 1
at-most-one standbys few = omega arith

-- with one standby at most no crash outlives a fault
few-fell : (standbys : ℕ) (next : Line) (before now : ℕ) (told : List Told) → standbys ≤ 1 → FellIn standbys next before now told → FellIn 1 next before now told
few-fell standbys (line.Crash server) before now told few fell = λ less. let more = ltb-true 1 standbys (fell less).0 in absurd (omega arith)
few-fell standbys _ before now told few fell = λ less. fell less

-- files that a disk tells are those of the history, where it tells any
files-told : (held : Option Files) (files : Files) → IfSome held (λ one. one ≡ files) → held ≡ option_map (λ _. files) held
files-told None files told = refl
files-told (Some one) files told = ap Some told

-- **what a line led the parts to it led the world to**
pub does-event : (next : Line) (old new : World) (before after lines : List (List ℕ)) (held left : DiskSeen) → before ≡ [] → lines ≡ after → PlaysWhole next old new before after held left → (DoesEvent world_game) next lines old new held left
does-event next old new before after lines held left none same whole setup state good shows armed tells =
    let parts = whole.0 in
    let done = whole.2 setup state good (parts-show setup state old good shows) armed tells in
    record {
      outcome = done.outcome;
      done = record {
        shelf = done.shelf;
        shown = done.shelf_is;
        step = record { fails = done.happened; happens = done.leads; caused = done.uses.caused };
        later = done.uses.later;
        felled = few-fell (count_seats is_standby state.peers.seats) next held.faults left.faults done.outcome.told (at-most-one (count_seats is_standby state.peers.seats) (few-standbys 2 state.peers.acting state.peers.seats good.steady.good.names good.steady.good.acts good.steady.good.apart)) done.uses.felled;
        counts =
            let C : Option Files → Type 0 = λ shown. CountsLine next (device_by setup done.happened) shown state done.outcome.state (counters_of held) (counters_of left) in
            subst C (files-told held.files (files_of setup state.world.core.answered) tells) done.uses.counts;
      };
      good = done.is.1;
      shows = whole-shows setup done.outcome.state parts new whole.1 done.is.1 done.is.0;
      armed = done.count;
      text = same ∙ done.is.2 ∙ ap (λ (front : List (List ℕ)). front ++ printed done.outcome.told) none;
      files = done.files;
    }

-- **what a line left the parts as it left the world as**

parts-broken : (acting : Server) (setup : Setup) (state : State Peers) (held left : DiskSeen) (parts : Cluster (Group 2)) → (cluster.Broken (group_kit 2)) setup state held left parts → (cluster.Broken (group_kit 2)) setup state held left (parts_of acting (whole_of parts))
parts-broken acting setup state held left parts broken = record {
  rest = broken.rest;
  unseen = broken.unseen;
  tells = broken.tells;
  holds = broken.holds;
  deals = broken.deals;
  asked = broken.asked;
  fed = broken.fed;
  times = broken.times;
  stays = broken.stays;
  net = broken.net;
  agents = broken.agents;
  history = broken.history;
  now = broken.now;
  armed = broken.armed;
  files = broken.files;
}

-- where it led still, the server that was active is in the world as in its parts
told-alike : (acting : Server) → IsOfTwo acting → (parts : Cluster (Group 2)) → AreToldAlike acting parts.servers (parts_of acting (whole_of parts)).servers
told-alike A two parts =
    let other = (other_seat parts.servers.acting parts.servers.seats).node in
    record { armed = refl; leads = λ is. (refl, ap (λ (server : Server). named server parts.servers.active other) is) }
told-alike B two parts =
    let other = (other_seat parts.servers.acting parts.servers.seats).node in
    record { armed = refl; leads = λ is. (refl, ap (λ (server : Server). unnamed server parts.servers.active other) is) }
told-alike C two parts = elim two [ ]

pub lacks-event : (next : Line) (old new : World) (before after : List (List ℕ)) (held left : DiskSeen) → BreaksWhole Memory next old new before after held left → (BreaksOn world_game) next old new held left
lacks-event next old new before after held left whole setup state good shows armed =
    let parts = whole.0 in
    let broken = whole.2 setup state good (parts-show setup state old good shows) armed in
    let acting = state.peers.acting in
    let told = told-alike acting (two-good state good.steady.good).acts parts in
    subst (λ (w : World). (Broken world_game) setup state held left w × (Lacks world_game) setup state next held left w) (sym whole.1) (
      parts-broken acting setup state held left parts broken.0,
      lacks-alike (is_crash next) setup state parts.history.entries parts.servers (parts_of acting (whole_of parts)).servers (counters_of held) (counters_of left)
          told broken.1,
    )

-- no event of a state ends as the disk stops
pub stops-event : (next : Line) (old new : World) (before after : List (List ℕ)) (held left : DiskSeen) → BreaksWhole Stopped next old new before after held left → (BreaksOn world_game) next old new held left
stops-event next old new before after held left whole setup state good shows armed =
    absurd (whole.2 setup state good (parts-show setup state old good shows) armed)

-- a line that ended
ends-event : (next : Line) (old new : World) (parts : Cluster (Group 2)) (before after : List (List ℕ)) (held left : DiskSeen) → new ≡ whole_of parts → ((setup : Setup) (state : State Peers) → (clusters.IsGood (group_kit 2)) setup state → (clusters.Shows (group_kit 2)) setup state (parts_of (acting_in old) old) → (group_kit 2).Armed state.peers held → (LineEnded (group_kit 2) group_script) setup state next parts before after held left) → (EndsEvent world_game) next old new before after held left
ends-event next old new parts before after held left is ends setup state good shows armed =
    let ended = ends setup state good (parts-show setup state old good shows) armed in
    let acting = ended.end.state.peers.acting in
    let back : parts_of acting (whole_of parts) ≡ parts = ap (λ one. parts_of one (whole_of parts)) (sym ended.fell.acting) ∙ parts-back parts (fallen-beside setup ended.end.state parts.servers ended.good.steady.good ended.fell.acting ended.fell.seats) in
    let E : World → Type 0 = λ world. Rattle.cluster_core.specs.Broken.EventEnded setup state next ended.end.told held left world in (
      ended.end.told,
      subst E (sym is) (record {
        happened = ended.happened;
        end = ended.end;
        ends = ended.ends;
        printed = refl;
        between = ended.faults.between;
        before_it = ended.faults.before_it;
        caused = ended.faults.caused;
        behind_it = ended.faults.behind_it;
        rose = ended.faults.rose;
        ended = ended.faults.ended;
        good = ended.good;
        shows = record {
          fell = subst (λ (p : Cluster (Group 2)). (group_kit 2).Fell setup ended.end.state p.servers left) (sym back) ended.fell;
          net = ended.net;
          agents = ended.agents;
          history = ended.history;
          now = ended.now;
          callbacks = ended.callbacks;
        };
        files = ended.files;
      }),
      ended.lines,
    )

-- a world that was taken apart and put together as it was
same-whole : (old : World) → whole_of (parts_of (acting_in old) old) ≡ old
same-whole old = by (acting_in old)
  where
    by : (acting : Server) → whole_of (parts_of acting old) ≡ old
    by A = refl
    by B = refl
    by C = refl

-- files that were to be shown were only read
shown-read : (held left : DiskSeen) → (ShowFails (group_kit 2) group_script) held left → IsRead held left
shown-read held left shows =
    subst (λ (disk : DiskSeen). IsRead disk left) (sym shows.held_is)
    (subst (λ (disk : DiskSeen). IsRead shows.one disk) (sym shows.left_is) shows.read)

fault-leaves : (next : Line) (old new : World) (parts : Cluster (Group 2)) (before after : List (List ℕ)) (held left : DiskSeen) → new ≡ whole_of parts → (FaultLeavesParts (group_kit 2) group_script) next (parts_of (acting_in old) old) parts before after held left → (FaultLeaves world_game) next old new before after held left
fault-leaves line.Files old new parts before after held left is same =
    (is ∙ ap whole_of same.0 ∙ same-whole old, same.1, shown-read held left same.2)
fault-leaves (line.Cat name) old new parts before after held left is same =
    (is ∙ ap whole_of same.0 ∙ same-whole old, same.1, shown-read held left same.2)
fault-leaves next old new parts before after held left is ends = ends-event next old new parts before after held left is ends

pub faults-event : (next : Line) (old new : World) (before after lines : List (List ℕ)) (held left : DiskSeen) → before ≡ [] → lines ≡ after → BreaksWhole Failed next old new before after held left → (FaultLeaves world_game) next old new [] lines held left
faults-event next old new before after lines held left none same whole =
    let own = fault-leaves next old new whole.0 before after held left whole.1 whole.2 in
    subst (λ (l : List (List ℕ)). (FaultLeaves world_game) next old new [] l held left) (sym same)
    (subst (λ (front : List (List ℕ)). (FaultLeaves world_game) next old new front after held left) none own)
