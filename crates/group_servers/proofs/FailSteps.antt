-- What lines on failing servers come to, but a crash of the active one.
use Rattle.std.proofs.Common.{◌≡◌, ℕ, ◌≤◌, Bool, true, false, ◌&&◌, ◌||◌, not, Option, Some, None, option_map, List, [], ◌∷◌, ◌++◌, refl, ap, sym, ◌∙◌, subst, append-nil}
use Rattle.std.specs.Prelude.{is_some}
use Rattle.std.specs.List.{list_any}
use Rattle.std.specs.Option.{option_to_list}
use Rattle.std.proofs.lemmas.Bool.{not-true}
use Rattle.calls.specs.History.{Pushed}
use Rattle.disk_model.specs.Counts.{armed_at, disarmed}
use Rattle.disk_model.specs.Seen.{DiskSeen}
use Rattle.disk_model.specs.declared.tally.Tally.{Tally}
use Rattle.script_lines.specs.declared.line.Line.TheVariants as line
use Rattle.script_lines.specs.declared.line.Server.{Server}
use Rattle.wire.specs.declared.message.Message.{Message}
use Rattle.plain_service.specs.Setups.{Setup}
use Rattle.service_laws.specs.PlainOf.{plain_of}
use Rattle.service_laws.proofs.ServiceLaws.{is_plain}
use Rattle.cluster_facts.specs.Types.{Entry}
use Rattle.cluster_facts.specs.Ranges.{AreInRange}
use Rattle.cluster_events.specs.Lines.{Stood}
use Rattle.cluster_events.specs.declared.lines.ServerRole.TheVariants as role
use Rattle.cluster_events.specs.Outcomes.{Outcome}
use Rattle.cluster_events.specs.Serving.{IsSteady}
use Rattle.cluster_events.specs.Servers.{State}
use Rattle.event_text.specs.Texts.{server_line}
use Rattle.mirror.specs.declared.state.NodeState.{NodeState as Node}
use Rattle.group_cluster.specs.Seats as defined
use Rattle.group_cluster.specs.Seats.{Stance, Out, Owed, Linking, Standby, Peers, Agree, IsArmed, IsGroup, any_seat, is_out_at, is_sent, is_standby, is_up, names_of, same_server, stance_of}
use Rattle.group_cluster.specs.Falling.{arm_by, armed_with, crash, crash_active, crash_by, crash_other, is_served, joined, can_join, other_down, out_at, refused, restart_by}
use Rattle.group_cluster.proofs.Lines.{crash-keeps, restart-keeps}
use Rattle.group_cluster.proofs.Seating.{all-at}
use Rattle.group_cluster.proofs.Sounding.{looked-accepts}
use Rattle.cluster_clients.proofs.DispatchSteps.{agents-as}
use Rattle.cluster_rounds.specs.declared.cluster.Cluster.{Cluster}
use Rattle.cluster_rounds.specs.Kits.{device_by}
use Rattle.cluster_rounds.specs.PartlyDone.{SaysUnasked}
use Rattle.cluster_rounds.specs.Worlds.{Does, Happened, IsGood, LeavesFiles, Shows}
use Rattle.cluster_rounds.proofs.FilesSteps.{left-same}
use Rattle.cluster_rounds.specs.Seen.{counters_of}
use Rattle.cluster_lines.specs.Own.{DoesOn}
use Rattle.lead_rounds.proofs.GroupSteps.{unasked-borne}
use Rattle.group_servers.specs.declared.group.Seat.{Seat}
use Rattle.group_servers.specs.declared.group.Group.{Group}
use Rattle.group_servers.specs.GroupCounts.{CountsCrash}
use Rattle.group_servers.specs.GroupKit.{group_kit, group_script}
use Rattle.group_servers.specs.GroupNodes.{seats_by}
use Rattle.group_servers.specs.GroupScript.{calm-uses}
use Rattle.group_servers.specs.GroupUses.{spent-none}
use Rattle.group_servers.specs.Parted.{Begins, DropsAt, follows, is_down_at, is_standby_other, is_up_one, joined_at, leads, lost_entry, lost_lines, rests, settled_by}
use Rattle.group_servers.specs.Prepared.{with_servers}
use Rattle.group_servers.specs.Seats as code
use Rattle.group_servers.specs.Steps.{armed_by, crashed_by, disarmed_by, parted_by, refused_by, restarted_by}
use Rattle.group_servers.proofs.ConfirmSteps.{links-agree}
use Rattle.group_servers.proofs.CrashSteps.{both-true, leads-shown}
use Rattle.group_servers.proofs.JoinSteps.{Joins, joined-seats, joins-by}
use Rattle.group_servers.proofs.LookSteps.{looked-seats}
use Rattle.group_servers.proofs.NameSteps.{down-is, names-once, others-are, out-there, up-is}
use Rattle.group_servers.proofs.PartSteps.{Dropped, Lost, drops-are, lost-is, settled-is}
use Rattle.group_servers.proofs.SeatSteps.{goes-is, linked-is, waits-is}

-- where the active server is armed a standby must be left
served-by : (armed : Option ℕ) (other : Bool) (outs : List defined.Seat) → other ≡ any_seat is_standby outs → (not (is_some armed) || other) ≡ is_served armed outs
served-by None other outs is = refl
served-by (Some left) other outs is = is

-- Refusals.

crash-refused-other : (server : Server) (served : Bool) (stance : Stance) (state : State Peers) → (is_up stance && served) ≡ false → crash_other server served stance state ≡ refused (line.Crash server) state
crash-refused-other server served Out state is = refl
crash-refused-other server true Owed state is = cc
crash-refused-other server true (Linking sent) state is = cc
crash-refused-other server true (Standby on_way mark keeps) state is = cc
crash-refused-other server false Owed state is = refl
crash-refused-other server false (Linking sent) state is = refl
crash-refused-other server false (Standby on_way mark keeps) state is = refl

crash-down : (server : Server) (served : Bool) (stance : Stance) (state : State Peers) → is_up stance ≡ true → served ≡ true → crash_other server served stance state ≡ other_down server state
crash-down server true Owed state up is = refl
crash-down server true (Linking sent) state up is = refl
crash-down server true (Standby on_way mark keeps) state up is = refl
crash-down server false Owed state up is = cc
crash-down server false (Linking sent) state up is = cc
crash-down server false (Standby on_way mark keeps) state up is = cc
crash-down server served Out state up is = cc

module _ (n : ℕ) where
  -- What the code tests of the servers, and what it is of the state.

  module _ (setup : Setup) (state : State Peers) (old : Cluster (Group n)) (good : IsGood (group_kit n) setup state) (shows : Shows (group_kit n) setup state old) (server : Server) where
    same-shown : same_server server old.servers.acting ≡ same_server server state.peers.acting
    same-shown = ap (λ (servers : Group n). same_server server servers.acting) shows.own

    up-shown : list_any (is_up_one server) old.servers.seats ≡ is_up (stance_of server state.peers.seats)
    up-shown =
        let core = state.world.core in
        ap (λ (servers : Group n). list_any (is_up_one server) servers.seats) shows.own
        ∙ up-is setup core.answered core.hand server state.peers.seats (names-once n (names_of state.peers.seats) good.steady.good.names)

    served-shown : (not old.servers.armed || list_any (is_standby_other server) old.servers.seats) ≡ is_served state.peers.armed (out_at server state.peers.seats)
    served-shown =
        let core = state.world.core in
        ap (λ (servers : Group n). not servers.armed || list_any (is_standby_other server) servers.seats) shows.own
        ∙ served-by state.peers.armed (list_any (is_standby_other server) (seats_by setup core.answered core.hand state.peers.seats)) (out_at server state.peers.seats) (others-are setup core.answered core.hand server state.peers.seats)

    pub follows-shown : follows server old.servers ≡ ((not (same_server server state.peers.acting) && is_up (stance_of server state.peers.seats)) && is_served state.peers.armed (out_at server state.peers.seats))
    follows-shown = λ i. (not (same-shown i) && up-shown i) && served-shown i

    down-shown : is_down_at server old.servers.seats ≡ is_out_at server state.peers.seats
    down-shown =
        let core = state.world.core in
        ap (λ (servers : Group n). is_down_at server servers.seats) shows.own ∙ down-is setup core.answered core.hand server state.peers.seats

    pub rests-shown : rests server old.servers ≡ can_join server state.peers
    rests-shown = λ i. not (same-shown i) && down-shown i

  abbrev HappenedAs : Setup → Cluster (Group n) → List (List ℕ) → List (List ℕ) → Outcome (State Peers) → Type 0
  HappenedAs setup new before after outcome = Happened (group_kit n) setup outcome new before after

  -- Refusals, as the events of their lines.

  crash-refused : (setup : Setup) (server : Server) (same : Bool) (state : State Peers) → (same && any_seat is_standby state.peers.seats) ≡ false → ((not same && is_up (stance_of server state.peers.seats)) && is_served state.peers.armed (out_at server state.peers.seats)) ≡ false → crash_by (device_by setup (λ number. 0)) server same state ≡ refused (line.Crash server) state
  crash-refused setup server true state not_leads not_follows = ap (λ b. crash_active (device_by setup (λ number. 0)) server b state) not_leads
  crash-refused setup server false state not_leads not_follows =
      crash-refused-other server (is_served state.peers.armed (out_at server state.peers.seats)) (stance_of server state.peers.seats) state not_follows

  -- the disk counted nothing
  uncounted-crash : (setup : Setup) (state new : State Peers) (server : Server) (disk : DiskSeen) → (same_server server state.peers.acting && any_seat is_standby state.peers.seats) ≡ false → CountsCrash (same_server server state.peers.acting && any_seat is_standby state.peers.seats) (device_by setup (λ number. 0)) state new (counters_of disk) (counters_of disk)
  uncounted-crash setup state new server disk not =
      subst (λ (b : Bool). CountsCrash b (device_by setup (λ number. 0)) state new (counters_of disk) (counters_of disk)) (sym not) (spent-none (counters_of disk))

  pub crash-refuses : (server : Server) (world : Cluster (Group n)) (before after : List (List ℕ)) (disk : DiskSeen) → leads server world.servers ≡ false → follows server world.servers ≡ false → Does (group_kit n) (refused_by n (line.Crash server)) world world before after → DoesOn (group_kit n) group_script (line.Crash server) (crashed_by n server) world world before after disk disk
  crash-refuses server world before after disk not_leads not_follows does setup state good shows armed =
      let is = crash-refused setup server (same_server server state.peers.acting) state (sym (leads-shown n setup state world server good shows) ∙ not_leads) (sym (follows-shown setup state world good shows server) ∙ not_follows) in
      (subst (HappenedAs setup world before after) (sym is) (does setup state good shows), subst (λ (o : Outcome (State Peers)). disk.tally.armed ≡ o.state.peers.armed) (sym is) armed, λ tells. subst (λ (o : Outcome (State Peers)). LeavesFiles setup o.state disk.files disk.files) (sym is) (left-same setup state disk.files tells), calm-uses setup (line.Crash server) state _ disk disk refl (uncounted-crash setup state (crashed_by n server setup state).state server disk (sym (leads-shown n setup state world server good shows) ∙ not_leads)))

  pub arm-refuses : (server : Server) (count : ℕ) (world : Cluster (Group n)) (before after : List (List ℕ)) (disk : DiskSeen) → leads server world.servers ≡ false → Does (group_kit n) (refused_by n (line.Arm server count)) world world before after → DoesOn (group_kit n) group_script (line.Arm server count) (armed_by n server count) world world before after disk disk
  arm-refuses server count world before after disk not_leads does setup state good shows armed =
      let is : armed_by n server count setup state ≡ refused (line.Arm server count) state = ap (λ b. arm_by server count b state) (sym (leads-shown n setup state world server good shows) ∙ not_leads) in
      (subst (HappenedAs setup world before after) (sym is) (does setup state good shows), subst (λ (o : Outcome (State Peers)). disk.tally.armed ≡ o.state.peers.armed) (sym is) armed, λ tells. subst (λ (o : Outcome (State Peers)). LeavesFiles setup o.state disk.files disk.files) (sym is) (left-same setup state disk.files tells), calm-uses setup (line.Arm server count) state _ disk disk refl (spent-none (counters_of disk)))

  pub restart-refuses : (server : Server) (world : Cluster (Group n)) (before after : List (List ℕ)) → rests server world.servers ≡ false → Does (group_kit n) (refused_by n (line.Restart server)) world world before after → Does (group_kit n) (restarted_by n server) world world before after
  restart-refuses server world before after not_rests does setup state good shows =
      let is : restarted_by n server setup state ≡ refused (line.Restart server) state = ap (λ b. restart_by server b state) (sym (rests-shown setup state world good shows server) ∙ not_rests) in
      subst (HappenedAs setup world before after) (sym is) (does setup state good shows)

  -- `crash` of a server that is not active.

  -- what the code knows of the state
  record Follows (server : Server) (state : State Peers) : Type 0 where
    other : same_server server state.peers.acting ≡ false
    is : (setup : Setup) → crash (device_by setup (λ number. 0)) server state ≡ other_down server state

  follows-in : (setup : Setup) (state : State Peers) (old : Cluster (Group n)) (server : Server) → IsGood (group_kit n) setup state → Shows (group_kit n) setup state old → follows server old.servers ≡ true → Follows server state
  follows-in setup state old server good shows so =
      let served = is_served state.peers.armed (out_at server state.peers.seats) in
      let stance = stance_of server state.peers.seats in
      let both = both-true (not (same_server server state.peers.acting) && is_up stance) served (sym (follows-shown setup state old good shows server) ∙ so) in
      let first = both-true (not (same_server server state.peers.acting)) (is_up stance) both.0 in
      let other = not-true (same_server server state.peers.acting) first.0 in
      record {
        other = other;
        is = λ setup. ap (λ b. crash_by (device_by setup (λ number. 0)) server b state) other ∙ crash-down server served stance state first.1 both.1;
      }

  -- the state behind it
  down-good : (setup : Setup) (state : State Peers) (server : Server) → IsGood (group_kit n) setup state → Follows server state → IsGood (group_kit n) setup (other_down server state).state
  down-good setup state server good found =
      let plain = plain_of setup in
      let keeps = crash-keeps n plain (is_plain setup) (device_by setup (λ number. 0)) (SaysUnasked plain) (unasked-borne plain) server (same_server server state.peers.acting) state refl good.steady in
      let S : Outcome (State Peers) → Type 0 = λ o. IsSteady plain (IsGroup n) o.state in
      record {
        begins = good.begins;
        steady = subst S (found.is setup) keeps.0;
        range = subst (λ (h : List Entry). AreInRange h) (sym (looked-accepts state.world.core.answered (out_at server state.peers.seats) state.world.core.hand)) good.range;
        moment = good.moment;
      }

  pub parts : (server : Server) (old : Cluster (Group n)) (active : Node) (news : List Seat) (history : Pushed) (lost : Option Message) (before after : List (List ℕ)) → follows server old.servers ≡ true → DropsAt server lost old.servers.seats news → active ≡ settled_by (list_any code.goes_to news) (code.still_waits news) old.servers.active → history.entries ≡ option_to_list (option_map (λ (f : ℕ × Entry). f.1) (lost_entry (list_any code.entry_goes news) lost)) ++ old.history.entries → after ≡ before ++ lost_lines (lost_entry (list_any code.entry_goes news) lost) server → Does (group_kit n) (parted_by n server) old (record old { servers = record old.servers { active = active; seats = news }; history = history }) before after
  parts server old active news history lost before after so drops settled entries lines setup state good shows =
      let past = state.world.core.answered in
      let hand = state.world.core.hand in
      let owns = state.peers.seats in
      let outs = out_at server owns in
      let found = follows-in setup state old server good shows so in
      let once = names-once n (names_of owns) good.steady.good.names in
      let agree = good.steady.good.agree in
      let out_agree = all-at (Agree hand) (Agree hand) server (λ stance. Out) (λ stance agrees. tt) (λ stance agrees. agrees) owns agree in
      let dropped : Dropped setup past hand server owns lost news = drops-are setup past hand server owns lost news once agree (subst (λ (seats : List Seat). DropsAt server lost seats news) (ap (λ (servers : Group n). servers.seats) shows.own) drops) in
      let goes : list_any code.entry_goes news ≡ any_seat is_sent outs = ap (list_any code.entry_goes) dropped.are ∙ goes-is setup past hand outs out_agree in
      let lost_so : Lost past hand outs server (lost_entry (any_seat is_sent outs) lost) = lost-is past hand owns server lost once good.steady.good.waits dropped.gone in
      let linked = ap (list_any code.goes_to) dropped.are ∙ linked-is setup past hand outs out_agree in
      let waits = ap code.still_waits dropped.are ∙ waits-is setup past hand outs out_agree in
      let node = settled ∙ (λ i. settled_by (linked i) (waits i) ((shows.own i).active)) ∙ settled-is setup past hand server owns (links-agree hand outs out_agree) in
      let seats = dropped.are ∙ looked-seats setup past outs hand in (
        record {
          own = λ i. record (shows.own i) { active = node i; seats = seats i };
          net = shows.net;
          agents = agents-as state.world (other_down server state).state.world old.agents refl refl refl shows.agents;
          history = entries ∙ (λ i. option_to_list (option_map (λ (f : ℕ × Entry). f.1) (lost_entry (goes i) lost)) ++ shows.history i) ∙ lost_so.entries;
          now = shows.now;
          callbacks = shows.callbacks;
        },
        down-good setup state server good found,
        lines ∙ ap (λ b. before ++ lost_lines (lost_entry b lost) server) goes ∙ ap (λ told. before ++ told) lost_so.lines,
      )

  -- the disk is left alone
  pub crash-on : (server : Server) (old new : Cluster (Group n)) (before after : List (List ℕ)) (disk : DiskSeen) → follows server old.servers ≡ true → Does (group_kit n) (parted_by n server) old new before after → DoesOn (group_kit n) group_script (line.Crash server) (crashed_by n server) old new before after disk disk
  crash-on server old new before after disk so does setup state good shows armed =
      let found = follows-in setup state old server good shows so in
      let is = found.is setup in (
        subst (HappenedAs setup new before after) (sym is) (does setup state good shows),
        subst (λ (o : Outcome (State Peers)). disk.tally.armed ≡ o.state.peers.armed) (sym is) armed,
        λ tells. subst (λ (o : Outcome (State Peers)). LeavesFiles setup o.state disk.files disk.files) (sym is) (left-same setup state disk.files tells),
        calm-uses setup (line.Crash server) state _ disk disk refl (uncounted-crash setup state (crashed_by n server setup state).state server disk (ap (λ b. b && any_seat is_standby state.peers.seats) found.other)),
      )

  -- `arm` and `disarm`.

  -- another count is in force
  armed-shows : (setup : Setup) (state : State Peers) (armed : Option ℕ) (old : Cluster (Group n)) → Shows (group_kit n) setup state old → Shows (group_kit n) setup (armed_with armed state) (with_servers old (record old.servers { armed = is_some armed }))
  armed-shows setup state armed old shows = record {
    own = ap (λ (servers : Group n). record servers { armed = is_some armed }) shows.own;
    net = shows.net;
    agents = shows.agents;
    history = shows.history;
    now = shows.now;
    callbacks = shows.callbacks;
  }

  armed-good : (setup : Setup) (state : State Peers) → IsGood (group_kit n) setup state → (armed : Option ℕ) → IsArmed armed state.peers.seats → IsGood (group_kit n) setup (armed_with armed state)
  armed-good setup state good armed is =
      let group = good.steady.good in
      record {
        begins = good.begins;
        steady = record { sound = good.steady.sound; good = record { agree = group.agree; waits = group.waits; armed = is; apart = group.apart; names = group.names; acts = group.acts } };
        range = good.range;
        moment = good.moment;
      }

  pub arms : (server : Server) (count : ℕ) (old : Cluster (Group n)) (lines : List (List ℕ)) (held left : DiskSeen) → leads server old.servers ≡ true → 1 ≤ count → left.files ≡ held.files → left.tally ≡ armed_at count held.tally → left.faults ≡ held.faults → left.stops ≡ held.stops → DoesOn (group_kit n) group_script (line.Arm server count) (armed_by n server count) old (with_servers old (record old.servers { armed = true })) lines lines held left
  arms server count old lines held left so some files tally faults stops setup state good shows count_is =
      let can = sym (leads-shown n setup state old server good shows) ∙ so in
      let both = both-true (same_server server state.peers.acting) (any_seat is_standby state.peers.seats) can in
      let is : armed_by n server count setup state ≡ record { state = armed_with (Some count) state; told = [] } = ap (λ b. arm_by server count b state) can in
      let new = with_servers old (record old.servers { armed = true }) in
      let does : Happened (group_kit n) setup (record { state = armed_with (Some count) state; told = [] }) new lines lines =
      (armed-shows setup state (Some count) old shows, armed-good setup state good (Some count) (some, both.1), sym (append-nil lines))
      in (
        subst (HappenedAs setup new lines lines) (sym is) does,
        subst (λ (o : Outcome (State Peers)). left.tally.armed ≡ o.state.peers.armed) (sym is) (ap (λ (t : Tally). t.armed) tally),
        λ tells. subst (λ (o : Outcome (State Peers)). LeavesFiles setup o.state held.files left.files) (sym is) (files ∙ left-same setup state held.files tells),
        calm-uses setup (line.Arm server count) state _ held left faults (record {
          changing = ap (λ (t : Tally). t.changing) tally;
          reading = ap (λ (t : Tally). t.reading) tally;
          faults = faults;
          stops = stops;
        }),
      )

  pub disarms : (old : Cluster (Group n)) (lines : List (List ℕ)) (held left : DiskSeen) → left.files ≡ held.files → left.tally ≡ disarmed held.tally → left.faults ≡ held.faults → left.stops ≡ held.stops → DoesOn (group_kit n) group_script line.Disarm (disarmed_by n) old (with_servers old (record old.servers { armed = false })) lines lines held left
  disarms old lines held left files tally faults stops setup state good shows count_is = (
    (armed-shows setup state None old shows, armed-good setup state good None tt, sym (append-nil lines)),
    ap (λ (t : Tally). t.armed) tally,
    λ tells. files ∙ left-same setup state held.files tells,
    calm-uses setup line.Disarm state _ held left faults (record {
      changing = ap (λ (t : Tally). t.changing) tally;
      reading = ap (λ (t : Tally). t.reading) tally;
      faults = faults;
      stops = stops;
    }),
  )

  -- `restart`.

  pub restarts : (server : Server) (old : Cluster (Group n)) (active : Node) (news : List Seat) (messages : List Message) (before after : List (List ℕ)) → rests server old.servers ≡ true → Begins old.servers.active active messages → news ≡ joined_at server messages old.servers.seats → after ≡ before ++ server_line server role.Joining ∷ [] → Does (group_kit n) (restarted_by n server) old (with_servers old (record old.servers { active = active; seats = news })) before after
  restarts server old active news messages before after so begins are lines setup state good shows =
      let past = state.world.core.answered in
      let hand = state.world.core.hand in
      let owns = state.peers.seats in
      let plain = plain_of setup in
      let back : can_join server state.peers ≡ true = sym (rests-shown setup state old good shows server) ∙ so in
      let there = out-there server owns (both-true (not (same_server server state.peers.acting)) (is_out_at server owns) back).1 in
      let out = there.1 in
      let is : restarted_by n server setup state ≡ record { state = joined server state; told = Stood server role.Joining ∷ [] } = ap (λ b. restart_by server b state) back in
      let once = names-once n (names_of owns) good.steady.good.names in
      let joins : Joins setup past hand server owns messages active = joins-by setup past hand server owns messages active there.0 out (subst (λ (node : Node). Begins node active messages) (ap (λ (servers : Group n). servers.active) shows.own) begins) in
      let seats = are ∙ ap (λ (servers : Group n). joined_at server messages servers.seats) shows.own ∙ joined-seats setup past hand server messages owns once out joins.sent in
      let keeps = restart-keeps n plain (is_plain setup) (device_by setup (λ number. 0)) (SaysUnasked plain) (unasked-borne plain) server (can_join server state.peers) state refl good.steady in
      let S : Outcome (State Peers) → Type 0 = λ o. IsSteady plain (IsGroup n) o.state in
      let new = with_servers old (record old.servers { active = active; seats = news }) in
      let does : Happened (group_kit n) setup (record { state = joined server state; told = Stood server role.Joining ∷ [] }) new before after = (
        record {
          own = λ i. record (shows.own i) { active = joins.leads i; seats = seats i };
          net = shows.net;
          agents = shows.agents;
          history = shows.history;
          now = shows.now;
          callbacks = shows.callbacks;
        },
        record { begins = good.begins; steady = subst S is keeps.0; range = good.range; moment = good.moment },
        lines,
      )
      in
      subst (HappenedAs setup new before after) (sym is) does
