-- What the lines come to that ask something of the servers alone.
use Rattle.std.proofs.Common.{◌≡◌, ℕ, ◌≤◌, Bool, true, false, Option, Some, None, List, [], ◌∷◌, refl, ap, sym, ◌∙◌, subst}
use Rattle.std.specs.Prelude.{Result, Ok, Err, OnOk, OnErr, IfErr, IsSome}
use Rattle.std.proofs.lemmas.Result.{on_ok_weaker}
use Rattle.disk_model.specs.Seen.{DiskSeen}
use Rattle.disk_model.specs.declared.answers.DiskAnswer.{DiskAnswer}
use Rattle.disk_model.specs.declared.answers.DiskAnswer.TheVariants.{Memory, Failed, Stopped}
use Rattle.script_lines.specs.declared.line.Line.{Line}
use Rattle.script_lines.specs.declared.line.Line.TheVariants as line
use Rattle.script_lines.specs.declared.line.Server.{Server}
use Rattle.plain_service.specs.Setups.{Setup}
use Rattle.service_laws.specs.PlainOf.{plain_of}
use Rattle.cluster_facts.specs.Types.{Entry}
use Rattle.cluster_facts.specs.Lists.{without}
use Rattle.cluster_facts.specs.History.{Hand, Empty, Waiting, Applied, Ready}
use Rattle.cluster_events.specs.Lines.{Told, Stood, is_ignored}
use Rattle.cluster_events.specs.declared.lines.ServerRole.{ServerRole}
use Rattle.cluster_events.specs.declared.lines.ServerRole.TheVariants as role
use Rattle.cluster_events.specs.Outcomes.{Outcome}
use Rattle.cluster_events.specs.Servers.{State}
use Rattle.cluster_events.specs.Events.{step_or_refuse, refuse}
use Rattle.event_text.specs.Texts.{printed}
use Rattle.group_cluster.specs.Seats as defined
use Rattle.group_cluster.specs.Seats.{Peers, is_standby}
use Rattle.group_cluster.specs.Group.{mirrored, confirmed, first_turn, step_by, work_by, work_as, falls}
use Rattle.group_cluster.specs.Falling.{all_stood, catches, caught_lines, caught_seats, can_join, crash, named, restart_by}
use Rattle.group_cluster.specs.Ended.{ended}
use Rattle.cluster_clients.specs.Taken.{kept_lines}
use Rattle.cluster_events.specs.Devices.{Device}
use Rattle.cluster_rounds.proofs.BrokenSteps.{shown-ends}
use Rattle.cluster_rounds.specs.declared.cluster.Cluster.{Cluster}
use Rattle.cluster_rounds.specs.Kits.{calm_servers, device_by, servers_at}
use Rattle.cluster_rounds.specs.Worlds.{Does, HasStateOn, any_state}
use Rattle.cluster_rounds.specs.Broken.{BreaksAlone}
use Rattle.cluster_rounds.specs.Came.{Comes, ComesOff}
use Rattle.cluster_rounds.proofs.BrokenClients.{same-breaks}
use Rattle.cluster_rounds.specs.Seen.{counters_of}
use Rattle.cluster_lines.specs.Playing.{BreaksOff, Plays}
use Rattle.cluster_lines.specs.Showing.{StandsAs}
use Rattle.cluster_lines.specs.Answers.{EndsAs}
use Rattle.cluster_lines.specs.Own.{DoesOn, PlaysLine}
use Rattle.cluster_lines.proofs.KeepSteps.{LeavesAlone}
use Rattle.cluster_lines.specs.Shelves.{shelf_of}
use Rattle.cluster_lines.proofs.LineSteps.{came-stands, own-shelf, plays-came}
use Rattle.cluster_lines.proofs.LineBroken.{ended-line}
use Rattle.cluster_lines.proofs.OwnLines.{alone-line, disk-line}
use Rattle.cluster_events.specs.declared.lines.Standing.{Standing}
use Rattle.group_servers.specs.declared.group.Group.{Group}
use Rattle.group_servers.specs.GroupKit.{group_kit, group_script}
use Rattle.group_servers.specs.GroupLaws.{group_laws}
use Rattle.group_servers.specs.GroupScript.{calm-uses, group_follows}
use Rattle.group_servers.specs.GroupUses.{spent-none, worked-same}
use Rattle.group_servers.specs.GroupNodes.{active_by}
use Rattle.group_servers.specs.Standing.{standing_as}
use Rattle.group_servers.specs.Steps.{CrashesOn, EndsWork, acked_next, armed_by, disarmed_by, mirrored_next, refused_by, restarted_by, worked_by}
use Rattle.group_servers.proofs.CountSteps.{crash-counted, off-counted}
use Rattle.group_servers.proofs.GroupSteps.{done-tells, over-tells}
use Rattle.group_servers.proofs.StandingSteps.{standing-is}

module _ (n : ℕ) where
  pub stands-as : (world : Cluster (Group n)) (standing : Standing) → standing ≡ standing_as world → (StandsAs (group_kit n)) world standing
  stands-as world standing is setup state good shows = is ∙ standing-is n setup state world good shows

  -- What lines that leave the disk alone keep.

  abbrev KeepsIt : Setup → State Peers → Outcome (State Peers) → Type 0
  KeepsIt setup state outcome = (LeavesAlone (group_kit n) (group_laws n)) setup state outcome

  step-keeps : (setup : Setup) (state : State Peers) (line : Line) (found : Option (List defined.Seat × List Told)) → KeepsIt setup state (step_or_refuse (calm_servers (group_kit n) setup) line (step_by found state) state)
  step-keeps setup state line None = record { armed = λ seen armed. armed; tells = λ seen tells. tells }
  step-keeps setup state line (Some turned) = record { armed = λ seen armed. armed; tells = λ seen tells. tells }

  restart_by-keeps : (setup : Setup) (server : Server) (back : Bool) (state : State Peers) → KeepsIt setup state (restart_by server back state)
  restart_by-keeps setup server true state = record { armed = λ seen armed. armed; tells = λ seen tells. tells }
  restart_by-keeps setup server false state = record { armed = λ seen armed. armed; tells = λ seen tells. tells }

  module _ {T E : Type 0} (r : Result T E) (s : Result T DiskAnswer) (next : Line) (old new : Cluster (Group n)) (before after : List (List ℕ)) (held : DiskSeen) where
    pub mirror-line : next ≡ line.Mirror → EndsAs r s → (HasStateOn (group_kit n)) any_state old held → OnOk r ((Does (group_kit n)) (mirrored_next n) old new before after) → OnErr r ((BreaksAlone (group_kit n)) old new) → PlaysLine (group_kit n) group_script s next old new before after held held
    mirror-line is same has does breaks =
        subst (λ (next : Line). PlaysLine (group_kit n) group_script s next old new before after held held) (sym is)
        ((alone-line (group_kit n) (group_laws n) group_script (group_follows n)) r s line.Mirror (mirrored_next n) old new before after held same has (λ setup state good shows count. refl) (λ setup state good shows count. calm-uses setup line.Mirror state _ held held refl (spent-none (counters_of held))) (λ setup state. step-keeps setup state line.Mirror (first_turn (mirrored state.world.core.answered) state.peers.seats)) does breaks)

    pub ack-line : next ≡ line.Ack → EndsAs r s → (HasStateOn (group_kit n)) any_state old held → OnOk r ((Does (group_kit n)) (acked_next n) old new before after) → OnErr r ((BreaksAlone (group_kit n)) old new) → PlaysLine (group_kit n) group_script s next old new before after held held
    ack-line is same has does breaks =
        subst (λ (next : Line). PlaysLine (group_kit n) group_script s next old new before after held held) (sym is)
        ((alone-line (group_kit n) (group_laws n) group_script (group_follows n)) r s line.Ack (acked_next n) old new before after held same has (λ setup state good shows count. refl) (λ setup state good shows count. calm-uses setup line.Ack state _ held held refl (spent-none (counters_of held))) (λ setup state. step-keeps setup state line.Ack (first_turn confirmed state.peers.seats)) does breaks)

    pub restart-line : (server : Server) → next ≡ line.Restart server → EndsAs r s → (HasStateOn (group_kit n)) any_state old held → OnOk r ((Does (group_kit n)) (restarted_by n server) old new before after) → OnErr r ((BreaksAlone (group_kit n)) old new) → PlaysLine (group_kit n) group_script s next old new before after held held
    restart-line server is same has does breaks =
        subst (λ (next : Line). PlaysLine (group_kit n) group_script s next old new before after held held) (sym is)
        ((alone-line (group_kit n) (group_laws n) group_script (group_follows n)) r s (line.Restart server) (restarted_by n server) old new before after held same has (λ setup state good shows count. refl) (λ setup state good shows count. calm-uses setup (line.Restart server) state _ held held refl (spent-none (counters_of held))) (λ setup state. restart_by-keeps setup server (can_join server state.peers) state) does breaks)

  -- Where a line ends by a fault all its lines are printed.

  stood-kept : (stands_as : ServerRole) (servers : List Server) (told : List Told) → without is_ignored told ≡ told → without is_ignored (all_stood stands_as servers told) ≡ all_stood stands_as servers told
  stood-kept stands_as [] told is = is
  stood-kept stands_as (server ∷ servers) told is =
      stood-kept stands_as servers (Stood server stands_as ∷ told) (ap (λ rest. Stood server stands_as ∷ rest) is)

  caught-kept : (catching : Bool) (past : List Entry) (hand : Hand) → without is_ignored (caught_lines catching past hand) ≡ caught_lines catching past hand
  caught-kept true past Empty = refl
  caught-kept true past (Waiting entry) = refl
  caught-kept true past (Applied entry) = refl
  caught-kept true past (Ready entry) = refl
  caught-kept false past hand = refl

  ended-kept : (state : State Peers) (end : Outcome (State Peers)) → end ≡ ended state → record { state = end.state; told = without is_ignored end.told } ≡ ended state
  ended-kept state end is =
      let past = state.world.core.answered in
      let hand = state.world.core.hand in
      let catching = catches state.peers.seats hand in
      let kept = stood-kept role.Down (named is_standby (caught_seats catching state.peers.seats)) (Stood state.peers.acting role.Down ∷ caught_lines catching past hand) (ap (λ rest. Stood state.peers.acting role.Down ∷ rest) (caught-kept catching past hand)) in
      ap (λ (o : Outcome (State Peers)). record { state = o.state; told = without is_ignored o.told }) is
      ∙ ap (λ (told : List Told). record { state = (ended state).state; told = told }) kept

  -- A crash.

  pub crash-line : {T : Type 0} (r : Result T DiskAnswer) (next : Line) (server : Server) (old new : Cluster (Group n)) (before after : List (List ℕ)) (held left : DiskSeen) → next ≡ line.Crash server → (HasStateOn (group_kit n)) any_state old held → OnOk r (CrashesOn n server old new before after held left) → IfErr r (λ answer. (BreaksOff (group_kit n) group_script) answer (line.Crash server) old new before after held left) → PlaysLine (group_kit n) group_script r next old new before after held left
  crash-line r next server old new before after held left is has does off =
      subst (λ (next : Line). PlaysLine (group_kit n) group_script r next old new before after held left) (sym is)
      (record {
        ok = on_ok_weaker r plays does;
        stands = on_ok_weaker r stands does;
        broken = off;
        counts = crash-counted n r server old new before after held left has (on_ok_weaker r (λ (d : CrashesOn n server old new before after held left). (d has.setup has.state has.good has.shows has.count).uses.later) does) off;
      })
    where
      plays : CrashesOn n server old new before after held left → Plays (group_kit n) group_script (line.Crash server) old new before after held left
      plays does = λ setup state good shows count tells.
          let done = does setup state good shows count in
          record {
            shelf = shelf_of setup;
            shelf_is = own-shelf setup held.files;
            happened = done.fails;
            outcome = crash (device_by setup done.fails) server state;
            leads = refl;
            uses = done.uses;
            is = done.is;
            count = done.count;
            files = done.files tells;
          }

      stands : CrashesOn n server old new before after held left → (HasStateOn (group_kit n)) any_state new left
      stands does =
          let done = does has.setup has.state has.good has.shows has.count in
          record {
            setup = has.setup;
            state = (crash (device_by has.setup done.fails) server has.state).state;
            good = done.is.1;
            shows = done.is.0;
            count = done.count;
            so = tt;
          }

  -- Arms.

  arm-as : {T E : Type 0} (r : Result T E) (s : Result T DiskAnswer) (server : Server) (count : ℕ) (old new : Cluster (Group n)) (before after : List (List ℕ)) (held left : DiskSeen) → 1 ≤ count → EndsAs r s → (HasStateOn (group_kit n)) any_state old held → OnOk r ((DoesOn (group_kit n) group_script) (line.Arm server count) (armed_by n server count) old new before after held left) → OnErr r (new ≡ old) → OnErr r (left ≡ held) → PlaysLine (group_kit n) group_script s (line.Arm server count) old new before after held left
  arm-as (Ok x) (Ok y) server count old new before after held left some same has does world disk =
      (disk-line (group_kit n) (group_laws n) group_script (group_follows n)) (Ok y) (line.Arm server count) (armed_by n server count) old new before after held left has (λ setup state good shows counted. (some, refl)) does tt (does has.setup has.state has.good has.shows has.count).3.later
  arm-as (Ok x) (Err f) server count old new before after held left some same has does world disk = elim same [ ]
  arm-as (Err e) (Ok y) server count old new before after held left some same has does world disk = elim same [ ]
  arm-as {T = T} (Err e) (Err f) server count old new before after held left some same has does world disk =
      let next = line.Arm server count in
      let D : DiskSeen → Type 0 = λ d. PlaysLine {T = T} (group_kit n) group_script (Err f) next old new before after held d in
      let W : Cluster (Group n) → Type 0 = λ w. PlaysLine {T = T} (group_kit n) group_script (Err f) next old w before after held held in
      let A : DiskAnswer → Type 0 = λ a. PlaysLine {T = T} (group_kit n) group_script (Err a) next old old before after held held in
      subst D (sym disk) (subst W (sym world) (subst A (sym same) (record {
        ok = tt;
        stands = tt;
        broken = λ setup state good shows counted. ((same-breaks (group_kit n) (group_laws n)) old held setup state good shows, (group_laws n).lacks_same false setup state old.history.entries old.servers held ((shown-ends (group_kit n) (group_laws n)) setup state old shows));
        counts = (group_laws n).stands held;
      })))

  pub arm-line : {T E : Type 0} (r : Result T E) (s : Result T DiskAnswer) (next : Line) (server : Server) (count : ℕ) (old new : Cluster (Group n)) (before after : List (List ℕ)) (held left : DiskSeen) → next ≡ line.Arm server count → 1 ≤ count → EndsAs r s → (HasStateOn (group_kit n)) any_state old held → OnOk r ((DoesOn (group_kit n) group_script) (line.Arm server count) (armed_by n server count) old new before after held left) → OnErr r (new ≡ old) → OnErr r (left ≡ held) → PlaysLine (group_kit n) group_script s next old new before after held left
  arm-line r s next server count old new before after held left is some same has does world disk =
      subst (λ (next : Line). PlaysLine (group_kit n) group_script s next old new before after held left) (sym is) (arm-as r s server count old new before after held left some same has does world disk)

  pub disarm-line : {T : Type 0} (x : T) (next : Line) (old new : Cluster (Group n)) (lines : List (List ℕ)) (held left : DiskSeen) → next ≡ line.Disarm → (HasStateOn (group_kit n)) any_state old held → (DoesOn (group_kit n) group_script) line.Disarm (disarmed_by n) old new lines lines held left → PlaysLine (group_kit n) group_script (Ok x) next old new lines lines held left
  disarm-line x next old new lines held left is has does =
      subst (λ (next : Line). PlaysLine (group_kit n) group_script (Ok x) next old new lines lines held left) (sym is)
      ((disk-line (group_kit n) (group_laws n) group_script (group_follows n)) (Ok x) line.Disarm (disarmed_by n) old new lines lines held left has (λ setup state good shows count. refl) does tt (does has.setup has.state has.good has.shows has.count).3.later)

  -- Work.

  abbrev Quiet : Outcome (State Peers) → Type 0
  Quiet outcome = kept_lines outcome.told ≡ printed outcome.told

  worked-quiet : (setup : Setup) (fails : ℕ → ℕ) (state : State Peers) → Quiet (worked_by n setup fails state)
  worked-quiet setup fails state = by-hand state.world.core.hand refl
    where
      device : Device
      device = device_by setup fails

      work-quiet : (entry : Entry) (fell : Bool) → state.world.core.hand ≡ Ready entry → Quiet (work_as (plain_of setup) device entry fell state)
      work-quiet entry true ready = (over-tells device state entry state.world.core.hand ready).lines
      work-quiet entry false ready = (done-tells (plain_of setup) (device.calls state.world.core.answered entry) entry state ready).lines

      by-hand : (hand : Hand) → state.world.core.hand ≡ hand → Quiet (step_or_refuse (servers_at (group_kit n) setup fails) line.Work (work_by (plain_of setup) device hand state) state)
      by-hand Empty is = refl
      by-hand (Waiting entry) is = refl
      by-hand (Applied entry) is = refl
      by-hand (Ready entry) is = work-quiet entry (falls device state.world.core.answered entry state.peers) is

  work-off : (answer : DiskAnswer) (old new : Cluster (Group n)) (before after : List (List ℕ)) (held left : DiskSeen) → (ComesOff (group_kit n)) any_state (EndsWork n) answer old new before after held left → (BreaksOff (group_kit n) group_script) answer line.Work old new before after held left
  work-off Memory old new before after held left off = λ setup state good shows count. off setup state good shows count tt
  work-off Stopped old new before after held left off = λ setup state good shows count.
      let halted = off setup state good shows count tt in halted.ends.is halted.happened (λ number above within. refl)
  work-off Failed old new before after held left off = λ setup state good shows count.
      (ended-line (group_kit n) (group_laws n) group_script (group_follows n)) line.Work (EndsWork n Failed) setup state new before after held left
      (λ fails end ends. record { entry = ends.entry; ready = ends.ready; calls = ends.calls; fell = ends.fell; row = ends.row; is = ended-kept state end ends.is })
      (λ happened end faults. record {
        between = faults.between;
        before_it = faults.before_it;
        caused = faults.caused;
        behind_it = faults.behind_it;
        rose = faults.rose;
        ended = faults.ended;
      })
      (off setup state good shows count tt)

  work-broken : {T : Type 0} (r : Result T DiskAnswer) (old new : Cluster (Group n)) (before after : List (List ℕ)) (held left : DiskSeen) → IfErr r (λ answer. (ComesOff (group_kit n)) any_state (EndsWork n) answer old new before after held left) → IfErr r (λ answer. (BreaksOff (group_kit n) group_script) answer line.Work old new before after held left)
  work-broken (Ok x) old new before after held left off = tt
  work-broken (Err answer) old new before after held left off = work-off answer old new before after held left off

  pub work-line : {T : Type 0} (r : Result T DiskAnswer) (next : Line) (old new : Cluster (Group n)) (before after : List (List ℕ)) (loud : Bool) (held left : DiskSeen) → next ≡ line.Work → (HasStateOn (group_kit n)) any_state old held → OnOk r ((Comes (group_kit n)) any_state (worked_by n) old new before after loud held left) → IfErr r (λ answer. (ComesOff (group_kit n)) any_state (EndsWork n) answer old new before after held left) → PlaysLine (group_kit n) group_script r next old new before after held left
  work-line r next old new before after loud held left is has comes off =
      subst (λ (next : Line). PlaysLine (group_kit n) group_script r next old new before after held left) (sym is)
      (record {
        ok = on_ok_weaker r (λ (does : (Comes (group_kit n)) any_state (worked_by n) old new before after loud held left). (plays-came (group_kit n) (group_laws n) group_script (group_follows n)) line.Work (worked_by n) old new before after loud held left (λ setup happened state outcome uses. record { caused = uses.caused; later = uses.later; felled = λ less. (refl, uses.felled less); counts = uses.worked }) (λ setup fails state good shows count. refl) (λ setup fails state good shows. worked-quiet setup fails state) does) comes;
        stands = on_ok_weaker r (λ (does : (Comes (group_kit n)) any_state (worked_by n) old new before after loud held left). (came-stands (group_kit n) (group_laws n)) (worked_by n) old new before after loud held left has does) comes;
        broken = work-broken r old new before after held left off;
        counts = off-counted n r (EndsWork n) old new before after held left has (on_ok_weaker r (λ (d : (Comes (group_kit n)) any_state (worked_by n) old new before after loud held left). (d has.setup has.state has.good has.shows has.count tt).uses.later) comes) off;
      })

  -- with nothing ready the line is refused
  idle-by : (setup : Setup) (state : State Peers) (hand : Hand) (owns : List defined.Seat) → (IsSome (active_by setup state.world.core.answered hand owns).replica.owed × ((active_by setup state.world.core.answered hand owns).waits ≡ None) → ⊥) → refuse (calm_servers (group_kit n) setup) line.Work state ≡ step_or_refuse (calm_servers (group_kit n) setup) line.Work (work_by (plain_of setup) (device_by setup (λ number. 0)) hand state) state
  idle-by setup state Empty owns idle = refl
  idle-by setup state (Waiting entry) owns idle = refl
  idle-by setup state (Applied entry) owns idle = refl
  idle-by setup state (Ready entry) owns idle = absurd (idle (refl, refl))

  pub idle-line : {T E : Type 0} (r : Result T E) (s : Result T DiskAnswer) (next : Line) (old new : Cluster (Group n)) (before after : List (List ℕ)) (held : DiskSeen) → next ≡ line.Work → (IsSome old.servers.active.replica.owed × (old.servers.active.waits ≡ None) → ⊥) → EndsAs r s → (HasStateOn (group_kit n)) any_state old held → OnOk r ((Does (group_kit n)) (refused_by n next) old new before after) → OnErr r ((BreaksAlone (group_kit n)) old new) → PlaysLine (group_kit n) group_script s next old new before after held held
  idle-line r s next old new before after held is idle same has does breaks =
      let R : Line → Type 0 = λ next. OnOk r ((Does (group_kit n)) (refused_by n next) old new before after) in
      let I : Group n → Type 0 = λ servers. IsSome servers.active.replica.owed × (servers.active.waits ≡ None) → ⊥ in
      subst (λ (next : Line). PlaysLine (group_kit n) group_script s next old new before after held held) (sym is)
      ((alone-line (group_kit n) (group_laws n) group_script (group_follows n)) r s line.Work (refused_by n line.Work) old new before after held same has
      (λ setup state good shows count. idle-by setup state state.world.core.hand state.peers.seats (subst I shows.own idle))
      (λ setup state good shows count. calm-uses setup line.Work state (refused_by n line.Work setup state) held held refl (worked-same (device_by setup (λ number. 0)) state (refused_by n line.Work setup state).state (counters_of held) refl refl refl))
      (λ setup state. record { armed = λ seen armed. armed; tells = λ seen tells. tells }) (subst R is does) breaks)
