-- What a line of a script comes to, event by event.
use Rattle.std.proofs.Common.{◌≡◌, ℕ, true, false, is_some, ℤ, inl, inr, Option, Some, None, List, ◌++◌, Result, Ok, Err, refl, ap, sym, ◌∙◌, subst}
use Rattle.std.specs.Prelude.{Bool, OnOk, IfSome, ◌≤ℤ◌}
use Rattle.disk_model.specs.Disk.{Files}
use Rattle.disk_model.specs.Seen.{DiskSeen}
use Rattle.disk_model.specs.declared.answers.DiskAnswer.{DiskAnswer}
use Rattle.disk_model.specs.declared.answers.DiskAnswer.TheVariants.{Stopped}
use Rattle.disk_model.specs.declared.tally.Tally.{Tally}
use Rattle.script_lines.specs.declared.line.Line.{Line}
use Rattle.script_lines.specs.declared.line.Line.TheVariants as line
use Rattle.plain_service.specs.Setups.{Setup, IsMoment}
use Rattle.plain_service.specs.Storing.{files_of}
use Rattle.service_laws.specs.PlainOf.{plain_of}
use Rattle.cluster_facts.specs.Types.{Ask, Message}
use Rattle.cluster_facts.specs.Lists.{without}
use Rattle.cluster_facts.specs.History.{Hand, Empty, Waiting, Applied, Ready}
use Rattle.cluster_facts.specs.World.{posting_at}
use Rattle.cluster_events.specs.declared.lines.Standing.{Standing}
use Rattle.cluster_events.specs.Lines.{is_ignored}
use Rattle.cluster_events.specs.Outcomes.{Outcome}
use Rattle.cluster_events.specs.Servers.{State, in_world}
use Rattle.cluster_events.specs.ClientEvents.{set_time, inject}
use Rattle.cluster_events.specs.Events.{deliver_by, push_by, refuse}
use Rattle.cluster_events.specs.Running.{Shelf, Happens}
use Rattle.client_agent.specs.declared.answers.How.TheVariants.{One, All}
use Rattle.event_text.specs.Texts.{printed}
use Rattle.cluster_events.proofs.Devices.{comes-once}
use Rattle.cluster_clients.specs.Taken.{kept_lines}
use Rattle.cluster_clients.proofs.DispatchSteps.{agents-as}
use Rattle.cluster_rounds.specs.declared.cluster.Cluster.{Cluster}
use Rattle.cluster_rounds.specs.Kits.{IsKit, Kit, calm_servers, device_by}
use Rattle.cluster_rounds.specs.Scripts.{Script}
use Rattle.cluster_rounds.specs.Worlds.{Event, Shows, IsGood, HasState, HasStateOf, HasStateOn, IsIdle, Does, Happened, pushed, Pushes, any_state}
use Rattle.cluster_rounds.specs.Broken.{BreaksAlone, BreaksAloneIf}
use Rattle.cluster_rounds.specs.Rounds.{EndsSettle, EventOver}
use Rattle.cluster_rounds.specs.Resting.Rests.{begun, moved}
use Rattle.cluster_rounds.specs.Seen.{IsRead, TellsFiles}
use Rattle.cluster_rounds.specs.Came.{Comes, ComesOff}
use Rattle.cluster_rounds.specs.Settling.{DoesSettle}
use Rattle.cluster_rounds.specs.Delivered.{asked_by, dispatched_by, resent_by, Delivers, Injects}
use Rattle.cluster_rounds.proofs.KitSteps.{line-kept}
use Rattle.cluster_lines.specs.Shelves.{shelf_at, shelf_of}
use Rattle.cluster_lines.specs.Lines.{CanPlay, IsOwn, is_own, shows_files}
use Rattle.cluster_lines.specs.Showing.{StandsAs, refused, servers_listed}
use Rattle.cluster_lines.specs.Playing.{LooksBy, Plays, SharesIn}
use Rattle.cluster_lines.specs.Following.{IsInHand, IsScript}
use Rattle.cluster_lines.specs.Answers.{EndsAs}
use Rattle.cluster_lines.specs.Steps.{PlaysAlone, ShowsOn, deliver_at, file_shown, files_listed}
use Rattle.cluster_lines.proofs.KeepSteps.{Keeps, asked-keeps, deliver-keeps, dispatched-keeps, push-keeps, resend-keeps, shows-keep, stays-put}

-- the shelf of the disk's files
pub own-shelf : (setup : Setup) (held : Option Files) → IfSome held (λ files. shelf_of setup ≡ shelf_of setup)
own-shelf setup None = tt
own-shelf setup (Some files) = refl

-- Results that end alike.

pub ends-ok : {T E P Q : Type 0} (r : Result T E) (s : Result T DiskAnswer) → EndsAs r s → (P → Q) → OnOk r P → OnOk s Q
ends-ok (Ok x) (Ok y) same step holds = step holds
ends-ok (Ok x) (Err f) same step holds = elim same [ ]
ends-ok (Err e) (Ok y) same step holds = elim same [ ]
ends-ok (Err e) (Err f) same step holds = tt

-- a line that leaves the disk alone makes no call, and of the servers' own nothing is said
pub looks-alone : (next : Line) (held : Option Files) (done : Bool) (tally : Tally) → (next ≡ line.Files → ⊥) → ((name : List ℕ) → next ≡ line.Cat name → ⊥) → LooksBy next held done tally tally
looks-alone line.Files held done tally no_list no_file = absurd (no_list refl)
looks-alone (line.Cat name) held done tally no_list no_file = absurd (no_file name refl)
looks-alone line.Settle held done tally no_list no_file = tt
looks-alone _ held done tally no_list no_file = λ shared. refl

pub shows-none : (next : Line) → (next ≡ line.Files → ⊥) → ((name : List ℕ) → next ≡ line.Cat name → ⊥) → shows_files next ≡ false
shows-none line.Files no_list no_file = absurd (no_list refl)
shows-none (line.Cat name) no_list no_file = absurd (no_file name refl)
shows-none _ no_list no_file = refl

pub looks-own : (next : Line) (held : Option Files) (done : Bool) (old new : Tally) → is_own next ≡ true → LooksBy next held done old new
looks-own line.Files held done old new own = cc
looks-own (line.Cat name) held done old new own = cc
looks-own line.Settle held done old new own = tt
looks-own next held done old new own = λ shared. cc

-- a line of the servers' own that can be played is one that they play
pub owns : {P V : Type 0} (script : Script P V) (now : ℤ) (next : Line) → is_own next ≡ true → CanPlay script now next → IsOwn script next
owns script now line.Mirror own can = tt
owns script now line.Ack own can = tt
owns script now line.Work own can = tt
owns script now (line.Crash server) own can = can
owns script now (line.Arm server count) own can = can
owns script now line.Disarm own can = can
owns script now (line.Restart server) own can = can
owns script now _ own can = cc

-- Whether an entry is in hand, by the number of it.

busy-by : (found : Option ℕ) (hand : Hand) → true ≡ is_some found → IsInHand found hand → hand ≡ Empty → ⊥
busy-by None hand some known = cc
busy-by (Some number) hand some known = known

idle-by : (found : Option ℕ) (hand : Hand) → false ≡ is_some found → IsInHand found hand → hand ≡ Empty
idle-by None hand none known = known
idle-by (Some number) hand none known = cc

module _ {Peers Group : Type 0} (kit : Kit Peers Group) (laws : IsKit kit) where
  -- An event that happened is what a line does.

  plays-does : (next : Line) (event : (Event kit)) (old new : Cluster Group) (before after : List (List ℕ)) → ((setup : Setup) (state : State Peers) (shelf : Shelf) → Happens (plain_of setup) shelf (calm_servers kit setup) next state (event setup state)) → ((setup : Setup) (state : State Peers) → (Keeps kit laws) setup state (event setup state)) → (Does kit) event old new before after → (PlaysAlone kit) next old new before after
  plays-does next event old new before after happens keeps does setup state good shows = record {
    outcome = event setup state;
    happens = happens setup state;
    is = does setup state good shows;
    rests = (keeps setup state).rests;
    armed = (keeps setup state).armed;
    tells = (keeps setup state).tells;
  }

  pub plays-as : (one other : Line) (old new : Cluster Group) (before after : List (List ℕ)) → other ≡ one → (PlaysAlone kit) one old new before after → (PlaysAlone kit) other old new before after
  plays-as one other old new before after same plays =
      subst (λ next. (PlaysAlone kit) next old new before after) (sym same) plays

  pub plays-log : (client : ℕ) (asked : Ask) (old new : Cluster Group) (before after : List (List ℕ)) → (Does kit) ((asked_by kit) client asked) old new before after → (PlaysAlone kit) (line.Log client asked) old new before after
  plays-log client asked old new before after = plays-does (line.Log client asked) ((asked_by kit) client asked) old new before after (λ setup state shelf. refl) (λ setup state. (asked-keeps kit laws) setup client asked state)

  pub plays-ntf : (client : ℕ) (asked : Ask) (old new : Cluster Group) (before after : List (List ℕ)) → (Does kit) ((asked_by kit) client asked) old new before after → (PlaysAlone kit) (line.Ntf client asked) old new before after
  plays-ntf client asked old new before after = plays-does (line.Ntf client asked) ((asked_by kit) client asked) old new before after (λ setup state shelf. refl) (λ setup state. (asked-keeps kit laws) setup client asked state)

  pub plays-one : (client : ℕ) (old new : Cluster Group) (before after : List (List ℕ)) → (Does kit) ((dispatched_by kit) One client) old new before after → (PlaysAlone kit) (line.DispatchOne client) old new before after
  plays-one client old new before after = plays-does (line.DispatchOne client) ((dispatched_by kit) One client) old new before after (λ setup state shelf. refl) (λ setup state. (dispatched-keeps kit laws) setup One client state)

  pub plays-all : (client workers : ℕ) (old new : Cluster Group) (before after : List (List ℕ)) → (Does kit) ((dispatched_by kit) (All workers) client) old new before after → (PlaysAlone kit) (line.DispatchAll client workers) old new before after
  plays-all client workers old new before after = plays-does (line.DispatchAll client workers) ((dispatched_by kit) (All workers) client) old new before after (λ setup state shelf. refl) (λ setup state. (dispatched-keeps kit laws) setup (All workers) client state)

  pub plays-deliver : (place : ℕ) (old new : Cluster Group) (before after : List (List ℕ)) → (Does kit) ((deliver_at kit) place) old new before after → (PlaysAlone kit) (line.Deliver place) old new before after
  plays-deliver place old new before after = plays-does (line.Deliver place) ((deliver_at kit) place) old new before after (λ setup state shelf. refl) (λ setup state. (deliver-keeps kit laws) setup place state)

  pub plays-resend : (client : ℕ) (old new : Cluster Group) (before after : List (List ℕ)) → (Does kit) ((resent_by kit) client) old new before after → (PlaysAlone kit) (line.Resend client) old new before after
  plays-resend client old new before after = plays-does (line.Resend client) ((resent_by kit) client) old new before after (λ setup state shelf. refl) (λ setup state. (resend-keeps kit laws) setup client state)

  pub plays-push : (old new : Cluster Group) (before after : List (List ℕ)) → (Does kit) (pushed kit) old new before after → (PlaysAlone kit) line.Push old new before after
  plays-push old new before after = plays-does line.Push (pushed kit) old new before after (λ setup state shelf. refl) (λ setup state. (push-keeps kit laws) setup state)

  pub plays-servers : (old new : Cluster Group) (before after : List (List ℕ)) → (Does kit) (servers_listed kit) old new before after → (PlaysAlone kit) line.Servers old new before after
  plays-servers old new before after =
      plays-does line.Servers (servers_listed kit) old new before after (λ setup state shelf. refl) (λ setup state. (stays-put kit laws) setup state _ refl refl)

  -- **a refusal is what a line does of which it is so over each good state**
  pub plays-refused : (next : Line) (old : Cluster Group) (before after : List (List ℕ)) → ((setup : Setup) (state : State Peers) (shelf : Shelf) → (IsGood kit) setup state → (Shows kit) setup state old → Happens (plain_of setup) shelf (calm_servers kit setup) next state ((refused kit) next setup state)) → (Does kit) ((refused kit) next) old old before after → (PlaysAlone kit) next old old before after
  plays-refused next old before after happens does setup state good shows = record {
    outcome = (refused kit) next setup state;
    happens = λ shelf. happens setup state shelf good shows;
    is = does setup state good shows;
    rests = begun;
    armed = λ seen armed. armed;
    tells = λ seen tells. tells;
  }

  -- After a line that is done the cluster stands for a good state that tells of the disk's armed count.

  pub alone-stands : (next : Line) (old new : Cluster Group) (before after : List (List ℕ)) (seen : kit.Seen) → (HasStateOn kit) any_state old seen → (PlaysAlone kit) next old new before after → (HasStateOn kit) any_state new seen
  alone-stands next old new before after seen has plays =
      let done = plays has.setup has.state has.good has.shows in
      record { setup = has.setup; state = done.outcome.state; good = done.is.1; shows = done.is.0; count = done.armed seen has.count; so = tt }

  pub settle-stands : (old new : Cluster Group) (before after : List (List ℕ)) (held left : kit.Seen) → (HasStateOn kit) any_state old held → (DoesSettle kit) old new before after held left → (HasStateOn kit) any_state new left
  settle-stands old new before after held left has does =
      let done = does has.setup has.state has.good has.shows has.count in
      record { setup = has.setup; state = done.outcome.state; good = done.is.1; shows = done.is.0; count = done.count; so = tt }

  -- `settle` that ended by a stop of the disk
  pub halt-stands : (old new : Cluster Group) (before after : List (List ℕ)) (held left : kit.Seen) → (HasStateOn kit) any_state old held → (ComesOff kit) any_state (EndsSettle kit) Stopped old new before after held left → (HasStateOn kit) any_state new left
  halt-stands old new before after held left has halts =
      let halted = halts has.setup has.state has.good has.shows has.count tt in
      record { setup = has.setup; state = halted.end.state; good = halted.good; shows = halted.shows; count = halted.count; so = tt }

  pub came-stands : (event : (EventOver kit)) (old new : Cluster Group) (before after : List (List ℕ)) (loud : Bool) (held left : kit.Seen) → (HasStateOn kit) any_state old held → (Comes kit) any_state event old new before after loud held left → (HasStateOn kit) any_state new left
  came-stands event old new before after loud held left has comes =
      let came = comes has.setup has.state has.good has.shows has.count tt in
      record { setup = has.setup; state = came.outcome.state; good = came.played.good; shows = came.played.shows; count = came.count; so = tt }

  -- Bytes that are injected, and refused where a message spells them.

  pub plays-injected : (bytes : List ℕ) (old new : Cluster Group) (before after : List (List ℕ)) → (Injects kit) bytes true old new before after → (PlaysAlone kit) (line.Inject bytes) old new before after
  plays-injected bytes old new before after injects setup state good shows =
      let raw = injects.0 in
      record {
        outcome = in_world (inject bytes raw.front raw.why) state;
        happens = λ shelf. inr (record { front = raw.front; why = raw.why; refused = raw.refused; is = refl });
        is = injects.1 setup state good shows;
        rests = moved begun (in_world (inject bytes raw.front raw.why) state).state refl refl;
        armed = λ seen armed. armed;
        tells = λ seen tells. laws.moves setup state (in_world (inject bytes raw.front raw.why) state).state seen refl refl tells;
      }

  pub plays-spelling : (bytes : List ℕ) (next : Line) (old new : Cluster Group) (before between after : List (List ℕ)) → next ≡ line.Inject bytes → (Injects kit) bytes false old new before between → (Does kit) ((refused kit) next) new new between after → (PlaysAlone kit) (line.Inject bytes) old new before after
  plays-spelling bytes next old new before between after is none refuses =
      let spelling = none.0 in
      let one : Line → Type 0 = λ n. (Does kit) ((refused kit) n) new new between after in
      let two : Cluster Group → Type 0 = λ w. (Does kit) ((refused kit) (line.Inject bytes)) w w between after in
      let three : List (List ℕ) → Type 0 = λ b. (Does kit) ((refused kit) (line.Inject bytes)) old old b after in
      let there = plays-refused (line.Inject bytes) old before after (λ setup state shelf good shows. inl (record { message = spelling.0; spells = spelling.1; is = refl })) (subst three none.2 (subst two none.1 (subst one is refuses))) in
      subst (λ w. (PlaysAlone kit) (line.Inject bytes) old w before after) (sym none.1) there

  -- The time in force.

  pub plays-time : (now : ℤ) (old : Cluster Group) (before : List (List ℕ)) → IsMoment now → old.now ≤ℤ now → (PlaysAlone kit) (line.Time now) old (record old { now = now }) before before
  plays-time now old before moment later setup state good shows =
      let world = record state.world { now = now } in
      let outcome : Outcome (State Peers) = in_world (set_time now) state in
      let at : state.world.now ≤ℤ now = subst (λ then. then ≤ℤ now) shows.now later in
      let steady = (line-kept kit laws) setup (shelf_of setup) (line.Time now) state outcome good.steady (at, refl) in
      record {
        outcome = outcome;
        happens = λ shelf. (at, refl);
        is = (
          record {
            own = shows.own;
            net = shows.net;
            agents = agents-as state.world world old.agents refl refl refl shows.agents;
            history = shows.history;
            now = refl;
            callbacks = shows.callbacks;
          },
          record { begins = good.begins; steady = steady.0; range = good.range; moment = moment },
          sym (Rattle.std.proofs.Common.append-nil before),
        );
        rests = moved begun outcome.state refl refl;
        armed = λ seen armed. armed;
        tells = λ seen tells. laws.moves setup state outcome.state seen refl refl tells;
      }

  -- A delivery that is refused: the net has nothing of that number.

  delivers-refused : (place : ℕ) (old : Cluster Group) (before after : List (List ℕ)) → ((setup : Setup) (state : State Peers) → (Shows kit) setup state old → posting_at place state.world.net ≡ None) → (Does kit) ((refused kit) (line.Deliver place)) old old before after → (Does kit) ((deliver_at kit) place) old old before after
  delivers-refused place old before after none refuses setup state good shows =
      let plain = plain_of setup in
      let same = ap (λ found. deliver_by plain (calm_servers kit setup) place found state) (none setup state shows) in
      let H : Outcome (State Peers) → Type 0 = λ outcome. (Happened kit) setup outcome old before after in
      subst H (sym same) (refuses setup state good shows)

  pub delivers-refused-after : (place : ℕ) (next : Line) (old new : Cluster Group) (before between after : List (List ℕ)) → next ≡ line.Deliver place → (Delivers kit) place false old new before between → (Does kit) ((refused kit) next) new new between after → (Does kit) ((deliver_at kit) place) old new before after
  delivers-refused-after place next old new before between after is none refuses =
      let one : Line → Type 0 = λ n. (Does kit) ((refused kit) n) new new between after in
      let two : Cluster Group → Type 0 = λ w. (Does kit) ((refused kit) (line.Deliver place)) w w between after in
      let three : List (List ℕ) → Type 0 = λ b. (Does kit) ((refused kit) (line.Deliver place)) old old b after in
      let there = delivers-refused place old before after none.2 (subst three none.1 (subst two none.0 (subst one is refuses))) in
      subst (λ w. (Does kit) ((deliver_at kit) place) old w before after) (sym none.0) there

module _ {Peers Group : Type 0} (kit : Kit Peers Group) (laws : IsKit kit) (script : Script Peers kit.Seen) (follows : IsScript kit script) where
  -- A push, by whether an entry is in hand.

  known : (old : Cluster Group) (standing : Standing) → (SharesIn kit script) line.Push old → (StandsAs kit) old standing → (setup : Setup) (state : State Peers) → (IsGood kit) setup state → (Shows kit) setup state old → IsInHand standing.in_hand state.world.core.hand
  known old standing shared stands setup state good shows =
      subst (λ (s : Standing). IsInHand s.in_hand state.world.core.hand) (sym (stands setup state good shows)) (follows.in_hand (plain_of setup) (device_by setup (λ number. 0)) state (shared setup state good shows))

  push-busy-by : (setup : Setup) (state : State Peers) (hand : Hand) → (hand ≡ Empty → ⊥) → push_by (plain_of setup) (calm_servers kit setup) hand state ≡ refuse (calm_servers kit setup) line.Push state
  push-busy-by setup state Empty busy = absurd (busy refl)
  push-busy-by setup state (Waiting entry) busy = refl
  push-busy-by setup state (Applied entry) busy = refl
  push-busy-by setup state (Ready entry) busy = refl

  pub pushes-busy : (old : Cluster Group) (standing : Standing) (before after : List (List ℕ)) → (SharesIn kit script) line.Push old → (StandsAs kit) old standing → true ≡ is_some standing.in_hand → (Does kit) ((refused kit) line.Push) old old before after → (Does kit) (pushed kit) old old before after
  pushes-busy old standing before after shared stands some refuses setup state good shows =
      let hand = state.world.core.hand in
      let H : Outcome (State Peers) → Type 0 = λ outcome. (Happened kit) setup outcome old before after in
      subst H (sym (push-busy-by setup state hand (busy-by standing.in_hand hand some (known old standing shared stands setup state good shows)))) (refuses setup state good shows)

  -- nothing is in hand where none has a number
  idle-known : (old : Cluster Group) (standing : Standing) → (SharesIn kit script) line.Push old → (StandsAs kit) old standing → false ≡ is_some standing.in_hand → (setup : Setup) (state : State Peers) → (IsGood kit) setup state → (Shows kit) setup state old → IsIdle state
  idle-known old standing shared stands none setup state good shows =
      idle-by standing.in_hand state.world.core.hand none (known old standing shared stands setup state good shows)

  pub stands-idle : (old : Cluster Group) (standing : Standing) → (SharesIn kit script) line.Push old → (StandsAs kit) old standing → false ≡ is_some standing.in_hand → (HasState kit) old → (HasStateOf kit) IsIdle old
  stands-idle old standing shared stands none has = record {
    setup = has.setup;
    state = has.state;
    good = has.good;
    shows = has.shows;
    so = idle-known old standing shared stands none has.setup has.state has.good has.shows;
  }

  pub pushes-does : (items : List Message) (old new : Cluster Group) (standing : Standing) (before after : List (List ℕ)) → (SharesIn kit script) line.Push old → (StandsAs kit) old standing → false ≡ is_some standing.in_hand → (Pushes kit) items old new before after → (Does kit) (pushed kit) old new before after
  pushes-does items old new standing before after shared stands none pushes setup state good shows =
      (pushes setup state good shows (idle-known old standing shared stands none setup state good shows)).0

  pub idle-breaks : (old new : Cluster Group) (standing : Standing) → (SharesIn kit script) line.Push old → (StandsAs kit) old standing → false ≡ is_some standing.in_hand → (BreaksAloneIf kit) IsIdle old new → (BreaksAlone kit) old new
  idle-breaks old new standing shared stands none breaks held setup state good shows =
      breaks held setup state good shows (idle-known old standing shared stands none setup state good shows)

  -- **where the disk is left alone its files are those of the history, as they were**
  pub plays-alone : (next : Line) (old new : Cluster Group) (before after : List (List ℕ)) (held : kit.Seen) → is_own next ≡ false → shows_files next ≡ false → (SharesIn kit script) next old → (PlaysAlone kit) next old new before after → (Plays kit script) next old new before after held held
  plays-alone next old new before after held unasked unshown shared plays setup state good shows count tells =
      let done = plays setup state good shows in
      record {
        shelf = shelf_of setup;
        shelf_is = own-shelf setup (kit.files held);
        happened = λ number. 0;
        outcome = done.outcome;
        leads = follows.shares (plain_of setup) (shelf_of setup) (device_by setup (λ number. 0)) next state done.outcome held unasked (shared setup state good shows) (done.armed held count) (done.happens (shelf_of setup));
        uses = follows.unused next setup state done.outcome held unasked unshown done.rests;
        is = done.is;
        count = done.armed held count;
        files = laws.left_same setup done.outcome.state held (done.tells held tells);
      }

  -- **an event that came to an outcome is what its line leads to, where that works entries and all its lines are printed**
  pub plays-came : (next : Line) (event : (EventOver kit)) (old new : Cluster Group) (before after : List (List ℕ)) (loud : Bool) (held left : kit.Seen)
      → ((setup : Setup) (happened : ℕ → ℕ) (state : State Peers) (outcome : Outcome (State Peers)) → kit.Uses setup happened state outcome held left → script.Uses next setup happened state outcome held left)
      → ((setup : Setup) (fails : ℕ → ℕ) (state : State Peers) → (IsGood kit) setup state → (Shows kit) setup state old → kit.Armed state.peers held → script.Leads (plain_of setup) (shelf_of setup) (device_by setup fails) next state (event setup fails state))
      → ((setup : Setup) (fails : ℕ → ℕ) (state : State Peers) → (IsGood kit) setup state → (Shows kit) setup state old → kept_lines (event setup fails state).told ≡ printed (event setup fails state).told)
      → (Comes kit) any_state event old new before after loud held left → (Plays kit script) next old new before after held left
  plays-came next event old new before after loud held left works leads quiet comes setup state good shows count tells =
      let came = comes setup state good shows count tt in
      let is : event setup came.happened state ≡ came.outcome = comes-once (event setup) came.happened state came.outcome came.comes in
      let L : Outcome (State Peers) → Type 0 = λ o. script.Leads (plain_of setup) (shelf_of setup) (device_by setup came.happened) next state o in
      let Q : Outcome (State Peers) → Type 0 = λ o. kept_lines o.told ≡ printed o.told in
      record {
        shelf = shelf_of setup;
        shelf_is = own-shelf setup (kit.files held);
        happened = came.happened;
        outcome = came.outcome;
        leads = subst L is (leads setup came.happened state good shows count);
        uses = works setup came.happened state came.outcome came.uses;
        is = (came.played.shows, came.played.good, came.played.lines ∙ ap (λ lines. before ++ lines) (subst Q is (quiet setup came.happened state good shows)));
        count = came.count;
        files = came.played.files tells;
      }

  pub plays-settle : (old new : Cluster Group) (before after : List (List ℕ)) (held left : kit.Seen) → (SharesIn kit script) line.Settle old → (DoesSettle kit) old new before after held left → (Plays kit script) line.Settle old new before after held left
  plays-settle old new before after held left shared does setup state good shows count tells =
      let done = does setup state good shows count in
      record {
        shelf = shelf_of setup;
        shelf_is = own-shelf setup (kit.files held);
        happened = done.happened;
        outcome = done.outcome;
        leads = follows.shares (plain_of setup) (shelf_of setup) (device_by setup done.happened) line.Settle state done.outcome left refl (shared setup state good shows) done.count done.settles;
        uses = follows.settled setup done.happened state done.outcome held left done.uses;
        is = done.is;
        count = done.count;
        files = done.files tells;
      }

  pub plays-halt : (old new : Cluster Group) (before after : List (List ℕ)) (held left : kit.Seen) → (SharesIn kit script) line.Settle old → (ComesOff kit) any_state (EndsSettle kit) Stopped old new before after held left → (Plays kit script) line.Settle old new before after held left
  plays-halt old new before after held left shared halts setup state good shows count tells =
      let halted = halts setup state good shows count tt in
      let outcome : Outcome (State Peers) = record { state = halted.end.state; told = without is_ignored halted.end.told } in
      record {
        shelf = shelf_of setup;
        shelf_is = own-shelf setup (kit.files held);
        happened = halted.happened;
        outcome = outcome;
        leads = follows.halts (plain_of setup) (shelf_of setup) (device_by setup halted.happened) state halted.end (shared setup state good shows) (halted.ends.is halted.happened (λ number above within. refl));
        uses = follows.settle_halts setup halted.happened state halted.end held left halted.uses;
        is = (halted.shows, halted.good, halted.lines);
        count = halted.count;
        files = halted.files tells;
      }

  -- The lines `files` and `cat`.

  -- where a disk tells its files, and they are those of the history, what is shown of them is shown of the history's
  own-shown : (event : Setup → Shelf → State Peers → Outcome (State Peers)) (setup : Setup) (state : State Peers) (new : Cluster Group) (before after : List (List ℕ)) (held : Option Files) → event setup (shelf_at (files_of setup state.world.core.answered)) state ≡ event setup (shelf_of setup) state → TellsFiles setup state held
      → (shelf : Shelf) × IfSome held (λ files. shelf ≡ shelf_at files) × (Happened kit) setup (event setup shelf state) new before after
      → (shelf : Shelf) × IfSome held (λ _. shelf ≡ shelf_of setup) × (Happened kit) setup (event setup shelf state) new before after
  own-shown event setup state new before after None reads tells shown = shown
  own-shown event setup state new before after (Some files) reads tells shown =
      let H : Outcome (State Peers) → Type 0 = λ outcome. (Happened kit) setup outcome new before after in
      let same = ap (λ (shelf : Shelf). event setup shelf state) shown.1 ∙ ap (λ (f : Files). event setup (shelf_at f) state) tells ∙ reads in
      (shelf_of setup, refl, subst H same shown.2)

  plays-shown : (next : Line) (event : Setup → Shelf → State Peers → Outcome (State Peers)) (old : Cluster Group) (before after : List (List ℕ)) (one two beside : DiskSeen) → is_own next ≡ false → shows_files next ≡ true → ((setup : Setup) (shelf : Shelf) (state : State Peers) → Happens (plain_of setup) shelf (calm_servers kit setup) next state (event setup shelf state)) → ((setup : Setup) (state : State Peers) → event setup (shelf_at (files_of setup state.world.core.answered)) state ≡ event setup (shelf_of setup) state) → ((setup : Setup) (shelf : Shelf) (state : State Peers) → (Keeps kit laws) setup state (event setup shelf state)) → (SharesIn kit script) next old → LooksBy next one.files true one.tally two.tally → IsRead one two → two.faults ≡ one.faults → (ShowsOn kit) event old before after one.files → (Plays kit script) next old old before after (kit.see one beside) (kit.see two beside)
  plays-shown next event old before after one two beside unasked shown happens reads keeps shared looks read faults does setup state good shows count tells =
      let T : Option Files → Type 0 = λ held. TellsFiles setup state held in
      let files = laws.shown one beside in
      let shares = shared setup state good shows in
      let told = subst T files (follows.told setup next state (kit.see one beside) shown shares tells) in
      let done = own-shown event setup state old before after one.files (reads setup state) told (does setup state good shows) in
      let kept = keeps setup done.0 state in
      let last = (event setup done.0 state).state in
      let armed = kept.armed (kit.see one beside) count in
      record {
        shelf = done.0;
        shelf_is = subst (λ (held : Option Files). IfSome held (λ _. done.0 ≡ shelf_of setup)) (sym files) done.1;
        happened = λ number. 0;
        outcome = event setup done.0 state;
        leads = follows.shares (plain_of setup) done.0 (device_by setup (λ number. 0)) next state (event setup done.0 state) (kit.see one beside) unasked shares armed (happens setup done.0 state);
        uses = follows.read next setup state (event setup done.0 state) one two beside looks unasked shown read faults kept.rests;
        is = done.2;
        count = laws.read_armed last.peers one two beside read armed;
        files = laws.read_left setup last one two beside read (kept.tells (kit.see one beside) tells);
      }

  pub plays-files : (old : Cluster Group) (before after : List (List ℕ)) (one two beside : DiskSeen) → (SharesIn kit script) line.Files old → LooksBy line.Files one.files true one.tally two.tally → IsRead one two → two.faults ≡ one.faults → (ShowsOn kit) (files_listed kit) old before after one.files → (Plays kit script) line.Files old old before after (kit.see one beside) (kit.see two beside)
  plays-files old before after one two beside = plays-shown line.Files (files_listed kit) old before after one two beside refl refl (λ setup shelf state. refl) (λ setup state. refl) (λ setup shelf state. (stays-put kit laws) setup state _ refl refl)

  pub plays-cat : (name : List ℕ) (old : Cluster Group) (before after : List (List ℕ)) (one two beside : DiskSeen) → (SharesIn kit script) (line.Cat name) old → LooksBy (line.Cat name) one.files true one.tally two.tally → IsRead one two → two.faults ≡ one.faults → (ShowsOn kit) ((file_shown kit) name) old before after one.files → (Plays kit script) (line.Cat name) old old before after (kit.see one beside) (kit.see two beside)
  plays-cat name old before after one two beside = plays-shown (line.Cat name) ((file_shown kit) name) old before after one two beside refl refl (λ setup shelf state. refl) (λ setup state. refl) (λ setup shelf state. (shows-keep kit laws) setup name shelf state)

  -- One line for another.

  pub played-as : (one other : Line) (old new : Cluster Group) (before after : List (List ℕ)) (held left : kit.Seen) → other ≡ one → (Plays kit script) one old new before after held left → (Plays kit script) other old new before after held left
  played-as one other old new before after held left same plays =
      subst (λ next. (Plays kit script) next old new before after held left) (sym same) plays
