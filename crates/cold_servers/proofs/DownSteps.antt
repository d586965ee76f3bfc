-- Lines while the server is down: what they come to.
use Rattle.std.proofs.Common.{◌≡◌, ℕ, Bool, true, false, Option, Some, None, List, [], ◌∷◌, ◌++◌, get_or, refl, ap, sym, subst, ◌∙◌, append-nil, append_assoc}
use Rattle.std.specs.Prelude.{IsErrOf, Result, Ok, OnOk, OnErr}
use Rattle.std.specs.Result.{is_ok}
use Rattle.ais_values.specs.Causes.{RoseExactlyOn}
use Rattle.disk_model.specs.Seen.{DiskSeen}
use Rattle.disk_model.specs.declared.answers.DiskAnswer.TheVariants.{Failed, Stopped}
use Rattle.cluster_clients.specs.Looks.{FileCalls, ListCalls, Looks}
use Rattle.cluster_clients.proofs.DispatchSteps.{fresh-agent}
use Rattle.cluster_rounds.specs.Seen.{IsRead}
use Rattle.cluster_rounds.proofs.WildSteps.{on-ok}
use Rattle.cluster_lines.specs.Playing.{LooksBy}
use Rattle.cluster_lines.specs.Steps.{ShowsOn, file_shown, files_listed}
use Rattle.disk_model.specs.declared.answers.DiskAnswer.{DiskAnswer}
use Rattle.script_lines.specs.declared.line.Line.{Line}
use Rattle.script_lines.specs.declared.line.Line.TheVariants as line
use Rattle.script_lines.specs.declared.line.Server.TheVariants.{A, B, C}
use Rattle.plain_service.specs.Setups.{Setup}
use Rattle.service_laws.specs.PlainOf.{plain_of}
use Rattle.service_laws.proofs.ServiceLaws.{is_plain}
use Rattle.client_agent.specs.Seen.{Seen, seen_of}
use Rattle.cluster_facts.specs.Types.{Message, Answer, Delivery}
use Rattle.cluster_facts.specs.Agents.{Agent, fresh, resent}
use Rattle.cluster_facts.specs.Messages.{Posting, Spelled, Raw}
use Rattle.cluster_facts.specs.Service.{Plain}
use Rattle.cluster_facts.specs.World.{number_of, posting_at}
use Rattle.cluster_events.specs.Devices.{Device}
use Rattle.cluster_events.specs.Events.{deliver_by}
use Rattle.cluster_events.specs.Lines.{Ignored}
use Rattle.cluster_events.specs.declared.lines.Why.TheVariants.{ServerDown}
use Rattle.cluster_events.specs.Outcomes.{Outcome, for_each, telling}
use Rattle.cluster_events.specs.Running.{Shelf}
use Rattle.cluster_events.specs.Servers.{State}
use Rattle.event_text.specs.Texts.{ignored_line, printed}
use Rattle.cluster_clients.specs.Clients.{IsAbsent, StandsAt}
use Rattle.cluster_clients.specs.Spelled.{IsNumberIn}
use Rattle.cluster_clients.proofs.ToldLines.{printed-append}
use Rattle.cluster_rounds.specs.declared.cluster.Cluster.{Cluster}
use Rattle.cluster_rounds.specs.Broken.{BreaksAlone}
use Rattle.cluster_rounds.specs.Delivered.{Delivers}
use Rattle.cluster_rounds.specs.Kits.{calm_servers, device_by}
use Rattle.cluster_rounds.specs.Worlds.{Does, Event, Happened, HasStateOn, IsGood, Shows, any_state}
use Rattle.cluster_rounds.proofs.ArmedSteps.{take_item-core, take_reply-core}
use Rattle.cluster_rounds.proofs.ChainSteps.{resent-by}
use Rattle.cluster_lines.specs.Answers.{EndsAs}
use Rattle.cluster_lines.specs.Lines.{shows_files}
use Rattle.cluster_lines.specs.Own.{DoesOn}
use Rattle.cluster_lines.specs.Showing.{refused}
use Rattle.cluster_lines.proofs.KeepSteps.{LeavesAlone, shows-keep}
use Rattle.cluster_lines.proofs.LineBroken.{cat-broken, ends-broken, ends-counts, files-broken, looked-read, read-stands, shown-counts, shown-ok}
use Rattle.cluster_lines.proofs.LineSteps.{ends-ok}
use Rattle.cold_cluster.specs.Cold.{Alone, IsBeside}
use Rattle.cold_cluster.specs.Lines.{HappensBy, HappensDown, deliver_down_by, delivered_down}
use Rattle.cold_servers.specs.declared.solo.Solo.{Solo}
use Rattle.cold_servers.specs.ColdCounts.{CountsLine}
use Rattle.cold_servers.specs.ColdKit.{cold_kit, cold_script}
use Rattle.cold_servers.specs.ColdLaws.{cold_laws}
use Rattle.cold_servers.specs.ColdScript.{cold_follows}
use Rattle.cold_servers.specs.ColdSeen.{ColdSeen, Outlives}
use Rattle.cold_servers.specs.CountLaws.{idle-same}
use Rattle.cold_servers.specs.Down.{IsDownLine, PlaysDown, PlaysDownLine}
use Rattle.cold_servers.specs.Ignoring.{IgnoresAll, IsAskingAt, down_delivered, down_resent, ignored_all, is_asking}
use Rattle.cold_servers.specs.Steps.{AllDown, disarmed_both}
use Rattle.cold_servers.proofs.OwnLines.{refused-counts}
use Rattle.cold_servers.proofs.RestartSteps.{told-shelf}

-- Over servers of which none of the disks is asked.

abbrev pub calm_device : Setup → Device
calm_device setup = device_by setup (λ number. 0)

-- what a line leads to while the server is down
abbrev LeadsDown : Line → Event cold_kit → Type 0
LeadsDown next event =
    (setup : Setup) (shelf : Shelf) (state : State Alone) → HappensDown (plain_of setup) shelf (calm_device setup) next state (event setup state)

abbrev LeavesIt : Event cold_kit → Type 0
LeavesIt event = (setup : Setup) (state : State Alone) → LeavesAlone cold_kit cold_laws setup state (event setup state)

abbrev CountsIt : Line → Event cold_kit → ColdSeen → Type 0
CountsIt next event held = (setup : Setup) (state : State Alone) → IsBeside state.peers.mirrored → CountsLine next setup state (event setup state).state held held

down-leads : (next : Line) (event : Event cold_kit) (setup : Setup) (shelf : Shelf) (state : State Alone) → LeadsDown next event → state.peers.up ≡ false → HappensBy state.peers.up (plain_of setup) shelf (calm_device setup) next state (event setup state)
down-leads next event setup shelf state leads down =
    subst (λ (b : Bool). HappensBy b (plain_of setup) shelf (calm_device setup) next state (event setup state)) (sym down) (leads setup shelf state)

does-down : (next : Line) (event : Event cold_kit) (old new : Cluster Solo) (before after : List (List ℕ)) (held : ColdSeen) → AllDown old → LeadsDown next event → LeavesIt event → CountsIt next event held → Does cold_kit event old new before after → PlaysDown next old new before after held held
does-down next event old new before after held down leads leaves counts does setup state good shows count =
    let shelf = told-shelf setup held.disk.files in
    let left = leaves setup state in
    record {
      shelf = shelf.0;
      shelf_is = shelf.1;
      outcome = event setup state;
      leads = down-leads next event setup shelf.0 state leads (down setup state good shows);
      uses = record { never = λ number. refl; counts = λ beside. counts setup state beside };
      is = does setup state good shows;
      count = left.armed held count;
      files = λ tells. cold_laws.left_same setup (event setup state).state held (left.tells held tells);
    }

does-stands : (event : Event cold_kit) (old new : Cluster Solo) (before after : List (List ℕ)) (held : ColdSeen) → LeavesIt event → HasStateOn cold_kit any_state old held → Does cold_kit event old new before after → HasStateOn cold_kit any_state new held
does-stands event old new before after held leaves has does =
    let done = does has.setup has.state has.good has.shows in
    record { setup = has.setup; state = (event has.setup has.state).state; good = done.1; shows = done.0; count = (leaves has.setup has.state).armed held has.count; so = tt }

pub down-alone : {T E : Type 0} (r : Result T E) (s : Result T DiskAnswer) (next : Line) (event : Event cold_kit) (old new : Cluster Solo) (before after : List (List ℕ)) (held : ColdSeen) → EndsAs r s → AllDown old → LeadsDown next event → LeavesIt event → CountsIt next event held → OnOk r (Does cold_kit event old new before after) → OnErr r (BreaksAlone cold_kit old new) → PlaysDownLine s next old new before after held held
down-alone r s next event old new before after held same down leads leaves counts does breaks = record {
  ok = ends-ok r s same (λ (d : Does cold_kit event old new before after). does-down next event old new before after held down leads leaves counts d) does;
  stands = λ has. ends-ok r s same (λ (d : Does cold_kit event old new before after). does-stands event old new before after held leaves has d) does;
  broken = ends-broken cold_kit cold_laws cold_script cold_follows r s next old new before after held same breaks;
  counts = ends-counts cold_kit cold_laws r s held same;
}

-- **`deliver`**

delivered-leaves : (setup : Setup) (place : ℕ) (message : Message) (state : State Alone) → LeavesAlone cold_kit cold_laws setup state (delivered_down (plain_of setup) place message state)
delivered-leaves setup place (Answer client number reply) state = record {
  armed = λ seen told. told;
  tells = λ seen told. cold_laws.moves setup state (delivered_down (plain_of setup) place (Answer client number reply) state).state seen (take_reply-core place client number reply state.world) refl told;
}
delivered-leaves setup place (Delivery client key item) state = record {
  armed = λ seen told. told;
  tells = λ seen told. cold_laws.moves setup state (delivered_down (plain_of setup) place (Delivery client key item) state).state seen (take_item-core (plain_of setup) place client key item state.world) refl told;
}
delivered-leaves setup place message state = record { armed = λ seen told. told; tells = λ seen told. told }

pub deliver-leaves : (place : ℕ) → LeavesIt (down_delivered place)
deliver-leaves place setup state = by (posting_at place state.world.net)
  where
    by : (found : Option Posting) → LeavesAlone cold_kit cold_laws setup state (deliver_down_by (plain_of setup) (calm_device setup) place found state)
    by None = record { armed = λ seen told. told; tells = λ seen told. told }
    by (Some (Spelled message)) = delivered-leaves setup place message state
    by (Some (Raw bytes front why)) = record { armed = λ seen told. told; tells = λ seen told. told }

-- what is not for an active server goes the same way as while one is up
same-delivered : (setup : Setup) (place : ℕ) (found : Option Posting) (state : State Alone) → is_asking found ≡ false → deliver_by (plain_of setup) (calm_servers cold_kit setup) place found state ≡ deliver_down_by (plain_of setup) (calm_device setup) place found state
same-delivered setup place None state none = refl
same-delivered setup place (Some (Spelled (Answer client number reply))) state none = refl
same-delivered setup place (Some (Spelled (Delivery client key item))) state none = refl
same-delivered setup place (Some (Spelled message)) state none = cc
same-delivered setup place (Some (Raw bytes front why)) state none = refl

pub delivers-same : (place : ℕ) (old new : Cluster Solo) (before after : List (List ℕ)) → IsAskingAt false place old.net → Delivers cold_kit place true old new before after → Does cold_kit (down_delivered place) old new before after
delivers-same place old new before after asking does setup state good shows =
    let none = sym (asking state.world.net shows.net) in
    subst (λ (o : Outcome (State Alone)). Happened cold_kit setup o new before after)
    (same-delivered setup place (posting_at place state.world.net) state none) (does setup state good shows)

pub delivers-none : (place : ℕ) (old new : Cluster Solo) (before between after : List (List ℕ)) → Delivers cold_kit place false old new before between → Does cold_kit (refused cold_kit (line.Deliver place)) new new between after → Does cold_kit (down_delivered place) old new before after
delivers-none place old new before between after none refuses setup state good shows =
    let is = none.2 setup state shows in
    let shown : Shows cold_kit setup state new = subst (λ (w : Cluster Solo). Shows cold_kit setup state w) (sym none.0) shows in
    let done = refuses setup state good shown in
    let lines : after ≡ before ++ printed (refused cold_kit (line.Deliver place) setup state).told = done.2 ∙ ap (λ (l : List (List ℕ)). l ++ printed (refused cold_kit (line.Deliver place) setup state).told) none.1 in
    subst (λ (found : Option Posting). Happened cold_kit setup (deliver_down_by (plain_of setup) (calm_device setup) place found state) new before after) (sym is)
    (done.0, done.1, lines)

-- a request or a receipt has no effect
ignored-down : (setup : Setup) (place : ℕ) (found : Option Posting) (state : State Alone) → is_asking found ≡ true → deliver_down_by (plain_of setup) (calm_device setup) place found state ≡ telling state (Ignored place ServerDown)
ignored-down setup place None state asks = cc
ignored-down setup place (Some (Spelled (Answer client number reply))) state asks = cc
ignored-down setup place (Some (Spelled (Delivery client key item))) state asks = cc
ignored-down setup place (Some (Spelled message)) state asks = refl
ignored-down setup place (Some (Raw bytes front why)) state asks = cc

pub delivers-ignored : (place : ℕ) (old : Cluster Solo) (before after : List (List ℕ)) → IsAskingAt true place old.net → after ≡ before ++ ignored_line place ServerDown ∷ [] → Does cold_kit (down_delivered place) old old before after
delivers-ignored place old before after asking lines setup state good shows =
    let some = sym (asking state.world.net shows.net) in
    subst (λ (o : Outcome (State Alone)). Happened cold_kit setup o old before after)
    (sym (ignored-down setup place (posting_at place state.world.net) state some)) (shows, good, lines)

pub deliver-line : {T E : Type 0} (r : Result T E) (s : Result T DiskAnswer) (place : ℕ) (old new : Cluster Solo) (before after : List (List ℕ)) (held : ColdSeen) → EndsAs r s → AllDown old → OnOk r (Does cold_kit (down_delivered place) old new before after) → OnErr r (BreaksAlone cold_kit old new) → PlaysDownLine s (line.Deliver place) old new before after held held
deliver-line r s place old new before after held same down does breaks =
    down-alone r s (line.Deliver place) (down_delivered place) old new before after held same down (λ setup shelf state. refl) (deliver-leaves place) (λ setup state beside. idle-same held) does breaks

-- **`resend`**

abbrev again : Plain → Message → State Alone → Outcome (State Alone)
again plain message now = telling now (Ignored (number_of plain message now.world.net) ServerDown)

again-state : (plain : Plain) (messages : List Message) (state : State Alone) → (for_each (again plain) messages state).state ≡ state
again-state plain [] state = refl
again-state plain (message ∷ messages) state = again-state plain messages state

again-lines : (plain : Plain) (messages : List Message) (state : State Alone) → printed (for_each (again plain) messages state).told ≡ ignored_all plain messages state.world.net
again-lines plain [] state = refl
again-lines plain (message ∷ messages) state =
    let first = again plain message state in
    printed-append (for_each (again plain) messages state).told first.told
    ∙ ap (λ (l : List (List ℕ)). ignored_line (number_of plain message state.world.net) ServerDown ∷ l) (again-lines plain messages state)

pub resend-leaves : (client : ℕ) → LeavesIt (down_resent client)
resend-leaves client setup state =
    let messages = resent client (state.world.agents client) in
    let same = sym (again-state (plain_of setup) messages state) in
    record {
      armed = λ seen told. subst (λ (s : State Alone). cold_kit.Armed s.peers seen) same told;
      tells = λ seen told. subst (λ (s : State Alone). cold_kit.Tells setup s seen) same told;
    }

resends-so : (client : ℕ) (old : Cluster Solo) (messages : List Message) (before after : List (List ℕ)) (setup : Setup) (state : State Alone) → IsGood cold_kit setup state → Shows cold_kit setup state old → messages ≡ resent client (state.world.agents client) → IgnoresAll messages old.net before after → Happened cold_kit setup (down_resent client setup state) old before after
resends-so client old messages before after setup state good shows is ignores =
    let plain = plain_of setup in
    let all = resent client (state.world.agents client) in
    let same = sym (again-state plain all state) in
    let lines = subst (λ (ms : List Message). after ≡ before ++ ignored_all plain ms state.world.net) is (ignores plain state.world.net (is_plain setup) shows.net) in (
      subst (λ (s : State Alone). Shows cold_kit setup s old) same shows,
      subst (λ (s : State Alone). IsGood cold_kit setup s) same good,
      lines ∙ ap (λ (l : List (List ℕ)). before ++ l) (sym (again-lines plain all state)),
    )

pub resends-down : (client at : ℕ) (old : Cluster Solo) (agent : Seen) (messages : List Message) (before after : List (List ℕ)) → StandsAt client at old.agents → agent ≡ get_or old.agents at agent → ((c places : ℕ) (a : Agent) → agent ≡ seen_of c places a → messages ≡ resent c a) → IgnoresAll messages old.net before after → Does cold_kit (down_resent client) old old before after
resends-down client at old agent messages before after found is are ignores setup state good shows =
    resends-so client old messages before after setup state good shows (resent-by cold_kit cold_laws client at old agent messages found is are setup state shows) ignores

pub resend-line : {T E : Type 0} (r : Result T E) (s : Result T DiskAnswer) (client : ℕ) (old new : Cluster Solo) (before after : List (List ℕ)) (held : ColdSeen) → EndsAs r s → AllDown old → OnOk r (Does cold_kit (down_resent client) old new before after) → OnErr r (BreaksAlone cold_kit old new) → PlaysDownLine s (line.Resend client) old new before after held held
resend-line r s client old new before after held same down does breaks =
    down-alone r s (line.Resend client) (down_resent client) old new before after held same down (λ setup shelf state. refl) (resend-leaves client) (λ setup state beside. idle-same held) does breaks

-- a client without an agent sends nothing
pub resends-none : (client : ℕ) (old : Cluster Solo) (before : List (List ℕ)) → IsAbsent client old.agents → Does cold_kit (down_resent client) old old before before
resends-none client old before none setup state good shows =
    let is : state.world.agents client ≡ fresh = (fresh-agent client old.agents state.world shows.agents none).1 in
    let H : Agent → Type 0 = λ agent. Happened cold_kit setup (for_each (again (plain_of setup)) (resent client agent) state) old before before in
    subst H (sym is) (shows, good, sym (append-nil before))

-- the loop over the messages
pub ignores-none : (net before : List (List ℕ)) → IgnoresAll [] net before before
ignores-none net before plain postings plainly spelled = sym (append-nil before)

ignored-more : (plain : Plain) (front : List Message) (message : Message) (postings : List Posting) → ignored_all plain (front ++ message ∷ []) postings ≡ ignored_all plain front postings ++ ignored_line (number_of plain message postings) ServerDown ∷ []
ignored-more plain [] message postings = refl
ignored-more plain (first ∷ front) message postings = ap (λ (l : List (List ℕ)). ignored_line (number_of plain first postings) ServerDown ∷ l) (ignored-more plain front message postings)

pub ignores-more : (messages front : List Message) (message : Message) (net before between after : List (List ℕ)) (place : ℕ) → messages ≡ front ++ message ∷ [] → IgnoresAll front net before between → IsNumberIn message net place → after ≡ between ++ ignored_line place ServerDown ∷ [] → IgnoresAll messages net before after
ignores-more messages front message net before between after place is so_far number lines plain postings plainly spelled =
    let one = number plain postings plainly spelled in
    let last : ignored_line place ServerDown ≡ ignored_line (number_of plain message postings) ServerDown = ap (λ n. ignored_line n ServerDown) one in
    lines
    ∙ ap (λ (l : List (List ℕ)). l ++ ignored_line place ServerDown ∷ []) (so_far plain postings plainly spelled)
    ∙ append_assoc before (ignored_all plain front postings) (ignored_line place ServerDown ∷ [])
    ∙ ap (λ (x : List ℕ). before ++ (ignored_all plain front postings ++ x ∷ [])) last
    ∙ ap (λ (l : List (List ℕ)). before ++ l) (sym (ignored-more plain front message postings))
    ∙ ap (λ (ms : List Message). before ++ ignored_all plain ms postings) (sym is)

-- **what is refused**

pub down-refused : {T E : Type 0} (r : Result T E) (s : Result T DiskAnswer) (next : Line) (old : Cluster Solo) (before after : List (List ℕ)) (held : ColdSeen) → shows_files next ≡ false → EndsAs r s → AllDown old → LeadsDown next (refused cold_kit next) → OnOk r (Does cold_kit (refused cold_kit next) old old before after) → OnErr r (BreaksAlone cold_kit old old) → PlaysDownLine s next old old before after held held
down-refused r s next old before after held unshown same down leads does breaks =
    down-alone r s next (refused cold_kit next) old old before after held same down leads (λ setup state. record { armed = λ seen told. told; tells = λ seen told. told })
    (λ setup state beside. refused-counts next setup state held unshown beside) does breaks

pub leads-refused : (next : Line) → IsDownLine next → ((place : ℕ) → next ≡ line.Deliver place → ⊥) → ((client : ℕ) → next ≡ line.Resend client → ⊥) → (next ≡ line.Files → ⊥) → ((name : List ℕ) → next ≡ line.Cat name → ⊥) → (next ≡ line.Disarm → ⊥) → LeadsDown next (refused cold_kit next)
leads-refused (line.Deliver place) is no_deliver no_resend no_files no_cat no_disarm = absurd (no_deliver place refl)
leads-refused (line.Resend client) is no_deliver no_resend no_files no_cat no_disarm = absurd (no_resend client refl)
leads-refused line.Files is no_deliver no_resend no_files no_cat no_disarm = absurd (no_files refl)
leads-refused (line.Cat name) is no_deliver no_resend no_files no_cat no_disarm = absurd (no_cat name refl)
leads-refused line.Disarm is no_deliver no_resend no_files no_cat no_disarm = absurd (no_disarm refl)
leads-refused line.Mirror is no_deliver no_resend no_files no_cat no_disarm = λ setup shelf state. refl
leads-refused line.Ack is no_deliver no_resend no_files no_cat no_disarm = λ setup shelf state. refl
leads-refused line.Work is no_deliver no_resend no_files no_cat no_disarm = λ setup shelf state. refl
leads-refused line.Push is no_deliver no_resend no_files no_cat no_disarm = λ setup shelf state. refl
leads-refused line.Settle is no_deliver no_resend no_files no_cat no_disarm = λ setup shelf state. refl
leads-refused (line.Crash server) is no_deliver no_resend no_files no_cat no_disarm = λ setup shelf state. refl
leads-refused (line.Arm server count) is no_deliver no_resend no_files no_cat no_disarm = λ setup shelf state. refl
leads-refused (line.Restart A) is no_deliver no_resend no_files no_cat no_disarm = absurd is
leads-refused (line.Restart B) is no_deliver no_resend no_files no_cat no_disarm = λ setup shelf state. refl
leads-refused (line.Restart C) is no_deliver no_resend no_files no_cat no_disarm = λ setup shelf state. refl
leads-refused _ is no_deliver no_resend no_files no_cat no_disarm = absurd is

-- **`disarm`**

pub disarm-down : {T : Type 0} (x : T) (old new : Cluster Solo) (lines : List (List ℕ)) (held left : ColdSeen) → AllDown old → DoesOn cold_kit cold_script line.Disarm disarmed_both old new lines lines held left → Outlives held left → PlaysDownLine {T = T} (Ok x) line.Disarm old new lines lines held left
disarm-down x old new lines held left down does outlives = record {
  ok = λ setup state good shows count.
      let done = does setup state good shows count in
      let shelf = told-shelf setup held.disk.files in
      record {
        shelf = shelf.0;
        shelf_is = shelf.1;
        outcome = disarmed_both setup state;
        leads = subst (λ (b : Bool). HappensBy b (plain_of setup) shelf.0 (calm_device setup) line.Disarm state (disarmed_both setup state)) (sym (down setup state good shows)) refl;
        uses = done.3;
        is = done.0;
        count = done.1;
        files = done.2;
      };
  stands = λ has.
      let done = does has.setup has.state has.good has.shows has.count in
      record { setup = has.setup; state = (disarmed_both has.setup has.state).state; good = done.0.1; shows = done.0.0; count = done.1; so = tt };
  broken = tt;
  counts = outlives;
}

-- **files are shown**

shown-down : (next : Line) (event : Setup → Shelf → State Alone → Outcome (State Alone)) (old : Cluster Solo) (before after : List (List ℕ)) (one two beside : DiskSeen) → AllDown old
    → ((setup : Setup) (shelf : Shelf) (state : State Alone) → HappensDown (plain_of setup) shelf (calm_device setup) next state (event setup shelf state))
    → ((setup : Setup) (shelf : Shelf) (state : State Alone) → LeavesAlone cold_kit cold_laws setup state (event setup shelf state))
    → ((setup : Setup) (now then : State Alone) → CountsLine next setup now then (record { disk = one; journal = beside }) (record { disk = two; journal = beside }))
    → IsRead one two → ShowsOn cold_kit event old before after one.files
    → PlaysDown next old old before after (record { disk = one; journal = beside }) (record { disk = two; journal = beside })
shown-down next event old before after one two beside down leads leaves counts read does setup state good shows count =
    let done = does setup state good shows in
    let left = leaves setup done.0 state in
    let held : ColdSeen = record { disk = one; journal = beside } in
    let last = (event setup done.0 state).state in
    record {
      shelf = done.0;
      shelf_is = done.1;
      outcome = event setup done.0 state;
      leads = subst (λ (b : Bool). HappensBy b (plain_of setup) done.0 (calm_device setup) next state (event setup done.0 state)) (sym (down setup state good shows)) (leads setup done.0 state);
      uses = record { never = λ number. refl; counts = λ besides. counts setup state last };
      is = done.2;
      count = cold_laws.read_armed last.peers one two beside read (left.armed held count);
      files = λ tells. cold_laws.read_left setup last one two beside read (left.tells held tells);
    }

pub files-down : {T : Type 0} (r : Result T DiskAnswer) (old : Cluster Solo) (before after : List (List ℕ)) (one two beside : DiskSeen) → AllDown old
    → OnOk r (ShowsOn cold_kit (files_listed cold_kit) old before after one.files) → (IsErrOf r Failed → after ≡ before) → two.files ≡ one.files → RoseExactlyOn one.faults two.faults r Failed → (IsErrOf r Stopped → ⊥) → two.stops ≡ one.stops → Looks (ListCalls one.files) (is_ok r) one.tally two.tally
    → PlaysDownLine r line.Files old old before after (record { disk = one; journal = beside }) (record { disk = two; journal = beside })
files-down {T} r old before after one two beside down shows stays same cause never stops looks =
    let read = looked-read one two (ListCalls one.files) (is_ok r) same stops looks in
    let told : is_ok r ≡ true → LooksBy line.Files one.files true one.tally two.tally = λ done. subst (λ (b : Bool). LooksBy line.Files one.files b one.tally two.tally) done looks in
    record {
      ok = (shown-ok cold_kit cold_laws) {P = PlaysDown line.Files old old before after (record { disk = one; journal = beside }) (record { disk = two; journal = beside })} r one two cause
          (λ done faults shown. shown-down line.Files (files_listed cold_kit) old before after one two beside down (λ setup shelf state. refl) (λ setup shelf state. record { armed = λ seen held. held; tells = λ seen held. held })
          (λ setup now then. record { looks = told done; disk = record { changing = read.changing; faults = faults; stops = read.stops }; journal = refl }) read shown) shows;
      stands = λ has. on-ok r ((read-stands cold_kit cold_laws) old one two beside read has);
      broken = (files-broken cold_kit cold_laws cold_script cold_follows) r line.Files old before after one two beside refl read cause stays never;
      counts = (shown-counts cold_kit cold_laws) r one two beside read cause never;
    }

pub cat-down : {T : Type 0} (r : Result T DiskAnswer) (name : List ℕ) (old : Cluster Solo) (before after : List (List ℕ)) (one two beside : DiskSeen) → AllDown old
    → OnOk r (ShowsOn cold_kit (file_shown cold_kit name) old before after one.files) → (IsErrOf r Failed → after ≡ before) → two.files ≡ one.files → RoseExactlyOn one.faults two.faults r Failed → (IsErrOf r Stopped → ⊥) → two.stops ≡ one.stops → Looks (FileCalls name one.files) (is_ok r) one.tally two.tally
    → PlaysDownLine r (line.Cat name) old old before after (record { disk = one; journal = beside }) (record { disk = two; journal = beside })
cat-down {T} r name old before after one two beside down shows stays same cause never stops looks =
    let read = looked-read one two (FileCalls name one.files) (is_ok r) same stops looks in
    let told : is_ok r ≡ true → LooksBy (line.Cat name) one.files true one.tally two.tally = λ done. subst (λ (b : Bool). LooksBy (line.Cat name) one.files b one.tally two.tally) done looks in
    record {
      ok = (shown-ok cold_kit cold_laws) {P = PlaysDown (line.Cat name) old old before after (record { disk = one; journal = beside }) (record { disk = two; journal = beside })} r one two cause
          (λ done faults shown. shown-down (line.Cat name) (file_shown cold_kit name) old before after one two beside down (λ setup shelf state. refl)
          (λ setup shelf state. let kept = (shows-keep cold_kit cold_laws) setup name shelf state in record { armed = kept.armed; tells = kept.tells })
          (λ setup now then. record { looks = told done; disk = record { changing = read.changing; faults = faults; stops = read.stops }; journal = refl }) read shown) shows;
      stands = λ has. on-ok r ((read-stands cold_kit cold_laws) old one two beside read has);
      broken = (cat-broken cold_kit cold_laws cold_script cold_follows) r (line.Cat name) name old before after one two beside refl read cause stays never;
      counts = (shown-counts cold_kit cold_laws) r one two beside read cause never;
    }
