-- Events that break off: what the world of the code is left as.
use Rattle.std.proofs.Common.{◌≡◌, ℕ, inl, inr, Option, Some, None, List, [], ◌∷◌, ◌++◌, refl, ap, sym, ◌∙◌, subst}
use Rattle.std.specs.List.{AllByRecursion}
use Rattle.disk_model.specs.Disk.{Files}
use Rattle.disk_model.specs.declared.answers.DiskAnswer.{DiskAnswer}
use Rattle.disk_model.specs.declared.answers.DiskAnswer.TheVariants.{Memory, Failed, Stopped}
use Rattle.disk_model.specs.DeviceCalls.{DeviceCall, all_applied, LeftOn, BreaksOff}
use Rattle.stream_layout.specs.Deeds.{calls_of_all}
use Rattle.plain_service.specs.Setups.{Setup}
use Rattle.plain_service.specs.Storing.{files_of, deeds_of}
use Rattle.service_laws.specs.PlainOf.{plain_of}
use Rattle.service_laws.specs.Disks.{service_disk}
use Rattle.service_laws.specs.StorageOf.{storage_of}
use Rattle.cluster_facts.specs.Types.{Call, Reply, Entry}
use Rattle.cluster_facts.specs.Lists.{Stands, EndsIn}
use Rattle.cluster_facts.specs.Messages.{sent_by, receipts_of, calls_in, messages_in}
use Rattle.cluster_facts.specs.Service.{Plain}
use Rattle.cluster_facts.specs.Storage.{Attempt, Between, dealt_in}
use Rattle.cluster_facts.specs.Storage.Attempts.{none as no_attempt, more as one_more}
use Rattle.cluster_facts.specs.Agents.{fed_of}
use Rattle.cluster_facts.specs.History.{Core, Hand, Empty, Waiting, Applied, Ready, committed, committed_by}
use Rattle.cluster_facts.specs.World.{World}
use Rattle.cluster_facts.specs.Facts.{IsSound}
use Rattle.cluster_events.specs.Lines.{Told}
use Rattle.cluster_events.specs.Outcomes.{Outcome, quietly}
use Rattle.cluster_events.specs.Servers.{State}
use Rattle.cluster_events.specs.Saying.{entries_told, deals_told, seconds, Says}
use Rattle.cluster_events.specs.Breaking.{Tells, IsFed, Holds}
use Rattle.cluster_events.proofs.Carrying.{EndsIn-both}
use Rattle.cluster_events.proofs.Telling.{Says-same}
use Rattle.cluster_events.proofs.Broken.{Says-tells, Sound-holds, Tells-both}
use Rattle.client_agent.specs.Seen.{Seen}
use Rattle.cluster_rounds.specs.declared.cluster.Cluster.{Cluster}
use Rattle.cluster_clients.specs.Clients.{ShowsAgents}
use Rattle.cluster_clients.specs.PartlyDone.{PartlyShows}
use Rattle.cluster_clients.specs.Spelled.{AreSpelled}
use Rattle.cluster_clients.proofs.DispatchSteps.{agents-as}
use Rattle.cluster_rounds.specs.Broken.{Broken, IsFedOf, LeavesBetween}
use Rattle.cluster_rounds.specs.Kits.{IsKit, Kit}
use Rattle.cluster_rounds.specs.PartlyDone.{SaysUnasked}
use Rattle.cluster_rounds.specs.Timely.{IsTimely}
use Rattle.cluster_rounds.specs.Worlds.{IsGood, Shows, TellsFiles}
use Rattle.cluster_rounds.proofs.TakenSteps.{IsMoved}
use Rattle.cluster_rounds.proofs.UnaskedSteps.{deals-both, grown-none, timely-both, unasked-same}

-- what is committed ends in what is answered
pub committed-ends : (past : List Entry) (hand : Hand) → EndsIn (committed_by past hand) past
committed-ends past Empty = ([], refl)
committed-ends past (Waiting entry) = ([], refl)
committed-ends past (Applied entry) = (entry ∷ [], refl)
committed-ends past (Ready entry) = (entry ∷ [], refl)

module _ {Peers Group : Type 0} (kit : Kit Peers Group) (laws : IsKit kit) where
  -- The history of the code ends in what was answered, also where an event broke off.

  pub shown-ends : (setup : Setup) (state : State Peers) (world : Cluster Group) → (Shows kit) setup state world → EndsIn world.history.entries state.world.core.answered
  shown-ends setup state world shows =
      let past = state.world.core.answered in
      subst (λ (entries : List Entry). EndsIn entries past) (sym shows.history) (committed-ends past state.world.core.hand)

  pub broken-ends : (setup : Setup) (state : State Peers) (held left : kit.Seen) (world : Cluster Group) → (Broken kit) setup state held left world → EndsIn world.history.entries state.world.core.answered
  broken-ends setup state held left world broken =
      let past = state.world.core.answered in
      let before = committed state.world.core in
      let grown = broken.tells.entries.grown in
      let both = EndsIn-both past before (committed broken.rest.core) (committed-ends past state.world.core.hand) (seconds (entries_told broken.unseen), grown) in
      subst (λ (entries : List Entry). EndsIn entries past) (sym broken.history) both

  -- the servers of the code are armed as the disks' counts are
  pub armed-shown : (setup : Setup) (state : State Peers) (seen : kit.Seen) (world : Cluster Group) → (Shows kit) setup state world → kit.Armed state.peers seen → kit.ArmedAs world.servers seen
  armed-shown setup state seen world shows armed =
      laws.armed_as setup state.world.core.answered state.world.core.hand state.peers world.servers seen shows.own armed

  -- What the disks hold, between.

  -- that of a whole state is
  pub left-between : (setup : Setup) (state : State Peers) (held left : kit.Seen) → (IsGood kit) setup state → kit.Leaves setup state held left → kit.Between setup (committed state.world.core) held left
  left-between setup state held left good leaves = laws.left_between setup state held left good.begins good.steady good.range leaves

  pub same-between : (setup : Setup) (state : State Peers) (held : kit.Seen) → (IsGood kit) setup state → kit.Tells setup state held → kit.Between setup (committed state.world.core) held held
  same-between setup state held good tells = left-between setup state held held good (laws.left_same setup state held tells)

  -- an attempt that broke off after some calls
  attempt-after : (done rest : List DeviceCall) (old new : Files) → Attempt service_disk rest (all_applied done old) new → Attempt service_disk (done ++ rest) old new
  attempt-after [] rest old new attempt = attempt
  attempt-after (call ∷ done) rest old new attempt =
      inr (inr (attempt-after done rest (Rattle.disk_model.specs.DeviceCalls.applied call old) new attempt))

  attempted-between : (setup : Setup) (past : List Entry) (entry : Entry) (old new : Files) → old ≡ files_of setup past → Attempt service_disk (calls_of_all (deeds_of setup past entry)) old new → Between service_disk (storage_of setup) (entry ∷ past) new
  attempted-between setup past entry old new is attempt =
      one_more no_attempt (subst (λ (f : Files). Attempt service_disk (calls_of_all (deeds_of setup past entry)) f new) is attempt)

  -- a call that gave an answer, and was not done
  undone : (answer : DiskAnswer) (call : DeviceCall) (calls : List DeviceCall) (old new : Files) → LeftOn answer call old new → Attempt service_disk (call ∷ calls) old new
  undone Memory call calls old new same = inl same
  undone Failed call calls old new left = inr (inl (inl left))
  undone Stopped call calls old new left = inr (inl (inr left))

  -- the deeds of an entry broke off
  pub broken-between : (setup : Setup) (state : State Peers) (entry : Entry) (answer : DiskAnswer) (count : ℕ) (held left : Option Files) → BreaksOff (LeftOn answer) (calls_of_all (deeds_of setup state.world.core.answered entry)) count held left → TellsFiles setup state held → LeavesBetween setup (entry ∷ state.world.core.answered) held left
  broken-between setup state entry answer count None None broke tells = refl
  broken-between setup state entry answer count None (Some left) broke tells = absurd broke.left
  broken-between setup state entry answer count (Some held) None broke tells = absurd broke.left
  broken-between setup state entry answer count (Some held) (Some left) broke tells =
      let past = state.world.core.answered in
      let rest = broke.broken ∷ broke.undone in
      let A : List DeviceCall → Type 0 = λ calls. Attempt service_disk calls held left in
      let last = undone answer broke.broken broke.undone (all_applied broke.done held) left broke.left in
      (left, refl, attempted-between setup past entry held left tells (subst A (sym broke.in_order) (attempt-after broke.done rest held left last)))

  -- Events that broke off.

  -- in a sound world each client was fed items of subscriptions that it asked for
  pub sound-fed : (plain : Plain) (world : World) → IsSound plain world → (client : ℕ) → IsFedOf plain world.core.answered (sent_by client (messages_in world.net)) client (fed_of (world.agents client))
  sound-fed plain world sound client = record {
    marks = receipts_of client (messages_in world.net);
    counted = (sound.facts.clients client).follows.counted;
    items = sound.facts.told client;
  }

  -- so after an event in which nobody asked
  pub unasked-fed : (plain : Plain) (old new : World) → IsSound plain new → ((client : ℕ) → sent_by client (messages_in new.net) ≡ sent_by client (messages_in old.net)) → (client : ℕ) → IsFedOf plain new.core.answered (sent_by client (messages_in old.net)) client (fed_of (new.agents client))
  unasked-fed plain old new sound same client =
      let F : List (ℕ × Call) → Type 0 = λ sent. IsFedOf plain new.core.answered sent client (fed_of (new.agents client)) in
      subst F (same client) (sound-fed plain new sound client)

  -- some whole events happened, and what was to come did not
  pub whole-broken : (setup : Setup) (old new : State Peers) (told : List Told) (held left : kit.Seen) (world : Cluster Group) → IsSound (plain_of setup) new.world → SaysUnasked (plain_of setup) old.world new.world told → AreSpelled new.world.net world.net → ShowsAgents new.world world.agents → world.history.entries ≡ committed new.world.core → world.now ≡ new.world.now → (kit.Armed old.peers held → kit.ArmedAs world.servers left) → (kit.Tells setup old held → kit.Between setup (committed new.world.core) held left) → (Broken kit) setup old held left world
  whole-broken setup old new told held left world sound says net agents history now armed files = record {
    rest = new.world;
    unseen = told;
    tells = Says-tells (plain_of setup) old.world new.world told says.says;
    holds = Sound-holds (plain_of setup) new.world sound;
    deals = says.says.deals;
    asked = λ client. subst (λ (sent : List (ℕ × Call)). EndsIn sent (calls_in client (committed new.world.core))) (says.asks.sent client) ((Sound-holds (plain_of setup) new.world sound).calls client);
    fed = unasked-fed (plain_of setup) old.world new.world sound says.asks.sent;
    times = says.asks.times;
    stays = says.asks.now;
    net = net;
    agents = agents;
    history = history;
    now = now;
    armed = armed;
    files = files;
  }

  -- nothing happened yet
  pub nothing-broken : (setup : Setup) (state : State Peers) (held : kit.Seen) (world : Cluster Group) → (IsGood kit) setup state → AreSpelled state.world.net world.net → ShowsAgents state.world world.agents → world.history.entries ≡ committed state.world.core → world.now ≡ state.world.now → (kit.Armed state.peers held → kit.ArmedAs world.servers held) → (Broken kit) setup state held held world
  nothing-broken setup state held world good net agents history now armed =
      whole-broken setup state state [] held held world good.steady.sound (unasked-same (plain_of setup) state.world) net agents history now armed (same-between setup state held good)

  pub shown-broken : (setup : Setup) (state : State Peers) (held : kit.Seen) (world : Cluster Group) → (IsGood kit) setup state → (Shows kit) setup state world → (Broken kit) setup state held held world
  shown-broken setup state held world good shows =
      nothing-broken setup state held world good shows.net shows.agents shows.history shows.now (armed-shown setup state held world shows)

  -- one event happened, and the next broke off
  pub files-after : (setup : Setup) (state middle : State Peers) (past : List Entry) (held told left : kit.Seen) → (kit.Tells setup state held → kit.Leaves setup middle held told) → (kit.Tells setup middle told → kit.Between setup past told left) → kit.Tells setup state held → kit.Between setup past held left
  files-after setup state middle past held told left first next tells =
      let leaves = first tells in
      laws.between_behind setup middle past held told left leaves (next (laws.left_told setup middle held told leaves))

  pub happened-broken : (setup : Setup) (state middle : State Peers) (told : List Told) (held between left : kit.Seen) (world : Cluster Group) → SaysUnasked (plain_of setup) state.world middle.world told → (kit.Armed state.peers held → kit.Armed middle.peers between) → (kit.Tells setup state held → kit.Leaves setup middle held between) → (Broken kit) setup middle between left world → (Broken kit) setup state held left world
  happened-broken setup state middle told held between left world says kept files broken = record {
    rest = broken.rest;
    unseen = broken.unseen ++ told;
    tells = Tells-both (plain_of setup) state.world middle.world broken.rest told broken.unseen (Says-tells (plain_of setup) state.world middle.world told says.says) broken.tells;
    holds = broken.holds;
    deals = λ client. deals-both (plain_of setup) client middle.world.core.answered broken.rest.core.answered told broken.unseen broken.tells.answers (says.says.deals client) (broken.deals client);
    asked = λ client. subst (λ (sent : List (ℕ × Call)). EndsIn sent (calls_in client (committed broken.rest.core))) (says.asks.sent client) (broken.asked client);
    fed = λ client. subst (λ (sent : List (ℕ × Call)). IsFedOf (plain_of setup) broken.rest.core.answered sent client (fed_of (broken.rest.agents client))) (says.asks.sent client) (broken.fed client);
    times = timely-both state.world middle.world told broken.unseen says.asks.now says.asks.waits says.asks.times broken.times;
    stays = broken.stays ∙ says.asks.now;
    net = broken.net;
    agents = broken.agents;
    history = broken.history;
    now = broken.now;
    armed = λ armed. broken.armed (kept armed);
    files = files-after setup state middle (committed broken.rest.core) held between left files broken.files;
  }

  -- Events of net and agents alone.

  -- what the event is
  pub record IsOfWorld (setup : Setup) (old : World) (outcome : Outcome World) : Type 0 where
    pub sound : IsSound (plain_of setup) outcome.state
    pub says : Says (plain_of setup) old outcome.state outcome.told
    pub same : IsMoved old outcome.state
    pub fed : (client : ℕ) → IsFedOf (plain_of setup) outcome.state.core.answered (sent_by client (messages_in old.net)) client (fed_of (outcome.state.agents client))

  -- a world with the net of one and the agents of another
  abbrev pub mixed : World → World → World → World
  mixed old of_net of_agents = record old { net = of_net.net; agents = of_agents.agents; clients = of_agents.clients }

  nothing-is : (setup : Setup) (world : World) → IsSound (plain_of setup) world → IsOfWorld setup world (quietly world)
  nothing-is setup world sound = record {
    sound = sound;
    says = Says-same (plain_of setup) world;
    same = record { core = refl; now = refl; places = refl };
    fed = sound-fed (plain_of setup) world sound;
  }

  -- what the lines of such an event tell of history and agents, whatever the net is
  mixed-tells : (setup : Setup) (old of_net : World) (of_agents : Outcome World) → IsOfWorld setup old of_agents → Tells (plain_of setup) old (mixed old of_net of_agents.state) of_agents.told
  mixed-tells setup old of_net of_agents is =
      let rest = mixed old of_net of_agents.state in
      let T : Core → Type 0 = λ core. Tells (plain_of setup) old (record rest { core = core }) of_agents.told in
      let says = is.says in
      subst T is.same.core (record { entries = says.entries; answers = says.answers; replies = says.replies; callbacks = says.callbacks; marks = says.marks; called = says.called })

  mixed-holds : (setup : Setup) (old : World) (of_net of_agents : Outcome World) → IsSound (plain_of setup) old → IsOfWorld setup old of_net → IsOfWorld setup old of_agents → Holds (plain_of setup) (mixed old of_net.state of_agents.state)
  mixed-holds setup old of_net of_agents sound net_is agents_are =
      let plain = plain_of setup in
      let C : ℕ → Core → Type 0 = λ client core. EndsIn (sent_by client (messages_in of_net.state.net)) (calls_in client (committed core)) in
      let F : ℕ → Core → Type 0 = λ client core. IsFed plain core.answered client (fed_of (of_agents.state.agents client)) in
      record {
        legal = (Sound-holds plain old sound).legal;
        calls = λ client. subst (C client) net_is.same.core ((Sound-holds plain of_net.state net_is.sound).calls client);
        fed = λ client. subst (F client) agents_are.same.core ((Sound-holds plain of_agents.state agents_are.sound).fed client);
      }

  event-by : (setup : Setup) (state : State Peers) (of_net of_agents : Outcome World) (old : Cluster Group) (net : List (List ℕ)) (agents : List Seen) (held : kit.Seen) → (IsGood kit) setup state → (Shows kit) setup state old → IsOfWorld setup state.world of_net → IsOfWorld setup state.world of_agents → AreSpelled of_net.state.net net → ShowsAgents of_agents.state agents → (Broken kit) setup state held held (record old { net = net; agents = agents })
  event-by setup state of_net of_agents old net agents held good shows net_is agents_are spelled seen =
      let plain = plain_of setup in
      let world = state.world in
      let rest = mixed world of_net.state of_agents.state in
      let D : ℕ → Core → Type 0 = λ client core. AllByRecursion (λ (deal : ℕ × Call × Reply). Stands deal (dealt_in plain client core.answered)) (deals_told client of_agents.told) in
      let F : ℕ → Core → Type 0 = λ client core. IsFedOf plain core.answered (sent_by client (messages_in world.net)) client (fed_of (of_agents.state.agents client)) in
      let none : entries_told of_agents.told ≡ [] = grown-none (committed world.core) (entries_told of_agents.told) (sym (ap committed agents_are.same.core) ∙ agents_are.says.entries.grown) in
      record {
        rest = rest;
        unseen = of_agents.told;
        tells = mixed-tells setup world of_net.state of_agents agents_are;
        holds = mixed-holds setup world of_net of_agents good.steady.sound net_is agents_are;
        deals = λ client. subst (D client) agents_are.same.core (agents_are.says.deals client);
        asked = (Sound-holds plain world good.steady.sound).calls;
        fed = λ client. subst (F client) agents_are.same.core (agents_are.fed client);
        times = subst (λ (lines : List (ℕ × Entry)). AllByRecursion (λ (line : ℕ × Entry). IsTimely world line.1) lines) (sym none) tt;
        stays = refl;
        net = spelled;
        agents = agents-as of_agents.state rest agents (sym agents_are.same.places) refl refl seen;
        history = shows.history;
        now = shows.now;
        armed = armed-shown setup state held old shows;
        files = same-between setup state held good;
      }

  pub event-broken : (setup : Setup) (state : State Peers) (outcome : Outcome World) (old : Cluster Group) (net : List (List ℕ)) (agents : List Seen) (held : kit.Seen) → (IsGood kit) setup state → (Shows kit) setup state old → IsOfWorld setup state.world outcome → PartlyShows state.world outcome.state net agents → (Broken kit) setup state held held (record old { net = net; agents = agents })
  event-broken setup state outcome old net agents held good shows event partly =
      let before = quietly state.world in
      let nothing = nothing-is setup state.world good.steady.sound in
      elim partly.net_is [
        | inl net_old ↦ elim partly.agents_are [
          | inl agents_old ↦ event-by setup state before before old net agents held good shows nothing nothing net_old agents_old
          | inr agents_new ↦ event-by setup state before outcome old net agents held good shows nothing event net_old agents_new
        ]
        | inr net_new ↦ elim partly.agents_are [
          | inl agents_old ↦ event-by setup state outcome before old net agents held good shows event nothing net_new agents_old
          | inr agents_new ↦ event-by setup state outcome outcome old net agents held good shows event event net_new agents_new
        ]
      ]
