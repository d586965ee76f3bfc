-- That an entry joined the journal comes back: what the server comes to, at a state.
use Rattle.std.proofs.Common.{◌≡◌, ℕ, suc, Bool, true, nat_lt, Option, None, List, [], ◌∷◌, length, refl, ap, sym, subst, ◌∙◌, append-nil, le_refl}
use Rattle.script_lines.specs.declared.line.Server.TheVariants.{A}
use Rattle.wire.specs.declared.message.Message.{Message}
use Rattle.wire.specs.declared.message.Message.TheVariants as wire
use Rattle.plain_service.specs.Setups.{Setup}
use Rattle.service_laws.specs.PlainOf.{plain_of}
use Rattle.service_laws.proofs.ServiceLaws.{is_plain}
use Rattle.cluster_facts.specs.Types.{Entry}
use Rattle.cluster_facts.specs.History.{Hand, Empty, Waiting, Applied, Ready}
use Rattle.cluster_facts.specs.World.{World}
use Rattle.cluster_events.specs.Cores.{with_core}
use Rattle.cluster_events.specs.Events.{ack_next}
use Rattle.cluster_events.specs.Outcomes.{Outcome}
use Rattle.cluster_events.specs.Servers.{State}
use Rattle.mirror.specs.declared.heard.Role.{Role}
use Rattle.mirror.specs.declared.heard.Role.TheVariants.{Active}
use Rattle.mirror.specs.declared.state.NodeState.{NodeState as Node}
use Rattle.mirror.specs.Pairing.{IsReceived}
use Rattle.lead_server.specs.Heard.{IsConfirmed}
use Rattle.cluster_clients.proofs.ToldLines.{not-less}
use Rattle.group_cluster.specs.Seats.{Clear, Took}
use Rattle.cluster_clients.proofs.DispatchSteps.{agents-as}
use Rattle.cluster_rounds.specs.declared.cluster.Cluster.{Cluster}
use Rattle.cluster_rounds.specs.Came.{Came}
use Rattle.cluster_rounds.specs.Kits.{calm_servers, device_by}
use Rattle.cluster_rounds.specs.Rounds.{advances_by}
use Rattle.cluster_rounds.specs.Worlds.{Event, Happened, IsGood, Shows}
use Rattle.cold_cluster.specs.Cold.{Alone, IsCold, seats_with}
use Rattle.lone_server.specs.declared.lone.Lone.{Lone}
use Rattle.cold_servers.specs.declared.solo.Solo.{Solo}
use Rattle.cold_servers.specs.ColdKit.{cold_kit}
use Rattle.cold_servers.specs.ColdLaws.{cold_laws}
use Rattle.cold_servers.specs.ColdNodes.{OwnBy, back_by, up_by}
use Rattle.cold_servers.specs.ColdCounts.{Done}
use Rattle.cold_servers.specs.ColdSeen.{ColdSeen, TellsBoth}
use Rattle.cold_servers.specs.CountLaws.{done-none}
use Rattle.lone_server.specs.Working.{HearsOne}
use Rattle.cold_servers.proofs.MarkSteps.{mark_by, seats-are}
use Rattle.cold_servers.proofs.StandingSteps.{active-role}

abbrev pub applied_at : World → Entry → Bool → Option ℕ → Option ℕ → State Alone
applied_at world entry keeps armed beside = record {
  world = with_core world.core.answered (Applied entry) world;
  peers = record { mirrored = record { acting = A; seats = seats_with Took keeps; armed = None }; up = true; armed = armed; beside = beside };
}

abbrev pub ready_at : World → Entry → Bool → Option ℕ → Option ℕ → State Alone
ready_at world entry keeps armed beside = record {
  world = with_core world.core.answered (Ready entry) world;
  peers = record { mirrored = record { acting = A; seats = seats_with Clear keeps; armed = None }; up = true; armed = armed; beside = beside };
}

pub is-applied : (state : State Alone) (entry : Entry) → (cold : IsCold state) → state.peers.up ≡ true → state.world.core.hand ≡ Applied entry → applied_at state.world entry cold.1.keeps state.peers.armed state.peers.beside ≡ state
is-applied state entry cold up applied =
    let beside = cold.1 in
    let seats = ap (λ (hand : Hand). seats_with (mark_by hand) beside.keeps) (sym applied) ∙ seats-are state cold in
    λ i. record {
      world = record state.world { core = record { answered = state.world.core.answered; hand = sym applied i } };
      peers = record {
        mirrored = record { acting = sym beside.acting i; seats = seats i; armed = sym beside.unarmed i };
        up = sym up i;
        armed = state.peers.armed;
        beside = state.peers.beside;
      };
    }

abbrev pub acked_by : Event cold_kit
acked_by setup state = ack_next (calm_servers cold_kit setup) state

abbrev acked : World → Entry → Bool → Option ℕ → Option ℕ → Outcome (State Alone)
acked world entry keeps armed beside = record { state = ready_at world entry keeps armed beside; told = [] }

-- What is on the way back tells of the entry that joined.

pub record ComesBack (past : List Entry) (hand : Hand) (message : Message) (rest : List Message) : Type 0 where
  pub entry : Entry
  pub hand_is : hand ≡ Applied entry
  pub message_is : message ≡ wire.MirrorAck (suc (length past))
  pub rest_is : rest ≡ []

pub comes-back : (past : List Entry) (hand : Hand) (message : Message) (rest : List Message) → back_by past hand ≡ message ∷ rest → ComesBack past hand message rest
comes-back past (Applied entry) message rest is = record { entry = entry; hand_is = refl; message_is = cc; rest_is = cc }
comes-back past Empty message rest is = cc
comes-back past (Waiting entry) message rest is = cc
comes-back past (Ready entry) message rest is = cc

-- the entry waits no more
confirms : (number : ℕ) (old new : Node) → old.replica.role ≡ Active → IsConfirmed (wire.MirrorAck number) old new → new ≡ record old { waits = None }
confirms number old new role confirmed =
    let received : IsReceived Active (wire.MirrorAck number) confirmed.moment old confirmed.heard new = subst (λ (r : Role). IsReceived r (wire.MirrorAck number) confirmed.moment old confirmed.heard new) role confirmed.received in
    received.1

acks-at : (setup : Setup) (world : World) (entry : Entry) (keeps : Bool) (armed beside : Option ℕ) (old : Cluster Solo) (servers : Lone) (lines : List (List ℕ)) → IsGood cold_kit setup (applied_at world entry keeps armed beside) → Shows cold_kit setup (applied_at world entry keeps armed beside) old → HearsOne old.servers.lone servers → Happened cold_kit setup (acked_by setup (applied_at world entry keeps armed beside)) (record old { servers = record { lone = servers } }) lines lines
acks-at setup world entry keeps armed beside old servers lines good shows hears =
    let past = world.core.answered in
    let state = applied_at world entry keeps armed beside in
    let outcome = acked world entry keeps armed beside in
    let stepped = (cold_laws.stepped (plain_of setup) (device_by setup (λ number. 0)) (is_plain setup)).ack.steps state outcome refl good.steady in
    let back : wire.MirrorAck (suc (length past)) ∷ [] ≡ hears.message ∷ hears.rest = sym (ap (λ (s : Lone). s.back) shows.own) ∙ hears.first in
    let is : hears.message ≡ wire.MirrorAck (suc (length past)) = cc in
    let none : hears.rest ≡ [] = cc in
    let role : old.servers.lone.node.replica.role ≡ Active = ap (λ (s : Lone). s.node.replica.role) shows.own ∙ active-role setup past (Applied entry) in
    let node = confirms (suc (length past)) old.servers.lone.node servers.node role (subst (λ (m : Message). IsConfirmed m old.servers.lone.node servers.node) is hears.confirmed) in
    let whole : servers ≡ up_by setup past (Ready entry) outcome.state.peers = λ i. record {
      node = (node ∙ ap (λ (s : Lone). record s.node { waits = None }) shows.own) i;
      journal = (hears.journal ∙ ap (λ (s : Lone). s.journal) shows.own) i;
      link = (hears.link ∙ ap (λ (s : Lone). s.link) shows.own) i;
      back = (hears.back ∙ none) i;
      armed = (hears.armed ∙ ap (λ (s : Lone). s.armed) shows.own) i;
    }
    in (
      record { own = whole; net = shows.net; agents = agents-as (applied_at world entry keeps armed beside).world outcome.state.world old.agents refl refl refl shows.agents; history = shows.history; now = shows.now; callbacks = shows.callbacks },
      record { begins = good.begins; steady = stepped.0; range = good.range; moment = good.moment },
      sym (append-nil lines),
    )

-- **the server hears that the entry in hand joined the journal**
pub acks-happen : (setup : Setup) (state : State Alone) (old : Cluster Solo) (servers : Lone) (lines : List (List ℕ)) → IsGood cold_kit setup state → Shows cold_kit setup state old → state.peers.up ≡ true → HearsOne old.servers.lone servers → Happened cold_kit setup (acked_by setup state) (record old { servers = record { lone = servers } }) lines lines
acks-happen setup state old servers lines good shows up hears =
    let core = state.world.core in
    let own = subst (λ (b : Bool). OwnBy b setup core.answered core.hand state.peers old.servers.lone) up shows.own in
    let back = comes-back core.answered core.hand hears.message hears.rest (sym (ap (λ (s : Lone). s.back) own) ∙ hears.first) in
    let cold = good.steady.good in
    let same = is-applied state back.entry cold up back.hand_is in
    subst (λ (s : State Alone). Happened cold_kit setup (acked_by setup s) (record old { servers = record { lone = servers } }) lines lines) same
    (acks-at setup state.world back.entry cold.1.keeps state.peers.armed state.peers.beside old servers lines
    (subst (λ (s : State Alone). IsGood cold_kit setup s) (sym same) good) (subst (λ (s : State Alone). Shows cold_kit setup s old) (sym same) shows) hears)

-- The same as a step of a drain.

step-acks : (setup : Setup) (fails : ℕ → ℕ) (world : World) (entry : Entry) (keeps : Bool) (armed beside : Option ℕ) → advances_by cold_kit 1 setup fails (applied_at world entry keeps armed beside) ≡ acked world entry keeps armed beside
step-acks setup fails world entry keeps armed beside = refl

acks-tell : (setup : Setup) (world : World) (entry : Entry) (keeps : Bool) (armed beside : Option ℕ) (held : ColdSeen) → TellsBoth setup (applied_at world entry keeps armed beside) held → TellsBoth setup (ready_at world entry keeps armed beside) held
acks-tell setup world entry keeps armed beside held tells = record {
  beside = record { acting = refl; mark = Clear; keeps = keeps; seats = refl; unarmed = refl };
  disk = tells.disk;
  journal = tells.journal;
}

-- both disks are as they were
acks-leave : (setup : Setup) (world : World) (entry : Entry) (keeps : Bool) (armed beside : Option ℕ) (held : ColdSeen) → cold_kit.Armed (applied_at world entry keeps armed beside).peers held
    → cold_kit.Armed (acked_by setup (applied_at world entry keeps armed beside)).state.peers held × (cold_kit.Tells setup (applied_at world entry keeps armed beside) held → cold_kit.Leaves setup (acked_by setup (applied_at world entry keeps armed beside)).state held held)
acks-leave setup world entry keeps armed beside held count = (
  record { disk = count.disk; journal = count.journal; left = count.left },
  λ tells. cold_laws.left_same setup (ready_at world entry keeps armed beside) held (acks-tell setup world entry keeps armed beside held tells),
)

pub acks-left : (setup : Setup) (state : State Alone) (old : Cluster Solo) (servers : Lone) (held : ColdSeen) → IsGood cold_kit setup state → Shows cold_kit setup state old → cold_kit.Armed state.peers held → state.peers.up ≡ true → HearsOne old.servers.lone servers
    → cold_kit.Armed (acked_by setup state).state.peers held × (cold_kit.Tells setup state held → cold_kit.Leaves setup (acked_by setup state).state held held)
acks-left setup state old servers held good shows count up hears =
    let core = state.world.core in
    let own = subst (λ (b : Bool). OwnBy b setup core.answered core.hand state.peers old.servers.lone) up shows.own in
    let back = comes-back core.answered core.hand hears.message hears.rest (sym (ap (λ (s : Lone). s.back) own) ∙ hears.first) in
    let cold = good.steady.good in
    let same = is-applied state back.entry cold up back.hand_is in
    subst (λ (s : State Alone). cold_kit.Armed (acked_by setup s).state.peers held × (cold_kit.Tells setup s held → cold_kit.Leaves setup (acked_by setup s).state held held)) same
    (acks-leave setup state.world back.entry cold.1.keeps state.peers.armed state.peers.beside held (subst (λ (s : State Alone). cold_kit.Armed s.peers held) (sym same) count))

-- nothing is asked of the disks
pub acked-done : (setup : Setup) (world : World) (entry : Entry) (keeps : Bool) (armed beside : Option ℕ) (held : ColdSeen) → Done setup (applied_at world entry keeps armed beside) (ready_at world entry keeps armed beside) held held
acked-done setup world entry keeps armed beside held =
    done-none setup (applied_at world entry keeps armed beside) (ready_at world entry keeps armed beside) held refl refl refl
    (record { acting = refl; mark = Clear; keeps = keeps; seats = refl; unarmed = refl })

acks-came : (setup : Setup) (world : World) (entry : Entry) (keeps : Bool) (armed beside : Option ℕ) (old : Cluster Solo) (servers : Lone) (lines : List (List ℕ)) (held : ColdSeen) → IsGood cold_kit setup (applied_at world entry keeps armed beside) → Shows cold_kit setup (applied_at world entry keeps armed beside) old → cold_kit.Armed (applied_at world entry keeps armed beside).peers held → HearsOne old.servers.lone servers
    → Came cold_kit setup (applied_at world entry keeps armed beside) (advances_by cold_kit 1 setup) (record old { servers = record { lone = servers } }) lines lines (nat_lt (length old.history.entries) (length old.history.entries)) held held
acks-came setup world entry keeps armed beside old servers lines held good shows count hears =
    let outcome = acked world entry keeps armed beside in
    let done = acks-at setup world entry keeps armed beside old servers lines good shows hears in
    record {
      happened = λ number. 0;
      outcome = outcome;
      comes = record { later = le_refl (length world.core.answered); is = λ fails agrees. step-acks setup fails world entry keeps armed beside };
      uses = record { never = λ number. refl; done = λ besides. acked-done setup world entry keeps armed beside held };
      played = record {
        shows = done.0;
        good = done.1;
        lines = done.2;
        loudness = not-less (length old.history.entries);
        files = λ tells. cold_laws.left_same setup outcome.state held (acks-tell setup world entry keeps armed beside held tells);
      };
      count = record { disk = count.disk; journal = count.journal; left = count.left };
    }

pub acks-advance : (setup : Setup) (state : State Alone) (old : Cluster Solo) (servers : Lone) (lines : List (List ℕ)) (held : ColdSeen) → IsGood cold_kit setup state → Shows cold_kit setup state old → cold_kit.Armed state.peers held → state.peers.up ≡ true → HearsOne old.servers.lone servers
    → Came cold_kit setup state (advances_by cold_kit 1 setup) (record old { servers = record { lone = servers } }) lines lines (nat_lt (length old.history.entries) (length old.history.entries)) held held
acks-advance setup state old servers lines held good shows count up hears =
    let core = state.world.core in
    let own = subst (λ (b : Bool). OwnBy b setup core.answered core.hand state.peers old.servers.lone) up shows.own in
    let back = comes-back core.answered core.hand hears.message hears.rest (sym (ap (λ (s : Lone). s.back) own) ∙ hears.first) in
    let cold = good.steady.good in
    let same = is-applied state back.entry cold up back.hand_is in
    let loud = nat_lt (length old.history.entries) (length old.history.entries) in
    subst (λ (s : State Alone). Came cold_kit setup s (advances_by cold_kit 1 setup) (record old { servers = record { lone = servers } }) lines lines loud held held) same
    (acks-came setup state.world back.entry cold.1.keeps state.peers.armed state.peers.beside old servers lines held
    (subst (λ (s : State Alone). IsGood cold_kit setup s) (sym same) good) (subst (λ (s : State Alone). Shows cold_kit setup s old) (sym same) shows)
    (subst (λ (s : State Alone). cold_kit.Armed s.peers held) (sym same) count) hears)
