-- What a message that the active server hears comes to.
use Rattle.std.proofs.Common.{◌≡◌, ℕ, suc, ◌<◌, Bool, true, false, ℤ, if◌then◌else◌, Option, Some, None, List, [], ◌∷◌, ◌++◌, length, refl, ap, sym, ◌∙◌, subst, append-nil}
use Rattle.calls.specs.History.{Pushed}
use Rattle.wire.specs.MessageSpelling.{MessageInRange}
use Rattle.plain_service.specs.Setups.{Setup}
use Rattle.service_laws.specs.PlainOf.{plain_of}
use Rattle.service_laws.proofs.ServiceLaws.{is_plain}
use Rattle.cluster_facts.specs.Types.{Call, Reply, Entry, Called, Receipted, Message, Request, Answer, Receipt}
use Rattle.cluster_facts.specs.Lists.{Stands}
use Rattle.cluster_facts.specs.Messages.{messages_in}
use Rattle.cluster_facts.specs.Service.{is_new}
use Rattle.cluster_facts.specs.History.{Hand, Empty, Waiting, Applied, Ready, Judged, New, Repeat, Old, Ahead, judged_call}
use Rattle.cluster_facts.specs.Ranges.{CanCome}
use Rattle.cluster_events.specs.Lines.{Told, Ignored}
use Rattle.cluster_events.specs.declared.lines.Why.TheVariants.{OldRequest, AheadRequest, Busy, DoneReceipt}
use Rattle.cluster_events.specs.Outcomes.{Outcome}
use Rattle.cluster_events.specs.Servers.{State, in_world}
use Rattle.cluster_events.specs.ClientEvents.{post}
use Rattle.cluster_events.specs.Events.{post_again, request_as, receipt_as, hear_at_rest, hear_by}
use Rattle.cluster_events.specs.Serving.{IsSteady}
use Rattle.event_text.specs.Texts.{printed}
use Rattle.mirror.specs.declared.heard.Heard.{Heard}
use Rattle.mirror.specs.declared.heard.Outcome.{Outcome as Became}
use Rattle.mirror.specs.declared.heard.Why.{Why as Reason}
use Rattle.mirror.specs.declared.heard.Why.TheVariants.{Old as OldMessage, Ahead as AheadMessage, Busy as BusyWith, Done, NotForRole}
use Rattle.mirror.specs.declared.heard.Role.TheVariants.{Active}
use Rattle.mirror.specs.declared.state.NodeState.{NodeState as Node}
use Rattle.mirror.specs.declared.node.Tie.TheVariants.{Apart, Linked}
use Rattle.mirror.specs.Replicas.{ReplicaState, at_rest, at_work}
use Rattle.mirror.specs.Hearing.{IsRequestHeard, IsReceiptHeard, IsHeardAtRest, ignored, accepted_alone, repeated}
use Rattle.mirror.specs.Pairing.{IsHeard, IsHeardTied, mirrored, newest}
use Rattle.lead_server.specs.Told.{IsTold, reason_of, reason_lines}
use Rattle.cluster_clients.proofs.DispatchSteps.{agents-as}
use Rattle.cluster_rounds.specs.declared.cluster.Cluster.{Cluster}
use Rattle.cluster_rounds.specs.Kits.{IsKit, Kit, calm_servers}
use Rattle.cluster_rounds.specs.Worlds.{Shows, IsGood, Happened, heard_by}
use Rattle.lead_rounds.specs.Leading.{lead_by}
use Rattle.lead_rounds.proofs.LeadSteps.{answered-history, heard-goes}

-- What is heard where a server is linked is what is heard without one, but that an entry is mirrored, and waits.

abbrev pub told_as : Bool → ℕ → Heard → Heard
told_as true number plain = mirrored number plain
told_as false number plain = plain

abbrev pub waits_as : Bool → Option Entry → Option Entry
waits_as true committed = newest committed None
waits_as false committed = None

-- with nothing in hand: what it is without a linked server
pub record HeardTied (setup : Setup) (past : List Entry) (now : ℤ) (message : Message) (linked : Bool) (heard : Heard) (new : Node) : Type 0 where
  pub plain : Heard
  pub replica : ReplicaState
  pub at_rest : IsHeardAtRest setup past now message plain replica
  pub heard_is : heard ≡ told_as linked (suc (length past)) plain
  pub new_is : new ≡ record (lead_by setup past Empty linked) { replica = replica; waits = waits_as linked plain.committed }

heard-tied : (setup : Setup) (past : List Entry) (now : ℤ) (message : Message) (linked : Bool) (heard : Heard) (new : Node) → IsHeardTied (if linked then Linked else Apart) setup past now message (lead_by setup past Empty linked) heard new → HeardTied setup past now message linked heard new
heard-tied setup past now message false heard new is = record { plain = heard; replica = new.replica; at_rest = is.0; heard_is = refl; new_is = is.1 }
heard-tied setup past now message true heard new is = record {
  plain = is.0.0;
  replica = new.replica;
  at_rest = is.0.1;
  heard_is = is.0.2;
  new_is = is.1 ∙ ap (λ (waits : Option Entry). record (lead_by setup past Empty true) { replica = new.replica; waits = waits }) is.0.3;
}

-- what is neither mirrored nor committed is the same either way
abbrev quiet_heard : List Message → Became → Heard
quiet_heard to_net outcome = record { to_net = to_net; to_peer = []; committed = None; outcome = outcome }

told-quiet : (linked : Bool) (number : ℕ) (to_net : List Message) (outcome : Became) → told_as linked number (quiet_heard to_net outcome) ≡ quiet_heard to_net outcome
told-quiet true number to_net outcome = refl
told-quiet false number to_net outcome = refl

waits-quiet : (linked : Bool) → waits_as linked None ≡ None
waits-quiet true = refl
waits-quiet false = refl

pub told-net : (linked : Bool) (number : ℕ) (plain : Heard) → (told_as linked number plain).to_net ≡ plain.to_net
told-net true number plain = refl
told-net false number plain = refl

-- while an entry is in hand the server is busy
pub busy-at : (setup : Setup) (past : List Entry) (entry : Entry) (message : Message) (now : ℤ) (heard : Heard) (old new : Node) → old.replica ≡ at_work setup past entry → IsHeard message now old heard new → (heard ≡ ignored (BusyWith (suc (length past)))) × (new ≡ old)
busy-at setup past entry message now heard old new works hears = hears.0 setup past entry works

module _ {P S : Type 0} (kit : Kit P S) (laws : IsKit kit) where
  -- What the code is left as.

  abbrev pub left_as : Cluster S → S → List (List ℕ) → Pushed → Cluster S
  left_as old servers net history = record old { servers = servers; net = net; history = history }

  -- with nothing in hand: what the active server makes of it over this state
  pub hears-at : (setup : Setup) (state : State P) (linked : Bool) (old : Cluster S) (message : Message) (heard : Heard) (first new : Node) → IsGood kit setup state → Shows kit setup state old → first ≡ lead_by setup state.world.core.answered Empty linked → IsHeard message old.now first heard new → HeardTied setup state.world.core.answered state.world.now message linked heard new
  hears-at setup state linked old message heard first new good shows led hears =
      let past = state.world.core.answered in
      let H : ℤ → Node → Type 0 = λ now before. IsHeard message now before heard new in
      let lead = lead_by setup past Empty linked in
      let is : H state.world.now lead = subst (λ now. H now lead) shows.now (subst (H old.now) led hears) in
      heard-tied setup past state.world.now message linked heard new (is.1 setup past (answered-history kit laws setup state good) refl)

  module _ (setup : Setup) (state : State P) (linked : Bool) (old : Cluster S) (first node : Node) (servers : S) (net : List (List ℕ)) (history : Pushed) (heard : Heard) (place : ℕ) (before after : List (List ℕ)) (good : IsGood kit setup state) (shows : Shows kit setup state old) (tells : IsTold place heard old.net net old.history.entries history.entries before after) (stays : node ≡ first → heard.to_peer ≡ [] → kit.Own setup state.world.core.answered state.world.core.hand state.peers servers) where
    abbrev past : List Entry
    past = state.world.core.answered

    abbrev Tells : Heard → Type 0
    Tells h = IsTold place h old.net net old.history.entries history.entries before after

    abbrev Leads : Outcome (State P) → Type 0
    Leads outcome = Happened kit setup outcome (left_as old servers net history) before after

    -- what is ignored changes nothing but a line
    ignored-happens : (why : Reason) (told : List Told) → node ≡ first → heard ≡ ignored why → printed told ≡ reason_lines place (reason_of why) → Leads (record { state = state; told = told })
    ignored-happens why told same is lines =
        let so : Tells (ignored why) = subst Tells is tells in
        let posts = so.posts (plain_of setup) state.world.net (is_plain setup) shows.net in
        let between : so.between ≡ before = posts.1 ∙ append-nil before in (
          record {
            own = stays same (ap (λ (h : Heard). h.to_peer) is);
            net = posts.0;
            agents = shows.agents;
            history = so.commits.0 ∙ shows.history;
            now = shows.now;
            callbacks = shows.callbacks;
          },
          good,
          so.commits.1 ∙ ap (λ front. front ++ reason_lines place (reason_of why)) between ∙ ap (λ back. before ++ back) (sym lines),
        )

    -- a reply is posted again
    repeated-happens : (message : Message) → node ≡ first → heard ≡ repeated message → IsSteady (plain_of setup) kit.Good (in_world (post (plain_of setup) message) state).state → Leads (in_world (post (plain_of setup) message) state)
    repeated-happens message same is steady =
        let so : Tells (repeated message) = subst Tells is tells in
        let posts = so.posts (plain_of setup) state.world.net (is_plain setup) shows.net in (
          record {
            own = stays same (ap (λ (h : Heard). h.to_peer) is);
            net = posts.0;
            agents = agents-as state.world (in_world (post (plain_of setup) message) state).state.world old.agents refl refl refl shows.agents;
            history = so.commits.0 ∙ shows.history;
            now = shows.now;
            callbacks = shows.callbacks;
          },
          record { begins = good.begins; steady = steady; range = good.range; moment = good.moment },
          so.commits.1 ∙ append-nil so.between ∙ posts.1,
        )

    -- With nothing in hand: by the verdict on a request, by whether a receipt is new. An entry that is accepted waits for the servers beside, or
    -- is committed, as these say.

    module _ (plain : Heard) (replica : ReplicaState) (few : length state.world.core.answered < 4000000000) (led : first ≡ lead_by setup state.world.core.answered Empty linked) (heard_is : heard ≡ told_as linked (suc (length state.world.core.answered)) plain) (node_is : node ≡ record (lead_by setup state.world.core.answered Empty linked) { replica = replica; waits = waits_as linked plain.committed }) (accepts : (entry : Entry) → heard ≡ told_as linked (suc (length state.world.core.answered)) (accepted_alone entry) → node ≡ record (lead_by setup state.world.core.answered Empty linked) { replica = at_work setup state.world.core.answered entry; waits = waits_as linked (Some entry) } → IsSteady (plain_of setup) kit.Good ((calm_servers kit setup).accept entry state).state → CanCome entry state.world.core.answered → Happened kit setup ((calm_servers kit setup).accept entry state) (left_as old servers net history) before after) where
      -- nothing was accepted
      unchanged : replica ≡ at_rest setup past → plain.committed ≡ None → node ≡ first
      unchanged rest none =
          let lead = lead_by setup past Empty linked in
          node_is ∙ (λ i. record lead { replica = rest i; waits = (ap (waits_as linked) none ∙ waits-quiet linked) i }) ∙ sym led

      ignored-so : (why : Reason) (told : List Told) → plain ≡ ignored why → replica ≡ at_rest setup past → printed told ≡ reason_lines place (reason_of why) → Leads (record { state = state; told = told })
      ignored-so why told is rest lines =
          let same = heard_is ∙ ap (told_as linked (suc (length past))) is ∙ told-quiet linked (suc (length past)) [] (ignored why).outcome in
          ignored-happens why told (unchanged rest (ap (λ (h : Heard). h.committed) is)) same lines

      accepted-so : (entry : Entry) → plain ≡ accepted_alone entry → replica ≡ at_work setup past entry → IsSteady (plain_of setup) kit.Good ((calm_servers kit setup).accept entry state).state → CanCome entry past → Leads ((calm_servers kit setup).accept entry state)
      accepted-so entry is work steady can =
          let lead = lead_by setup past Empty linked in
          let same = heard_is ∙ ap (told_as linked (suc (length past))) is in
          let new : node ≡ record lead { replica = at_work setup past entry; waits = waits_as linked (Some entry) } = node_is ∙ (λ i. record lead { replica = work i; waits = waits_as linked (is i).committed }) in
          accepts entry same new steady can

      request-so : (client number : ℕ) (call : Call) (verdict : Judged) → MessageInRange (Request client number call) → IsRequestHeard setup past client number call state.world.now verdict plain replica → IsSteady (plain_of setup) kit.Good (request_as (plain_of setup) (calm_servers kit setup) place client number call verdict state).state → Leads (request_as (plain_of setup) (calm_servers kit setup) place client number call verdict state)
      request-so client number call New range is steady =
          accepted-so (Called client number state.world.now call) is.0 is.1 steady (record {
            from = range.0.least;
            to = range.0.most;
            early = good.moment.from;
            late = good.moment.to;
            few = few;
          })
      request-so client number call Repeat range is steady =
          let message = Answer client number is.0 in
          let event : Option Reply → Outcome (State P) = λ found. in_world (post_again (plain_of setup) client number found) state in
          let S : Option Reply → Type 0 = λ found. IsSteady (plain_of setup) kit.Good (event found).state in
          let H : Option Reply → Type 0 = λ found. Leads (event found) in
          let same = heard_is ∙ ap (told_as linked (suc (length past))) is.2 ∙ told-quiet linked (suc (length past)) (message ∷ []) (repeated message).outcome in
          subst H (sym is.1) (repeated-happens message (unchanged is.3 (ap (λ (h : Heard). h.committed) is.2)) same (subst S is.1 steady))
      request-so client number call Old range is steady = ignored-so OldMessage (Ignored place OldRequest ∷ []) is.0 is.1 refl
      request-so client number call Ahead range is steady = ignored-so AheadMessage (Ignored place AheadRequest ∷ []) is.0 is.1 refl

      receipt-so : (client key through : ℕ) (new : Bool) → MessageInRange (Receipt client key through) → IsReceiptHeard setup past client key through state.world.now new plain replica → IsSteady (plain_of setup) kit.Good (receipt_as (calm_servers kit setup) place client key through new state).state → Leads (receipt_as (calm_servers kit setup) place client key through new state)
      receipt-so client key through true range is steady =
          accepted-so (Receipted client key through state.world.now) is.0 is.1 steady (record {
            from = range.0.least;
            to = range.0.most;
            early = good.moment.from;
            late = good.moment.to;
            few = few;
          })
      receipt-so client key through false range is steady = ignored-so Done (Ignored place DoneReceipt ∷ []) is.0 is.1 refl

      rest-so : (message : Message) → MessageInRange message → IsHeardAtRest setup past state.world.now message plain replica → IsSteady (plain_of setup) kit.Good (hear_at_rest (plain_of setup) (calm_servers kit setup) place message state).state → Leads (hear_at_rest (plain_of setup) (calm_servers kit setup) place message state)
      rest-so (Request client number call) range is steady = request-so client number call (judged_call past client number) range is steady
      rest-so (Receipt client key through) range is steady = receipt-so client key through (is_new (plain_of setup) past client key through) range is steady
      rest-so _ range is steady = ignored-so (NotForRole Active) [] is.0 is.1 refl

    -- while an entry is in hand
    busy-happens : (entry : Entry) (message : Message) → first.replica ≡ at_work setup past entry → IsHeard message old.now first heard node → Leads (record { state = state; told = Ignored place (Busy (suc (length past))) ∷ [] })
    busy-happens entry message works hears =
        let is = busy-at setup past entry message old.now heard first node works hears in
        ignored-happens (BusyWith (suc (length past))) (Ignored place (Busy (suc (length past))) ∷ []) is.1 is.0 refl

    -- **a message is heard**
    pub message-happens : (message : Message) → first ≡ lead_by setup state.world.core.answered state.world.core.hand linked → Stands message (messages_in state.world.net) → MessageInRange message → (state.world.core.hand ≡ Empty → length state.world.core.answered < 4000000000) → IsHeard message old.now first heard node → (state.world.core.hand ≡ Empty → (entry : Entry) → heard ≡ told_as linked (suc (length state.world.core.answered)) (accepted_alone entry) → node ≡ record (lead_by setup state.world.core.answered Empty linked) { replica = at_work setup state.world.core.answered entry; waits = waits_as linked (Some entry) } → IsSteady (plain_of setup) kit.Good ((calm_servers kit setup).accept entry state).state → CanCome entry state.world.core.answered → Happened kit setup ((calm_servers kit setup).accept entry state) (left_as old servers net history) before after) → Happened kit setup (heard_by kit place message setup state) (left_as old servers net history) before after
    message-happens message led stands range few hears accepts = by-hand state.world.core.hand refl
      where
        lead-at : (hand : Hand) → state.world.core.hand ≡ hand → first ≡ lead_by setup past hand linked
        lead-at hand is = led ∙ ap (λ (h : Hand). lead_by setup past h linked) is

        busy : (entry : Entry) (hand : Hand) → state.world.core.hand ≡ hand → (lead_by setup past hand linked).replica ≡ at_work setup past entry → Leads (record { state = state; told = Ignored place (Busy (suc (length past))) ∷ [] })
        busy entry hand is work = busy-happens entry message (ap (λ (n : Node). n.replica) (lead-at hand is) ∙ work) hears

        by-hand : (hand : Hand) → state.world.core.hand ≡ hand → Leads (hear_by (plain_of setup) (calm_servers kit setup) place message hand state)
        by-hand Empty is =
            let tied = hears-at setup state linked old message heard first node good shows (lead-at Empty is) hears in
            let H : Hand → Type 0 = λ hand. IsSteady (plain_of setup) kit.Good (hear_by (plain_of setup) (calm_servers kit setup) place message hand state).state in
            rest-so tied.plain tied.replica (few is) (lead-at Empty is) tied.heard_is tied.new_is (accepts is) message range tied.at_rest
            (subst H is (heard-goes kit laws setup place message state good stands).holds)
        by-hand (Waiting entry) is = busy entry (Waiting entry) is refl
        by-hand (Applied entry) is = busy entry (Applied entry) is refl
        by-hand (Ready entry) is = busy entry (Ready entry) is refl
