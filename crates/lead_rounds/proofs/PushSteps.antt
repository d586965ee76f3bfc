-- What a push comes to, and what it leaves where memory runs out.
use Rattle.std.proofs.Common.{◌≡◌, ℕ, inl, inr, Bool, List, [], ◌∷◌, ◌++◌, take, refl, ap, sym, ◌∙◌, subst}
use Rattle.std.specs.List.{AllByRecursion}
use Rattle.wire.specs.MessageSpelling.{MessageInRange}
use Rattle.plain_service.specs.Setups.{Setup}
use Rattle.service_laws.specs.PlainOf.{plain_of}
use Rattle.service_laws.proofs.ServiceLaws.{is_plain}
use Rattle.cluster_facts.specs.Types.{Entry, Message}
use Rattle.cluster_facts.specs.Lists.{IsNumbered}
use Rattle.cluster_facts.specs.Messages.{calls_in}
use Rattle.cluster_facts.specs.Service.{Plain}
use Rattle.cluster_facts.specs.History.{Hand, Empty, Waiting, Applied, Ready, accepted_by}
use Rattle.cluster_facts.specs.Ranges.{AreInRange}
use Rattle.cluster_events.specs.Outcomes.{Outcome, for_each}
use Rattle.cluster_events.specs.Servers.{State, in_world}
use Rattle.cluster_events.specs.ClientEvents.{post}
use Rattle.cluster_events.specs.Events.{push_by}
use Rattle.cluster_events.specs.Serving.{IsSteady}
use Rattle.cluster_events.proofs.Carrying.{IsMadeItem, held-made, post_all-goes, push-goes}
use Rattle.mirror.specs.declared.state.NodeState.{NodeState as Node}
use Rattle.mirror.specs.Replicas.{at_rest}
use Rattle.lead_server.specs.Heard.{HoldsInRange, IsHeldBy, PushesPartly}
use Rattle.cluster_clients.specs.Spelled.{AreSpelled}
use Rattle.cluster_clients.specs.Posted.{posted_all, lines_all, PostsAll, PostsSome}
use Rattle.cluster_clients.proofs.DispatchSteps.{agents-as}
use Rattle.cluster_clients.proofs.ListSteps.{All-take}
use Rattle.cluster_rounds.specs.declared.cluster.Cluster.{Cluster}
use Rattle.cluster_rounds.specs.Broken.{Broken}
use Rattle.cluster_rounds.specs.Kits.{IsKit, Kit, calm_servers}
use Rattle.cluster_rounds.specs.PartlyDone.{SaysUnasked}
use Rattle.cluster_rounds.specs.Worlds.{Shows, IsGood, IsIdle, Happened, pushed}
use Rattle.cluster_rounds.proofs.BrokenSteps.{armed-shown, nothing-broken, same-between, whole-broken}
use Rattle.cluster_rounds.proofs.KitSteps.{calm-serves, calm-unasked}
use Rattle.lead_rounds.specs.Leading.{lead_by, serving_by}
use Rattle.lead_rounds.proofs.LeadSteps.{answered-history}
use Rattle.lead_rounds.proofs.HeldSteps.{held-range}

-- With nothing in hand nothing is owed.

owes-none : (setup : Setup) (past : List Entry) (hand : Hand) → hand ≡ Empty → serving_by setup past hand ≡ at_rest setup past
owes-none setup past Empty empty = refl
owes-none setup past (Waiting entry) empty = cc
owes-none setup past (Applied entry) empty = cc
owes-none setup past (Ready entry) empty = cc

pub rests-in : (setup : Setup) (past : List Entry) (hand : Hand) (linked : Bool) (node : Node) → node ≡ lead_by setup past hand linked → hand ≡ Empty → node.replica ≡ at_rest setup past
rests-in setup past hand linked node led empty = ap (λ (n : Node). n.replica) led ∙ owes-none setup past hand empty

module _ {P S : Type 0} (kit : Kit P S) (laws : IsKit kit) where
  -- Posting one message after another is posting all.
  each-posted : (plain : Plain) (items : List Message) (state : State P) → for_each (λ item. in_world (post plain item)) items state ≡ record { state = record { world = record state.world { net = posted_all plain items state.world.net }; peers = state.peers }; told = lines_all plain items state.world.net }
  each-posted plain [] state = refl
  each-posted plain (item ∷ items) state =
      let next = (in_world (post plain item) state).state in
      let told = (in_world (post plain item) state).told in
      ap (λ (outcome : Outcome (State P)). record { state = outcome.state; told = outcome.told ++ told }) (each-posted plain items next)

  module _ (setup : Setup) (state : State P) (old : Cluster S) (node : Node) (good : IsGood kit setup state) (shows : Shows kit setup state old) (empty : IsIdle state) (rests : node.replica ≡ at_rest setup state.world.core.answered) where
    abbrev past : List Entry
    past = state.world.core.answered

    -- **the items of a push can be posted**
    pub holds-range : HoldsInRange node.replica
    holds-range =
        let range : AreInRange past = subst (λ (hand : Hand). AreInRange (accepted_by past hand)) empty good.range in
        let N : Hand → Type 0 = λ hand. (client : ℕ) → IsNumbered (calls_in client (accepted_by past hand)) in
        let numbered : N Empty = subst N empty good.steady.sound.facts.legal.numbered in
        let spelled = held-range setup past (answered-history kit laws setup state good) range numbered in
        λ items held value. subst (λ (these : List Message). AllByRecursion MessageInRange these) (sym (held setup past rests)) spelled

    -- **items are pushed**
    pub pushes : (net : List (List ℕ)) (items : List Message) (before after : List (List ℕ)) → IsHeldBy node.replica items → PostsAll items old.net net before after → Happened kit setup (pushed kit setup state) (record old { net = net }) before after × (items ≡ (plain_of setup).held past)
    pushes net items before after are posts =
        let plain = plain_of setup in
        let is = are setup past rests in
        let N : List Message → Type 0 = λ messages. PostsAll messages old.net net before after in
        let done = subst N is posts plain state.world.net (is_plain setup) shows.net in
        let goes = push-goes plain (is_plain setup) (calm_servers kit setup) kit.Good (calm-serves kit laws setup) (SaysUnasked plain) (calm-unasked kit laws setup) state (record { steady = good.steady; empty = empty }) in
        let E : Hand → Outcome (State P) = λ hand. push_by plain (calm_servers kit setup) hand state in
        let same : E state.world.core.hand ≡ record { state = record { world = record state.world { net = posted_all plain (plain.held past) state.world.net }; peers = state.peers }; told = lines_all plain (plain.held past) state.world.net } =
        ap E empty ∙ each-posted plain (plain.held past) state
        in
        let other = record state.world { net = posted_all plain (plain.held past) state.world.net } in
        let G : Outcome (State P) → Type 0 = λ outcome. IsSteady plain kit.Good outcome.state in
        let H : Outcome (State P) → Type 0 = λ outcome. Happened kit setup outcome (record old { net = net }) before after in
        let whole : H (record { state = record { world = other; peers = state.peers }; told = lines_all plain (plain.held past) state.world.net }) = (
          record {
            own = shows.own;
            net = done.0;
            agents = agents-as state.world other old.agents refl refl refl shows.agents;
            history = shows.history;
            now = shows.now;
            callbacks = shows.callbacks;
          },
          record { begins = good.begins; steady = subst G same goes.holds.steady; range = good.range; moment = good.moment },
          done.1,
        ) in
        (subst H (sym same) whole, is)

    -- what a push is left as of which some items were posted
    push-breaks : (net : List (List ℕ)) (items : List Message) (held : kit.Seen) → IsHeldBy node.replica items → PostsSome items old.net net → Broken kit setup state held held (record old { net = net })
    push-breaks net items held are posts =
        let plain = plain_of setup in
        let N : List Message → Type 0 = λ messages. PostsSome messages old.net net in
        let done = subst N (are setup past rests) posts plain state.world.net (is_plain setup) shows.net in
        let front = take done.0 (plain.held past) in
        let made = All-take (IsMadeItem plain past) done.0 (plain.held past) (held-made plain (is_plain setup) past) in
        let goes = post_all-goes plain (is_plain setup) (calm_servers kit setup) kit.Good (calm-serves kit laws setup) (SaysUnasked plain) (calm-unasked kit laws setup) front state (record { steady = good.steady; empty = empty }) made in
        let same = each-posted plain front state in
        let G : Outcome (State P) → Type 0 = λ outcome. IsSteady plain kit.Good outcome.state in
        let T : Outcome (State P) → Type 0 = λ outcome. SaysUnasked plain state.world outcome.state.world outcome.told in
        let other = record state.world { net = posted_all plain front state.world.net } in
        whole-broken kit laws setup state (record { world = other; peers = state.peers }) (lines_all plain front state.world.net) held held (record old { net = net }) (subst G same goes.holds.steady).sound (subst T same goes.carried) done.1
        (agents-as state.world other old.agents refl refl refl shows.agents)
        shows.history shows.now (armed-shown kit laws setup state held old shows) (same-between kit laws setup state held good)

    -- **and one that broke off**
    pub push-partly : (net : List (List ℕ)) (held : kit.Seen) → PushesPartly node.replica old.net net → Broken kit setup state held held (record old { net = net })
    push-partly net held partly = elim partly [
      | inl same ↦ nothing-broken kit laws setup state held (record old { net = net }) good (subst (λ messages. AreSpelled state.world.net messages) (sym same) shows.net) shows.agents shows.history shows.now (armed-shown kit laws setup state held old shows)
      | inr some ↦ push-breaks net some.0 held some.1 some.2
    ]
