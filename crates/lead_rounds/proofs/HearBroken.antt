-- What a message that the active server heard posts, and what hearing leaves where memory runs out.
use Rattle.std.proofs.Common.{◌≡◌, ℕ, zero, suc, ◌⊎◌, inl, inr, Bool, true, false, ℤ, Option, None, Some, List, [], ◌∷◌, length, take, refl, ap, sym, ◌∙◌, subst}
use Rattle.std.specs.List.{AllByRecursion}
use Rattle.std.specs.Prelude.{Result, Ok, Err, IsOk, OnErr}
use Rattle.calls.specs.History.{Pushed}
use mir.Syntax.{w64}
use mir.Val.{to_z, of_z}
use Rattle.wire.specs.MessageSpelling.{MessageInRange}
use Rattle.plain_service.specs.Setups.{Setup}
use Rattle.service_laws.specs.PlainOf.{plain_of}
use Rattle.service_laws.proofs.ServiceLaws.{is_plain}
use Rattle.cluster_facts.specs.Types.{Call, Reply, Entry, Message, Request, Answer, Receipt}
use Rattle.cluster_facts.specs.Lists.{Stands}
use Rattle.cluster_facts.specs.Messages.{Posting, messages_in}
use Rattle.cluster_facts.specs.Service.{Plain, is_new}
use Rattle.cluster_facts.specs.History.{Hand, Empty, Waiting, Applied, Ready, Judged, New, Repeat, Old, Ahead, judged_call}
use Rattle.cluster_facts.specs.World.{posted}
use Rattle.cluster_events.specs.Servers.{State, in_world}
use Rattle.cluster_events.specs.ClientEvents.{post}
use Rattle.cluster_events.specs.Events.{post_again, request_as, hear_at_rest, hear_by}
use Rattle.mirror.specs.declared.heard.Heard.{Heard}
use Rattle.mirror.specs.declared.state.NodeState.{NodeState as Node}
use Rattle.mirror.specs.Replicas.{ReplicaState, at_work}
use Rattle.mirror.specs.declared.heard.Why.{Why as Reason}
use Rattle.mirror.specs.declared.heard.Why.TheVariants.{Busy as BusyWith}
use Rattle.mirror.specs.Hearing.{IsRequestHeard, IsReceiptHeard, IsHeardAtRest, ignored}
use Rattle.mirror.specs.Pairing.{IsHeard}
use Rattle.lead_server.specs.Told.{Commits}
use Rattle.lead_server.specs.Heard.{AnswersInRange, Hears, HearsPartly}
use Rattle.cluster_clients.specs.Spelled.{AreSpelled}
use Rattle.cluster_clients.specs.Posted.{posted_all, PostsAll, PostsSome}
use Rattle.cluster_clients.proofs.DispatchSteps.{agents-as}
use Rattle.cluster_rounds.specs.declared.cluster.Cluster.{Cluster}
use Rattle.cluster_rounds.specs.Broken.{Broken}
use Rattle.cluster_rounds.specs.Kits.{IsKit, Kit, calm_servers}
use Rattle.cluster_rounds.specs.Worlds.{Shows, IsGood}
use Rattle.cluster_rounds.proofs.BrokenSteps.{same-between, whole-broken, nothing-broken}
use Rattle.lead_rounds.specs.Leading.{lead_by}
use Rattle.lead_rounds.proofs.LeadSteps.{GoesSo, heard-goes, heard-then}
use Rattle.lead_rounds.proofs.HearSteps.{left_as, hears-at, busy-at, told_as, told-net}

-- What is posted is in range.

abbrev InRange : Heard → Type 0
InRange heard = AllByRecursion MessageInRange heard.to_net

request-range : (setup : Setup) (past : List Entry) (now : ℤ) (client number : ℕ) (call : Call) (verdict : Judged) (heard : Heard) (node : ReplicaState) → MessageInRange (Request client number call) → IsRequestHeard setup past client number call now verdict heard node → InRange heard
request-range setup past now client number call New heard node range is = subst InRange (sym is.0) tt
request-range setup past now client number call Repeat heard node range is = subst InRange (sym is.2) ((range.0, range.1), tt)
request-range setup past now client number call Old heard node range is = subst InRange (sym is.0) tt
request-range setup past now client number call Ahead heard node range is = subst InRange (sym is.0) tt

receipt-range : (setup : Setup) (past : List Entry) (now : ℤ) (client key through : ℕ) (new : Bool) (heard : Heard) (node : ReplicaState) → IsReceiptHeard setup past client key through now new heard node → InRange heard
receipt-range setup past now client key through true heard node is = subst InRange (sym is.0) tt
receipt-range setup past now client key through false heard node is = subst InRange (sym is.0) tt

rest-range : (setup : Setup) (past : List Entry) (now : ℤ) (message : Message) (heard : Heard) (node : ReplicaState) → MessageInRange message → IsHeardAtRest setup past now message heard node → InRange heard
rest-range setup past now (Request client number call) heard node range is = request-range setup past now client number call (judged_call past client number) heard node range is
rest-range setup past now (Receipt client key through) heard node range is = receipt-range setup past now client key through (is_new (plain_of setup) past client key through) heard node is
rest-range setup past now _ heard node range is = subst InRange (sym is.0) tt

-- What is heard by itself goes to no server beside.

request-alone : (setup : Setup) (past : List Entry) (now : ℤ) (client number : ℕ) (call : Call) (verdict : Judged) (heard : Heard) (node : ReplicaState) → IsRequestHeard setup past client number call now verdict heard node → heard.to_peer ≡ []
request-alone setup past now client number call New heard node is = ap (λ (h : Heard). h.to_peer) is.0
request-alone setup past now client number call Repeat heard node is = ap (λ (h : Heard). h.to_peer) is.2
request-alone setup past now client number call Old heard node is = ap (λ (h : Heard). h.to_peer) is.0
request-alone setup past now client number call Ahead heard node is = ap (λ (h : Heard). h.to_peer) is.0

receipt-alone : (setup : Setup) (past : List Entry) (now : ℤ) (client key through : ℕ) (new : Bool) (heard : Heard) (node : ReplicaState) → IsReceiptHeard setup past client key through now new heard node → heard.to_peer ≡ []
receipt-alone setup past now client key through true heard node is = ap (λ (h : Heard). h.to_peer) is.0
receipt-alone setup past now client key through false heard node is = ap (λ (h : Heard). h.to_peer) is.0

rest-alone : (setup : Setup) (past : List Entry) (now : ℤ) (message : Message) (heard : Heard) (node : ReplicaState) → IsHeardAtRest setup past now message heard node → heard.to_peer ≡ []
rest-alone setup past now (Request client number call) heard node is = request-alone setup past now client number call (judged_call past client number) heard node is
rest-alone setup past now (Receipt client key through) heard node is = receipt-alone setup past now client key through (is_new (plain_of setup) past client key through) heard node is
rest-alone setup past now _ heard node is = ap (λ (h : Heard). h.to_peer) is.0

-- an entry that is mirrored is not committed
told-mirrored : (linked : Bool) (number : ℕ) (heard plain : Heard) (first : Message) (others : List Message) → plain.to_peer ≡ [] → heard ≡ told_as linked number plain → heard.to_peer ≡ first ∷ others → heard.committed ≡ None
told-mirrored true number heard plain first others none is some = ap (λ (h : Heard). h.committed) is
told-mirrored false number heard plain first others none is some = let same = ap (λ (h : Heard). h.to_peer) is ∙ none in cc

ignored-mirrors : (why : Reason) (heard : Heard) (first : Message) (others : List Message) → heard ≡ ignored why → heard.to_peer ≡ first ∷ others → heard.committed ≡ None
ignored-mirrors why heard first others is some = ap (λ (h : Heard). h.committed) is

none-commits : (found : Option Entry) (old new : List Entry) (before after : List (List ℕ)) → found ≡ None → Commits found old new before after → new ≡ old
none-commits None old new before after is commits = commits.0
none-commits (Some entry) old new before after is commits = cc

-- Messages that were posted in part.

take-all : {X : Type 0} (xs : List X) → take (length xs) xs ≡ xs
take-all [] = refl
take-all (x ∷ xs) = ap (λ rest. x ∷ rest) (take-all xs)

-- or in whole
pub posts-whole : (messages : List Message) (old new before after : List (List ℕ)) → PostsAll messages old new before after → PostsSome messages old new
posts-whole messages old new before after posts plain net is spelled =
    (length messages, subst (λ front. AreSpelled (posted_all plain front net) new) (sym (take-all messages)) (posts plain net is spelled).0)

none-taken : (plain : Plain) (net : List Posting) (count : ℕ) → posted_all plain (take count []) net ≡ net
none-taken plain net zero = refl
none-taken plain net (suc count) = refl

-- none was to be posted
pub posts-none : (setup : Setup) (net : List Posting) (old new : List (List ℕ)) → PostsSome [] old new → AreSpelled net old → AreSpelled net new
posts-none setup net old new posts spelled =
    let done = posts (plain_of setup) net (is_plain setup) spelled in
    subst (λ messages. AreSpelled messages new) (none-taken (plain_of setup) net done.0) done.1

one-taken : (plain : Plain) (message : Message) (net : List Posting) (new : List (List ℕ)) (count : ℕ) → AreSpelled (posted_all plain (take count (message ∷ [])) net) new → AreSpelled net new ⊎ AreSpelled (posted plain message net) new
one-taken plain message net new zero spelled = inl spelled
one-taken plain message net new (suc count) spelled =
    inr (subst (λ messages. AreSpelled messages new) (none-taken plain (posted plain message net) count) spelled)

-- one was
pub posts-one : (setup : Setup) (message : Message) (net : List Posting) (old new : List (List ℕ)) → PostsSome (message ∷ []) old new → AreSpelled net old → AreSpelled net new ⊎ AreSpelled (posted (plain_of setup) message net) new
posts-one setup message net old new posts spelled =
    let done = posts (plain_of setup) net (is_plain setup) spelled in
    one-taken (plain_of setup) message net new done.0 done.1

-- a result that is an error only where there are some messages
pub err-some : {T E : Type 0} {P : Type 0} (r : Result T E) (messages : List Message) → (messages ≡ [] → IsOk r) → ((first : Message) (others : List Message) → messages ≡ first ∷ others → P) → OnErr r P
err-some (Ok done) messages none some = tt
err-some (Err error) [] none some = let is : false ≡ true = none refl in cc
err-some (Err error) (first ∷ others) none some = some first others refl

module _ {P S : Type 0} (kit : Kit P S) (laws : IsKit kit) where
  module _ (setup : Setup) (state : State P) (linked : Bool) (old : Cluster S) (first : Node) (good : IsGood kit setup state) (shows : Shows kit setup state old) (led : first ≡ lead_by setup state.world.core.answered state.world.core.hand linked) where
    abbrev past : List Entry
    past = state.world.core.answered

    lead-at : (hand : Hand) → state.world.core.hand ≡ hand → first ≡ lead_by setup past hand linked
    lead-at hand is = led ∙ ap (λ (h : Hand). lead_by setup past h linked) is

    works-at : (hand : Hand) (entry : Entry) → state.world.core.hand ≡ hand → (lead_by setup past hand linked).replica ≡ at_work setup past entry → first.replica ≡ at_work setup past entry
    works-at hand entry is work = ap (λ (n : Node). n.replica) (lead-at hand is) ∙ work

    -- what it is ignored with while an entry is in hand
    busy-as : (hand : Hand) (entry : Entry) (message : Message) (heard : Heard) (new : Node) → state.world.core.hand ≡ hand → (lead_by setup past hand linked).replica ≡ at_work setup past entry → IsHeard message old.now first heard new → heard ≡ ignored (BusyWith (suc (length past)))
    busy-as hand entry message heard new is work hears = (busy-at setup past entry message old.now heard first new (works-at hand entry is work) hears).0

    -- What is posted is in range.

    heard-range : (heard : Heard) (new : Node) (message : Message) → MessageInRange message → IsHeard message old.now first heard new → InRange heard
    heard-range heard new message range hears = by-hand state.world.core.hand refl
      where
        by-hand : (hand : Hand) → state.world.core.hand ≡ hand → InRange heard
        by-hand Empty is =
            let tied = hears-at kit laws setup state linked old message heard first new good shows (lead-at Empty is) hears in
            let N : List Message → Type 0 = λ messages. AllByRecursion MessageInRange messages in
            let same : heard.to_net ≡ tied.plain.to_net = ap (λ (h : Heard). h.to_net) tied.heard_is ∙ told-net linked (suc (length past)) tied.plain in
            subst N (sym same) (rest-range setup past state.world.now message tied.plain tied.replica range tied.at_rest)
        by-hand (Waiting entry) is = subst InRange (sym (busy-as (Waiting entry) entry message heard new is refl hears)) tt
        by-hand (Applied entry) is = subst InRange (sym (busy-as (Applied entry) entry message heard new is refl hears)) tt
        by-hand (Ready entry) is = subst InRange (sym (busy-as (Ready entry) entry message heard new is refl hears)) tt

    -- **whatever it answers can be posted**
    pub answers-range : (message : Message) → MessageInRange message → AnswersInRange message (to_z w64 (of_z w64 old.now)) first
    answers-range message range = λ heard new hears. heard-range heard new message range (heard-then kit laws setup state old message heard first new good shows hears)

    -- an entry that goes to servers beside is not committed
    quiet-by : (heard : Heard) (new : Node) (message one : Message) (others : List Message) → IsHeard message old.now first heard new → heard.to_peer ≡ one ∷ others → heard.committed ≡ None
    quiet-by heard new message one others hears some = by-hand state.world.core.hand refl
      where
        by-hand : (hand : Hand) → state.world.core.hand ≡ hand → heard.committed ≡ None
        by-hand Empty is =
            let tied = hears-at kit laws setup state linked old message heard first new good shows (lead-at Empty is) hears in
            told-mirrored linked (suc (length past)) heard tied.plain one others (rest-alone setup past state.world.now message tied.plain tied.replica tied.at_rest) tied.heard_is some
        by-hand (Waiting entry) is = ignored-mirrors _ heard one others (busy-as (Waiting entry) entry message heard new is refl hears) some
        by-hand (Applied entry) is = ignored-mirrors _ heard one others (busy-as (Applied entry) entry message heard new is refl hears) some
        by-hand (Ready entry) is = ignored-mirrors _ heard one others (busy-as (Ready entry) entry message heard new is refl hears) some

    -- Where memory runs out the history stays, and a reply was posted again or not.

    module _ (servers : S) (net : List (List ℕ)) (history : Pushed) (held : kit.Seen) (same : history.entries ≡ old.history.entries) (armed : kit.Armed state.peers held → kit.ArmedAs servers held) where
      abbrev Breaks : Type 0
      Breaks = Broken kit setup state held held (left_as kit laws old servers net history)

      abbrev Posts : Heard → Type 0
      Posts heard = PostsSome heard.to_net old.net net

      -- nothing was posted
      still-breaks : AreSpelled state.world.net net → Breaks
      still-breaks spelled =
          nothing-broken kit laws setup state held (left_as kit laws old servers net history) good spelled shows.agents (same ∙ shows.history) shows.now armed

      quiet-breaks : PostsSome [] old.net net → Breaks
      quiet-breaks posts = still-breaks (posts-none setup state.world.net old.net net posts shows.net)

      repeated-breaks : (message : Message) → PostsSome (message ∷ []) old.net net → GoesSo kit laws setup state (in_world (post (plain_of setup) message) state) → Breaks
      repeated-breaks message posts goes =
          let after = in_world (post (plain_of setup) message) state in
          elim (posts-one setup message state.world.net old.net net posts shows.net) [
            | inl spelled ↦ still-breaks spelled
            | inr spelled ↦ whole-broken kit laws setup state after.state after.told held held (left_as kit laws old servers net history) goes.holds.sound goes.carried spelled
                (agents-as state.world after.state.world old.agents refl refl refl shows.agents)
                (same ∙ shows.history) shows.now armed (same-between kit laws setup state held good)
          ]

      request-breaks : (plain : Heard) (node : ReplicaState) (place client number : ℕ) (call : Call) (verdict : Judged) → IsRequestHeard setup past client number call state.world.now verdict plain node → Posts plain → GoesSo kit laws setup state (request_as (plain_of setup) (calm_servers kit setup) place client number call verdict state) → Breaks
      request-breaks plain node place client number call New is posts goes = quiet-breaks (subst Posts is.0 posts)
      request-breaks plain node place client number call Repeat is posts goes =
          let G : Option Reply → Type 0 = λ found. GoesSo kit laws setup state (in_world (post_again (plain_of setup) client number found) state) in
          repeated-breaks (Answer client number is.0) (subst Posts is.2 posts) (subst G is.1 goes)
      request-breaks plain node place client number call Old is posts goes = quiet-breaks (subst Posts is.0 posts)
      request-breaks plain node place client number call Ahead is posts goes = quiet-breaks (subst Posts is.0 posts)

      receipt-breaks : (plain : Heard) (node : ReplicaState) (client key through : ℕ) (new : Bool) → IsReceiptHeard setup past client key through state.world.now new plain node → Posts plain → Breaks
      receipt-breaks plain node client key through true is posts = quiet-breaks (subst Posts is.0 posts)
      receipt-breaks plain node client key through false is posts = quiet-breaks (subst Posts is.0 posts)

      rest-breaks : (plain : Heard) (node : ReplicaState) (place : ℕ) (message : Message) → IsHeardAtRest setup past state.world.now message plain node → Posts plain → GoesSo kit laws setup state (hear_at_rest (plain_of setup) (calm_servers kit setup) place message state) → Breaks
      rest-breaks plain node place (Request client number call) is posts goes = request-breaks plain node place client number call (judged_call past client number) is posts goes
      rest-breaks plain node place (Receipt client key through) is posts goes = receipt-breaks plain node client key through (is_new (plain_of setup) past client key through) is posts
      rest-breaks plain node place _ is posts goes = quiet-breaks (subst Posts is.0 posts)

      -- **what a message is left as that was heard, and told in part**
      hears-break : (heard : Heard) (new : Node) (place : ℕ) (message : Message) → Stands message (messages_in state.world.net) → IsHeard message old.now first heard new → Posts heard → Breaks
      hears-break heard new place message stands hears posts = by-hand state.world.core.hand refl
        where
          busy : (hand : Hand) (entry : Entry) → state.world.core.hand ≡ hand → (lead_by setup past hand linked).replica ≡ at_work setup past entry → Breaks
          busy hand entry is work = quiet-breaks (subst Posts (busy-as hand entry message heard new is work hears) posts)

          by-hand : (hand : Hand) → state.world.core.hand ≡ hand → Breaks
          by-hand Empty is =
              let tied = hears-at kit laws setup state linked old message heard first new good shows (lead-at Empty is) hears in
              let N : List Message → Type 0 = λ messages. PostsSome messages old.net net in
              let posted_as : heard.to_net ≡ tied.plain.to_net = ap (λ (h : Heard). h.to_net) tied.heard_is ∙ told-net linked (suc (length past)) tied.plain in
              let G : Hand → Type 0 = λ hand. GoesSo kit laws setup state (hear_by (plain_of setup) (calm_servers kit setup) place message hand state) in
              rest-breaks tied.plain tied.replica place message tied.at_rest (subst N posted_as posts)
              (subst G is (heard-goes kit laws setup place message state good stands))
          by-hand (Waiting entry) is = busy (Waiting entry) entry is refl
          by-hand (Applied entry) is = busy (Applied entry) entry is refl
          by-hand (Ready entry) is = busy (Ready entry) entry is refl

    -- **memory was wanting as an entry went to the servers beside**
    pub beside-breaks : (servers : S) (net : List (List ℕ)) (history : Pushed) (held : kit.Seen) (new : Node) (place : ℕ) (message : Message) (before after : List (List ℕ)) (mirrored : List Message) (one : Message) (others : List Message) → Stands message (messages_in state.world.net) → Hears place message (to_z w64 (of_z w64 old.now)) first new old.net net old.history.entries history.entries before after mirrored → mirrored ≡ one ∷ others → (kit.Armed state.peers held → kit.ArmedAs servers held) → Broken kit setup state held held (left_as kit laws old servers net history)
    beside-breaks servers net history held new place message before after mirrored one others stands heard some armed =
        let hears = heard-then kit laws setup state old message heard.heard first new good shows heard.hears in
        let none = quiet-by heard.heard new message one others hears (sym heard.beside ∙ some) in
        hears-break servers net history held (none-commits heard.heard.committed old.history.entries history.entries _ after none heard.told.commits) armed heard.heard new place message stands hears
        (posts-whole heard.heard.to_net old.net net before heard.told.between heard.told.posts)

    -- **or within it**
    pub partly-breaks : (servers : S) (net : List (List ℕ)) (history : Pushed) (held : kit.Seen) (new : Node) (place : ℕ) (message : Message) → Stands message (messages_in state.world.net) → HearsPartly message (to_z w64 (of_z w64 old.now)) first new old.net net old.history.entries history.entries → (kit.Armed state.peers held → kit.ArmedAs servers held) → Broken kit setup state held held (left_as kit laws old servers net history)
    partly-breaks servers net history held new place message stands partly armed = elim partly.part [
      | inl none ↦ still-breaks servers net history held partly.history armed (subst (λ n. AreSpelled state.world.net n) (sym none.1) shows.net)
      | inr some ↦ hears-break servers net history held partly.history armed some.0 new place message stands (heard-then kit laws setup state old message some.0 first new good shows some.1) some.2
    ]
