-- Events that work nothing leave the core of the world and the servers, but for an entry that is accepted: and so what the disks hold, and
-- what tells of their armed counts.
use Rattle.std.proofs.Common.{◌≡◌, ℕ, Bool, true, false, Option, Some, None, List, [], ◌∷◌, refl, sym, subst}
use Rattle.plain_service.specs.Setups.{Setup}
use Rattle.service_laws.specs.PlainOf.{plain_of}
use Rattle.cluster_facts.specs.Types.{Call, Reply, Item, Entry, Called, Receipted, Message, Request, Receipt, Delivery}
use Rattle.cluster_facts.specs.Service.{Plain, answers_in, is_new}
use Rattle.cluster_facts.specs.Agents.{Living, find_living, kept_call}
use Rattle.cluster_facts.specs.History.{Hand, Empty, Judged, New, Repeat, Old, Ahead, judged_call}
use Rattle.cluster_facts.specs.Messages.{answers_to, messages_in}
use Rattle.cluster_facts.specs.World.{World, number_of}
use Rattle.cluster_events.specs.Outcomes.{Outcome, for_each}
use Rattle.cluster_events.specs.ClientEvents.{Fate, Misses, Takes, post, item_as, item_by, take_item, reply_by, take_reply}
use Rattle.cluster_events.specs.Servers.{State, Servers, in_world}
use Rattle.cluster_events.specs.Events.{post_again, reply_at, request_as, receipt_as, hear_at_rest, hear_by, hear, push_by, push}
use Rattle.cluster_events.specs.Settling.{take_answer_by, take_answer, take_pushed}
use Rattle.cluster_rounds.specs.declared.cluster.Cluster.{Cluster}
use Rattle.cluster_rounds.specs.Kits.{IsKit, Kit, calm_servers, device_by}
use Rattle.cluster_rounds.specs.Rounds.{answer_taken, heard_so, items_taken, round_pushed}
use Rattle.cluster_rounds.specs.Worlds.{Event, HasStateOf, HasStateOn, IsGood, IsIdle, StandsIn, any_state, pushed}
use Rattle.cluster_rounds.specs.Resting.{Rests}
use Rattle.cluster_rounds.specs.Resting.Rests.{begun, moved, accepted}

-- Events of agents leave the core.

item_as-core : (plain : Plain) (place client key : ℕ) (item : Item) (found : Living) (fate : Fate) (world : World) → (item_as plain place client key item found fate world).state.core ≡ world.core
item_as-core plain place client key item found (Misses why) world = refl
item_as-core plain place client key item found Takes world = refl

item_by-core : (plain : Plain) (place client key : ℕ) (item : Item) (living : Option Living) (world : World) → (item_by plain place client key item living world).state.core ≡ world.core
item_by-core plain place client key item None world = refl
item_by-core plain place client key item (Some found) world = item_as-core plain place client key item found _ world

pub take_item-core : (plain : Plain) (place client key : ℕ) (item : Item) (world : World) → (take_item plain place client key item world).state.core ≡ world.core
take_item-core plain place client key item world =
    item_by-core plain place client key item (find_living key (world.agents client).living) world

pub take_pushed-core : (plain : Plain) (message : Message) (world : World) → (take_pushed plain message world).state.core ≡ world.core
take_pushed-core plain (Delivery client key item) world =
    take_item-core plain (number_of plain (Delivery client key item) world.net) client key item world
take_pushed-core plain _ world = refl

reply_by-core : (place client number : ℕ) (reply : Reply) (call : Option Call) (world : World) → (reply_by place client number reply call world).state.core ≡ world.core
reply_by-core place client number reply None world = refl
reply_by-core place client number reply (Some call) world = refl

pub take_reply-core : (place client number : ℕ) (reply : Reply) (world : World) → (take_reply place client number reply world).state.core ≡ world.core
take_reply-core place client number reply world = reply_by-core place client number reply (kept_call number (world.agents client).kept) world

answer_by-core : (plain : Plain) (client number : ℕ) (found : Option Reply) (world : World) → (take_answer_by plain client number found world).state.core ≡ world.core
answer_by-core plain client number None world = refl
answer_by-core plain client number (Some reply) world = take_reply-core _ client number reply world

take_answer-core : (plain : Plain) (message : Message) (world : World) → (take_answer plain message world).state.core ≡ world.core
take_answer-core plain (Request client number call) world =
    answer_by-core plain client number (reply_at number (answers_to client (messages_in world.net))) world
take_answer-core plain _ world = refl

-- What rests on the core and the servers, and stays where an entry is accepted, stays where a message is heard.
module _ {P : Type 0} (plain : Plain) (servers : Servers P) (A : State P → Type 0) (moves : (old new : State P) → new.world.core ≡ old.world.core → new.peers ≡ old.peers → A old → A new) (accepts : (entry : Entry) (state : State P) → state.world.core.hand ≡ Empty → A state → A (servers.accept entry state).state) (place : ℕ) where
  again-moved : (client number : ℕ) (found : Option Reply) (state : State P) → A state → A (in_world (post_again plain client number found) state).state
  again-moved client number None state holds = moves state (in_world (post_again plain client number None) state).state refl refl holds
  again-moved client number (Some reply) state holds = moves state (in_world (post_again plain client number (Some reply)) state).state refl refl holds

  request-moved : (client number : ℕ) (call : Call) (verdict : Judged) (state : State P) → state.world.core.hand ≡ Empty → A state → A (request_as plain servers place client number call verdict state).state
  request-moved client number call New state empty holds = accepts (Called client number state.world.now call) state empty holds
  request-moved client number call Repeat state empty holds = again-moved client number (reply_at number (answers_in plain client state.world.core.answered)) state holds
  request-moved client number call Old state empty holds = holds
  request-moved client number call Ahead state empty holds = holds

  receipt-moved : (client key through : ℕ) (new : Bool) (state : State P) → state.world.core.hand ≡ Empty → A state → A (receipt_as servers place client key through new state).state
  receipt-moved client key through true state empty holds = accepts (Receipted client key through state.world.now) state empty holds
  receipt-moved client key through false state empty holds = holds

  rest-moved : (message : Message) (state : State P) → state.world.core.hand ≡ Empty → A state → A (hear_at_rest plain servers place message state).state
  rest-moved (Request client number call) state empty holds = request-moved client number call (judged_call state.world.core.answered client number) state empty holds
  rest-moved (Receipt client key through) state empty holds = receipt-moved client key through (is_new plain state.world.core.answered client key through) state empty holds
  rest-moved _ state empty holds = holds

  hand-moved : (message : Message) (hand : Hand) (state : State P) → state.world.core.hand ≡ hand → A state → A (hear_by plain servers place message hand state).state
  hand-moved message Empty state is holds = rest-moved message state is holds
  hand-moved message _ state is holds = holds

  pub hear-moved : (message : Message) (state : State P) → A state → A (hear plain servers place message state).state
  hear-moved message state holds = hand-moved message state.world.core.hand state refl holds

each-moved : {P X : Type 0} (A : State P → Type 0) → ((old new : State P) → new.world.core ≡ old.world.core → new.peers ≡ old.peers → A old → A new) → (event : X → World → Outcome World) → ((x : X) (world : World) → (event x world).state.core ≡ world.core) → (xs : List X) (state : State P) → A state → A (for_each (λ x. in_world (event x)) xs state).state
each-moved A moves event core [] state holds = holds
each-moved A moves event core (x ∷ xs) state holds =
    let next = (in_world (event x) state).state in
    each-moved A moves event core xs next (moves state next (core x state.world) refl holds)

push_by-moved : {P : Type 0} (plain : Plain) (servers : Servers P) (A : State P → Type 0) → ((old new : State P) → new.world.core ≡ old.world.core → new.peers ≡ old.peers → A old → A new) → (hand : Hand) (state : State P) → A state → A (push_by plain servers hand state).state
push_by-moved plain servers A moves Empty state holds = each-moved A moves (post plain) (λ message world. refl) (plain.held state.world.core.answered) state holds
push_by-moved plain servers A moves _ state holds = holds

module _ {Peers Group : Type 0} (kit : Kit Peers Group) (laws : IsKit kit) where
  armed-moves : (seen : kit.Seen) (old new : State Peers) → new.world.core ≡ old.world.core → new.peers ≡ old.peers → kit.Armed old.peers seen → kit.Armed new.peers seen
  armed-moves seen old new core peers armed = subst (λ (p : Peers). kit.Armed p seen) (sym peers) armed

  -- an event leaves what tells of any armed counts
  abbrev pub Keeps : (Event kit) → Type 0
  Keeps event =
      (setup : Setup) (state : State Peers) (seen : kit.Seen) → kit.Armed state.peers seen → kit.Armed (event setup state).state.peers seen

  pub hear-keeps : (message : Message) → Keeps ((heard_so kit) message)
  hear-keeps message setup state seen armed =
      let plain = plain_of setup in
      hear-moved plain (calm_servers kit setup) (λ now. kit.Armed now.peers seen) (armed-moves seen) (λ entry now empty. laws.armed plain (device_by setup (λ number. 0)) entry now seen) (number_of plain message state.world.net) message state armed

  pub takes-keep : (message : Message) → Keeps ((answer_taken kit) message)
  takes-keep message setup state seen armed = armed

  pub pushes-keep : Keeps (round_pushed kit)
  pushes-keep setup state seen armed =
      let plain = plain_of setup in
      let servers = calm_servers kit setup in
      let A : State Peers → Type 0 = λ now. kit.Armed now.peers seen in
      each-moved A (armed-moves seen) (take_pushed plain) (take_pushed-core plain) (plain.held state.world.core.answered) (push plain servers state).state (push_by-moved plain servers A (armed-moves seen) state.world.core.hand state armed)

  pub pushed-keep : Keeps (pushed kit)
  pushed-keep setup state seen armed =
      push_by-moved (plain_of setup) (calm_servers kit setup) (λ now. kit.Armed now.peers seen) (armed-moves seen) state.world.core.hand state armed

  pub items-keep : (items : List Message) → Keeps ((items_taken kit) items)
  items-keep items setup state seen armed =
      let plain = plain_of setup in
      each-moved (λ now. kit.Armed now.peers seen) (armed-moves seen) (take_pushed plain) (take_pushed-core plain) items state armed

  -- and what the disks hold
  pub hear-told : (place : ℕ) (message : Message) (setup : Setup) (state : State Peers) (seen : kit.Seen) → kit.Tells setup state seen → kit.Tells setup (hear (plain_of setup) (calm_servers kit setup) place message state).state seen
  hear-told place message setup state seen tells =
      hear-moved (plain_of setup) (calm_servers kit setup) (λ now. kit.Tells setup now seen) (λ old new. laws.moves setup old new seen) (λ entry now. laws.accepts setup (λ number. 0) entry now seen) place message state tells

  pub pushed-told : (setup : Setup) (state : State Peers) (seen : kit.Seen) → kit.Tells setup state seen → kit.Tells setup ((pushed kit) setup state).state seen
  pushed-told setup state seen tells =
      push_by-moved (plain_of setup) (calm_servers kit setup) (λ now. kit.Tells setup now seen) (λ old new. laws.moves setup old new seen) state.world.core.hand state tells

  -- no disk is asked
  pub core-rested : (setup : Setup) (old new : State Peers) → new.world.core ≡ old.world.core → new.peers ≡ old.peers → Rests (calm_servers kit setup) old new
  core-rested setup old new core peers = moved begun new core peers

  rested-moves : (setup : Setup) (start old new : State Peers) → new.world.core ≡ old.world.core → new.peers ≡ old.peers → Rests (calm_servers kit setup) start old → Rests (calm_servers kit setup) start new
  rested-moves setup start old new core peers rests = moved rests new core peers

  pub hear-rested : (place : ℕ) (message : Message) (setup : Setup) (state : State Peers) → Rests (calm_servers kit setup) state (hear (plain_of setup) (calm_servers kit setup) place message state).state
  hear-rested place message setup state =
      hear-moved (plain_of setup) (calm_servers kit setup) (Rests (calm_servers kit setup) state) (rested-moves setup state) (λ entry now empty rests. accepted rests entry empty) place message state begun

  pub pushed-rested : (setup : Setup) (state : State Peers) → Rests (calm_servers kit setup) state ((pushed kit) setup state).state
  pushed-rested setup state =
      push_by-moved (plain_of setup) (calm_servers kit setup) (Rests (calm_servers kit setup) state) (rested-moves setup state) state.world.core.hand state begun

  pub rests-both : (setup : Setup) (one two three : State Peers) → Rests (calm_servers kit setup) one two → Rests (calm_servers kit setup) two three → Rests (calm_servers kit setup) one three
  rests-both setup one two three first begun = first
  rests-both setup one two three first (moved {now = now} second new core peers) = moved (rests-both setup one two now first second) new core peers
  rests-both setup one two three first (accepted {now = now} second entry empty) = accepted (rests-both setup one two now first second) entry empty

  pub hear-rests : (message : Message) (setup : Setup) (state : State Peers) → (IsGood kit) setup state → StandsIn message state → Rests (calm_servers kit setup) state ((heard_so kit) message setup state).state
  hear-rests message setup state good stands =
      hear-rested (number_of (plain_of setup) message state.world.net) message setup state

  pub takes-rest : (message : Message) (setup : Setup) (state : State Peers) → (IsGood kit) setup state → any_state state → Rests (calm_servers kit setup) state ((answer_taken kit) message setup state).state
  takes-rest message setup state good so =
      core-rested setup state ((answer_taken kit) message setup state).state (take_answer-core (plain_of setup) message state.world) refl

  pub pushes-rest : (setup : Setup) (state : State Peers) → (IsGood kit) setup state → IsIdle state → Rests (calm_servers kit setup) state ((round_pushed kit) setup state).state
  pushes-rest setup state good idle =
      let plain = plain_of setup in
      each-moved (Rests (calm_servers kit setup) state) (rested-moves setup state) (take_pushed plain) (take_pushed-core plain) (plain.held state.world.core.answered) (push plain (calm_servers kit setup) state).state (pushed-rested setup state)

  -- for what works nothing the armed counts are left out
  pub state-told : (P : State Peers → Type 0) (world : Cluster Group) (seen : kit.Seen) → (HasStateOn kit) P world seen → (HasStateOf kit) P world
  state-told P world seen has = record { setup = has.setup; state = has.state; good = has.good; shows = has.shows; so = has.so }
