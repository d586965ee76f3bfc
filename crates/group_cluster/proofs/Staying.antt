-- Only `crash`, a work that fails and an armed count that comes to its end take a server down.
use Rattle.std.proofs.Common.{◌≡◌, ℕ, suc, inl, inr, ◌⊎◌, Bool, true, false, ◌&&◌, ◌||◌, nat_le, if◌then◌else◌, Option, Some, None, List, [], ◌∷◌, length, refl, sym, ◌∙◌, subst}
use Rattle.std.specs.Prelude.{IsSome}
use Rattle.std.proofs.lemmas.Bool.{and_right}
use Rattle.disk_model.specs.Counts.{reaches, lowered}
use Rattle.script_lines.specs.declared.line.Line.{Line}
use Rattle.script_lines.specs.declared.line.Line.TheVariants as line
use Rattle.script_lines.specs.declared.line.Server.{Server}
use Rattle.cluster_facts.specs.Types.{Entry}
use Rattle.cluster_facts.specs.Service.{Plain, IsPlain}
use Rattle.cluster_facts.specs.History.{Hand, Ready}
use Rattle.cluster_events.specs.Lines.{Told}
use Rattle.cluster_events.specs.Outcomes.{Outcome}
use Rattle.cluster_events.specs.Servers.{State}
use Rattle.cluster_events.specs.Devices.{Device}
use Rattle.cluster_events.specs.Running.{Shelf, Happens}
use Rattle.cluster_events.specs.Saying.{Says}
use Rattle.cluster_events.specs.Serving.{IsSteady}
use Rattle.cluster_events.proofs.Promised.{happens-kept}
use Rattle.group_cluster.specs.Seats.{Stance, Out, Owed, Linking, Standby, Clear, Sent, Took, Seat, Peers, IsGroup, is_up, same_server, stance_of, on_seats, any_seat, is_standby}
use Rattle.group_cluster.specs.Falling.{set_at, arm_by, can_join, restart_by, back_by}
use Rattle.group_cluster.specs.Group.{Turn, mirrored, confirmed, first_turn, step_by, sent_to, accept_group, linked, fails_in, falls, work_as, work_by, group}
use Rattle.group_cluster.specs.Standing.{StayUp, ServersStayUp}
use Rattle.group_cluster.proofs.Seating.{Turned, is-turned}
use Rattle.group_cluster.proofs.Seating.Turned.{here, there}
use Rattle.group_cluster.proofs.Serving.{group-stepped}
use Rattle.group_cluster.proofs.Saying.{says-borne, group-serves, group-says}
use Rattle.group_cluster.proofs.Also.{IsLasting, Both, serving-also, carried-also, stepped-also}

-- Servers that stay up, one beside another.

abbrev pub Stay : List Seat → List Seat → Type 0
Stay [] [] = Unit {0}
Stay (old ∷ olds) (new ∷ news) =
    ((new.server ≡ old.server) × (is_up old.stance ≡ true → is_up new.stance ≡ true)) × Stay olds news
Stay _ _ = ⊥

pub stay-same : (seats : List Seat) → Stay seats seats
stay-same [] = tt
stay-same (seat ∷ seats) = ((refl, λ up. up), stay-same seats)

pub stay-on : (change : Stance → Stance) → ((stance : Stance) → is_up stance ≡ true → is_up (change stance) ≡ true) → (old seats : List Seat) → Stay old seats → Stay old (on_seats change seats)
stay-on change keeps [] [] stay = tt
stay-on change keeps [] (seat ∷ seats) stay = elim stay [ ]
stay-on change keeps (old ∷ olds) [] stay = elim stay [ ]
stay-on change keeps (old ∷ olds) (seat ∷ seats) stay =
    ((stay.0.0, λ up. keeps seat.stance (stay.0.1 up)), stay-on change keeps olds seats stay.1)

pub stay-at : (server : Server) (change : Stance → Stance) → ((stance : Stance) → is_up stance ≡ true → is_up (change stance) ≡ true) → (old seats : List Seat) → Stay old seats → Stay old (set_at server change seats)
stay-at server change keeps [] [] stay = tt
stay-at server change keeps [] (seat ∷ seats) stay = elim stay [ ]
stay-at server change keeps (old ∷ olds) [] stay = elim stay [ ]
stay-at server change keeps (old ∷ olds) (seat ∷ seats) stay =
    let S : Bool → Type 0 = λ b. is_up (if b then change seat.stance else seat.stance) ≡ true in
    ((stay.0.0, λ up. elim (same_server server seat.server) as S [ true ↦ keeps seat.stance (stay.0.1 up) | false ↦ stay.0.1 up ]), stay-at server change keeps olds seats stay.1)

abbrev Raises : Turn → Type 0
Raises turn = (server : Server) (stance : Stance) (found : Stance × List Told) → turn server stance ≡ Some found → is_up found.0 ≡ true

stay-turned : (turn : Turn) → Raises turn → {seats new : List Seat} {told : List Told} → Turned turn seats new told → (old : List Seat) → Stay old seats → Stay old new
stay-turned turn raises (here seat found is) [] stay = elim stay [ ]
stay-turned turn raises (here seat found is) (old ∷ olds) stay =
    ((stay.0.0, λ up. raises seat.server seat.stance found is), stay.1)
stay-turned turn raises (there seat turned) [] stay = elim stay [ ]
stay-turned turn raises (there seat turned) (old ∷ olds) stay = (stay.0, stay-turned turn raises turned olds stay.1)

pub stay-stance : (old new : List Seat) → Stay old new → (server : Server) → is_up (stance_of server old) ≡ true → is_up (stance_of server new) ≡ true
stay-stance [] [] stay server up = up
stay-stance [] (new ∷ news) stay server up = elim stay [ ]
stay-stance (old ∷ olds) [] stay server up = elim stay [ ]
stay-stance (old ∷ olds) (new ∷ news) stay server up =
    let U : Bool → Stance → Stance → Type 0 = λ b one other. is_up (if b then one else other) ≡ true in
    let S : Bool → Type 0 = λ b. U b old.stance (stance_of server olds) → U b new.stance (stance_of server news) in
    let here : S (same_server server old.server) = elim (same_server server old.server) as S [ true ↦ stay.0.1 | false ↦ stay-stance olds news stay.1 server ] in
    subst (λ (name : Server). U (same_server server name) new.stance (stance_of server news)) (sym stay.0.0) (here up)

-- What comes to a server leaves it up.

mirrored-raises : (past : List Entry) → Raises (mirrored past)
mirrored-raises past server Out found is = cc
mirrored-raises past server Owed found is = cc
mirrored-raises past server (Linking true) found is = cc
mirrored-raises past server (Linking false) found is = cc
mirrored-raises past server (Standby on_way Sent keeps) found is = cc
mirrored-raises past server (Standby on_way Clear keeps) found is = cc
mirrored-raises past server (Standby on_way Took keeps) found is = cc

confirmed-raises : Raises confirmed
confirmed-raises server Out found is = cc
confirmed-raises server Owed found is = cc
confirmed-raises server (Linking sent) found is = cc
confirmed-raises server (Standby (Some number) mark keeps) found is = cc
confirmed-raises server (Standby None Took keeps) found is = cc
confirmed-raises server (Standby None Clear keeps) found is = cc
confirmed-raises server (Standby None Sent keeps) found is = cc

linked-up : (stance : Stance) → is_up stance ≡ true → is_up (linked stance) ≡ true
linked-up Out up = up
linked-up Owed up = refl
linked-up (Linking sent) up = refl
linked-up (Standby on_way mark keeps) up = refl

sent-up : (stance : Stance) → is_up stance ≡ true → is_up (sent_to stance) ≡ true
sent-up Out up = up
sent-up Owed up = up
sent-up (Linking sent) up = refl
sent-up (Standby on_way mark keeps) up = refl

lowered-none : (armed : Option ℕ) (calls : ℕ) → armed ≡ None → lowered calls armed ≡ None
lowered-none None calls none = refl
lowered-none (Some left) calls none = cc

-- The servers of some state stay up, and none is armed; or one that was armed is so no more.

pub record Stays (old now : Peers) : Type 0 where
  pub active : now.acting ≡ old.acting
  pub stay : Stay old.seats now.seats

abbrev Unarmed : Peers → Peers → Type 0
Unarmed old now = Stays old now × (now.armed ≡ None)

abbrev StaysOrUnarmed : Peers → Peers → Type 0
StaysOrUnarmed old now = Stays old now ⊎ (now.armed ≡ None)

stays-on : (change : Stance → Stance) → ((stance : Stance) → is_up stance ≡ true → is_up (change stance) ≡ true) → (old now : Peers) (armed : Option ℕ) → Stays old now → Stays old (record { acting = now.acting; seats = on_seats change now.seats; armed = armed })
stays-on change keeps old now armed stays = record { active = stays.active; stay = stay-on change keeps old.seats now.seats stays.stay }

abbrev InStep : (Peers → Type 0) → Option (Outcome (State Peers)) → Type 0
InStep P None = Unit {0}
InStep P (Some outcome) = P outcome.state.peers

in-step : (P : Peers → Type 0) (found : Option (Outcome (State Peers))) (outcome : Outcome (State Peers)) → found ≡ Some outcome → InStep P found → P outcome.state.peers
in-step P found outcome is holds = subst (InStep P) is holds

abbrev TurnedTo : Turn → List Seat → Option (List Seat × List Told) → Type 0
TurnedTo turn seats None = Unit {0}
TurnedTo turn seats (Some turned) = Turned turn seats turned.0 turned.1

turned-stays : (turn : Turn) → Raises turn → (old : Peers) (state : State Peers) (found : Option (List Seat × List Told)) → TurnedTo turn state.peers.seats found → Stays old state.peers → InStep (Stays old) (step_by found state)
turned-stays turn raises old state None turned stays = tt
turned-stays turn raises old state (Some found) turned stays =
    record { active = stays.active; stay = stay-turned turn raises turned old.seats stays.stay }

turned-armed : (state : State Peers) (found : Option (List Seat × List Told)) → InStep (λ now. now.armed ≡ state.peers.armed) (step_by found state)
turned-armed state None = tt
turned-armed state (Some found) = refl

both-step : (P Q R : Peers → Type 0) → ((now : Peers) → P now → Q now → R now) → (found : Option (Outcome (State Peers))) → InStep P found → InStep Q found → InStep R found
both-step P Q R both None p q = tt
both-step P Q R both (Some outcome) p q = both outcome.state.peers p q

step-unarmed : (turn : Turn) → Raises turn → (old : Peers) (state : State Peers) → Unarmed old state.peers → InStep (Unarmed old) (step_by (first_turn turn state.peers.seats) state)
step-unarmed turn raises old state is =
    let found = first_turn turn state.peers.seats in
    both-step (Stays old) (λ now. now.armed ≡ state.peers.armed) (Unarmed old) (λ now stays armed. (stays, armed ∙ is.1)) (step_by found state) (turned-stays turn raises old state found (is-turned turn state.peers.seats) is.0) (turned-armed state found)

step-armed : (turn : Turn) → Raises turn → (old : Peers) (state : State Peers) → StaysOrUnarmed old state.peers → InStep (StaysOrUnarmed old) (step_by (first_turn turn state.peers.seats) state)
step-armed turn raises old state (inl stays) =
    let found = first_turn turn state.peers.seats in
    both-step (Stays old) (λ now. now.armed ≡ state.peers.armed) (StaysOrUnarmed old) (λ now is armed. inl is) (step_by found state) (turned-stays turn raises old state found (is-turned turn state.peers.seats) stays) (turned-armed state found)
step-armed turn raises old state (inr none) =
    let found = first_turn turn state.peers.seats in
    both-step (λ now. now.armed ≡ state.peers.armed) (λ now. now.armed ≡ state.peers.armed) (StaysOrUnarmed old) (λ now armed same. inr (armed ∙ none)) (step_by found state) (turned-armed state found) (turned-armed state found)

module _ (plain : Plain) (device : Device) (old : Peers) where
  never-falls : (armed : Option ℕ) (standby : Bool) (fails : Bool) (calls : ℕ) → armed ≡ None → fails ≡ false → (standby && (fails || reaches calls armed)) ≡ false
  never-falls None true false calls none calm = refl
  never-falls None false false calls none calm = refl
  never-falls None standby true calls none calm = cc
  never-falls (Some left) standby fails calls none calm = cc

  none-fails : (fails : ℕ) (calls : ℕ) → fails ≡ 0 → fails_in calls fails ≡ false
  none-fails fails calls none = subst (λ n. (nat_le 1 calls && nat_le 1 n) ≡ false) (sym none) (and_right (nat_le 1 calls) false refl)

  work-unarmed : ((number : ℕ) → device.fails number ≡ 0) → (state : State Peers) (hand : Hand) → state.world.core.hand ≡ hand → Unarmed old state.peers → InStep (Unarmed old) (work_by plain device hand state)
  work-unarmed never state (Ready entry) ready is =
      let past = state.world.core.answered in
      let calls = device.calls past entry in
      let calm = never-falls state.peers.armed (any_seat is_standby state.peers.seats) (fails_in calls (device.fails (suc (length past)))) calls is.1 (none-fails (device.fails (suc (length past))) calls (never (suc (length past)))) in
      let S : Bool → Type 0 = λ fell. Unarmed old (work_as plain device entry fell state).state.peers in
      let done : S false = (stays-on linked linked-up old state.peers (lowered calls state.peers.armed) is.0, lowered-none state.peers.armed calls is.1) in
      subst S (sym calm) done
  work-unarmed never state _ ready is = tt

  work-as-armed : (state : State Peers) (entry : Entry) (fell : Bool) → StaysOrUnarmed old state.peers → StaysOrUnarmed old (work_as plain device entry fell state).state.peers
  work-as-armed state entry true is = inr refl
  work-as-armed state entry false (inl stays) = inl (stays-on linked linked-up old state.peers (lowered (device.calls state.world.core.answered entry) state.peers.armed) stays)
  work-as-armed state entry false (inr none) = inr (lowered-none state.peers.armed (device.calls state.world.core.answered entry) none)

  work-armed : (state : State Peers) (hand : Hand) → StaysOrUnarmed old state.peers → InStep (StaysOrUnarmed old) (work_by plain device hand state)
  work-armed state (Ready entry) is = work-as-armed state entry (falls device state.world.core.answered entry state.peers) is
  work-armed state _ is = tt

  unarmed-lasts : ((number : ℕ) → device.fails number ≡ 0) → IsLasting (group plain device) (Unarmed old)
  unarmed-lasts never = record {
    accept = λ entry state is. (stays-on sent_to sent-up old state.peers state.peers.armed is.0, is.1);
    mirror = λ state outcome found is. in-step (Unarmed old) ((group plain device).mirror state) outcome found (step-unarmed (mirrored state.world.core.answered) (mirrored-raises state.world.core.answered) old state is);
    ack = λ state outcome found is. in-step (Unarmed old) ((group plain device).ack state) outcome found (step-unarmed confirmed confirmed-raises old state is);
    work = λ state outcome found is. in-step (Unarmed old) ((group plain device).work state) outcome found (work-unarmed never state state.world.core.hand refl is);
  }

  accept-armed : (entry : Entry) (state : State Peers) → StaysOrUnarmed old state.peers → StaysOrUnarmed old (accept_group entry state).state.peers
  accept-armed entry state (inl stays) = inl (stays-on sent_to sent-up old state.peers state.peers.armed stays)
  accept-armed entry state (inr none) = inr none

  armed-lasts : IsLasting (group plain device) (StaysOrUnarmed old)
  armed-lasts = record {
    accept = accept-armed;
    mirror = λ state outcome found is. in-step (StaysOrUnarmed old) ((group plain device).mirror state) outcome found (step-armed (mirrored state.world.core.answered) (mirrored-raises state.world.core.answered) old state is);
    ack = λ state outcome found is. in-step (StaysOrUnarmed old) ((group plain device).ack state) outcome found (step-armed confirmed confirmed-raises old state is);
    work = λ state outcome found is. in-step (StaysOrUnarmed old) ((group plain device).work state) outcome found (work-armed state state.world.core.hand is);
  }

-- Each line.

stays-up : (old new : Peers) → Stays old new → StayUp old new
stays-up old new stays = record { active = stays.active; others = stay-stance old.seats new.seats stays.stay }

stays-still : (old : Peers) → Stays old old
stays-still old = record { active = refl; stay = stay-same old.seats }

still : (old : Peers) → StayUp old old
still old = stays-up old old (stays-still old)

-- what the steps of the servers keep, every line keeps that is none on failing servers
module _ (size : ℕ) (plain : Plain) (is_plain : IsPlain plain) (shelf : Shelf) (device : Device) (Also : Peers → Type 0) (lasting : IsLasting (group plain device) Also) where
  also-kept : (next : Line) (state : State Peers) (outcome : Outcome (State Peers)) → IsSteady plain (IsGroup size) state → Also state.peers → Happens plain shelf (group plain device) next state outcome → Also outcome.state.peers
  also-kept next state outcome steady also happens =
      let servers = group plain device in
      let both = Both plain servers (IsGroup size) Also lasting in
      let serving = serving-also plain servers (IsGroup size) Also lasting (group-serves size plain device is_plain) in
      let saying = carried-also plain servers (IsGroup size) Also lasting (Says plain) (group-says size plain device is_plain) in
      let stepped = stepped-also plain servers (IsGroup size) Also lasting (Says plain) (group-stepped size plain is_plain device (Says plain) (says-borne plain)) in
      (happens-kept plain is_plain shelf servers both serving saying stepped next state outcome (record { sound = steady.sound; good = (steady.good, also) }) happens).0.good.1

none-some : (armed : Option ℕ) → armed ≡ None → IsSome armed → ⊥
none-some None none some = let no : false ≡ true = some in absurd cc
none-some (Some left) none some = absurd cc

module _ (size : ℕ) (plain : Plain) (is_plain : IsPlain plain) (shelf : Shelf) (device : Device) (never : (number : ℕ) → device.fails number ≡ 0) where
  others-stay : (armed : Option ℕ) (next : Line) (state : State Peers) (outcome : Outcome (State Peers)) → state.peers.armed ≡ armed → IsSteady plain (IsGroup size) state → Happens plain shelf (group plain device) next state outcome → (IsSome armed → IsSome outcome.state.peers.armed) → StayUp state.peers outcome.state.peers
  others-stay None next state outcome armed steady happens short =
      let after = also-kept size plain is_plain shelf device (Unarmed state.peers) (unarmed-lasts plain device state.peers never) next state outcome steady (stays-still state.peers, armed) happens in
      stays-up state.peers outcome.state.peers after.0
  others-stay (Some left) next state outcome armed steady happens short =
      let after : StaysOrUnarmed state.peers outcome.state.peers = also-kept size plain is_plain shelf device (StaysOrUnarmed state.peers) (armed-lasts plain device state.peers) next state outcome steady (inl (stays-still state.peers)) happens in
      elim after [
        | inl stays ↦ stays-up state.peers outcome.state.peers stays
        | inr none ↦ absurd (none-some outcome.state.peers.armed none (short refl))
      ]

arm-stays : (server : Server) (count : ℕ) (may : Bool) (state : State Peers) → StayUp state.peers (arm_by server count may state).state.peers
arm-stays server count true state = record { active = refl; others = λ server up. up }
arm-stays server count false state = still state.peers

back-up : (hand : Hand) (stance : Stance) → is_up stance ≡ true → is_up (back_by hand stance) ≡ true
back-up hand Out up = cc
back-up hand Owed up = refl
back-up hand (Linking sent) up = refl
back-up hand (Standby on_way mark keeps) up = refl

restart-stays : (server : Server) (back : Bool) (state : State Peers) → StayUp state.peers (restart_by server back state).state.peers
restart-stays server true state =
    let hand = state.world.core.hand in
    stays-up state.peers _ (record { active = refl; stay = stay-at server (back_by hand) (back-up hand) state.peers.seats state.peers.seats (stay-same state.peers.seats) })
restart-stays server false state = still state.peers

pub servers-stay-up : ServersStayUp
servers-stay-up size plain is_plain shelf device never (line.Crash server) state outcome steady calm happens short = cc
servers-stay-up size plain is_plain shelf device never (line.Arm server count) state outcome steady calm happens short =
    subst (λ (o : Outcome (State Peers)). StayUp state.peers o.state.peers) (sym happens.1) (arm-stays server count (same_server server state.peers.acting && any_seat is_standby state.peers.seats) state)
servers-stay-up size plain is_plain shelf device never line.Disarm state outcome steady calm happens short =
    subst (λ (o : Outcome (State Peers)). StayUp state.peers o.state.peers) (sym happens) (record { active = refl; others = λ server up. up })
servers-stay-up size plain is_plain shelf device never (line.Restart server) state outcome steady calm happens short =
    subst (λ (o : Outcome (State Peers)). StayUp state.peers o.state.peers) (sym happens) (restart-stays server (can_join server state.peers) state)
servers-stay-up size plain is_plain shelf device never next state outcome steady calm happens short =
    others-stay size plain is_plain shelf device never state.peers.armed next state outcome refl steady happens short
