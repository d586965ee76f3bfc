-- What each step of the servers leaves, as one record, over any relation of worlds and lines that their steps keep; and a drain, by a number
-- that falls with each step.
use Rattle.std.proofs.Common.{◌≡◌, ℕ, zero, suc, ◌+◌, ◌-◌, ◌≤◌, ◌⊎◌, inl, inr, Bool, true, false, ◌&&◌, ◌||◌, nat_le, if◌then◌else◌, Option, Some, None, List, [], ◌∷◌, ◌++◌, length, refl, ap, sym, ◌∙◌, subst, arith, leb-false}
use Rattle.std.specs.List.{AllByRecursion}
use Rattle.disk_model.specs.Counts.{reaches, lowered}
use Rattle.script_lines.specs.declared.line.Server.{Server}
use Rattle.cluster_facts.specs.Types.{Entry}
use Rattle.cluster_facts.specs.Service.{Plain, IsPlain}
use Rattle.cluster_facts.specs.History.{Hand, Empty, Waiting, Applied, Ready, accepted, committed_by, time_of}
use Rattle.cluster_facts.specs.World.{World}
use Rattle.cluster_facts.specs.Facts.{IsSound}
use Rattle.cluster_facts.proofs.Words.{EndsIn-same}
use Rattle.cluster_events.specs.Lines.{Told, Committed, Refused, Stood, is_progress}
use Rattle.cluster_events.specs.declared.lines.ServerRole.{ServerRole}
use Rattle.cluster_events.specs.declared.lines.Standing.{Standing}
use Rattle.cluster_events.specs.declared.lines.ServerRole.TheVariants as role
use Rattle.cluster_events.specs.Outcomes.{Outcome, quietly}
use Rattle.cluster_events.specs.Cores.{with_core}
use Rattle.cluster_events.specs.Servers.{State, or_else, advance, after_step, advances, drain}
use Rattle.cluster_events.specs.Devices.{Device}
use Rattle.cluster_events.specs.Settling.{is_loud}
use Rattle.cluster_events.specs.Serving.{Stays}
use Rattle.cluster_events.proofs.Carrying.{Stays-same, Stays-both}
use Rattle.group_cluster.specs.Answering.{net_answering, lines_answering}
use Rattle.group_cluster.specs.Seats.{Stance, Out, Seat, Peers, is_standby, is_sent, is_took, any_seat, on_seats, Agree, WaitsFor, IsArmed, IsApart, AreNames, names_of, is_named, IsGroup}
use Rattle.group_cluster.specs.Falling.{taken_by, looked_at, commitment, looked, out_at, rejoined, felled, next_of, front_of, named, takes, count_fallen, all_stood, is_joining, is_fresh, caught_seats, caught_hand, caught_lines, taken_over_by}
use Rattle.group_cluster.specs.Group.{Turn, mirrored, confirmed, first_turn, step_by, mirror_group, ack_group, fails_in, falls, linked, work_done, work_as, work_by, group}
use Rattle.group_cluster.proofs.Answering.{answer-facts, answer-net}
use Rattle.group_cluster.proofs.Sounding.{sound-over, sound-hand, looked-accepts, caught-accepts}
use Rattle.group_cluster.proofs.Seating.{AllSeats, all-on, all-made, all-at, any-on, names-on, names-at, names-caught, by-names, few-seats, apart-on, apart-out, looked-seated, weights, weights-most, weights-on, weights-rejoined, Turned, is-turned, AreRoles, silent, stood, IsTurning, mirrored-turns, confirmed-turns, turned-all, none-turned, none-sent, none-took, linked-agrees, linked-standby, linked-weighs, rejoined-agrees, names-felled}

-- what is asked of a relation of worlds and lines, that the servers keep it
pub record Bears (plain : Plain) (R : World → World → List Told → Type 0) : Type 0 where
  pub same : (world : World) → R world world []
  pub both : (one two three : World) (first second : List Told) → R one two first → R two three second → R one three (second ++ first)
  pub stood : (world : World) (server : Server) (stands_as : ServerRole) → R world world (Stood server stands_as ∷ [])
  pub refused : (world : World) (text : List ℕ) (standing : Standing) → R world world (Refused text standing ∷ [])
  -- an entry of the time in force is accepted, applied by all and so committed, and confirmed
  pub taken : (world : World) (past : List Entry) (entry : Entry) → time_of entry ≡ world.now → R (with_core past Empty world) (with_core past (Waiting entry) world) []
  pub applied : (world : World) (past : List Entry) (entry : Entry) → IsSound plain (with_core past (Waiting entry) world) → R (with_core past (Waiting entry) world) (with_core past (Applied entry) world) (Committed (suc (length past)) entry ∷ [])
  pub confirmed : (world : World) (past : List Entry) (entry : Entry) → R (with_core past (Applied entry) world) (with_core past (Ready entry) world) []
  -- it is worked, or a standby takes over
  pub worked : (world : World) (past : List Entry) (entry : Entry) → R (with_core past (Ready entry) world) (record (with_core (entry ∷ past) Empty world) { net = net_answering plain past entry world.net }) (lines_answering plain past entry world.net)
  pub over : (world : World) (past : List Entry) (hand : Hand) → R (with_core past hand world) (with_core (committed_by past hand) Empty world) []

-- How many steps are left.

abbrev one_in : Hand → ℕ
one_in Empty = 0
one_in (Waiting entry) = 1
one_in (Applied entry) = 1
one_in (Ready entry) = 1

abbrev pub steps_left : State Peers → ℕ
steps_left state = weights state.peers.seats + one_in state.world.core.hand

taken-one : (seats : List Seat) (entry : Entry) → one_in (taken_by seats entry) ≡ 1
taken-one seats entry = elim (any_seat is_took seats) as (λ b. one_in (if b then Applied entry else Ready entry) ≡ 1) [ true ↦ refl | false ↦ refl ]

looked-one : (seats : List Seat) (hand : Hand) → one_in (looked_at seats hand) ≡ one_in hand
looked-one seats Empty = refl
looked-one seats (Waiting entry) = elim (any_seat is_sent seats) as (λ b. one_in (if b then Waiting entry else taken_by seats entry) ≡ 1) [ true ↦ refl | false ↦ taken-one seats entry ]
looked-one seats (Applied entry) = taken-one seats entry
looked-one seats (Ready entry) = refl

-- Lines are loud where some among them are.

pub loud-behind : (second first : List Told) → is_loud first ≡ true → is_loud (second ++ first) ≡ true
loud-behind [] first loud = loud
loud-behind (line ∷ second) first loud =
    let deeper = loud-behind second first loud in
    let cases : (b : Bool) → (b || true) ≡ true = elim [ true ↦ refl | false ↦ refl ] in
    ap (λ rest. is_progress line || rest) deeper ∙ cases (is_progress line)

pub loud-before : (second first : List Told) → is_loud second ≡ true → is_loud (second ++ first) ≡ true
loud-before [] first loud = cc
loud-before (line ∷ second) first loud =
    let deeper = loud-before second first in
    let cases : (b : Bool) → (b || is_loud second) ≡ true → (b || is_loud (second ++ first)) ≡ true = elim [ true ↦ λ e. refl | false ↦ λ e. deeper e ] in
    cases (is_progress line) loud

-- an entry waits
abbrev pub IsWaiting : Hand → Type 0
IsWaiting (Waiting entry) = Unit {0}
IsWaiting _ = ⊥

-- What a step leaves.

pub record Steps (size : ℕ) (plain : Plain) (R : World → World → List Told → Type 0) (old : State Peers) (outcome : Outcome (State Peers)) : Type 0 where
  pub good : IsGroup size outcome.state
  pub done : accepted outcome.state.world.core ≡ accepted old.world.core
  pub agents : outcome.state.world.agents ≡ old.world.agents
  pub stays : Stays old.world outcome.state.world
  pub idle : old.world.core.hand ≡ Empty → outcome.state.world ≡ old.world
  -- an entry that waits goes on waiting, or is committed
  pub tells : IsWaiting old.world.core.hand → IsWaiting outcome.state.world.core.hand ⊎ (is_loud outcome.told ≡ true)
  pub goes : IsSound plain old.world → IsSound plain outcome.state.world × R old.world outcome.state.world outcome.told

pub record Nears (size : ℕ) (plain : Plain) (R : World → World → List Told → Type 0) (old : State Peers) (outcome : Outcome (State Peers)) : Type 0 where
  pub steps : Steps size plain R old outcome
  pub fewer : suc (steps_left outcome.state) ≤ steps_left old

pub record Rests (size : ℕ) (plain : Plain) (R : World → World → List Told → Type 0) (old : State Peers) (outcome : Outcome (State Peers)) : Type 0 where
  pub steps : Steps size plain R old outcome
  pub empty : outcome.state.world.core.hand ≡ Empty

-- a state by its servers and its hand, so that each case computes
abbrev pub group_at : List Seat → Hand → State Peers → State Peers
group_at seats hand state = record {
  world = with_core state.world.core.answered hand state.world;
  peers = record state.peers { seats = seats };
}

stays-hand : (world : World) (past : List Entry) (one other : Hand) → Stays (with_core past one world) (with_core past other world)
stays-hand world past one other = record { net = λ message stands. stands; answered = EndsIn-same past; clients = refl; now = refl; places = refl }

short-of : (left calls : ℕ) (fails : Bool) → (fails || nat_le left calls) ≡ false → 1 ≤ left - calls
short-of left calls true not = cc
short-of left calls false not = let below = leb-false left calls not in omega arith

worked-armed : (standby : Bool) (seats : List Seat) (armed : Option ℕ) (calls : ℕ) (fails : Bool) → any_seat is_standby seats ≡ standby → (standby && (fails || reaches calls armed)) ≡ false → IsArmed armed seats → IsArmed (lowered calls armed) (on_seats linked seats)
worked-armed standby seats None calls fails is not armed = tt
worked-armed true seats (Some left) calls fails is not armed = (short-of left calls fails not, any-on is_standby linked linked-standby seats ∙ armed.1)
worked-armed false seats (Some left) calls fails is not armed = cc

-- it was so of the hand that the waiting entry was looked at
looked-tells : (seats : List Seat) (past : List Entry) (hand : Hand) (roles : List Told) → IsWaiting hand → IsWaiting (looked_at seats hand) ⊎ (is_loud (roles ++ commitment seats past hand) ≡ true)
looked-tells seats past (Waiting entry) roles waits =
    let line = Committed (suc (length past)) entry ∷ [] in
    elim (any_seat is_sent seats) as (λ b. IsWaiting (if b then Waiting entry else taken_by seats entry) ⊎ (is_loud (roles ++ (if b then [] else line)) ≡ true)) [
      | true ↦ inl tt
      | false ↦ inr (loud-behind roles line refl)
    ]
looked-tells seats past Empty roles waits = elim waits [ ]
looked-tells seats past (Applied entry) roles waits = elim waits [ ]
looked-tells seats past (Ready entry) roles waits = elim waits [ ]

looked-idle : (seats : List Seat) (past : List Entry) (hand : Hand) (world : World) → hand ≡ Empty → with_core past (looked_at seats hand) world ≡ with_core past hand world
looked-idle seats past Empty world empty = refl
looked-idle seats past (Waiting entry) world empty = cc
looked-idle seats past (Applied entry) world empty = cc
looked-idle seats past (Ready entry) world empty = cc

module _ (size : ℕ) (plain : Plain) (is_plain : IsPlain plain) (device : Device) (R : World → World → List Told → Type 0) (bears : Bears plain R) where
  abbrev pub Leaves : State Peers → Option (Outcome (State Peers)) → Type 0
  Leaves old None = Unit {0}
  Leaves old (Some outcome) = Nears size plain R old outcome

  -- Lines of roles.

  pub roles-go : (world : World) {told : List Told} → AreRoles told → R world world told
  roles-go world silent = bears.same world
  roles-go world (stood server) = bears.stood world server role.Standby

  pub all-stood-go : (old new : World) (stands_as : ServerRole) (servers : List Server) (told : List Told) → R old new told → R old new (all_stood stands_as servers told)
  all-stood-go old new stands_as [] told goes = goes
  all-stood-go old new stands_as (server ∷ servers) told goes =
      all-stood-go old new stands_as servers (Stood server stands_as ∷ told) (bears.both old new new told (Stood server stands_as ∷ []) goes (bears.stood new server stands_as))

  -- The hand is looked at again.

  taken-goes : (world : World) (past : List Entry) (seats : List Seat) (entry : Entry) → R (with_core past (Applied entry) world) (with_core past (taken_by seats entry) world) []
  taken-goes world past seats entry =
      elim (any_seat is_took seats) as (λ b. R (with_core past (Applied entry) world) (with_core past (if b then Applied entry else Ready entry) world) []) [
        | true ↦ bears.same (with_core past (Applied entry) world)
        | false ↦ bears.confirmed world past entry
      ]

  pub looked-goes : (world : World) (past : List Entry) (seats : List Seat) (hand : Hand) → IsSound plain (with_core past hand world) → R (with_core past hand world) (with_core past (looked_at seats hand) world) (commitment seats past hand)
  looked-goes world past seats Empty sound = bears.same (with_core past Empty world)
  looked-goes world past seats (Waiting entry) sound =
      let line = Committed (suc (length past)) entry ∷ [] in
      let old = with_core past (Waiting entry) world in
      elim (any_seat is_sent seats) as (λ b. R old (with_core past (if b then Waiting entry else taken_by seats entry) world) (if b then [] else line)) [
        | true ↦ bears.same old
        | false ↦ bears.both old (with_core past (Applied entry) world) (with_core past (taken_by seats entry) world) line [] (bears.applied world past entry sound) (taken-goes world past seats entry)
      ]
  looked-goes world past seats (Applied entry) sound = taken-goes world past seats entry
  looked-goes world past seats (Ready entry) sound = bears.same (with_core past (Ready entry) world)

  pub looked-keeps : (world : World) (past : List Entry) (seats : List Seat) (hand : Hand) (roles : List Told) → ((now : World) → R now now roles) → IsSound plain (with_core past hand world) → IsSound plain (with_core past (looked_at seats hand) world) × R (with_core past hand world) (with_core past (looked_at seats hand) world) (roles ++ commitment seats past hand)
  looked-keeps world past seats hand roles shows sound =
      let old = with_core past hand world in
      let new = with_core past (looked_at seats hand) world in
      (sound-hand plain past hand (looked_at seats hand) world (sym (looked-accepts past seats hand)) sound, bears.both old new new (commitment seats past hand) roles (looked-goes world past seats hand sound) (shows new))

  -- **a change of the servers that leaves fewer steps**
  pub looked-nears : (state : State Peers) (hand : Hand) (seats : List Seat) (roles : List Told) → AllSeats (Agree hand) seats → IsArmed state.peers.armed seats → IsApart state.peers.acting seats → AreNames size (names_of seats) → is_named state.peers.acting (names_of seats) ≡ true → suc (weights seats) ≤ weights state.peers.seats → ((now : World) → R now now roles) → Nears size plain R (group_at state.peers.seats hand state) (looked seats hand roles (group_at state.peers.seats hand state))
  looked-nears state hand seats roles agree armed apart names acts fewer shows =
      let past = state.world.core.answered in
      let seated = looked-seated seats hand agree in
      let same = looked-one seats hand in
      record {
        steps = record {
          good = record { agree = seated.agree; waits = seated.waits; armed = armed; apart = apart; names = names; acts = acts };
          done = looked-accepts past seats hand;
          agents = refl;
          stays = stays-hand state.world past hand (looked_at seats hand);
          idle = λ empty. looked-idle seats past hand state.world empty;
          tells = λ waits. looked-tells seats past hand roles waits;
          goes = λ sound. looked-keeps state.world past seats hand roles shows sound;
        };
        fewer = omega arith;
      }

  turned-armed : (armed : Option ℕ) (old new : List Seat) → (any_seat is_standby old ≡ true → any_seat is_standby new ≡ true) → IsArmed armed old → IsArmed armed new
  turned-armed None old new keep is = tt
  turned-armed (Some left) old new keep is = (is.0, keep is.1)

  -- a message comes
  pub step-leaves : (state : State Peers) (turn : Turn) → IsTurning state.world.core.hand turn → IsGroup size state → (found : Option (List Seat × List Told)) → first_turn turn state.peers.seats ≡ found → Leaves state (step_by found state)
  step-leaves state turn turns good None is = tt
  step-leaves state turn turns good (Some turned) is =
      let hand = state.world.core.hand in
      let seats = state.peers.seats in
      let I : Option (List Seat × List Told) → Type 0 = elim [ None ↦ Unit {0} | Some t ↦ Turned turn seats t.0 t.1 ] in
      let by : Turned turn seats turned.0 turned.1 = subst I is (is-turned turn seats) in
      let all = turned-all hand state.peers.acting turn turns by good.agree in
      looked-nears state hand turned.0 turned.1 all.agree (turned-armed state.peers.armed seats turned.0 all.standby good.armed) (all.apart good.apart) (subst (AreNames size) (sym all.names) good.names) (ap (is_named state.peers.acting) all.names ∙ good.acts) all.fewer (λ now. roles-go now all.roles)

  -- The active server goes down.

  caught-goes : (world : World) (past : List Entry) (catching : Bool) (hand : Hand) → IsSound plain (with_core past hand world) → R (with_core past hand world) (with_core past (caught_hand catching hand) world) (caught_lines catching past hand)
  caught-goes world past true Empty sound = bears.same (with_core past Empty world)
  caught-goes world past true (Waiting entry) sound = bears.applied world past entry sound
  caught-goes world past true (Applied entry) sound = bears.same (with_core past (Applied entry) world)
  caught-goes world past true (Ready entry) sound = bears.same (with_core past (Ready entry) world)
  caught-goes world past false hand sound = bears.same (with_core past hand world)

  -- what was committed is answered, and an entry that waited is gone unless a standby applied it
  pub over-sound : (world : World) (past : List Entry) (catching : Bool) (hand : Hand) → IsSound plain (with_core past hand world) → IsSound plain (with_core (committed_by past (caught_hand catching hand)) Empty world)
  over-sound world past catching hand sound =
      sound-over plain is_plain past (caught_hand catching hand) world (sound-hand plain past hand (caught_hand catching hand) world (sym (caught-accepts past catching hand)) sound)

  pub over-down : (world : World) (past : List Entry) (catching : Bool) (hand : Hand) (server : Server) → IsSound plain (with_core past hand world) → R (with_core past hand world) (with_core (committed_by past (caught_hand catching hand)) Empty world) (Stood server role.Down ∷ caught_lines catching past hand)
  over-down world past catching hand server sound =
      let old = with_core past hand world in
      let caught = with_core past (caught_hand catching hand) world in
      let new = with_core (committed_by past (caught_hand catching hand)) Empty world in
      let lines = caught_lines catching past hand in
      bears.both old new new lines (Stood server role.Down ∷ []) (bears.both old caught new lines [] (caught-goes world past catching hand sound) (bears.over world past (caught_hand catching hand))) (bears.stood new server role.Down)

  pub over-goes : (state : State Peers) (hand : Hand) (catching fresh : Bool) → IsSound plain (with_core state.world.core.answered hand state.world) → R (with_core state.world.core.answered hand state.world) (with_core (committed_by state.world.core.answered (caught_hand catching hand)) Empty state.world) (taken_over_by device fresh (caught_seats catching state.peers.seats) (caught_hand catching hand) (caught_lines catching state.world.core.answered hand) state).told
  over-goes state hand catching fresh sound =
      let world = state.world in
      let past = world.core.answered in
      let old = with_core past hand world in
      let new = with_core (committed_by past (caught_hand catching hand)) Empty world in
      let seats = caught_seats catching state.peers.seats in
      let count = count_fallen device fresh (committed_by past (caught_hand catching hand)) seats in
      let names = named (takes fresh) seats in
      let acting = next_of state.peers.acting count names in
      let down = Stood state.peers.acting role.Down ∷ caught_lines catching past hand in
      let fell = all-stood-go old new role.Down (front_of count names) down (over-down world past catching hand state.peers.acting sound) in
      let lines = all_stood role.Down (front_of count names) down in
      all-stood-go old new role.Standby (named is_joining seats) (Stood acting role.Active ∷ lines) (bears.both old new new lines (Stood acting role.Active ∷ []) fell (bears.stood new acting role.Active))

  row-all : (P : Server → Type 0) (test : Stance → Bool) (seats : List Seat) → AllByRecursion P (names_of seats) → AllByRecursion P (named test seats)
  row-all P test [] all = tt
  row-all P test (seat ∷ seats) all =
      let S : Bool → Type 0 = λ b. AllByRecursion P (if b then seat.server ∷ named test seats else named test seats) in
      elim (test seat.stance) as S [ true ↦ (all.0, row-all P test seats all.1) | false ↦ row-all P test seats all.1 ]

  next-all : (P : Server → Type 0) (last : Server) (count : ℕ) (row : List Server) → P last → AllByRecursion P row → P (next_of last count row)
  next-all P last zero [] is all = is
  next-all P last (suc count) [] is all = is
  next-all P last zero (server ∷ servers) is all = all.0
  next-all P last (suc count) (server ∷ servers) is all = next-all P last count servers is all.1

  -- the next one of a row is one of the servers
  next-named : (test : Stance → Bool) (last : Server) (count : ℕ) (seats : List Seat) → AreNames size (names_of seats) → is_named last (names_of seats) ≡ true → is_named (next_of last count (named test seats)) (names_of seats) ≡ true
  next-named test last count seats names is =
      let P : Server → Type 0 = λ server. is_named server (names_of seats) ≡ true in
      let N : List Server → Type 0 = λ ones. AllByRecursion (λ (server : Server). is_named server ones ≡ true) ones in
      next-all P last count (named test seats) is (row-all P test seats (by-names N (refl, (refl, tt)) (refl, (refl, (refl, tt))) size (names_of seats) names))

  names-over : (catching : Bool) (test : Stance → Bool) (count : ℕ) (acting : Server) (seats : List Seat) → names_of (out_at acting (on_seats rejoined (felled test count (caught_seats catching seats)))) ≡ names_of seats
  names-over catching test count acting seats =
      let caught = caught_seats catching seats in
      names-at acting (λ stance. Out) (on_seats rejoined (felled test count caught)) ∙ names-on rejoined (felled test count caught)
      ∙ names-felled test count caught ∙ names-caught catching seats

  -- **whoever takes over**
  pub over-good : (state : State Peers) (hand : Hand) (catching fresh : Bool) → AreNames size (names_of state.peers.seats) → is_named state.peers.acting (names_of state.peers.seats) ≡ true → IsGroup size (taken_over_by device fresh (caught_seats catching state.peers.seats) (caught_hand catching hand) (caught_lines catching state.world.core.answered hand) (group_at state.peers.seats hand state)).state
  over-good state hand catching fresh names acts =
      let past = state.world.core.answered in
      let seats = caught_seats catching state.peers.seats in
      let count = count_fallen device fresh (committed_by past (caught_hand catching hand)) seats in
      let acting = next_of state.peers.acting count (named (takes fresh) seats) in
      let same = names-over catching (takes fresh) count acting state.peers.seats in
      let caught = names-caught catching state.peers.seats in
      record {
        agree = all-at (Agree Empty) (Agree Empty) acting (λ stance. Out) (λ stance agree. tt) (λ stance agree. agree) (on_seats rejoined (felled (takes fresh) count seats)) (all-made (Agree Empty) rejoined rejoined-agrees (felled (takes fresh) count seats));
        waits = tt;
        armed = tt;
        apart = apart-out acting (on_seats rejoined (felled (takes fresh) count seats));
        names = subst (AreNames size) (sym same) names;
        acts = ap (is_named acting) (same ∙ sym caught) ∙ next-named (takes fresh) state.peers.acting count seats (subst (AreNames size) (sym caught) names) (ap (is_named state.peers.acting) caught ∙ acts);
      }

  over-nears : (state : State Peers) (entry : Entry) (fresh : Bool) → AreNames size (names_of state.peers.seats) → is_named state.peers.acting (names_of state.peers.seats) ≡ true → Nears size plain R (group_at state.peers.seats (Ready entry) state) (taken_over_by device fresh state.peers.seats (Ready entry) [] (group_at state.peers.seats (Ready entry) state))
  over-nears state entry fresh names acts =
      let past = state.world.core.answered in
      let count = count_fallen device fresh (entry ∷ past) state.peers.seats in
      let acting = next_of state.peers.acting count (named (takes fresh) state.peers.seats) in
      let none = weights-rejoined acting (felled (takes fresh) count state.peers.seats) in
      record {
        steps = record {
          good = over-good state (Ready entry) false fresh names acts;
          done = refl;
          agents = refl;
          stays = record { net = λ message stands. stands; answered = (entry ∷ [], refl); clients = refl; now = refl; places = refl };
          idle = λ empty. cc;
          tells = λ waits. elim waits [ ];
          goes = λ sound. (over-sound state.world past false (Ready entry) sound, over-goes state (Ready entry) false fresh sound);
        };
        fewer = omega arith;
      }

  -- The deeds of the entry in hand are done.

  done-nears : (state : State Peers) (entry : Entry) (calls : ℕ) (fails : Bool) → (any_seat is_standby state.peers.seats && (fails || reaches calls state.peers.armed)) ≡ false → IsGroup size (group_at state.peers.seats (Ready entry) state) → Nears size plain R (group_at state.peers.seats (Ready entry) state) (work_done plain calls entry (group_at state.peers.seats (Ready entry) state))
  done-nears state entry calls fails not good =
      let world = state.world in
      let past = world.core.answered in
      let seats = state.peers.seats in
      let same = weights-on linked linked-weighs seats in
      record {
        steps = record {
          good = record {
            agree = all-on (Agree (Ready entry)) (Agree Empty) linked (linked-agrees entry) seats good.agree;
            waits = tt;
            armed = worked-armed (any_seat is_standby seats) seats state.peers.armed calls fails refl not good.armed;
            apart = apart-on state.peers.acting linked refl seats good.apart;
            names = subst (AreNames size) (sym (names-on linked seats)) good.names;
            acts = ap (is_named state.peers.acting) (names-on linked seats) ∙ good.acts;
          };
          done = refl;
          agents = refl;
          stays = record { net = answer-net plain is_plain past entry world.net; answered = (entry ∷ [], refl); clients = refl; now = refl; places = refl };
          idle = λ empty. cc;
          tells = λ waits. elim waits [ ];
          goes = λ sound. (record { facts = answer-facts plain is_plain world.now past entry world.net world.agents sound.facts; listed = sound.listed }, bears.worked world past entry);
        };
        fewer = omega arith;
      }

  work-as : (state : State Peers) (entry : Entry) (fell : Bool) → falls device state.world.core.answered entry state.peers ≡ fell → IsGroup size (group_at state.peers.seats (Ready entry) state) → Nears size plain R (group_at state.peers.seats (Ready entry) state) (work_as plain device entry fell (group_at state.peers.seats (Ready entry) state))
  work-as state entry true is good = over-nears state entry (any_seat is_fresh state.peers.seats) good.names good.acts
  work-as state entry false is good =
      let past = state.world.core.answered in
      let calls = device.calls past entry in
      done-nears state entry calls (fails_in calls (device.fails (suc (length past)))) is good

  work-leaves : (state : State Peers) (hand : Hand) → IsGroup size (group_at state.peers.seats hand state) → Leaves (group_at state.peers.seats hand state) (work_by plain device hand (group_at state.peers.seats hand state))
  work-leaves state (Ready entry) good = work-as state entry (falls device state.world.core.answered entry state.peers) refl good
  work-leaves state Empty good = tt
  work-leaves state (Waiting entry) good = tt
  work-leaves state (Applied entry) good = tt

  -- One step, where there is one; and where there is none, no entry is in hand.

  abbrev pub StepLeaves : (State Peers → Option (Outcome (State Peers))) → Type 0
  StepLeaves step = (state : State Peers) → IsGroup size state → Leaves state (step state)

  pub mirror-steps : StepLeaves mirror_group
  mirror-steps state good =
      step-leaves state (mirrored state.world.core.answered) (mirrored-turns state.world.core.answered state.world.core.hand) good (first_turn (mirrored state.world.core.answered) state.peers.seats) refl

  pub ack-steps : StepLeaves ack_group
  ack-steps state good = step-leaves state confirmed (confirmed-turns state.world.core.hand) good (first_turn confirmed state.peers.seats) refl

  pub work-steps : StepLeaves (group plain device).work
  work-steps state good = work-leaves state state.world.core.hand good

  or-leaves : (old : State Peers) (one other : Option (Outcome (State Peers))) → Leaves old one → Leaves old other → Leaves old (or_else one other)
  or-leaves old None other first second = second
  or-leaves old (Some outcome) other first second = first

  advance-leaves : StepLeaves (advance (group plain device))
  advance-leaves state good =
      or-leaves state (mirror_group state) (or_else (ack_group state) (work_by plain device state.world.core.hand state)) (mirror-steps state good)
      (or-leaves state (ack_group state) (work_by plain device state.world.core.hand state) (ack-steps state good) (work-steps state good))

  or-none : (one other : Option (Outcome (State Peers))) → or_else one other ≡ None → (one ≡ None) × (other ≡ None)
  or-none None other none = (refl, none)
  or-none (Some outcome) other none = cc

  step-none : (found : Option (List Seat × List Told)) (state : State Peers) → step_by found state ≡ None → found ≡ None
  step-none None state none = refl
  step-none (Some turned) state none = cc

  stuck-by : (state : State Peers) (hand : Hand) → WaitsFor hand state.peers.seats → any_seat is_sent state.peers.seats ≡ false → any_seat is_took state.peers.seats ≡ false → work_by plain device hand state ≡ None → hand ≡ Empty
  stuck-by state Empty waits sent took none = refl
  stuck-by state (Waiting entry) waits sent took none = cc
  stuck-by state (Applied entry) waits sent took none = cc
  stuck-by state (Ready entry) waits sent took none = cc

  stuck : (state : State Peers) → IsGroup size state → advance (group plain device) state ≡ None → state.world.core.hand ≡ Empty
  stuck state good is =
      let past = state.world.core.answered in
      let seats = state.peers.seats in
      let first = or-none (mirror_group state) (or_else (ack_group state) (work_by plain device state.world.core.hand state)) is in
      let second = or-none (ack_group state) (work_by plain device state.world.core.hand state) first.1 in
      let sent = none-turned (mirrored past) is_sent (none-sent past) seats (step-none (first_turn (mirrored past) seats) state first.0) in
      let took = none-turned confirmed is_took none-took seats (step-none (first_turn confirmed seats) state second.0) in
      stuck-by state state.world.core.hand good.waits sent took second.1

  -- A drain.

  steps-none : (state : State Peers) → IsGroup size state → Steps size plain R state (quietly state)
  steps-none state good = record {
    good = good;
    done = refl;
    agents = refl;
    stays = Stays-same state.world;
    idle = λ empty. refl;
    tells = λ waits. inl waits;
    goes = λ sound. (sound, bears.same state.world);
  }

  steps-both : (old : State Peers) (first second : Outcome (State Peers)) → Steps size plain R old first → Steps size plain R first.state second → Steps size plain R old (record { state = second.state; told = second.told ++ first.told })
  steps-both old first second one two = record {
    good = two.good;
    done = two.done ∙ one.done;
    agents = two.agents ∙ one.agents;
    stays = Stays-both old.world first.state.world second.state.world one.stays two.stays;
    idle = λ empty. two.idle (ap (λ (world : World). world.core.hand) (one.idle empty) ∙ empty) ∙ one.idle empty;
    tells = λ waits. elim (one.tells waits) [
      | inl still ↦ elim (two.tells still) [ inl more ↦ inl more | inr loud ↦ inr (loud-before second.told first.told loud) ]
      | inr loud ↦ inr (loud-behind second.told first.told loud)
    ];
    goes = λ sound.
        let before = one.goes sound in
        let after = two.goes before.0 in
        (after.0, bears.both old.world first.state.world second.state.world first.told second.told before.1 after.1);
  }

  rests-by : (count : ℕ) (state : State Peers) (next : Option (Outcome (State Peers))) → advance (group plain device) state ≡ next → IsGroup size state → steps_left state ≤ suc count → Leaves state next → ((now : State Peers) → IsGroup size now → steps_left now ≤ count → Rests size plain R now (advances (group plain device) count now)) → Rests size plain R state (after_step (advances (group plain device) count) next state)
  rests-by count state None is good most leaves deeper = record { steps = steps-none state good; empty = stuck state good is }
  rests-by count state (Some outcome) is good most leaves deeper =
      let less = leaves.fewer in
      let rest = deeper outcome.state leaves.steps.good (omega arith) in
      record { steps = steps-both state outcome (advances (group plain device) count outcome.state) leaves.steps rest.steps; empty = rest.empty }

  none-left : (hand : Hand) (more : ℕ) → more + one_in hand ≤ 0 → hand ≡ Empty
  none-left Empty more none = refl
  none-left (Waiting entry) more none = absurd (omega arith)
  none-left (Applied entry) more none = absurd (omega arith)
  none-left (Ready entry) more none = absurd (omega arith)

  rests : (count : ℕ) (state : State Peers) → IsGroup size state → steps_left state ≤ count → Rests size plain R state (advances (group plain device) count state)
  rests zero state good most = record { steps = steps-none state good; empty = none-left state.world.core.hand (weights state.peers.seats) most }
  rests (suc count) state good most =
      rests-by count state (advance (group plain device) state) refl good most (advance-leaves state good) (λ now fine less. rests count now fine less)

  -- and then none is left to make

  none-goes : (state : State Peers) (next : Option (Outcome (State Peers))) → Leaves state next → steps_left state ≤ 0 → next ≡ None
  none-goes state None leaves most = refl
  none-goes state (Some outcome) leaves most = let less = leaves.fewer in absurd (omega arith)

  ends-by : (count : ℕ) (state : State Peers) (next : Option (Outcome (State Peers))) → advance (group plain device) state ≡ next → steps_left state ≤ suc count → Leaves state next → ((now : State Peers) → IsGroup size now → steps_left now ≤ count → advance (group plain device) (advances (group plain device) count now).state ≡ None) → advance (group plain device) (after_step (advances (group plain device) count) next state).state ≡ None
  ends-by count state None is most leaves deeper = is
  ends-by count state (Some outcome) is most leaves deeper =
      let less = leaves.fewer in
      deeper outcome.state leaves.steps.good (omega arith)

  ends : (count : ℕ) (state : State Peers) → IsGroup size state → steps_left state ≤ count → advance (group plain device) (advances (group plain device) count state).state ≡ None
  ends zero state good most = none-goes state (advance (group plain device) state) (advance-leaves state good) most
  ends (suc count) state good most =
      ends-by count state (advance (group plain device) state) refl most (advance-leaves state good) (λ now fine less. ends count now fine less)

  one-most : (hand : Hand) → one_in hand ≤ 1
  one-most Empty = omega arith
  one-most (Waiting entry) = omega arith
  one-most (Applied entry) = omega arith
  one-most (Ready entry) = omega arith

  -- **a drain comes to rest**
  pub group-rests : (state : State Peers) → IsGroup size state → Rests size plain R state (drain (group plain device) state)
  group-rests state good =
      let few = few-seats size state.peers.seats good.names in
      let most = weights-most state.peers.seats in
      let one = one-most state.world.core.hand in
      rests 13 state good (omega arith)

  -- **and has no step left**
  pub group-ends : (state : State Peers) → IsGroup size state → advance (group plain device) (drain (group plain device) state).state ≡ None
  group-ends state good =
      let few = few-seats size state.peers.seats good.names in
      let most = weights-most state.peers.seats in
      let one = one-most state.world.core.hand in
      ends 13 state good (omega arith)
