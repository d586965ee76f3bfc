-- What a takeover comes to by the definitions: the servers, the lines, the files and the counts.
use Rattle.std.proofs.Common.{◌≡◌, ℕ, zero, suc, ◌+◌, ◌≤◌, inl, inr, Bool, true, false, ◌||◌, if◌then◌else◌, is_some, Option, Some, None, option_map, List, [], ◌∷◌, ◌++◌, length, refl, ap, sym, ◌∙◌, subst, arith, le_refl, le_trans, append_assoc}
use Rattle.std.specs.List.{AllByRecursion}
use Rattle.ais_values.specs.Causes.{Rose}
use Rattle.disk_model.specs.Counts.{lowered}
use Rattle.disk_model.specs.Disk.{Files}
use Rattle.disk_model.specs.Seen.{DiskSeen}
use Rattle.disk_model.specs.declared.tally.Tally.{Tally}
use Rattle.wire.specs.declared.message.Message.{Message}
use Rattle.script_lines.specs.declared.line.Server.{Server}
use Rattle.plain_service.specs.Setups.{Setup}
use Rattle.plain_service.specs.Legal.{IsHistory, CanFollow}
use Rattle.plain_service.specs.Values.{saved_of}
use Rattle.service_fit.proofs.HistoryFit.{history-fit}
use Rattle.cluster_facts.specs.Types.{Entry}
use Rattle.cluster_facts.specs.History.{Hand, Empty, Waiting, Applied, accepted_by, committed_by}
use Rattle.cluster_events.specs.Lines.{Stood}
use Rattle.cluster_events.specs.declared.lines.ServerRole.TheVariants as role
use Rattle.cluster_events.specs.Servers.{State}
use Rattle.event_text.specs.Texts.{printed}
use Rattle.mirror.specs.declared.heard.Role.{Role}
use Rattle.mirror.specs.declared.heard.Role.TheVariants.{Active, Standby as StandsBy, Joining, Down}
use Rattle.mirror.specs.declared.state.NodeState.{NodeState as Node}
use Rattle.mirror.specs.Replicas.{down}
use Rattle.mirror.specs.Pairing.{alone}
use Rattle.group_cluster.specs.Seats as defined
use Rattle.group_cluster.specs.Seats.{Clear, Sent, Took, Stance, Out, Owed, Linking, Standby, Peers, AreNames, IsApart, any_seat, is_named, count_seats, on_seats, names_of, same_server, is_standby}
use Rattle.group_cluster.specs.Falling.{catches, caught, caught_seats, caught_hand, caught_lines, is_fresh, is_joining, takes, felled, named, front_of, next_of, count_fallen, all_stood, taken_over}
use Rattle.group_cluster.specs.Ended.{left_out, ended}
use Rattle.group_cluster.proofs.Seating.{any-none, same-turned, size-is}
use Rattle.cluster_rounds.specs.Kits.{device_by}
use Rattle.cluster_rounds.specs.Worlds.{IsGood, LeavesFiles}
use Rattle.cluster_rounds.specs.Broken.{LeavesBetween}
use Rattle.group_servers.specs.declared.group.Seat.{Seat}
use Rattle.group_servers.specs.declared.group.Group.{Group}
use Rattle.group_servers.specs.Caught.{CanCatch, CanCatchBy, Catches, AllCatch}
use Rattle.group_servers.specs.Delivered.{CanTake, CanTakeBy}
use Rattle.group_servers.specs.Falls.{all_wayless, wayless, IsFitNode, IsFitSeat, TookOver, AllFell, FellPartly, Exchanges}
use Rattle.group_servers.specs.Followed.{IsGoodGroup, GoesOnFrom, row_calls}
use Rattle.group_servers.specs.GroupKit.{FellGroup, group_kit}
use Rattle.group_servers.specs.GroupNodes.{node_by, standby_by, seat_by, seats_by, bare_by, bare, servers_by}
use Rattle.group_servers.specs.Lines.{takers, joiners, over_lines, fallen_lines}
use Rattle.group_servers.specs.Rejoins.{made_of}
use Rattle.group_servers.specs.Tried.{Tried}
use Rattle.group_servers.specs.Tries as code
use Rattle.group_servers.specs.Tries.{Tries, TriesPartly}
use Rattle.group_servers.specs.Tries.TriesPartly.{passes_by, fails_first, lacks}
use Rattle.group_servers.specs.Tries.Tries.{nobody, passes, fails, takes_over}
use Rattle.group_servers.specs.GroupCounts.{count_up}
use Rattle.group_servers.proofs.FallLines.{takers-named, takers-wayless, joiners-named, joiners-wayless, over-printed, fallen-printed}
use Rattle.group_servers.proofs.FallShows.{TellsCount, fall-leads, fall-count, fall-shows, fall-up}
use Rattle.group_servers.proofs.UpSteps.{ended-up}
use Rattle.group_servers.proofs.SeatSteps.{at}
use Rattle.group_servers.proofs.TriedFiles.{all-follow, all-make, fall-leaves}
use Rattle.group_servers.proofs.TriedSteps.{felled-passes, felled-fails, tried-so}

-- The seats without what is on the way.

pub wayless-bare : (setup : Setup) (past : List Entry) (hand : Hand) (owns : List defined.Seat) → all_wayless (seats_by setup past hand owns) ≡ bare setup past hand owns
wayless-bare setup past hand [] = refl
wayless-bare setup past hand (own ∷ owns) = ap (λ rest. bare_by setup past hand own ∷ rest) (wayless-bare setup past hand owns)

-- once all standbys caught up
caught-one : (setup : Setup) (past : List Entry) (entry : Entry) (server : Server) (stance : Stance) (new : Seat) → IsHistory setup past → CanFollow setup entry past → Catches (seat_by setup past (Waiting entry) (at server stance)) new → wayless new ≡ bare_by setup past (Applied entry) (at server (caught stance))
caught-one setup past entry server Out new history can is = ap wayless is
caught-one setup past entry server Owed new history can is = ap wayless is
caught-one setup past entry server (Linking true) new history can is = ap wayless is
caught-one setup past entry server (Linking false) new history can is = ap wayless is
caught-one setup past entry server (Standby on_way Clear keeps) new history can is = ap wayless is
caught-one setup past entry server (Standby on_way Took keeps) new history can is = ap wayless is
caught-one setup past entry server (Standby on_way Sent keeps) new history can is =
    let node : new.node ≡ standby_by setup (entry ∷ past) true = is.2.1 setup past history can refl in
    ap wayless is.3 ∙ ap (λ (n : Node). record { server = server; node = n; link = []; back = [] }) node

pub caught-bare : (setup : Setup) (past : List Entry) (entry : Entry) (owns : List defined.Seat) (news : List Seat) → IsHistory setup past → CanFollow setup entry past → AllCatch (seats_by setup past (Waiting entry) owns) news → all_wayless news ≡ bare setup past (Applied entry) (on_seats caught owns)
caught-bare setup past entry [] [] history can is = refl
caught-bare setup past entry [] (new ∷ news) history can is = elim is [ ]
caught-bare setup past entry (own ∷ owns) [] history can is = elim is [ ]
caught-bare setup past entry (own ∷ owns) (new ∷ news) history can is =
    λ i. caught-one setup past entry own.server own.stance new history can is.0 i ∷ caught-bare setup past entry owns news history can is.1 i

-- What is asked of the seats.

catch-by : (one : Role) (link : List Message) (node : Node) → CanTakeBy link node → CanCatchBy one link node
catch-by StandsBy [] node can = tt
catch-by StandsBy (message ∷ link) node can = can
catch-by Active link node can = tt
catch-by Joining link node can = tt
catch-by Down link node can = tt

pub all-catch : (seats : List Seat) → AllByRecursion CanTake seats → AllByRecursion CanCatch seats
all-catch [] can = tt
all-catch (seat ∷ seats) can = (catch-by seat.node.replica.role seat.link seat.node can.0, all-catch seats can.1)

-- histories that standbys may have
fit-one : (setup : Setup) (past : List Entry) (hand : Hand) (stance : Stance) → IsHistory setup past → IsHistory setup (accepted_by past hand) → IsFitNode (node_by setup past hand stance)
fit-one setup past hand Out one other = (tt, refl)
fit-one setup past hand Owed one other = (tt, refl)
fit-one setup past hand (Linking sent) one other = (tt, refl)
fit-one setup past hand (Standby on_way Clear keeps) one other = (history-fit setup (accepted_by past hand) other, refl)
fit-one setup past hand (Standby on_way Sent keeps) one other = (history-fit setup past one, refl)
fit-one setup past hand (Standby on_way Took keeps) one other = (history-fit setup (accepted_by past hand) other, refl)

all-fit : (setup : Setup) (past : List Entry) (hand : Hand) (owns : List defined.Seat) → IsHistory setup past → IsHistory setup (accepted_by past hand) → AllByRecursion IsFitSeat (bare setup past hand owns)
all-fit setup past hand [] one other = tt
all-fit setup past hand (own ∷ owns) one other = (fit-one setup past hand own.stance one other, all-fit setup past hand owns one other)

fit-wayless : (seats : List Seat) → AllByRecursion IsFitSeat (all_wayless seats) → AllByRecursion IsFitSeat seats
fit-wayless [] fit = tt
fit-wayless (seat ∷ seats) fit = (fit.0, fit-wayless seats fit.1)

pub fit-seats : (setup : Setup) (past : List Entry) (hand : Hand) (owns : List defined.Seat) (seats : List Seat) → IsHistory setup past → IsHistory setup (accepted_by past hand) → all_wayless seats ≡ bare setup past hand owns → AllByRecursion IsFitSeat seats
fit-seats setup past hand owns seats one other are =
    fit-wayless seats (subst (λ s. AllByRecursion IsFitSeat s) (sym are) (all-fit setup past hand owns one other))

-- The disk while they tried.

pub tries-unarmed : (fresh : Bool) (seats news : List Seat) (found : Option ℕ) (start left : DiskSeen) → start.tally.armed ≡ None → Tries fresh seats news found start left → left.tally.armed ≡ None
tries-unarmed fresh seats news found start left unarmed nobody = unarmed
tries-unarmed fresh seats news found start left unarmed (passes {found = place} seat not rest) = tries-unarmed fresh _ _ place start left unarmed rest
tries-unarmed fresh seats news found start left unarmed (fails {found = place} {mid = mid} seat fallen it one rest) = tries-unarmed fresh _ _ place mid left one.3 rest
tries-unarmed fresh seats news found start left unarmed (takes_over seat now it one) = one.2

pub partly-unarmed : (fresh : Bool) (seats : List Seat) (start left : DiskSeen) → start.tally.armed ≡ None → TriesPartly fresh seats start left → left.tally.armed ≡ None
partly-unarmed fresh seats start left unarmed (passes_by seat not rest) = partly-unarmed fresh _ start left unarmed rest
partly-unarmed fresh seats start left unarmed (fails_first {mid = mid} seat fallen it one rest) = partly-unarmed fresh _ mid left one.3 rest
partly-unarmed fresh seats start left unarmed (lacks seat it one) = ap (λ (t : Tally). t.armed) one.3 ∙ ap (lowered one.0) unarmed

-- where memory was wanting as one took over, no server is armed, and no count is left on the disk
pub partly-armed : {n : ℕ} (fresh : Bool) (old new : Group n) (held left : DiskSeen) → FellPartly fresh old new held left → new.armed ≡ is_some left.tally.armed
partly-armed fresh old new held left partly = partly.unarmed ∙ ap is_some (sym none)
  where
    none : left.tally.armed ≡ None
    none = elim partly.part [
      | inl part ↦ partly-unarmed fresh (all_wayless old.seats) partly.start left partly.started.armed part
      | inr over ↦ tries-unarmed fresh (all_wayless old.seats) over.0 (Some over.1) partly.start left partly.started.armed over.2
    ]

-- the last fault of those that all failed, and those before it
pub record LastFell (count : ℕ) (start left : DiskSeen) : Type 0 where
  pub between : ℕ
  pub before_it : start.faults ≤ between
  pub first : 2 ≤ count → Rose start.faults between
  pub behind_it : between ≤ left.faults
  pub rose : Rose between left.faults

last-more : (count : ℕ) (start mid left : DiskSeen) → start.faults ≤ mid.faults → Rose start.faults mid.faults → (count ≡ 0 → left.faults ≡ mid.faults) → (1 ≤ count → LastFell count mid left) → LastFell (suc count) start left
last-more zero start mid left later rose none deeper = record {
  between = start.faults;
  before_it = le_refl start.faults;
  first = λ more. absurd (omega arith);
  behind_it = subst (λ (n : ℕ). start.faults ≤ n) (sym (none refl)) later;
  rose = subst (λ (n : ℕ). Rose start.faults n) (sym (none refl)) rose;
}
last-more (suc count) start mid left later rose none deeper =
    let last = deeper (omega arith) in
    record {
      between = last.between;
      before_it = le_trans later last.before_it;
      first = λ more. le_trans rose last.before_it;
      behind_it = last.behind_it;
      rose = last.rose;
    }

further-none : (found : Option ℕ) → option_map (λ place. place + 1) found ≡ None → found ≡ None
further-none None is = refl
further-none (Some place) is = cc

takers-count : (fresh : Bool) (seat : Seat) (seats : List Seat) (b : Bool) → code.takes fresh seat ≡ b → takers fresh (seat ∷ seats) ≡ (if b then seat.server ∷ takers fresh seats else takers fresh seats)
takers-count fresh seat seats b is = ap (λ c. if c then seat.server ∷ takers fresh seats else takers fresh seats) is

-- what is told of so many that all failed
pub record AllTried (names : List Server) (start left : DiskSeen) : Type 0 where
  pub none : length names ≡ 0 → left.faults ≡ start.faults
  pub last : 1 ≤ length names → LastFell (length names) start left

pub tries-last : (fresh : Bool) (seats news : List Seat) (found : Option ℕ) (start left : DiskSeen) → found ≡ None → Tries fresh seats news found start left → AllTried (takers fresh seats) start left
tries-last fresh seats news found start left is nobody = record { none = λ same. refl; last = λ some. absurd (omega arith) }
tries-last fresh seats news found start left is (passes {seats = others} {found = place} seat not rest) =
    let deeper = tries-last fresh others _ place start left (further-none place is) rest in
    subst (λ (names : List Server). AllTried names start left) (sym (takers-count fresh seat others false not)) deeper
tries-last fresh seats news found start left is (fails {seats = others} {found = place} {mid = mid} seat fallen it one rest) =
    let deeper = tries-last fresh others _ place mid left (further-none place is) rest in
    subst (λ (names : List Server). AllTried names start left) (sym (takers-count fresh seat others true it)) (record {
      none = λ same. absurd (omega arith);
      last = λ some. last-more (length (takers fresh others)) start mid left one.4 one.5 deeper.none deeper.last;
    })
tries-last fresh seats news found start left is (takes_over seat now it one) = cc

-- Where all failed.

left-one : (setup : Setup) (past history : List Entry) (hand : Hand) (server : Server) (stance : Stance) → is_standby stance ≡ false → bare_by setup past hand (at server stance) ≡ bare_by setup history Empty (at server (left_out stance))
left-one setup past history hand server Out not = refl
left-one setup past history hand server Owed not = refl
left-one setup past history hand server (Linking sent) not = refl
left-one setup past history hand server (Standby on_way mark keeps) not = cc

-- each standby is down
felled-by : (setup : Setup) (past history : List Entry) (hand : Hand) (own : defined.Seat) (owns : List defined.Seat) (count : ℕ) (b : Bool) → is_standby own.stance ≡ b → count ≡ (if b then 1 else 0) + count_seats is_standby owns → ((less : ℕ) → less ≡ count_seats is_standby owns → bare setup past hand (felled is_standby less owns) ≡ bare setup history Empty (on_seats left_out owns)) → bare setup past hand (felled is_standby count (own ∷ owns)) ≡ bare setup history Empty (on_seats left_out (own ∷ owns))
felled-by setup past history hand own owns count false is many deeper =
    ap (bare setup past hand) (felled-passes is_standby count own owns is)
    ∙ (λ i. left-one setup past history hand own.server own.stance is i ∷ deeper count (many ∙ none-more (count_seats is_standby owns)) i)
  where
    none-more : (k : ℕ) → 0 + k ≡ k
    none-more k = omega arith
felled-by setup past history hand own owns zero true is many deeper = absurd (no (count_seats is_standby owns) many)
  where
    no : (k : ℕ) → 0 ≡ 1 + k → ⊥
    no k same = absurd (omega arith)
felled-by setup past history hand own owns (suc count) true is many deeper =
    ap (bare setup past hand) (felled-fails is_standby count own owns is)
    ∙ (λ i. bare_by setup history Empty (at own.server (out own.stance is i)) ∷ deeper count (one-less count (count_seats is_standby owns) many) i)
  where
    one-less : (k m : ℕ) → suc k ≡ 1 + m → k ≡ m
    one-less k m same = omega arith

    out : (stance : Stance) → is_standby stance ≡ true → Out ≡ left_out stance
    out Out so = cc
    out Owed so = cc
    out (Linking sent) so = cc
    out (Standby on_way mark keeps) so = refl

felled-all : (setup : Setup) (past history : List Entry) (hand : Hand) (owns : List defined.Seat) (count : ℕ) → count ≡ count_seats is_standby owns → bare setup past hand (felled is_standby count owns) ≡ bare setup history Empty (on_seats left_out owns)
felled-all setup past history hand [] zero many = refl
felled-all setup past history hand [] (suc count) many = refl
felled-all setup past history hand (own ∷ owns) count many =
    felled-by setup past history hand own owns count (is_standby own.stance) refl many (λ less same. felled-all setup past history hand owns less same)

pub count-some : (test : Stance → Bool) (owns : List defined.Seat) → any_seat test owns ≡ true → 1 ≤ count_seats test owns
count-some test [] some = cc
count-some test (own ∷ owns) some = by (test own.stance) some (λ rest. count-some test owns rest)
  where
    by : (b : Bool) → (b || any_seat test owns) ≡ true → (any_seat test owns ≡ true → 1 ≤ count_seats test owns) → 1 ≤ (if b then 1 else 0) + count_seats test owns
    by true is deeper = omega arith
    by false is deeper = let more = deeper is in omega arith

-- Of so many servers one is active.

count-most : (test : Stance → Bool) (owns : List defined.Seat) → count_seats test owns ≤ length owns
count-most test [] = le_refl 0
count-most test (own ∷ owns) = by (test own.stance) (count-most test owns)
  where
    by : (b : Bool) → count_seats test owns ≤ length owns → (if b then 1 else 0) + count_seats test owns ≤ suc (length owns)
    by true most = omega arith
    by false most = omega arith

standbys-fewer : (acting : Server) (owns : List defined.Seat) → is_named acting (names_of owns) ≡ true → IsApart acting owns → suc (count_seats is_standby owns) ≤ length owns
standbys-fewer acting [] acts apart = cc
standbys-fewer acting (own ∷ owns) acts apart =
    by (same_server acting own.server) refl acts (λ rest. standbys-fewer acting owns rest apart.1)
  where
    out : (stance : Stance) → stance ≡ Out → count_seats is_standby owns ≤ length owns → suc ((if is_standby stance then 1 else 0) + count_seats is_standby owns) ≤ suc (length owns)
    out stance is most = subst (λ (s : Stance). suc ((if is_standby s then 1 else 0) + count_seats is_standby owns) ≤ suc (length owns)) (sym is) (omega arith)

    more : (b : Bool) → suc (count_seats is_standby owns) ≤ length owns → suc ((if b then 1 else 0) + count_seats is_standby owns) ≤ suc (length owns)
    more true fewer = omega arith
    more false fewer = omega arith

    by : (b : Bool) → same_server acting own.server ≡ b → (b || is_named acting (names_of owns)) ≡ true → (is_named acting (names_of owns) ≡ true → suc (count_seats is_standby owns) ≤ length owns) → suc ((if is_standby own.stance then 1 else 0) + count_seats is_standby owns) ≤ suc (length owns)
    by true is acts deeper = out own.stance (apart.0 (same-turned own.server acting ∙ is)) (count-most is_standby owns)
    by false is acts deeper = more (is_standby own.stance) (deeper acts)

pub few-standbys : (n : ℕ) (acting : Server) (owns : List defined.Seat) → AreNames n (names_of owns) → is_named acting (names_of owns) ≡ true → IsApart acting owns → suc (count_seats is_standby owns) ≤ n
few-standbys n acting owns names acts apart = subst (λ (k : ℕ). suc (count_seats is_standby owns) ≤ k) (size-is n owns names) (standbys-fewer acting owns acts apart)

pub few-of : (fresh : Bool) (owns : List defined.Seat) → count_seats (takes fresh) owns ≤ count_seats is_standby owns
few-of false owns = le_refl (count_seats is_standby owns)
few-of true [] = le_refl 0
few-of true (own ∷ owns) = by own.stance (few-of true owns)
  where
    by : (stance : Stance) → count_seats (takes true) owns ≤ count_seats is_standby owns → (if is_fresh stance then 1 else 0) + count_seats (takes true) owns ≤ (if is_standby stance then 1 else 0) + count_seats is_standby owns
    by Out deeper = omega arith
    by Owed deeper = omega arith
    by (Linking sent) deeper = omega arith
    by (Standby on_way mark true) deeper = omega arith
    by (Standby on_way mark false) deeper = omega arith

pub named-long : (test : Stance → Bool) (owns : List defined.Seat) → length (named test owns) ≡ count_seats test owns
named-long test [] = refl
named-long test (own ∷ owns) = by (test own.stance) (named-long test owns)
  where
    by : (b : Bool) → length (named test owns) ≡ count_seats test owns → length (if b then own.server ∷ named test owns else named test owns) ≡ (if b then 1 else 0) + count_seats test owns
    by true deeper = let same = deeper in omega arith
    by false deeper = let same = deeper in omega arith

-- **One took over.**

module _ (n : ℕ) (setup : Setup) (state : State Peers) (good : IsGood (group_kit n) setup state) where
  abbrev pub past : List Entry
  past = state.world.core.answered

  abbrev pub catching : Bool
  catching = catches state.peers.seats state.world.core.hand

  abbrev pub hand : Hand
  hand = caught_hand catching state.world.core.hand

  abbrev pub owns : List defined.Seat
  owns = caught_seats catching state.peers.seats

  abbrev pub history : List Entry
  history = committed_by past hand

  pub plain-good : IsGoodGroup n setup state
  plain-good = record { begins = good.begins; steady = good.steady; range = good.range }

  module _ (old new : Group n) (fresh : Bool) (before after : List (List ℕ)) (held left : DiskSeen) (seats_are : all_wayless old.seats ≡ bare setup past hand owns) (fresh_is : any_seat is_fresh owns ≡ fresh) (acting_is : old.acting ≡ state.peers.acting) where
    names-are : takers fresh old.seats ≡ named (takes fresh) owns
    names-are = sym (takers-wayless fresh old.seats) ∙ ap (takers fresh) seats_are ∙ takers-named setup past hand fresh owns

    joining-are : joiners old.seats ≡ named is_joining owns
    joining-are = sym (joiners-wayless old.seats) ∙ ap joiners seats_are ∙ joiners-named setup past hand owns

    module _ (down_is : old.active ≡ alone down) (took : TookOver fresh old new before after held left) where
      pub tried : Tried setup past hand fresh owns took.tried (Some took.place) took.start left
      tried = tried-so setup past hand fresh owns (all_wayless old.seats) took.tried (Some took.place) took.start left seats_are took.tries

      exchanges : Exchanges took.place took.tried took.moved (alone down) took.leads old.acting new.acting
      exchanges =
          let E : Node → Type 0 = λ node. Exchanges took.place took.tried took.moved node took.leads old.acting new.acting in
          subst E down_is took.exchanges

      -- the servers
      pub took-own : (counts : ℕ → ℕ) → TellsCount n setup state good.steady.good.names good.steady.good.agree took.start left counts tried.count → new ≡ servers_by n setup history Empty (taken_over (device_by setup counts) state).state.peers
      took-own counts tells =
          let names = good.steady.good.names in
          let agree = good.steady.good.agree in
          let leads = fall-leads n setup state names agree took.start left fresh took.tried took.moved took.place took.leads old.acting new.acting tried exchanges in
          let joined = took.joined (saved_of setup history) (ap (λ (node : Node). node.replica.service) leads) in
          (λ i. made_of n new.acting (joined.0 i) new.seats (took.unarmed i))
          ∙ fall-shows n setup state names agree took.start left counts fresh took.tried took.moved new.seats took.place took.leads old.acting new.acting fresh_is tried tells exchanges joined.1 acting_is

      -- one server more is down than failed
      pub took-up : (counts : ℕ → ℕ) → TellsCount n setup state good.steady.good.names good.steady.good.agree took.start left counts tried.count → count_up state ≡ suc tried.count + count_up (taken_over (device_by setup counts) state).state
      took-up counts tells =
          fall-up n setup state good.steady.good.names good.steady.good.agree took.start left counts fresh took.tried took.place fresh_is tried tells

      -- how many failed
      pub failed-are : took.failed ≡ tried.count
      failed-are =
          let counted = took.counted in
          let rest = tried.rest in
          let same : length (takers fresh (bare setup past hand owns)) ≡ length (takers fresh old.seats) = ap (λ seats. length (takers fresh seats)) (sym seats_are) ∙ ap length (takers-wayless fresh old.seats) in
          omega arith

      -- the lines, behind those before the fall
      pub took-lines : (counts : ℕ → ℕ) (front : List (List ℕ)) → TellsCount n setup state good.steady.good.names good.steady.good.agree took.start left counts tried.count → before ≡ front ++ printed (caught_lines catching past state.world.core.hand) → after ≡ front ++ printed (taken_over (device_by setup counts) state).told
      took-lines counts front tells was =
          let names = good.steady.good.names in
          let agree = good.steady.good.agree in
          let caught_told = caught_lines catching past state.world.core.hand in
          let count = fall-count n setup state names agree took.start left counts fresh took.tried took.place fresh_is tried tells in
          let acting = state.peers.acting in
          let L : Server → ℕ → List Server → List Server → List (List ℕ) = λ server failed taking joining. before ++ over_lines server failed taking joining in
          let T : ℕ → Bool → List (List ℕ) = λ k f.
          printed (all_stood role.Standby (named is_joining owns) (Stood (next_of acting k (named (takes f) owns)) role.Active ∷ all_stood role.Down (front_of k (named (takes f) owns)) (Stood acting role.Down ∷ caught_told)))
          in
          let all : after ≡ before ++ over_lines acting tried.count (named (takes fresh) owns) (named is_joining owns) = took.lines ∙ (λ i. L (acting_is i) (failed-are i) (names-are i) (joining-are i)) in
          let told : front ++ (printed caught_told ++ over_lines acting tried.count (named (takes fresh) owns) (named is_joining owns)) ≡ front ++ T tried.count fresh =
          ap (λ lines. front ++ lines) (sym (over-printed acting (next_of acting tried.count (named (takes fresh) owns)) tried.count (named (takes fresh) owns) (named is_joining owns) caught_told refl))
          in
          all ∙ ap (λ lines. lines ++ over_lines acting tried.count (named (takes fresh) owns) (named is_joining owns)) was
          ∙ append_assoc front (printed caught_told) (over_lines acting tried.count (named (takes fresh) owns) (named is_joining owns))
          ∙ told ∙ ap (λ k. front ++ T k fresh) (sym count) ∙ ap (λ f. front ++ T (count_fallen (device_by setup counts) f history owns) f) (sym fresh_is)

      -- the disk
      pub took-unarmed : left.tally.armed ≡ None
      took-unarmed = tries-unarmed fresh (all_wayless old.seats) took.tried (Some took.place) took.start left took.started.armed took.tries

      pub took-later : held.faults ≤ left.faults
      took-later = subst (λ (n : ℕ). n ≤ left.faults) took.started.faults tried.later

      pub took-caused : 1 ≤ tried.count → Rose held.faults left.faults
      took-caused some = subst (λ (n : ℕ). Rose n left.faults) took.started.faults (tried.caused some)

      -- **the files**, from those that the active server left
      pub took-files : (counts : ℕ → ℕ) (first : Option Files) → any_seat is_standby state.peers.seats ≡ true → GoesOnFrom setup state first held.files → LeavesFiles setup (taken_over (device_by setup counts) state).state first left.files
      took-files counts first standby from =
          let T : List Seat → Type 0 = λ seats. Tries fresh seats took.tried (Some took.place) took.start left in
          fall-leaves n setup state plain-good standby first held.files from fresh fresh_is took.tried (Some took.place) took.start left took.started.files (subst T seats_are took.tries)

    -- **All failed.**

    module _ (down_is : old.active ≡ alone down) (fell : AllFell fresh old new before after held left) where
      pub all-tried : Tried setup past hand fresh owns new.seats None fell.start left
      all-tried = tried-so setup past hand fresh owns (all_wayless old.seats) new.seats None fell.start left seats_are fell.tries

      -- those that keep no deeds cannot fail
      pub stale : fresh ≡ false
      stale = by fresh refl
        where
          by : (b : Bool) → fresh ≡ b → fresh ≡ false
          by false is = is
          by true is =
              let follow = all-follow past state.world.core.hand state.peers.seats catching refl good.steady.good.agree in
              let made = all-make setup past hand fresh owns follow (λ no. any-none is_fresh owns (fresh_is ∙ no)) in
              let some : 1 ≤ count_seats (takes fresh) owns = subst (λ (f : Bool). 1 ≤ count_seats (takes f) owns) (sym is) (count-some is_fresh owns (fresh_is ∙ is)) in
              let all : 1 ≤ all-tried.count = subst (λ (k : ℕ). 1 ≤ k) (sym all-tried.next) some in
              let none : 1 ≤ length (row_calls setup true history) = subst (λ (f : Bool). 1 ≤ length (row_calls setup f history)) is (all-tried.calls (row_calls setup fresh history) made all) in
              absurd (omega arith)

      -- each standby is down
      pub fell-many : all-tried.count ≡ count_seats is_standby owns
      fell-many = all-tried.next ∙ ap (λ f. count_seats (takes f) owns) stale

      pub fell-up : count_up state ≡ all-tried.count + count_up (ended state).state
      fell-up = subst (λ k. count_up state ≡ k + count_up (ended state).state) (sym fell-many) (ended-up state)

      -- the servers
      fell-seats : new.seats ≡ bare setup history Empty (on_seats left_out owns)
      fell-seats =
          let count = all-tried.next ∙ ap (λ f. count_seats (takes f) owns) stale in
          all-tried.is ∙ ap (λ f. bare setup past hand (felled (takes f) all-tried.count owns)) stale
          ∙ felled-all setup past history hand owns all-tried.count count

      pub fell-fell : FellGroup setup (ended state).state new left.tally.armed
      fell-fell = record {
        active = fell.active ∙ down_is;
        seats = fell-seats;
        acting = fell.acting ∙ acting_is;
        armed = fell.unarmed;
        count = tries-unarmed fresh (all_wayless old.seats) new.seats None fell.start left fell.started.armed fell.tries;
      }

      -- the lines
      pub fell-lines : (front : List (List ℕ)) → before ≡ front ++ printed (caught_lines catching past state.world.core.hand) → after ≡ front ++ printed (ended state).told
      fell-lines front was =
          let caught_told = caught_lines catching past state.world.core.hand in
          let L : Server → List Server → List (List ℕ) = λ server taking. before ++ fallen_lines server taking in
          let names : takers fresh old.seats ≡ named is_standby owns = names-are ∙ ap (λ f. named (takes f) owns) stale in
          fell.lines ∙ (λ i. L (acting_is i) (names i))
          ∙ ap (λ lines. lines ++ fallen_lines state.peers.acting (named is_standby owns)) was
          ∙ append_assoc front (printed caught_told) (fallen_lines state.peers.acting (named is_standby owns))
          ∙ ap (λ lines. front ++ lines) (sym (fallen-printed state.peers.acting (named is_standby owns) caught_told))

      -- the disk
      pub fell-last : 1 ≤ count_seats is_standby owns → LastFell (count_seats is_standby owns) held left
      fell-last some =
          let tried = tries-last fresh (all_wayless old.seats) new.seats None fell.start left refl fell.tries in
          let names = takers-wayless fresh old.seats ∙ names-are ∙ ap (λ f. named (takes f) owns) stale in
          let last = (subst (λ (n : List Server). AllTried n fell.start left) names tried).last (subst (λ (k : ℕ). 1 ≤ k) (sym (named-long is_standby owns)) some) in
          let count = subst (λ (k : ℕ). LastFell k fell.start left) (named-long is_standby owns) last in
          record {
            between = count.between;
            before_it = subst (λ (m : ℕ). m ≤ count.between) fell.started.faults count.before_it;
            first = λ more. subst (λ (m : ℕ). Rose m count.between) fell.started.faults (count.first more);
            behind_it = count.behind_it;
            rose = count.rose;
          }

      -- the deeds of the last entry have calls
      pub fell-calls : 1 ≤ count_seats is_standby owns → 1 ≤ length (row_calls setup false history)
      fell-calls some =
          let follow = all-follow past state.world.core.hand state.peers.seats catching refl good.steady.good.agree in
          let made = all-make setup past hand fresh owns follow (λ no. any-none is_fresh owns (fresh_is ∙ no)) in
          let count = all-tried.next ∙ ap (λ f. count_seats (takes f) owns) stale in
          subst (λ (f : Bool). 1 ≤ length (row_calls setup f history)) stale (all-tried.calls (row_calls setup fresh history) made (subst (λ (k : ℕ). 1 ≤ k) (sym count) some))

      -- **the files lie between**
      pub fell-files : (first : Option Files) → any_seat is_standby state.peers.seats ≡ true → GoesOnFrom setup state first held.files → LeavesBetween setup history first left.files
      fell-files first standby from =
          let T : List Seat → Type 0 = λ seats. Tries fresh seats new.seats None fell.start left in
          fall-leaves n setup state plain-good standby first held.files from fresh fresh_is new.seats None fell.start left fell.started.files (subst T seats_are fell.tries)
