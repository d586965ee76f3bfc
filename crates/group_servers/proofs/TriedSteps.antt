-- Standbys that tried to take over are what they are by the definitions.
use Rattle.std.proofs.Common.{◌≡◌, ℕ, zero, suc, ◌+◌, ◌≤◌, Bool, true, false, if◌then◌else◌, Option, Some, None, option_map, is_some, List, [], ◌∷◌, ◌<◌, length, refl, ap, sym, ◌∙◌, subst, arith, le_refl, le_trans}
use Rattle.disk_model.specs.DeviceCalls.{DeviceCall, LeftBy}
use Rattle.stream_layout.specs.Deeds.{calls_of_all}
use Rattle.script_lines.specs.declared.line.Server.{Server}
use Rattle.plain_service.specs.Setups.{Setup}
use Rattle.cluster_facts.specs.Types.{Entry}
use Rattle.cluster_facts.specs.History.{Hand}
use Rattle.mirror.specs.Pairing.{alone, deeds_kept, taken_over}
use Rattle.mirror.specs.Replicas.{down}
use Rattle.group_cluster.specs.Seats as defined
use Rattle.group_cluster.specs.Seats.{Stance, Out, Owed, Linking, Standby}
use Rattle.group_cluster.specs.Falling.{felled, named, next_of}
use Rattle.group_cluster.specs.Falling as falling
use Rattle.cluster_rounds.specs.Seen.{counters_of}
use Rattle.group_servers.specs.declared.group.Seat.{Seat}
use Rattle.group_servers.specs.GroupNodes.{bare_by, bare}
use Rattle.disk_model.specs.Seen.{DiskSeen}
use Rattle.group_servers.specs.Lines.{takers}
use Rattle.group_servers.specs.Tries.{takes, Tries, TriesOne}
use Rattle.group_servers.specs.Tries.Tries.{nobody, passes, fails, takes_over}
use Rattle.group_servers.specs.Tried.{won_at, won, HasLeft, IsAtPlace, IsNext, Row, Tried}
use Rattle.group_servers.specs.Deals.{AreSome, Spent, total}
use Rattle.group_servers.specs.GroupUses.{spent-as, spent-both, spent-none}
use Rattle.group_servers.proofs.DeliverSteps.{first-of, rest-of}
use Rattle.group_servers.proofs.RowSteps.{failed-spent, passed-spent, plus-all, some-made, zero-more}

no-one : 1 ≤ 0 → ⊥
no-one some = omega arith

-- who tries is the same by both
pub takes-same : (setup : Setup) (past : List Entry) (hand : Hand) (fresh : Bool) (server : Server) (stance : Stance) → takes fresh (bare_by setup past hand (record { server = server; stance = stance })) ≡ falling.takes fresh stance
takes-same setup past hand true server Out = refl
takes-same setup past hand false server Out = refl
takes-same setup past hand true server Owed = refl
takes-same setup past hand false server Owed = refl
takes-same setup past hand true server (Linking sent) = refl
takes-same setup past hand false server (Linking sent) = refl
takes-same setup past hand true server (Standby on_way mark true) = refl
takes-same setup past hand true server (Standby on_way mark false) = refl
takes-same setup past hand false server (Standby on_way mark keeps) = refl

abbrev further_in : Option ℕ → Option ℕ
further_in found = option_map (λ place. place + 1) found

one-more : (place : ℕ) → place + 1 ≡ suc place
one-more place = omega arith

suc-more : (n : ℕ) → suc n ≡ 1 + n
suc-more n = omega arith

won-further : (found : Option ℕ) (seat : Seat) (seats : List Seat) → won (further_in found) (seat ∷ seats) ≡ seat ∷ won found seats
won-further None seat seats = refl
won-further (Some place) seat seats = ap (λ n. won_at n (seat ∷ seats)) (one-more place)

-- one that does not try
pub felled-passes : (test : Stance → Bool) (count : ℕ) (seat : defined.Seat) (seats : List defined.Seat) → test seat.stance ≡ false → felled test count (seat ∷ seats) ≡ seat ∷ felled test count seats
felled-passes test zero seat seats not = refl
felled-passes test (suc count) seat seats not = rw not refl

pub felled-fails : (test : Stance → Bool) (count : ℕ) (seat : defined.Seat) (seats : List defined.Seat) → test seat.stance ≡ true → felled test (suc count) (seat ∷ seats) ≡ record { server = seat.server; stance = Out } ∷ felled test count seats
felled-fails test count seat seats it = rw it refl

next-passes : (test : Stance → Bool) (count : ℕ) (seat : defined.Seat) (seats : List defined.Seat) (found : Option ℕ) → test seat.stance ≡ false → IsNext test count seats found → IsNext test count (seat ∷ seats) (further_in found)
next-passes test count seat seats None not next = rw not (next ∙ zero-more (defined.count_seats test seats))
next-passes test count seat seats (Some place) not next = (
  rw not (subst (λ n. count < n) (zero-more (defined.count_seats test seats)) next.0),
  λ last.
      let here : IsAtPlace test (next_of last count (named test seats)) (place + 1) (seat ∷ felled test count seats) = subst (λ n. IsAtPlace test (next_of last count (named test seats)) n (seat ∷ felled test count seats)) (sym (one-more place)) (next.1 last) in
      let names : named test (seat ∷ seats) ≡ named test seats = rw not refl in
      let N : List Server → List defined.Seat → Type 0 = λ row left. IsAtPlace test (next_of last count row) (place + 1) left in
      subst (λ left. N (named test (seat ∷ seats)) left) (sym (felled-passes test count seat seats not)) (subst (λ row. N row (seat ∷ felled test count seats)) (sym names) here),
)

next-fails : (test : Stance → Bool) (count : ℕ) (seat : defined.Seat) (seats : List defined.Seat) (found : Option ℕ) → test seat.stance ≡ true → IsNext test count seats found → IsNext test (suc count) (seat ∷ seats) (further_in found)
next-fails test count seat seats None it next = rw it (ap suc next ∙ suc-more (defined.count_seats test seats))
next-fails test count seat seats (Some place) it next = (
  rw it (let less = next.0 in omega arith),
  λ last.
      let out : defined.Seat = record { server = seat.server; stance = Out } in
      let here : IsAtPlace test (next_of last count (named test seats)) (place + 1) (out ∷ felled test count seats) = subst (λ n. IsAtPlace test (next_of last count (named test seats)) n (out ∷ felled test count seats)) (sym (one-more place)) (next.1 last) in
      let names : named test (seat ∷ seats) ≡ seat.server ∷ named test seats = rw it refl in
      let N : List Server → List defined.Seat → Type 0 = λ row left. IsAtPlace test (next_of last (suc count) row) (place + 1) left in
      subst (λ left. N (named test (seat ∷ seats)) left) (sym (felled-fails test count seat seats it)) (subst (λ row. N row (out ∷ felled test count seats)) (sym names) here),
)

next-first : (test : Stance → Bool) (seat : defined.Seat) (seats : List defined.Seat) → test seat.stance ≡ true → IsNext test 0 (seat ∷ seats) (Some 0)
next-first test seat seats it = (
  rw it (omega arith),
  λ last.
      let names : named test (seat ∷ seats) ≡ seat.server ∷ named test seats = rw it refl in
      let N : List Server → Type 0 = λ row. IsAtPlace test (next_of last 0 row) 0 (seat ∷ seats) in
      subst N (sym names) (refl, it),
)

further-some : (found : Option ℕ) → is_some (further_in found) ≡ is_some found
further-some None = refl
further-some (Some place) = refl

-- What the disk counted.

row-passes : (calls count : ℕ) (found : Option ℕ) (held left : DiskSeen) → Row calls count (is_some found) held left → Row calls count (is_some (further_in found)) held left
row-passes calls count found held left row = subst (λ (b : Bool). Row calls count b held left) (sym (further-some found)) row

row-fails : (calls count made : ℕ) (found : Option ℕ) (held mid left : DiskSeen) → AreSome calls (suc made) → Spent (suc made) 1 0 (counters_of held) (counters_of mid) → Row calls count (is_some found) mid left → Row calls (suc count) (is_some (further_in found)) held left
row-fails calls count made found held mid left some one rest =
    let last = if is_some found then calls else 0 in
    row-passes calls (suc count) found held left (record {
      made = suc made ∷ rest.made;
      long = ap suc rest.long;
      some = (some, rest.some);
      spent = spent-as _ _ _ _ _ _ (counters_of held) (counters_of left) (plus-all (suc made) (total rest.made) last) (sym (suc-more (length rest.made))) refl
          (spent-both (suc made) (total rest.made + last) 1 (length rest.made) 0 0 (counters_of held) (counters_of mid) (counters_of left) one rest.spent);
    })

-- Of how many there are to try.

pub takers-not : (fresh : Bool) (seat : Seat) (seats : List Seat) → takes fresh seat ≡ false → takers fresh (seat ∷ seats) ≡ takers fresh seats
takers-not fresh seat seats not = ap (λ b. if b then seat.server ∷ takers fresh seats else takers fresh seats) not

pub takers-one : (fresh : Bool) (seat : Seat) (seats : List Seat) → takes fresh seat ≡ true → takers fresh (seat ∷ seats) ≡ seat.server ∷ takers fresh seats
takers-one fresh seat seats it = ap (λ b. if b then seat.server ∷ takers fresh seats else takers fresh seats) it

left-same : (fresh : Bool) (count : ℕ) (olds news : List Seat) (one other : List Seat) (found : Option ℕ) → takers fresh one ≡ takers fresh olds → takers fresh other ≡ takers fresh news → HasLeft fresh count olds news found → HasLeft fresh count one other (option_map (λ place. place + 1) found)
left-same fresh count olds news one other None first second rest = tt
left-same fresh count olds news one other (Some place) first second rest = (λ i. count + 1 + length (second i)) ∙ rest ∙ ap length (sym first)

left-more : (fresh : Bool) (count : ℕ) (olds news : List Seat) (one other : List Seat) (server : Server) (found : Option ℕ) → takers fresh one ≡ server ∷ takers fresh olds → takers fresh other ≡ takers fresh news → HasLeft fresh count olds news found → HasLeft fresh (suc count) one other (option_map (λ place. place + 1) found)
left-more fresh count olds news one other server None first second rest = tt
left-more fresh count olds news one other server (Some place) first second rest =
    let more = ap length first in
    let same = ap length second in
    omega arith

-- behind one more
past-one : (setup : Setup) (past : List Entry) (hand : Hand) (fresh : Bool) (seat : Seat) (own : defined.Seat) (owns : List defined.Seat) (new : List Seat) (found : Option ℕ) (held left : DiskSeen) → seat ≡ bare_by setup past hand own → takes fresh seat ≡ false → Tried setup past hand fresh owns new found held left → Tried setup past hand fresh (own ∷ owns) (seat ∷ new) (further_in found) held left
past-one setup past hand fresh seat own owns new found held left is not rest =
    let no = sym (takes-same setup past hand fresh own.server own.stance) ∙ ap (takes fresh) (sym is) ∙ not in
    record {
      count = rest.count;
      is = ap (λ s. s ∷ new) is ∙ ap (λ n. bare_by setup past hand own ∷ n) rest.is
          ∙ sym (won-further found (bare_by setup past hand own) (bare setup past hand (felled (falling.takes fresh) rest.count owns)))
          ∙ ap (λ s. won (further_in found) (bare setup past hand s)) (sym (felled-passes (falling.takes fresh) rest.count own owns no));
      next = next-passes (falling.takes fresh) rest.count own owns found no rest.next;
      rest = left-same fresh rest.count (bare setup past hand owns) new (bare setup past hand (own ∷ owns)) (seat ∷ new) found
          (takers-not fresh (bare_by setup past hand own) (bare setup past hand owns) (ap (takes fresh) (sym is) ∙ not))
          (takers-not fresh seat new not) rest.rest;
      later = rest.later;
      caused = rest.caused;
      calls = λ calls makes some. rest.calls calls makes.1 some;
      row = λ calls makes. row-passes (length calls) rest.count found held left (rest.row calls makes.1);
    }

failed-one : (setup : Setup) (past : List Entry) (hand : Hand) (fresh : Bool) (seat fallen : Seat) (own : defined.Seat) (owns : List defined.Seat) (new : List Seat) (found : Option ℕ) (held mid left : DiskSeen) → seat ≡ bare_by setup past hand own → takes fresh seat ≡ true → TriesOne seat fallen false held mid → Tried setup past hand fresh owns new found mid left → Tried setup past hand fresh (own ∷ owns) (fallen ∷ new) (further_in found) held left
failed-one setup past hand fresh seat fallen own owns new found held mid left is it one rest =
    let yes = sym (takes-same setup past hand fresh own.server own.stance) ∙ ap (takes fresh) (sym is) ∙ it in
    let out = bare_by setup past hand (record { server = own.server; stance = Out }) in
    let fell = one.0 ∙ ap (λ (s : Seat). record s { node = alone down }) is in
    let rose = one.5 in
    let kept = calls_of_all (deeds_kept seat.node.kept) in
    let some : AreSome (length kept) (suc one.1) = some-made LeftBy kept one.1 held.files mid.files one.2 in
    let deeds = ap (λ (s : Seat). calls_of_all (deeds_kept s.node.kept)) is in
    let here = ap (takes fresh) (sym is) ∙ it in
    record {
      count = suc rest.count;
      is = ap (λ s. s ∷ new) fell ∙ ap (λ n. out ∷ n) rest.is
          ∙ sym (won-further found out (bare setup past hand (felled (falling.takes fresh) rest.count owns)))
          ∙ ap (λ s. won (further_in found) (bare setup past hand s)) (sym (felled-fails (falling.takes fresh) rest.count own owns yes));
      next = next-fails (falling.takes fresh) rest.count own owns found yes rest.next;
      rest = left-more fresh rest.count (bare setup past hand owns) new (bare setup past hand (own ∷ owns)) (fallen ∷ new) own.server found
          (takers-one fresh (bare_by setup past hand own) (bare setup past hand owns) (ap (takes fresh) (sym is) ∙ it))
          (takers-not fresh fallen new (ap (takes fresh) fell)) rest.rest;
      later = le_trans one.4 rest.later;
      caused = λ some. le_trans rose rest.later;
      calls = λ calls makes one_failed.
          let least = some.0 in
          let most = some.1 in
          subst (λ (c : List DeviceCall). 1 ≤ length c) (deeds ∙ makes.0 here) (omega arith);
      row = λ calls makes.
          row-fails (length calls) rest.count one.1 found held mid left (subst (λ (c : List DeviceCall). AreSome (length c) (suc one.1)) (deeds ∙ makes.0 here) some)
          (failed-spent (suc one.1) held mid one.6 one.4 one.5 one.7) (rest.row calls makes.1);
    }

took-one : (setup : Setup) (past : List Entry) (hand : Hand) (fresh : Bool) (seat now : Seat) (own : defined.Seat) (owns : List defined.Seat) (held left : DiskSeen) → seat ≡ bare_by setup past hand own → takes fresh seat ≡ true → TriesOne seat now true held left → Tried setup past hand fresh (own ∷ owns) (now ∷ bare setup past hand owns) (Some 0) held left
took-one setup past hand fresh seat now own owns held left is it one =
    let yes = sym (takes-same setup past hand fresh own.server own.stance) ∙ ap (takes fresh) (sym is) ∙ it in
    record {
      count = 0;
      is = ap (λ s. s ∷ bare setup past hand owns) (one.0 ∙ ap (λ (s : Seat). record s { node = taken_over s.node }) is);
      next = next-first (falling.takes fresh) own owns yes;
      rest =
          let was = ap length (takers-one fresh (bare_by setup past hand own) (bare setup past hand owns) (ap (takes fresh) (sym is) ∙ it)) in
          let are = ap length (takers-not fresh now (bare setup past hand owns) (ap (takes fresh) one.0)) in
          omega arith;
      later = subst (λ n. held.faults ≤ n) (sym one.3) (le_refl held.faults);
      caused = λ (some : 1 ≤ 0). absurd (no-one some);
      calls = λ calls makes (some : 1 ≤ 0). absurd (no-one some);
      row = λ calls makes.
          let deeds = ap (λ (s : Seat). calls_of_all (deeds_kept s.node.kept)) is ∙ makes.0 (ap (takes fresh) (sym is) ∙ it) in
          record {
            made = [];
            long = refl;
            some = tt;
            spent = spent-as _ _ _ _ _ _ (counters_of held) (counters_of left) (zero-more (length calls)) refl refl
                (subst (λ (c : List DeviceCall). Spent (length c) 0 0 (counters_of held) (counters_of left)) deeds
                (passed-spent (length (calls_of_all (deeds_kept seat.node.kept))) held left one.4 one.3 one.5));
          };
    }

pub tried-so : (setup : Setup) (past : List Entry) (hand : Hand) (fresh : Bool) (owns : List defined.Seat) (seats new : List Seat) (found : Option ℕ) (held left : DiskSeen) → seats ≡ bare setup past hand owns → Tries fresh seats new found held left → Tried setup past hand fresh owns new found held left
tried-so setup past hand fresh [] seats new found held left is nobody = record { count = 0; is = refl; next = refl; rest = tt; later = le_refl held.faults; caused = λ (some : 1 ≤ 0). absurd (no-one some); calls = λ calls makes (some : 1 ≤ 0). absurd (no-one some); row = λ calls makes. record { made = []; long = refl; some = tt; spent = spent-none (counters_of held) } }
tried-so setup past hand fresh (own ∷ owns) seats new found held left is nobody = cc
tried-so setup past hand fresh [] seats new found held left is (passes seat not rest) = cc
tried-so setup past hand fresh [] seats new found held left is (fails seat fallen it one rest) = cc
tried-so setup past hand fresh [] seats new found held left is (takes_over seat now it one) = cc
tried-so setup past hand fresh (own ∷ owns) seats new found held left is (passes seat not rest) =
    past-one setup past hand fresh seat own owns _ _ held left (first-of is) not (tried-so setup past hand fresh owns _ _ _ held left (rest-of is) rest)
tried-so setup past hand fresh (own ∷ owns) seats new found held left is (fails seat fallen it one rest) =
    failed-one setup past hand fresh seat fallen own owns _ _ held _ left (first-of is) it one (tried-so setup past hand fresh owns _ _ _ _ left (rest-of is) rest)
tried-so setup past hand fresh (own ∷ owns) seats new found held left is (takes_over seat now it one) =
    subst (λ rest. Tried setup past hand fresh (own ∷ owns) (now ∷ rest) (Some 0) held left) (sym (rest-of is)) (took-one setup past hand fresh seat now own owns held left (first-of is) it one)
