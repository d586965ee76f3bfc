-- A takeover by the parts of the code.
use Rattle.std.proofs.Common.{◌≡◌, ℕ, zero, suc, ◌+◌, ◌-◌, ◌≤◌, ◌<◌, inl, Bool, false, Option, Some, None, option_map, List, [], ◌∷◌, ◌++◌, length, refl, ap, sym, ◌∙◌, subst, arith}
use Rattle.std.specs.Prelude.{Err}
use Rattle.std.specs.List.{AllByRecursion}
use Rattle.disk_model.specs.declared.answers.DiskAnswer.{DiskAnswer}
use Rattle.disk_model.specs.declared.answers.DiskAnswer.TheVariants.{Memory, Failed, Stopped}
use Rattle.disk_model.specs.Seen.{DiskSeen}
use Rattle.script_lines.specs.declared.line.Server.{Server}
use Rattle.cluster_events.specs.declared.lines.ServerRole.TheVariants as role
use Rattle.mirror.specs.declared.state.NodeState.{NodeState as Node}
use Rattle.mirror.specs.declared.heard.Role.TheVariants.{Active}
use Rattle.mirror.specs.Pairing.{taken_over}
use Rattle.group_servers.specs.declared.group.Seat.{Seat}
use Rattle.group_servers.specs.declared.group.Group.{Group}
use Rattle.group_servers.specs.Falls.{all_wayless, Exchanges, IsDisarmed, IsFitNode, IsFitSeat, TookOver, AllFell, TakesOver}
use Rattle.group_servers.specs.Lines.{role_lines, takers, joiners, end_lines, TellsOver, TellsFallen}
use Rattle.group_servers.specs.Rejoins.{Rejoins, made_of}
use Rattle.group_servers.specs.Tries.{takes, Tries, TriesPartly}
use Rattle.group_servers.specs.Tries.Tries.{nobody, passes, fails, takes_over}
use Rattle.group_servers.proofs.FallLines.{long-both, lines-long, takers-wayless}
use Rattle.group_servers.proofs.TriedSteps.{takers-not, takers-one}

-- The place of the one that took over.

abbrev or-zero : Option ℕ → ℕ
or-zero None = 0
or-zero (Some place) = place

-- it is one less among those behind
record IsBehind (found : Option ℕ) (place : ℕ) : Type 0 where
  less : ℕ
  is : found ≡ Some less
  more : place ≡ suc less

further-place : (found : Option ℕ) (place : ℕ) → option_map (λ place. place + 1) found ≡ Some place → IsBehind found place
further-place None place is = cc
further-place (Some less) place is = record { less = less; is = refl; more = let same : less + 1 ≡ place = ap or-zero is in omega arith }

place-zero : (place : ℕ) → Some 0 ≡ Some place → place ≡ 0
place-zero place is = sym (ap or-zero is)

-- What it took over with.

behind-one : (less : ℕ) (seat : Seat) (news moved : List Seat) (old leads : Node) (acting now : Server) → Exchanges (suc less) (seat ∷ news) moved old leads acting now → (rest : List Seat) × Exchanges less news rest old leads acting now
behind-one less seat news [] old leads acting now ex = elim ex [ ]
behind-one less seat news (left ∷ moved) old leads acting now ex = (moved, ex.1)

first-leads : (seat new : Seat) (others moved : List Seat) (old leads : Node) (acting now : Server) → IsFitSeat seat → new ≡ record seat { node = taken_over seat.node } → Exchanges zero (new ∷ others) moved old leads acting now → IsFitNode leads × (leads.replica.role ≡ Active)
first-leads seat new others [] old leads acting now fit is ex = elim ex [ ]
first-leads seat new others (left ∷ moved) old leads acting now fit is ex =
    subst (λ (node : Node). IsFitNode node × (node.replica.role ≡ Active)) (sym (ex.2 ∙ ap (λ (s : Seat). s.node) is)) ((fit.0, refl), refl)

pub leads-fit : (fresh : Bool) (seats tried : List Seat) (found : Option ℕ) (place : ℕ) (start left : DiskSeen) (moved : List Seat) (old leads : Node) (acting now : Server) → found ≡ Some place → Tries fresh seats tried found start left → AllByRecursion IsFitSeat seats → Exchanges place tried moved old leads acting now → IsFitNode leads × (leads.replica.role ≡ Active)
leads-fit fresh seats tried found place start left moved old leads acting now is nobody fit ex = cc
leads-fit fresh seats tried found place start left moved old leads acting now is (passes {seats = others} {new = news} {found = deeper} seat not rest) fit ex =
    let behind = further-place deeper place is in
    let E : ℕ → Type 0 = λ at. Exchanges at (seat ∷ news) moved old leads acting now in
    let one = behind-one behind.less seat news moved old leads acting now (subst E behind.more ex) in
    leads-fit fresh others news deeper behind.less start left one.0 old leads acting now behind.is rest fit.1 one.1
leads-fit fresh seats tried found place start left moved old leads acting now is (fails {seats = others} {new = news} {found = deeper} {mid = mid} seat fallen it one rest) fit ex =
    let behind = further-place deeper place is in
    let E : ℕ → Type 0 = λ at. Exchanges at (fallen ∷ news) moved old leads acting now in
    let other = behind-one behind.less fallen news moved old leads acting now (subst E behind.more ex) in
    leads-fit fresh others news deeper behind.less mid left other.0 old leads acting now behind.is rest fit.1 other.1
leads-fit fresh seats tried found place start left moved old leads acting now is (takes_over {seats = others} seat new it one) fit ex =
    let E : ℕ → Type 0 = λ at. Exchanges at (new ∷ others) moved old leads acting now in
    first-leads seat new others moved old leads acting now fit.0 one.0 (subst E (place-zero place is) ex)

pub wayless-fit : (seats : List Seat) → AllByRecursion IsFitSeat seats → AllByRecursion IsFitSeat (all_wayless seats)
wayless-fit [] fit = tt
wayless-fit (seat ∷ seats) fit = (fit.0, wayless-fit seats fit.1)

-- Fewer are left that might take over.

pub tries-fewer : (fresh : Bool) (seats tried : List Seat) (found : Option ℕ) (place : ℕ) (start left : DiskSeen) → found ≡ Some place → Tries fresh seats tried found start left → length (takers fresh tried) < length (takers fresh seats)
tries-fewer fresh seats tried found place start left is nobody = cc
tries-fewer fresh seats tried found place start left is (passes {seats = others} {new = news} {found = deeper} seat not rest) =
    let behind = further-place deeper place is in
    let fewer = tries-fewer fresh others news deeper behind.less start left behind.is rest in
    let was = ap length (takers-not fresh seat others not) in
    let are = ap length (takers-not fresh seat news not) in
    omega arith
tries-fewer fresh seats tried found place start left is (fails {seats = others} {new = news} {found = deeper} {mid = mid} seat fallen it one rest) =
    let behind = further-place deeper place is in
    let fewer = tries-fewer fresh others news deeper behind.less mid left behind.is rest in
    let was = ap length (takers-one fresh seat others it) in
    let are = ap length (takers-not fresh fallen news (ap (takes fresh) one.0)) in
    omega arith
tries-fewer fresh seats tried found place start left is (takes_over {seats = others} seat now it one) =
    let was = ap length (takers-one fresh seat others it) in
    let are = ap length (takers-not fresh now others (ap (takes fresh) one.0)) in
    omega arith

-- Where none failed the disk had no fault.

pub tries-still : (fresh : Bool) (seats tried : List Seat) (found : Option ℕ) (place : ℕ) (start left : DiskSeen) → found ≡ Some place → Tries fresh seats tried found start left → length (takers fresh seats) ≤ 1 + length (takers fresh tried) → left.faults ≡ start.faults
tries-still fresh seats tried found place start left is nobody few = cc
tries-still fresh seats tried found place start left is (passes {seats = others} {new = news} {found = deeper} seat not rest) few =
    let behind = further-place deeper place is in
    let was = ap length (takers-not fresh seat others not) in
    let are = ap length (takers-not fresh seat news not) in
    tries-still fresh others news deeper behind.less start left behind.is rest (omega arith)
tries-still fresh seats tried found place start left is (fails {seats = others} {new = news} {found = deeper} {mid = mid} seat fallen it one rest) few =
    let behind = further-place deeper place is in
    let fewer = tries-fewer fresh others news deeper behind.less mid left behind.is rest in
    let was = ap length (takers-one fresh seat others it) in
    let are = ap length (takers-not fresh fallen news (ap (takes fresh) one.0)) in
    absurd (omega arith)
tries-still fresh seats tried found place start left is (takes_over seat now it one) few = one.3

-- So many lines there are.

ends-long : (acting : Server) (taking joining : List Server) → 1 + (length taking + length taking) ≤ length (end_lines acting taking joining)
ends-long acting taking joining =
    let downs = role_lines role.Down taking in
    let actives = role_lines role.Active taking in
    let others = role_lines role.Standby joining in
    let all = long-both downs (actives ++ others) in
    let rest = long-both actives others in
    let first = lines-long role.Down taking in
    let second = lines-long role.Active taking in
    omega arith

pub lines-within : (before lines : List (List ℕ)) (acting : Server) (taking joining : List Server) (base count : ℕ) → length before ≡ base → length taking ≡ count → lines ≡ before ++ end_lines acting taking joining → base + 1 + (count + count) ≤ length lines
lines-within before lines acting taking joining base count long many is =
    let all = ap length is ∙ long-both before (end_lines acting taking joining) in
    let ends = ends-long acting taking joining in
    omega arith

module _ (n : ℕ) (fresh : Bool) (old : Group n) (held start : DiskSeen) (started : IsDisarmed held start) (count : ℕ) (count_is : count ≡ length (takers fresh (all_wayless old.seats))) where
  pub takers-are : length (takers fresh old.seats) ≡ count
  takers-are = sym (ap length (takers-wayless fresh old.seats)) ∙ sym count_is

  -- **one took over**
  pub takes-done : (tried moved seats : List Seat) (place many base : ℕ) (leads active : Node) (now : Server) (lines after : List (List ℕ)) (left : DiskSeen) → Tries fresh (all_wayless old.seats) tried (Some place) start left → many ≡ length (takers fresh tried) → Exchanges place tried moved old.active leads old.acting now → Rejoins leads active moved seats → TellsOver base count many lines after → (before : List (List ℕ)) → length before ≡ base → lines ≡ before ++ end_lines old.acting (takers fresh old.seats) (joiners old.seats) → TookOver fresh old (made_of n now active seats false) before after held left
  takes-done tried moved seats place many base leads active now lines after left tries many_is exchanges joined tells before long is =
      let fewer = tries-fewer fresh (all_wayless old.seats) tried (Some place) place start left refl tries in
      let all = takers-are in
      let failed = count - (many + 1) in
      record {
        tried = tried;
        place = place;
        start = start;
        started = started;
        tries = tries;
        moved = moved;
        leads = leads;
        exchanges = exchanges;
        joined = joined;
        unarmed = refl;
        failed = failed;
        counted = omega arith;
        lines = tells before old.acting failed (takers fresh old.seats) (joiners old.seats) long all (omega arith) is;
      }

  -- **all failed**
  pub takes-none : (tried : List Seat) (base : ℕ) (lines after : List (List ℕ)) (left : DiskSeen) → Tries fresh (all_wayless old.seats) tried None start left → TellsFallen base count lines after → (before : List (List ℕ)) → length before ≡ base → lines ≡ before ++ end_lines old.acting (takers fresh old.seats) (joiners old.seats) → AllFell fresh old (made_of n old.acting old.active tried false) before after held left
  takes-none tried base lines after left tries tells before long is = record {
    start = start;
    started = started;
    tries = tries;
    active = refl;
    acting = refl;
    unarmed = refl;
    lines = tells before old.acting (takers fresh old.seats) (joiners old.seats) long takers-are is;
  }

  -- **memory was wanting as they tried**
  pub takes-partly : (new : Group n) (before after : List (List ℕ)) (left : DiskSeen) (answer : DiskAnswer) → new.armed ≡ false → new.active ≡ old.active → new.acting ≡ old.acting → TriesPartly fresh (all_wayless old.seats) start left → (answer ≡ Failed → ⊥) → (answer ≡ Stopped → ⊥) → TakesOver fresh (Err answer) old new before after held left
  takes-partly new before after left Memory unarmed stays leads part not_failed not_stopped = record { unarmed = unarmed; start = start; started = started; part = inl part; stays = (stays, leads) }
  takes-partly new before after left Failed unarmed stays leads part not_failed not_stopped = absurd (not_failed refl)
  takes-partly new before after left Stopped unarmed stays leads part not_failed not_stopped = absurd (not_stopped refl)
