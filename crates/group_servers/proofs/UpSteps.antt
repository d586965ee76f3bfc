-- How many servers beside the active one are up: as a message is taken, as one takes over, and as all fail.
use Rattle.std.proofs.Common.{◌≡◌, ℕ, zero, suc, ◌+◌, ◌≤◌, ◌<◌, Bool, true, false, if◌then◌else◌, Option, Some, None, List, [], ◌∷◌, refl, ap, sym, ◌∙◌, subst, arith}
use Rattle.std.specs.List.{AllByRecursion}
use Rattle.script_lines.specs.declared.line.Server.{Server}
use Rattle.cluster_facts.specs.Types.{Entry}
use Rattle.cluster_events.specs.Lines.{Told}
use Rattle.cluster_events.specs.Servers.{State}
use Rattle.group_cluster.specs.Seats.{Stance, Out, Owed, Linking, Standby, Seat, Peers, Clear, Sent, Took, count_seats, is_standby, is_up, names_of, on_seats, same_server}
use Rattle.group_cluster.specs.Falling.{caught, caught_seats, catches, felled, out_at, rejoined, takes}
use Rattle.group_cluster.specs.Ended.{ended, left_out}
use Rattle.group_cluster.specs.Group.{Turn, confirmed, linked, mirrored}
use Rattle.group_cluster.proofs.Seating.{Turned}
use Rattle.group_cluster.proofs.Seating.Turned.{here, there}
use Rattle.group_servers.specs.GroupCounts.{count_up}
use Rattle.group_servers.specs.GroupUses.{up-on}
use Rattle.group_servers.specs.Tried.{IsAtPlace}
use Rattle.group_servers.proofs.FallOwn.{AreDistinct, apart-at, same-self}
use Rattle.group_servers.proofs.TriedSteps.{felled-fails, felled-passes}

-- A message is taken.

abbrev pub KeepsUp : Turn → Type 0
KeepsUp turn =
    (server : Server) (stance : Stance) (found : Stance × List Told) → turn server stance ≡ Some found → is_up found.0 ≡ is_up stance

pub turned-up : (turn : Turn) → KeepsUp turn → {old new : List Seat} {told : List Told} → Turned turn old new told → count_seats is_up new ≡ count_seats is_up old
turned-up turn keeps (here {seats = seats} seat found is) = ap (λ b. (if b then 1 else 0) + count_seats is_up seats) (keeps seat.server seat.stance found is)
turned-up turn keeps (there seat deeper) = ap (λ n. (if is_up seat.stance then 1 else 0) + n) (turned-up turn keeps deeper)

abbrev stance-found : Stance → Option (Stance × List Told) → Stance
stance-found stance (Some found) = found.0
stance-found stance _ = stance

pub mirrored-up : (past : List Entry) → KeepsUp (mirrored past)
mirrored-up past server (Linking true) found is = ap (λ o. is_up (stance-found Owed o)) (sym is)
mirrored-up past server (Linking false) found is = ap (λ o. is_up (stance-found Owed o)) (sym is)
mirrored-up past server (Standby on_way Sent keeps) found is = ap (λ o. is_up (stance-found Owed o)) (sym is)
mirrored-up past server (Standby on_way Clear keeps) found is = cc
mirrored-up past server (Standby on_way Took keeps) found is = cc
mirrored-up past server Out found is = cc
mirrored-up past server Owed found is = cc

pub confirmed-up : KeepsUp confirmed
confirmed-up server (Standby (Some number) mark keeps) found is = ap (λ o. is_up (stance-found Owed o)) (sym is)
confirmed-up server (Standby None Took keeps) found is = ap (λ o. is_up (stance-found Owed o)) (sym is)
confirmed-up server (Standby None Clear keeps) found is = cc
confirmed-up server (Standby None Sent keeps) found is = cc
confirmed-up server Out found is = cc
confirmed-up server Owed found is = cc
confirmed-up server (Linking sent) found is = cc

-- Servers that change alike.

linked-one : (stance : Stance) → is_up (linked stance) ≡ is_up stance
linked-one Out = refl
linked-one Owed = refl
linked-one (Linking sent) = refl
linked-one (Standby on_way mark keeps) = refl

linked-up : (owns : List Seat) → count_seats is_up (on_seats linked owns) ≡ count_seats is_up owns
linked-up owns = up-on linked linked-one owns

done-sum : (up linked : ℕ) → linked ≡ up → up ≡ 0 + 0 + linked
done-sum up linked is = omega arith

pub done-up : (owns : List Seat) → count_seats is_up owns ≡ 0 + 0 + count_seats is_up (on_seats linked owns)
done-up owns = done-sum (count_seats is_up owns) (count_seats is_up (on_seats linked owns)) (linked-up owns)

caught-one : (stance : Stance) → is_up (caught stance) ≡ is_up stance
caught-one Out = refl
caught-one Owed = refl
caught-one (Linking sent) = refl
caught-one (Standby on_way Clear keeps) = refl
caught-one (Standby on_way Sent keeps) = refl
caught-one (Standby on_way Took keeps) = refl

pub caught-up : (catching : Bool) (owns : List Seat) → count_seats is_up (caught_seats catching owns) ≡ count_seats is_up owns
caught-up true owns = up-on caught caught-one owns
caught-up false owns = refl

rejoined-one : (stance : Stance) → is_up (rejoined stance) ≡ is_up stance
rejoined-one Out = refl
rejoined-one Owed = refl
rejoined-one (Linking sent) = refl
rejoined-one (Standby on_way mark keeps) = refl

-- Those that failed are down.

pub takes-up : (fresh : Bool) (stance : Stance) → takes fresh stance ≡ true → is_up stance ≡ true
takes-up true Out it = cc
takes-up false Out it = cc
takes-up fresh Owed it = refl
takes-up fresh (Linking sent) it = refl
takes-up fresh (Standby on_way mark keeps) it = refl

fell-one : (count whole rest more left : ℕ) → whole ≡ 1 + rest → rest ≡ count + more → left ≡ 0 + more → whole ≡ suc count + left
fell-one count whole rest more left first next is = omega arith

stayed-one : (count one rest more left : ℕ) → rest ≡ suc count + more → left ≡ one + more → one + rest ≡ suc count + left
stayed-one count one rest more left next is = omega arith

no-less : (count : ℕ) → suc count ≤ 0 → ⊥
no-less count most = omega arith

fewer : (count rest : ℕ) → suc count ≤ 1 + rest → count ≤ rest
fewer count rest most = omega arith

as-many : (count rest : ℕ) → suc count ≤ 0 + rest → suc count ≤ rest
as-many count rest most = omega arith

none-fell : (n : ℕ) → n ≡ 0 + n
none-fell n = omega arith

pub less-most : (count most : ℕ) → count < most → count ≤ most
less-most count most less = omega arith

pub felled-up : (test : Stance → Bool) → ((stance : Stance) → test stance ≡ true → is_up stance ≡ true) → (count : ℕ) (owns : List Seat) → count ≤ count_seats test owns → count_seats is_up owns ≡ count + count_seats is_up (felled test count owns)
felled-up test up zero owns most = none-fell (count_seats is_up owns)
felled-up test up (suc count) [] most = absurd (no-less count most)
felled-up test up (suc count) (own ∷ owns) most =
    by (test own.stance) refl (λ less. felled-up test up count owns less) (λ less. felled-up test up (suc count) owns less)
  where
    M : Bool → Type 0
    M b = suc count ≤ (if b then 1 else 0) + count_seats test owns

    by : (b : Bool) → test own.stance ≡ b → (count ≤ count_seats test owns → count_seats is_up owns ≡ count + count_seats is_up (felled test count owns)) → (suc count ≤ count_seats test owns → count_seats is_up owns ≡ suc count + count_seats is_up (felled test (suc count) owns)) → count_seats is_up (own ∷ owns) ≡ suc count + count_seats is_up (felled test (suc count) (own ∷ owns))
    by true it one all =
        fell-one count (count_seats is_up (own ∷ owns)) (count_seats is_up owns) (count_seats is_up (felled test count owns)) (count_seats is_up (felled test (suc count) (own ∷ owns)))
        (ap (λ b. (if b then 1 else 0) + count_seats is_up owns) (up own.stance it))
        (one (fewer count (count_seats test owns) (subst M it most)))
        (ap (count_seats is_up) (felled-fails test count own owns it))
    by false it one all =
        stayed-one count (if is_up own.stance then 1 else 0) (count_seats is_up owns) (count_seats is_up (felled test (suc count) owns)) (count_seats is_up (felled test (suc count) (own ∷ owns)))
        (all (as-many count (count_seats test owns) (subst M it most)))
        (ap (count_seats is_up) (felled-passes test (suc count) own owns it))

-- One takes over: it is no longer beside the active one, and the others are up as before.

abbrev one-led : Server → Seat → Bool → ℕ
one-led acting own b = if is_up (if b then Out else rejoined own.stance) then 1 else 0

rejoined-up : (acting : Server) (owns : List Seat) → AllByRecursion (λ (other : Server). same_server acting other ≡ false) (names_of owns) → count_seats is_up (out_at acting (on_seats rejoined owns)) ≡ count_seats is_up owns
rejoined-up acting [] apart = refl
rejoined-up acting (own ∷ owns) apart =
    let first : one-led acting own (same_server acting own.server) ≡ (if is_up own.stance then 1 else 0) = ap (one-led acting own) apart.0 ∙ ap (λ b. if b then 1 else 0) (rejoined-one own.stance) in
    λ i. first i + rejoined-up acting owns apart.1 i

here-sum : (one rest led left : ℕ) → one ≡ 1 → led ≡ 0 → left ≡ rest → one + rest ≡ suc (led + left)
here-sum one rest led left first out same = omega arith

there-sum : (one rest led left : ℕ) → led ≡ one → rest ≡ suc left → one + rest ≡ suc (led + left)
there-sum one rest led left same next = omega arith

pub led-up : (test : Stance → Bool) → ((stance : Stance) → test stance ≡ true → is_up stance ≡ true) → (acting : Server) (place : ℕ) (owns : List Seat) → AreDistinct (names_of owns) → IsAtPlace test acting place owns → count_seats is_up owns ≡ suc (count_seats is_up (out_at acting (on_seats rejoined owns)))
led-up test up acting place [] distinct is = elim is [ ]
led-up test up acting zero (own ∷ owns) distinct is =
    let apart = subst (λ (s : Server). AllByRecursion (λ (other : Server). same_server s other ≡ false) (names_of owns)) (sym is.0) distinct.0 in
    here-sum (if is_up own.stance then 1 else 0) (count_seats is_up owns) (one-led acting own (same_server acting own.server)) (count_seats is_up (out_at acting (on_seats rejoined owns)))
    (ap (λ b. if b then 1 else 0) (up own.stance is.1))
    (ap (one-led acting own) (same-self acting own.server is.0))
    (rejoined-up acting owns apart)
led-up test up acting (suc place) (own ∷ owns) distinct is =
    let apart = apart-at test acting place owns own.server distinct.0 is in
    there-sum (if is_up own.stance then 1 else 0) (count_seats is_up owns) (one-led acting own (same_server acting own.server)) (count_seats is_up (out_at acting (on_seats rejoined owns)))
    (ap (one-led acting own) apart ∙ ap (λ b. if b then 1 else 0) (rejoined-one own.stance))
    (led-up test up acting place owns distinct.1 is)

pub over-sum : (count first beside left led last : ℕ) → beside ≡ first → beside ≡ count + left → left ≡ suc led → led ≡ last → first ≡ suc count + last
over-sum count first beside left led last caught fell leads is = omega arith

-- Each standby fails.

left-up : (owns : List Seat) → count_seats is_up owns ≡ count_seats is_standby owns + count_seats is_up (on_seats left_out owns)
left-up [] = refl
left-up (own ∷ owns) = by own.stance (left-up owns)
  where
    out-sum : (up stand left : ℕ) → up ≡ stand + left → 0 + up ≡ 0 + stand + (0 + left)
    out-sum up stand left is = omega arith

    joins-sum : (up stand left : ℕ) → up ≡ stand + left → 1 + up ≡ 0 + stand + (1 + left)
    joins-sum up stand left is = omega arith

    stands-sum : (up stand left : ℕ) → up ≡ stand + left → 1 + up ≡ 1 + stand + (0 + left)
    stands-sum up stand left is = omega arith

    by : (stance : Stance) → count_seats is_up owns ≡ count_seats is_standby owns + count_seats is_up (on_seats left_out owns) → (if is_up stance then 1 else 0) + count_seats is_up owns ≡ (if is_standby stance then 1 else 0) + count_seats is_standby owns + ((if is_up (left_out stance) then 1 else 0) + count_seats is_up (on_seats left_out owns))
    by Out deeper = out-sum (count_seats is_up owns) (count_seats is_standby owns) (count_seats is_up (on_seats left_out owns)) deeper
    by Owed deeper = joins-sum (count_seats is_up owns) (count_seats is_standby owns) (count_seats is_up (on_seats left_out owns)) deeper
    by (Linking sent) deeper = joins-sum (count_seats is_up owns) (count_seats is_standby owns) (count_seats is_up (on_seats left_out owns)) deeper
    by (Standby on_way mark keeps) deeper = stands-sum (count_seats is_up owns) (count_seats is_standby owns) (count_seats is_up (on_seats left_out owns)) deeper

-- **where nobody is left, so many went down as stood by**
pub ended-up : (state : State Peers) → count_up state ≡ count_seats is_standby (caught_seats (catches state.peers.seats state.world.core.hand) state.peers.seats) + count_up (ended state).state
ended-up state =
    let catching = catches state.peers.seats state.world.core.hand in
    sym (caught-up catching state.peers.seats) ∙ left-up (caught_seats catching state.peers.seats)

-- those that stand by are up
pub standbys-up : (owns : List Seat) → count_seats is_standby owns ≤ count_seats is_up owns
standbys-up [] = nothing
  where
    nothing : 0 ≤ 0
    nothing = omega arith
standbys-up (own ∷ owns) = by own.stance (standbys-up owns)
  where
    out-less : (stand up : ℕ) → stand ≤ up → 0 + stand ≤ 0 + up
    out-less stand up is = omega arith

    joins-less : (stand up : ℕ) → stand ≤ up → 0 + stand ≤ 1 + up
    joins-less stand up is = omega arith

    stands-less : (stand up : ℕ) → stand ≤ up → 1 + stand ≤ 1 + up
    stands-less stand up is = omega arith

    by : (stance : Stance) → count_seats is_standby owns ≤ count_seats is_up owns → (if is_standby stance then 1 else 0) + count_seats is_standby owns ≤ (if is_up stance then 1 else 0) + count_seats is_up owns
    by Out deeper = out-less (count_seats is_standby owns) (count_seats is_up owns) deeper
    by Owed deeper = joins-less (count_seats is_standby owns) (count_seats is_up owns) deeper
    by (Linking sent) deeper = joins-less (count_seats is_standby owns) (count_seats is_up owns) deeper
    by (Standby on_way mark keeps) deeper = stands-less (count_seats is_standby owns) (count_seats is_up owns) deeper

-- What is told of one work.

pub over-deal : (up downs count left : ℕ) → up ≡ suc count + left → downs ≡ suc count → up ≡ downs + 0 + left
over-deal up downs count left is all = omega arith

pub end-deal : (up many made left : ℕ) → up ≡ many + left → made ≡ many → up ≡ 0 + (made + left)
end-deal up many made left is all = omega arith

pub lost-few : (downs made most stand up : ℕ) → downs ≡ suc made → suc made ≤ most → most ≤ stand → stand ≤ up → 0 + downs ≤ up
lost-few downs made most stand up all few most_stand stand_up = omega arith

pub taken-few : (made count most : ℕ) → made ≡ count → count < most → suc made ≤ most
taken-few made count most all less = omega arith
