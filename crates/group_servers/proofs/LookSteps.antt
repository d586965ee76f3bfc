-- The entry in hand is looked at again: what stands for the servers then.
use Rattle.std.proofs.Common.{◌≡◌, ℕ, suc, Bool, true, false, ◌||◌, if◌then◌else◌, Option, Some, None, List, [], ◌∷◌, ◌++◌, length, refl, ap, sym, ◌∙◌, subst, append-nil}
use Rattle.script_lines.specs.declared.line.Server.{Server}
use Rattle.plain_service.specs.Setups.{Setup}
use Rattle.cluster_facts.specs.Types.{Entry}
use Rattle.cluster_facts.specs.History.{Hand, Empty, Waiting, Applied, Ready, committed_by}
use Rattle.cluster_events.specs.Lines.{Told, Committed}
use Rattle.event_text.specs.Texts.{printed, entry_line}
use Rattle.lead_server.specs.Told.{Commits}
use Rattle.group_cluster.specs.Seats as defined
use Rattle.group_cluster.specs.Seats.{Clear, Sent, Took, Stance, Out, Owed, Linking, Standby, is_sent, is_took, any_seat, Agree}
use Rattle.group_cluster.specs.Falling.{taken_by, looked_at, commitment}
use Rattle.group_cluster.specs.Group.{Turn, first_turn}
use Rattle.group_cluster.proofs.Seating.{AllSeats, Turned, IsTurning, any-none, is-turned, turned-all}
use Rattle.lead_rounds.specs.Leading.{serving_by, waits_by}
use Rattle.group_servers.specs.GroupNodes.{active_by, seat_by, seats_by}
use Rattle.group_servers.proofs.SeatSteps.{at}

-- The others: nothing of an entry that is on no link changes.

seat-applied : (setup : Setup) (past : List Entry) (entry : Entry) (server : Server) (stance : Stance) → is_sent stance ≡ false → seat_by setup past (Waiting entry) (at server stance) ≡ seat_by setup past (Applied entry) (at server stance)
seat-applied setup past entry server Out not = refl
seat-applied setup past entry server Owed not = refl
seat-applied setup past entry server (Linking false) not = refl
seat-applied setup past entry server (Linking true) not = cc
seat-applied setup past entry server (Standby on_way Clear keeps) not = refl
seat-applied setup past entry server (Standby on_way Took keeps) not = refl
seat-applied setup past entry server (Standby on_way Sent keeps) not = cc

seat-ready : (setup : Setup) (past : List Entry) (entry : Entry) (server : Server) (stance : Stance) → seat_by setup past (Applied entry) (at server stance) ≡ seat_by setup past (Ready entry) (at server stance)
seat-ready setup past entry server Out = refl
seat-ready setup past entry server Owed = refl
seat-ready setup past entry server (Linking true) = refl
seat-ready setup past entry server (Linking false) = refl
seat-ready setup past entry server (Standby on_way Clear keeps) = refl
seat-ready setup past entry server (Standby on_way Took keeps) = refl
seat-ready setup past entry server (Standby on_way Sent keeps) = refl

seats-applied : (setup : Setup) (past : List Entry) (entry : Entry) (owns : List defined.Seat) → AllSeats (λ stance. is_sent stance ≡ false) owns → seats_by setup past (Waiting entry) owns ≡ seats_by setup past (Applied entry) owns
seats-applied setup past entry [] not = refl
seats-applied setup past entry (seat ∷ owns) not = λ i. seat-applied setup past entry seat.server seat.stance not.0 i ∷ seats-applied setup past entry owns not.1 i

seats-ready : (setup : Setup) (past : List Entry) (entry : Entry) (owns : List defined.Seat) → seats_by setup past (Applied entry) owns ≡ seats_by setup past (Ready entry) owns
seats-ready setup past entry [] = refl
seats-ready setup past entry (seat ∷ owns) = λ i. seat-ready setup past entry seat.server seat.stance i ∷ seats-ready setup past entry owns i

seats-taken : (setup : Setup) (past : List Entry) (entry : Entry) (owns : List defined.Seat) → seats_by setup past (Applied entry) owns ≡ seats_by setup past (taken_by owns entry) owns
seats-taken setup past entry owns =
    elim (any_seat is_took owns) as (λ b. seats_by setup past (Applied entry) owns ≡ seats_by setup past (if b then Applied entry else Ready entry) owns) [
      | true ↦ refl
      | false ↦ seats-ready setup past entry owns
    ]

seats-waiting : (setup : Setup) (past : List Entry) (entry : Entry) (owns : List defined.Seat) (sent : Bool) → any_seat is_sent owns ≡ sent → seats_by setup past (Waiting entry) owns ≡ seats_by setup past (if sent then Waiting entry else taken_by owns entry) owns
seats-waiting setup past entry owns true is = refl
seats-waiting setup past entry owns false is = seats-applied setup past entry owns (any-none is_sent owns is) ∙ seats-taken setup past entry owns

-- **the others stand as they did**
pub looked-seats : (setup : Setup) (past : List Entry) (owns : List defined.Seat) (hand : Hand) → seats_by setup past hand owns ≡ seats_by setup past (looked_at owns hand) owns
looked-seats setup past owns Empty = refl
looked-seats setup past owns (Waiting entry) = seats-waiting setup past entry owns (any_seat is_sent owns) refl
looked-seats setup past owns (Applied entry) = seats-taken setup past entry owns
looked-seats setup past owns (Ready entry) = refl

-- The active server: its replica stands, and it waits while an entry or a confirmation of it is on the way.

taken-serves : (setup : Setup) (past : List Entry) (entry : Entry) (owns : List defined.Seat) → serving_by setup past (Applied entry) ≡ serving_by setup past (taken_by owns entry)
taken-serves setup past entry owns =
    elim (any_seat is_took owns) as (λ b. serving_by setup past (Applied entry) ≡ serving_by setup past (if b then Applied entry else Ready entry)) [ true ↦ refl | false ↦ refl ]

looked-serves : (setup : Setup) (past : List Entry) (owns : List defined.Seat) (hand : Hand) → serving_by setup past hand ≡ serving_by setup past (looked_at owns hand)
looked-serves setup past owns Empty = refl
looked-serves setup past owns (Waiting entry) =
    elim (any_seat is_sent owns) as (λ b. serving_by setup past (Waiting entry) ≡ serving_by setup past (if b then Waiting entry else taken_by owns entry)) [ true ↦ refl | false ↦ taken-serves setup past entry owns ]
looked-serves setup past owns (Applied entry) = taken-serves setup past entry owns
looked-serves setup past owns (Ready entry) = refl

-- while something is on the way
abbrev pub waits_while : Bool → Option Entry → Option Entry
waits_while true waits = waits
waits_while false waits = None

taken-waits : (entry : Entry) (owns : List defined.Seat) → waits_by (taken_by owns entry) ≡ waits_while (any_seat is_took owns) (Some entry)
taken-waits entry owns =
    elim (any_seat is_took owns) as (λ b. waits_by (if b then Applied entry else Ready entry) ≡ waits_while b (Some entry)) [ true ↦ refl | false ↦ refl ]

-- an entry that all applied is on no link
abbrev pub LinksAgree : Hand → List defined.Seat → Type 0
LinksAgree (Applied entry) owns = any_seat is_sent owns ≡ false
LinksAgree hand owns = Unit {0}

pub looked-waits : (owns : List defined.Seat) (hand : Hand) → LinksAgree hand owns → waits_by (looked_at owns hand) ≡ waits_while (any_seat is_sent owns || any_seat is_took owns) (waits_by hand)
looked-waits owns Empty links = elim (any_seat is_sent owns || any_seat is_took owns) as (λ b. None ≡ waits_while b None) [ true ↦ refl | false ↦ refl ]
looked-waits owns (Ready entry) links = elim (any_seat is_sent owns || any_seat is_took owns) as (λ b. None ≡ waits_while b None) [ true ↦ refl | false ↦ refl ]
looked-waits owns (Applied entry) links = taken-waits entry owns ∙ ap (λ b. waits_while (b || any_seat is_took owns) (Some entry)) (sym links)
looked-waits owns (Waiting entry) links =
    elim (any_seat is_sent owns) as (λ b. waits_by (if b then Waiting entry else taken_by owns entry) ≡ waits_while (b || any_seat is_took owns) (Some entry)) [
      | true ↦ refl
      | false ↦ taken-waits entry owns
    ]

-- **so it is the one that it was, while something is on the way, or waits no more**
pub looked-active : (setup : Setup) (past : List Entry) (owns : List defined.Seat) (hand : Hand) → LinksAgree hand owns → active_by setup past (looked_at owns hand) owns ≡ record (active_by setup past hand owns) { waits = waits_while (any_seat is_sent owns || any_seat is_took owns) (waits_by hand) }
looked-active setup past owns hand links =
    λ i. record (active_by setup past hand owns) { replica = sym (looked-serves setup past owns hand) i; waits = looked-waits owns hand links i }

-- The history, with the line of an entry that is committed.

pub taken-commits : (past : List Entry) (entry : Entry) (owns : List defined.Seat) → entry ∷ past ≡ committed_by past (taken_by owns entry)
taken-commits past entry owns =
    elim (any_seat is_took owns) as (λ b. entry ∷ past ≡ committed_by past (if b then Applied entry else Ready entry)) [ true ↦ refl | false ↦ refl ]

commits-by : (past : List Entry) (owns : List defined.Seat) (entry : Entry) (sent : Bool) (found : Option Entry) (old new : List Entry) (before after : List (List ℕ)) → old ≡ past → found ≡ (if sent then None else Some entry) → Commits found old new before after → (new ≡ committed_by past (if sent then Waiting entry else taken_by owns entry)) × (after ≡ before ++ printed (if sent then [] else Committed (suc (length past)) entry ∷ []))
commits-by past owns entry true None old new before after was is commits = (commits.0 ∙ was, commits.1 ∙ sym (append-nil before))
commits-by past owns entry true (Some other) old new before after was is commits = cc
commits-by past owns entry false None old new before after was is commits = cc
commits-by past owns entry false (Some other) old new before after was is commits =
    let same : other ≡ entry = cc in
    let line : List Entry → Entry → List (List ℕ) = λ entries e. before ++ entry_line (suc (length entries)) e ∷ [] in
    (commits.0 ∙ (λ i. same i ∷ was i) ∙ taken-commits past entry owns, commits.1 ∙ (λ i. line (was i) (same i)))

-- **an entry that waited is committed once it goes to no server**
pub waiting-commits : (past : List Entry) (owns : List defined.Seat) (entry : Entry) (found : Option Entry) (old new : List Entry) (before after : List (List ℕ)) → old ≡ past → found ≡ (if any_seat is_sent owns then None else Some entry) → Commits found old new before after → (new ≡ committed_by past (looked_at owns (Waiting entry))) × (after ≡ before ++ printed (commitment owns past (Waiting entry)))
waiting-commits past owns entry found old new before after was is commits =
    commits-by past owns entry (any_seat is_sent owns) found old new before after was is commits

-- what was committed stays so
taken-same : (past : List Entry) (entry : Entry) (owns : List defined.Seat) → committed_by past (Applied entry) ≡ committed_by past (taken_by owns entry)
taken-same past entry owns = taken-commits past entry owns

-- **where no entry waited nothing is committed**
pub rest-commits : (past : List Entry) (owns : List defined.Seat) (hand : Hand) → ((entry : Entry) → hand ≡ Waiting entry → ⊥) → (committed_by past hand ≡ committed_by past (looked_at owns hand)) × (commitment owns past hand ≡ [])
rest-commits past owns Empty not = (refl, refl)
rest-commits past owns (Waiting entry) not = absurd (not entry refl)
rest-commits past owns (Applied entry) not = (taken-same past entry owns, refl)
rest-commits past owns (Ready entry) not = (refl, refl)

-- Servers of which one turned agree with the entry in hand as before.

pub turned-agrees : (turn : Turn) (hand : Hand) (acting : Server) → IsTurning hand turn → (owns seats : List defined.Seat) (told : List Told) → first_turn turn owns ≡ Some (seats, told) → AllSeats (Agree hand) owns → AllSeats (Agree hand) seats
turned-agrees turn hand acting turns owns seats told is agree =
    let I : Option (List defined.Seat × List Told) → Type 0 = elim [ None ↦ Unit {0} | Some t ↦ Turned turn owns t.0 t.1 ] in
    let by : Turned turn owns seats told = subst I is (is-turned turn owns) in
    (turned-all hand acting turn turns by agree).agree
