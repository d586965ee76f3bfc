-- What it comes to that a server goes down which is not active.
use Rattle.std.proofs.Common.{◌≡◌, ℕ, suc, Bool, true, false, ◌||◌, not, if◌then◌else◌, Option, Some, None, option_map, List, [], ◌∷◌, ◌++◌, length, map, refl, ap, sym, ◌∙◌, subst}
use Rattle.std.specs.Option.{option_to_list}
use Rattle.std.proofs.lemmas.Bool.{or_parts}
use Rattle.script_lines.specs.declared.line.Server.{Server}
use Rattle.wire.specs.declared.message.Message.{Message}
use Rattle.plain_service.specs.Setups.{Setup}
use Rattle.cluster_facts.specs.Types.{Entry}
use Rattle.cluster_facts.specs.History.{Hand, Empty, Waiting, Applied, Ready, committed_by}
use Rattle.cluster_events.specs.Lines.{Stood, Committed}
use Rattle.cluster_events.specs.declared.lines.ServerRole.TheVariants as role
use Rattle.event_text.specs.Texts.{printed}
use Rattle.mirror.specs.declared.state.NodeState.{NodeState as Node}
use Rattle.mirror.specs.declared.node.Tie.TheVariants.{Apart, Linked}
use Rattle.mirror.specs.Replicas.{ReplicaState}
use Rattle.group_cluster.specs.Seats as defined
use Rattle.group_cluster.specs.Seats.{Clear, Sent, Took, Stance, Out, Owed, Linking, Standby, Agree, WaitsFor, any_seat, is_sent, is_took, link_of, names_of, same_server, stance_of}
use Rattle.group_cluster.specs.Falling.{commitment, looked_at, out_at, taken_by}
use Rattle.group_cluster.proofs.Seating.{AllSeats, any-none}
use Rattle.group_servers.specs.declared.group.Seat.{Seat}
use Rattle.lead_rounds.specs.Leading.{serving_by, waits_by}
use Rattle.group_servers.specs.GroupNodes.{active_by, is_linked, seat_by, seats_by, to_server}
use Rattle.group_servers.specs.Parted.{DropsAt, DropsBy, TakesLast, lost_entry, lost_lines, settled_by}
use Rattle.group_servers.proofs.LookSteps.{LinksAgree, looked-active, rest-commits, taken-commits, waits_while}
use Rattle.group_servers.proofs.NameSteps.{Once, absent-behind, set-absent}
use Rattle.group_servers.proofs.SeatSteps.{at}

-- The last message of a list.

abbrev last_of : List Message → Option Message
last_of [] = None
last_of (message ∷ []) = Some message
last_of (message ∷ (next ∷ list)) = last_of (next ∷ list)

last-end : (front : List Message) (message : Message) → last_of (front ++ message ∷ []) ≡ Some message
last-end [] message = refl
last-end (first ∷ []) message = refl
last-end (first ∷ (second ∷ front)) message = last-end (second ∷ front) message

takes-last : (lost : Option Message) (list : List Message) → TakesLast lost list → lost ≡ last_of list
takes-last None list takes = sym (ap last_of takes)
takes-last (Some message) list takes = sym (ap last_of takes.1 ∙ last-end takes.0 message)

-- the entry that is lost with a server: the one in hand, where it goes to that server
abbrev pub entry_lost : Bool → List Entry → Hand → Option (ℕ × Entry)
entry_lost false past hand = None
entry_lost true past (Waiting entry) = Some (suc (length past), entry)
entry_lost true past hand = None

link-last : (setup : Setup) (past : List Entry) (hand : Hand) (stance : Stance) → Agree hand stance → lost_entry false (last_of (map (to_server setup) (link_of past hand stance))) ≡ entry_lost (is_sent stance) past hand
link-last setup past hand Out agree = refl
link-last setup past hand Owed agree = refl
link-last setup past hand (Linking false) agree = refl
link-last setup past (Waiting entry) (Linking true) agree = refl
link-last setup past Empty (Linking true) agree = elim agree [ ]
link-last setup past (Applied entry) (Linking true) agree = elim agree [ ]
link-last setup past (Ready entry) (Linking true) agree = elim agree [ ]
link-last setup past hand (Standby on_way Clear keeps) agree = refl
link-last setup past hand (Standby on_way Took keeps) agree = refl
link-last setup past (Waiting entry) (Standby on_way Sent keeps) agree = refl
link-last setup past Empty (Standby on_way Sent keeps) agree = elim agree [ ]
link-last setup past (Applied entry) (Standby on_way Sent keeps) agree = elim agree [ ]
link-last setup past (Ready entry) (Standby on_way Sent keeps) agree = elim agree [ ]

-- The server is out, and nothing is on the way to it.

pub record Dropped (setup : Setup) (past : List Entry) (hand : Hand) (server : Server) (owns : List defined.Seat) (lost : Option Message) (news : List Seat) : Type 0 where
  pub are : news ≡ seats_by setup past hand (out_at server owns)
  pub gone : lost_entry false lost ≡ entry_lost (is_sent (stance_of server owns)) past hand

pub drops-are : (setup : Setup) (past : List Entry) (hand : Hand) (server : Server) (owns : List defined.Seat) (lost : Option Message) (news : List Seat) → Once (names_of owns) → AllSeats (Agree hand) owns → DropsAt server lost (seats_by setup past hand owns) news → Dropped setup past hand server owns lost news
drops-are setup past hand server [] lost [] once agree drops = record { are = refl; gone = ap (lost_entry false) drops }
drops-are setup past hand server [] lost (new ∷ news) once agree drops = elim drops [ ]
drops-are setup past hand server (own ∷ owns) lost [] once agree drops = elim drops [ ]
drops-are setup past hand server (own ∷ owns) lost (new ∷ news) once agree drops =
    by (same_server server own.server) refl drops (λ deeper. drops-are setup past hand server owns lost news once.1 agree.1 deeper)
  where
    seat : Seat
    seat = seat_by setup past hand own

    others : List Seat
    others = seats_by setup past hand owns

    Then : Bool → Type 0
    Then b = (new ∷ news ≡ seat_by setup past hand (at own.server (if b then Out else own.stance)) ∷ seats_by setup past hand (out_at server owns)) × (lost_entry false lost ≡ entry_lost (is_sent (if b then own.stance else stance_of server owns)) past hand)

    by-so : (b : Bool) → same_server server own.server ≡ b → DropsBy b lost seat new others news (DropsAt server lost others news) → (DropsAt server lost others news → Dropped setup past hand server owns lost news) → Then b
    by-so true is drop deeper =
        let last = takes-last lost seat.link drop.0 in
        ((λ i. drop.1 i ∷ (drop.2 ∙ ap (seats_by setup past hand) (sym (set-absent server (λ stance. Out) owns (absent-behind server own owns is once)))) i), ap (lost_entry false) last ∙ link-last setup past hand own.stance agree.0)
    by-so false is drop deeper =
        let rest = deeper drop.1 in
        ((λ i. drop.0 i ∷ rest.are i), rest.gone)

    by : (b : Bool) → same_server server own.server ≡ b → DropsBy b lost seat new others news (DropsAt server lost others news) → (DropsAt server lost others news → Dropped setup past hand server owns lost news) → Dropped setup past hand server (own ∷ owns) lost (new ∷ news)
    by b is drop deeper =
        let T : Bool → Type 0 = Then in
        let done = subst T (sym is) (by-so b is drop deeper) in
        record { are = done.0; gone = done.1 }

-- What becomes of the entry in hand.

-- an entry that goes to no other server went to that one
sent-at : (server : Server) (owns : List defined.Seat) → Once (names_of owns) → any_seat is_sent owns ≡ true → any_seat is_sent (out_at server owns) ≡ false → is_sent (stance_of server owns) ≡ true
sent-at server [] once sent none = cc
sent-at server (own ∷ owns) once sent none = by (same_server server own.server) refl (is_sent own.stance) refl sent none (sent-at server owns once.1)
  where
    by : (b : Bool) → same_server server own.server ≡ b → (s : Bool) → is_sent own.stance ≡ s → (s || any_seat is_sent owns) ≡ true → (is_sent (if b then Out else own.stance) || any_seat is_sent (out_at server owns)) ≡ false → (any_seat is_sent owns ≡ true → any_seat is_sent (out_at server owns) ≡ false → is_sent (stance_of server owns) ≡ true) → is_sent (if b then own.stance else stance_of server owns) ≡ true
    by true is true goes sent none deeper = goes
    by true is false goes sent none deeper =
        let same = ap (any_seat is_sent) (set-absent server (λ stance. Out) owns (absent-behind server own owns is once)) in
        let is : true ≡ false = sym sent ∙ sym same ∙ none in
        cc
    by false is s goes sent none deeper =
        let parts = or_parts (is_sent own.stance) (any_seat is_sent (out_at server owns)) none in
        deeper (rest s (sym goes ∙ parts.0) sent) parts.1
      where
        rest : (t : Bool) → t ≡ false → (t || any_seat is_sent owns) ≡ true → any_seat is_sent owns ≡ true
        rest true no_t is_t = cc
        rest false no_t is_t = is_t

    no : true ≡ false → ⊥
    no is = cc

-- what is committed, and told
pub record Lost (past : List Entry) (hand : Hand) (outs : List defined.Seat) (server : Server) (found : Option (ℕ × Entry)) : Type 0 where
  pub entries : option_to_list (option_map (λ (f : ℕ × Entry). f.1) found) ++ committed_by past hand ≡ committed_by past (looked_at outs hand)
  pub lines : lost_lines found server ≡ printed (Stood server role.Down ∷ commitment outs past hand)

lost-rest : (past : List Entry) (hand : Hand) (outs : List defined.Seat) (server : Server) → ((entry : Entry) → hand ≡ Waiting entry → ⊥) → Lost past hand outs server None
lost-rest past hand outs server not =
    let rest = rest-commits past outs hand not in
    record { entries = rest.0; lines = ap (λ c. printed (Stood server role.Down ∷ c)) (sym rest.1) }

lost-waiting : (past : List Entry) (entry : Entry) (outs : List defined.Seat) (server : Server) (goes : Bool) → any_seat is_sent outs ≡ goes → Lost past (Waiting entry) outs server (if goes then None else Some (suc (length past), entry))
lost-waiting past entry outs server true is = record {
  entries = ap (λ b. committed_by past (if b then Waiting entry else taken_by outs entry)) (sym is);
  lines = ap (λ b. printed (Stood server role.Down ∷ (if b then [] else Committed (suc (length past)) entry ∷ []))) (sym is);
}
lost-waiting past entry outs server false is = record {
  entries = taken-commits past entry outs ∙ ap (λ b. committed_by past (if b then Waiting entry else taken_by outs entry)) (sym is);
  lines = ap (λ b. printed (Stood server role.Down ∷ (if b then [] else Committed (suc (length past)) entry ∷ []))) (sym is);
}

lost-none : (goes : Bool) (lost : Option Message) → lost_entry false lost ≡ None → lost_entry goes lost ≡ None
lost-none true lost is = refl
lost-none false lost is = is

none-lost : (sent : Bool) (past : List Entry) (hand : Hand) → ((entry : Entry) → hand ≡ Waiting entry → ⊥) → entry_lost sent past hand ≡ None
none-lost false past hand not = refl
none-lost true past Empty not = refl
none-lost true past (Waiting entry) not = absurd (not entry refl)
none-lost true past (Applied entry) not = refl
none-lost true past (Ready entry) not = refl

-- **by the message that was lost**
lost-by : (past : List Entry) (hand : Hand) (owns : List defined.Seat) (server : Server) (lost : Option Message) (goes : Bool) → Once (names_of owns) → WaitsFor hand owns → any_seat is_sent (out_at server owns) ≡ goes → lost_entry false lost ≡ entry_lost (is_sent (stance_of server owns)) past hand → Lost past hand (out_at server owns) server (lost_entry goes lost)
lost-by past (Waiting entry) owns server lost true once waits is gone = lost-waiting past entry (out_at server owns) server true is
lost-by past (Waiting entry) owns server lost false once waits is gone =
    let found : lost_entry false lost ≡ Some (suc (length past), entry) = gone ∙ ap (λ b. entry_lost b past (Waiting entry)) (sent-at server owns once waits is) in
    subst (Lost past (Waiting entry) (out_at server owns) server) (sym found) (lost-waiting past entry (out_at server owns) server false is)
lost-by past Empty owns server lost goes once waits is gone =
    let not : (entry : Entry) → Empty ≡ Waiting entry → ⊥ = λ entry same. cc in
    subst (Lost past Empty (out_at server owns) server) (sym (lost-none goes lost (gone ∙ none-lost (is_sent (stance_of server owns)) past Empty not))) (lost-rest past Empty (out_at server owns) server not)
lost-by past (Applied other) owns server lost goes once waits is gone =
    let not : (entry : Entry) → Applied other ≡ Waiting entry → ⊥ = λ entry same. cc in
    subst (Lost past (Applied other) (out_at server owns) server) (sym (lost-none goes lost (gone ∙ none-lost (is_sent (stance_of server owns)) past (Applied other) not))) (lost-rest past (Applied other) (out_at server owns) server not)
lost-by past (Ready other) owns server lost goes once waits is gone =
    let not : (entry : Entry) → Ready other ≡ Waiting entry → ⊥ = λ entry same. cc in
    subst (Lost past (Ready other) (out_at server owns) server) (sym (lost-none goes lost (gone ∙ none-lost (is_sent (stance_of server owns)) past (Ready other) not))) (lost-rest past (Ready other) (out_at server owns) server not)

pub lost-is : (past : List Entry) (hand : Hand) (owns : List defined.Seat) (server : Server) (lost : Option Message) → Once (names_of owns) → WaitsFor hand owns → lost_entry false lost ≡ entry_lost (is_sent (stance_of server owns)) past hand → Lost past hand (out_at server owns) server (lost_entry (any_seat is_sent (out_at server owns)) lost)
lost-is past hand owns server lost once waits gone = lost-by past hand owns server lost (any_seat is_sent (out_at server owns)) once waits refl gone

-- The active server looks at the others again.

linked-out : (server : Server) (owns : List defined.Seat) → any_seat is_linked (out_at server owns) ≡ true → any_seat is_linked owns ≡ true
linked-out server [] some = some
linked-out server (own ∷ owns) some = by (same_server server own.server) some (linked-out server owns)
  where
    or-right : (one other : Bool) → other ≡ true → (one || other) ≡ true
    or-right true other is = refl
    or-right false other is = is

    keep : (one other more : Bool) → (one || other) ≡ true → (other ≡ true → more ≡ true) → (one || more) ≡ true
    keep true other more is deeper = refl
    keep false other more is deeper = deeper is

    by : (b : Bool) → (is_linked (if b then Out else own.stance) || any_seat is_linked (out_at server owns)) ≡ true → (any_seat is_linked (out_at server owns) ≡ true → any_seat is_linked owns ≡ true) → (is_linked own.stance || any_seat is_linked owns) ≡ true
    by true is deeper = or-right (is_linked own.stance) (any_seat is_linked owns) (deeper is)
    by false is deeper = keep (is_linked own.stance) (any_seat is_linked (out_at server owns)) (any_seat is_linked owns) is deeper

-- nothing is on the way where none is linked
unlinked-one : (stance : Stance) → is_linked stance ≡ false → (is_sent stance || is_took stance) ≡ false
unlinked-one Out none = refl
unlinked-one Owed none = refl
unlinked-one (Linking sent) none = cc
unlinked-one (Standby on_way mark keeps) none = cc

unlinked : (outs : List defined.Seat) → AllSeats (λ stance. is_linked stance ≡ false) outs → (any_seat is_sent outs || any_seat is_took outs) ≡ false
unlinked [] none = refl
unlinked (own ∷ outs) none =
    mix (is_sent own.stance) (is_took own.stance) (any_seat is_sent outs) (any_seat is_took outs) (unlinked-one own.stance none.0) (unlinked outs none.1)
  where
    mix : (one two three four : Bool) → (one || two) ≡ false → (three || four) ≡ false → ((one || three) || (two || four)) ≡ false
    mix true two three four first second = cc
    mix false true three four first second = cc
    mix false false true four first second = cc
    mix false false false true first second = cc
    mix false false false false first second = refl

-- the server that serves, tied to others or not, with an entry that waits or without
abbrev tied : ReplicaState → Bool → Option Entry → Node
tied replica linked waits = record { replica = replica; waits = waits; tie = if linked then Linked else Apart; promised = []; kept = None }

settled-by : (replica : ReplicaState) (linked waiting was : Bool) (waits : Option Entry) → (linked ≡ true → was ≡ true) → (linked ≡ false → waiting ≡ false) → settled_by linked waiting (tied replica was waits) ≡ tied replica linked (waits_while waiting waits)
settled-by replica true true true waits stays none = refl
settled-by replica true false true waits stays none = refl
settled-by replica true waiting false waits stays none = let no = stays refl in cc
settled-by replica false true was waits stays none = let no = none refl in cc
settled-by replica false false was waits stays none = refl

pub settled-is : (setup : Setup) (past : List Entry) (hand : Hand) (server : Server) (owns : List defined.Seat) → LinksAgree hand (out_at server owns) → settled_by (any_seat is_linked (out_at server owns)) (any_seat is_sent (out_at server owns) || any_seat is_took (out_at server owns)) (active_by setup past hand owns) ≡ active_by setup past (looked_at (out_at server owns) hand) (out_at server owns)
settled-is setup past hand server owns links =
    let outs = out_at server owns in
    settled-by (serving_by setup past hand) (any_seat is_linked outs) (any_seat is_sent outs || any_seat is_took outs) (any_seat is_linked owns) (waits_by hand) (linked-out server owns) (λ none. unlinked outs (any-none is_linked outs none))
    ∙ sym (looked-active setup past outs hand links)
