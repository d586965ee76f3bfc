-- The servers of the code once one took over and the others joined it.
use Rattle.std.proofs.Common.{◌≡◌, ℕ, zero, suc, ◌-◌, ◌≤◌, ◌<◌, ◌⊎◌, inl, inr, Bool, true, false, nat_le, if◌then◌else◌, Option, List, [], ◌∷◌, length, refl, ap, sym, ◌∙◌, subst, arith}
use Rattle.std.specs.List.{AllByRecursion}
use Rattle.std.proofs.lemmas.Bool.{lt-ltb, le-leb}
use Rattle.stream_layout.specs.Deeds.{calls_of_all}
use Rattle.script_lines.specs.declared.line.Server.{Server}
use Rattle.script_lines.specs.declared.line.Server.TheVariants.{A, B, C}
use Rattle.plain_service.specs.Setups.{Setup}
use Rattle.plain_service.specs.Storing.{deeds_of}
use Rattle.cluster_facts.specs.Types.{Entry}
use Rattle.cluster_facts.specs.History.{Hand, Empty, committed_by}
use Rattle.mirror.specs.Pairing.{taken_over}
use Rattle.group_cluster.specs.Seats as defined
use Rattle.group_cluster.specs.Seats.{Mark, Stance, Out, Owed, Linking, Standby, same_server, on_seats, names_of, is_standby, count_seats}
use Rattle.group_cluster.specs.Falling.{out_at, rejoined, takes, capped, count_fallen, failing}
use Rattle.group_cluster.proofs.Seating.{same-turned}
use Rattle.group_servers.specs.declared.group.Seat.{Seat}
use Rattle.cluster_rounds.specs.Kits.{device_by}
use Rattle.group_servers.specs.GroupNodes.{active_by, standby_by, node_by, seat_by, seats_by, bare_by, bare}
use Rattle.group_servers.specs.Followed.{Follows, row_calls}
use Rattle.group_servers.specs.Rejoins.{rejoins, all_rejoin, left_at}
use Rattle.group_servers.specs.Tried.{won_at, IsAtPlace}

-- One that took over is down in its own seat, and every other one that is not down is standby.

rejoins-by : (setup : Setup) (past history : List Entry) (hand : Hand) (server : Server) (stance : Stance) → rejoins (standby_by setup history false) (bare_by setup past hand (record { server = server; stance = stance })) ≡ seat_by setup history Empty (record { server = server; stance = rejoined stance })
rejoins-by setup past history hand server Out = refl
rejoins-by setup past history hand server Owed = refl
rejoins-by setup past history hand server (Linking sent) = refl
rejoins-by setup past history hand server (Standby on_way mark keeps) = refl

-- no name comes twice
abbrev pub AreDistinct : List Server → Type 0
AreDistinct [] = Unit {0}
AreDistinct (name ∷ names) = AllByRecursion (λ (other : Server). same_server name other ≡ false) names × AreDistinct names

none-at : (setup : Setup) (past history : List Entry) (hand : Hand) (acting : Server) (owns : List defined.Seat) → AllByRecursion (λ (other : Server). same_server acting other ≡ false) (names_of owns) → all_rejoin (standby_by setup history false) (bare setup past hand owns) ≡ seats_by setup history Empty (out_at acting (on_seats rejoined owns))
none-at setup past history hand acting [] apart = refl
none-at setup past history hand acting (own ∷ owns) apart =
    let own_stance : Bool → defined.Seat = λ b. record { server = own.server; stance = if b then Out else rejoined own.stance } in
    ap (λ (s : Seat). s ∷ all_rejoin (standby_by setup history false) (bare setup past hand owns)) (rejoins-by setup past history hand own.server own.stance)
    ∙ ap (λ (rest : List Seat). seat_by setup history Empty (own_stance false) ∷ rest) (none-at setup past history hand acting owns apart.1)
    ∙ ap (λ b. seat_by setup history Empty (own_stance b) ∷ seats_by setup history Empty (out_at acting (on_seats rejoined owns))) (sym apart.0)

pub same-self : (one other : Server) → one ≡ other → same_server one other ≡ true
same-self one other is = subst (λ s. same_server one s ≡ true) is (self one)
  where
    self : (s : Server) → same_server s s ≡ true
    self A = refl
    self B = refl
    self C = refl

pub apart-at : (test : Stance → Bool) (acting : Server) (place : ℕ) (owns : List defined.Seat) (name : Server) → AllByRecursion (λ (other : Server). same_server name other ≡ false) (names_of owns) → IsAtPlace test acting place owns → same_server acting name ≡ false
apart-at test acting place [] name apart is = elim is [ ]
apart-at test acting zero (own ∷ owns) name apart is = ap (λ (s : Server). same_server s name) is.0 ∙ same-turned own.server name ∙ apart.0
apart-at test acting (suc place) (own ∷ owns) name apart is = apart-at test acting place owns name apart.1 is

-- **the seats are those of the definitions**
pub rejoined-own : (setup : Setup) (past history : List Entry) (hand : Hand) (test : Stance → Bool) (acting : Server) (place : ℕ) (owns : List defined.Seat) → AreDistinct (names_of owns) → IsAtPlace test acting place owns → all_rejoin (standby_by setup history false) (left_at place (won_at place (bare setup past hand owns))) ≡ seats_by setup history Empty (out_at acting (on_seats rejoined owns))
rejoined-own setup past history hand test acting place [] distinct is = elim is [ ]
rejoined-own setup past history hand test acting zero (own ∷ owns) distinct is =
    let same = same-self acting own.server is.0 in
    let apart = subst (λ (s : Server). AllByRecursion (λ (other : Server). same_server s other ≡ false) (names_of owns)) (sym is.0) distinct.0 in
    let own_stance : Bool → defined.Seat = λ b. record { server = own.server; stance = if b then Out else rejoined own.stance } in
    ap (λ (rest : List Seat). seat_by setup history Empty (own_stance true) ∷ rest) (none-at setup past history hand acting owns apart)
    ∙ ap (λ b. seat_by setup history Empty (own_stance b) ∷ seats_by setup history Empty (out_at acting (on_seats rejoined owns))) (sym same)
rejoined-own setup past history hand test acting (suc place) (own ∷ owns) distinct is =
    let rest = rejoined-own setup past history hand test acting place owns distinct.1 is in
    let apart = apart-at test acting place owns own.server distinct.0 is in
    let own_stance : Bool → defined.Seat = λ b. record { server = own.server; stance = if b then Out else rejoined own.stance } in
    ap (λ (s : Seat). s ∷ all_rejoin (standby_by setup history false) (left_at place (won_at place (bare setup past hand owns)))) (rejoins-by setup past history hand own.server own.stance)
    ∙ ap (λ (more : List Seat). seat_by setup history Empty (own_stance false) ∷ more) rest
    ∙ ap (λ b. seat_by setup history Empty (own_stance b) ∷ seats_by setup history Empty (out_at acting (on_seats rejoined owns))) (sym apart)

-- **the one that took over is the active server of the history that goes on**, with nobody linked yet
pub led-own : (setup : Setup) (past : List Entry) (hand : Hand) (on_way : Option ℕ) (mark : Mark) (keeps : Bool) → Follows past hand (Standby on_way mark keeps) → taken_over (node_by setup past hand (Standby on_way mark keeps)) ≡ active_by setup (committed_by past hand) Empty []
led-own setup past hand on_way mark keeps follows =
    ap (λ history. taken_over (standby_by setup history keeps)) follows ∙ led keeps
  where
    led : (b : Bool) → taken_over (standby_by setup (committed_by past hand) b) ≡ active_by setup (committed_by past hand) Empty []
    led true = refl
    led false = refl

-- The device that tells how many failed.

one-less : (count : ℕ) → suc count - 1 ≡ count
one-less count = omega arith

none-of : (count : ℕ) → (1 ≤ count → ⊥) → count ≡ 0
none-of zero none = refl
none-of (suc count) none = absurd (none (omega arith))

capped-same : (count standbys : ℕ) → count < standbys → capped count standbys ≡ count
capped-same count standbys less = ap (λ b. if b then count else standbys - 1) (lt-ltb count standbys less)

failing-told : (setup : Setup) (fails : ℕ → ℕ) (count : ℕ) (history : List Entry) → ((number : ℕ) → (fails number ≡ suc count) ⊎ ((count ≡ 0) × (fails number ≡ 0))) → (1 ≤ count → 1 ≤ length (row_calls setup false history)) → failing (device_by setup fails) history ≡ count
failing-told setup fails count [] tells made = sym (none-of count (λ some. let more = made some in absurd (no more)))
  where
    no : 1 ≤ 0 → ⊥
    no some = omega arith
failing-told setup fails count (entry ∷ past) tells made = by (nat_le 1 (length (calls_of_all (deeds_of setup past entry)))) refl
  where
    less : fails (suc (length past)) - 1 ≡ count
    less = elim (tells (suc (length past))) [
      | inl more ↦ ap (λ n. n - 1) more ∙ one-less count
      | inr none ↦ ap (λ n. n - 1) none.1 ∙ sym none.0
    ]

    by : (b : Bool) → nat_le 1 (length (calls_of_all (deeds_of setup past entry))) ≡ b → (if b then fails (suc (length past)) - 1 else 0) ≡ count
    by true is = less
    by false is = sym (none-of count (λ some. let it = le-leb 1 (length (calls_of_all (deeds_of setup past entry))) (made some) in cc))

-- **it fells as many as failed**
pub fallen-told : (setup : Setup) (fails : ℕ → ℕ) (fresh : Bool) (count : ℕ) (history : List Entry) (owns : List defined.Seat) → ((number : ℕ) → (fails number ≡ suc count) ⊎ ((count ≡ 0) × (fails number ≡ 0))) → (1 ≤ count → 1 ≤ length (row_calls setup fresh history)) → count < count_seats (takes fresh) owns → count_fallen (device_by setup fails) fresh history owns ≡ count
fallen-told setup fails true count history owns tells made short = sym (none-of count (λ some. let more = made some in absurd (no more)))
  where
    no : 1 ≤ 0 → ⊥
    no some = omega arith
fallen-told setup fails false count history owns tells made short =
    ap (λ n. capped n (count_seats is_standby owns)) (failing-told setup fails count history tells made) ∙ capped-same count (count_seats is_standby owns) short
