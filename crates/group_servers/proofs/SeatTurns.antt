-- Turns that go from server to server: to the first to which something comes.
use Rattle.std.proofs.Common.{◌≡◌, ℕ, Bool, ◌==◌, true, false, not, Option, Some, None, Result, Ok, Err, List, [], ◌∷◌, length, refl, sym, ◌∙◌, ap, subst}
use Rattle.std.specs.Prelude.{IfOk}
use Rattle.std.specs.List.{list_any}
use Rattle.std.proofs.lemmas.Bool.{or_parts, not-false, eqb-true}
use Rattle.script_lines.specs.declared.line.Server.{Server}
use Rattle.wire.specs.declared.message.Message.{Message}
use Rattle.cluster_facts.specs.Types.{Entry}
use Rattle.lead_server.specs.Told.{TakesFirst}
use Rattle.group_servers.specs.declared.group.Seat.{Seat}
use Rattle.group_servers.specs.Seats.{has_link, has_back}
use Rattle.group_servers.specs.Delivered.{Comes, FirstComes, TakesBack}
use Rattle.group_servers.specs.Delivered.FirstComes.{nowhere, here, there}
use Rattle.group_servers.specs.Delivered.TakesBack.{nothing, first, later}

-- there is none

pub none-back : (these : Server → Bool) (seats : List Seat) → length seats ≡ 0 → TakesBack these None seats seats
none-back these [] none = nothing
none-back these (seat ∷ seats) none = cc

pub none-comes : (these : Server → Bool) (seats : List Seat) (lines : List (List ℕ)) → length seats ≡ 0 → FirstComes these None seats seats lines lines
none-comes these [] lines none = nowhere
none-comes these (seat ∷ seats) lines none = cc

-- to none of them something is on the way, and from none of them

none-in : {X : Type 0} (list : List X) → length list ≡ 0 → list ≡ []
none-in [] none = refl
none-in (x ∷ list) none = cc

pub empty : {X : Type 0} (list : List X) → not (length list == 0) ≡ false → list ≡ []
empty list none = none-in list (eqb-true (length list) 0 (not-false (length list == 0) none))

pub none-goes : (these : Server → Bool) (seats : List Seat) (lines : List (List ℕ)) → list_any has_link seats ≡ false → FirstComes these None seats seats lines lines
none-goes these [] lines none = nowhere
none-goes these (seat ∷ seats) lines none =
    let parts = or_parts (has_link seat) (list_any has_link seats) none in
    there seat (λ one_of. empty seat.link parts.0) (none-goes these seats lines parts.1)

pub none-returns : (these : Server → Bool) (seats : List Seat) → list_any has_back seats ≡ false → TakesBack these None seats seats
none-returns these [] none = nothing
none-returns these (seat ∷ seats) none =
    let parts = or_parts (has_back seat) (list_any has_back seats) none in
    later seat (λ one_of. empty seat.back parts.0) (none-returns these seats parts.1)

-- nothing comes to the first of them, and from it

pub later-back : (these : Server → Bool) (found : Option Message) (seats rest news : List Seat) (seat : Seat) (back : List Message) → seats ≡ seat ∷ rest → seat.back ≡ [] → back ≡ [] → TakesBack these found rest news → TakesBack these found seats (record seat { back = back } ∷ news)
later-back these found seats rest news seat back is was now deeper =
    let here : TakesBack these found (seat ∷ rest) (record seat { back = back } ∷ news) = subst (λ (b : List Message). TakesBack these found (seat ∷ rest) (record seat { back = b } ∷ news)) (was ∙ sym now) (later seat (λ one_of. was) deeper) in
    subst (λ (s : List Seat). TakesBack these found s (record seat { back = back } ∷ news)) (sym is) here

pub later-comes : {E : Type 0} (these : Server → Bool) (result : Result (Option (Option Entry)) E) (seats rest news : List Seat) (seat now : Seat) (before mid after : List (List ℕ)) → seats ≡ seat ∷ rest → Comes None seat now before mid → IfOk result (λ found. FirstComes these found rest news mid after) → IfOk result (λ found. FirstComes these found seats (now ∷ news) before after)
later-comes these (Err error) seats rest news seat now before mid after is none deeper = tt
later-comes these (Ok found) seats rest news seat now before mid after is none deeper =
    let first : FirstComes these found (seat ∷ rest) (seat ∷ news) mid after = there seat (λ one_of. none.0) deeper in
    let seats_so = subst (λ (s : List Seat). FirstComes these found s (seat ∷ news) mid after) (sym is) first in
    let now_so = subst (λ (s : Seat). FirstComes these found seats (s ∷ news) mid after) (sym none.1) seats_so in
    subst (λ (lines : List (List ℕ)). FirstComes these found seats (now ∷ news) lines after) none.2 now_so

pub past-back : (these : Server → Bool) (found : Option Message) (seats rest news : List Seat) (seat : Seat) → seats ≡ seat ∷ rest → has_back seat ≡ false → TakesBack these found rest news → TakesBack these found seats (seat ∷ news)
past-back these found seats rest news seat is none deeper =
    subst (λ (s : List Seat). TakesBack these found s (seat ∷ news)) (sym is) (later seat (λ one_of. empty seat.back none) deeper)

pub past-comes : {E : Type 0} (these : Server → Bool) (result : Result (Option (Option Entry)) E) (seats rest news : List Seat) (seat : Seat) (before after : List (List ℕ)) → seats ≡ seat ∷ rest → has_link seat ≡ false → IfOk result (λ found. FirstComes these found rest news before after) → IfOk result (λ found. FirstComes these found seats (seat ∷ news) before after)
past-comes these (Err error) seats rest news seat before after is none deeper = tt
past-comes these (Ok found) seats rest news seat before after is none deeper =
    subst (λ (s : List Seat). FirstComes these found s (seat ∷ news) before after) (sym is) (there seat (λ one_of. empty seat.link none) deeper)

-- something comes to the first of them, and from it

some-in : (P : Type 0) (list : List Message) → not (length list == 0) ≡ true → list ≡ [] → P
some-in P list some none = let never = sym some ∙ ap (λ (l : List Message). not (length l == 0)) none in cc

pub first-back : (these : Server → Bool) (found : Option Message) (seats rest : List Seat) (seat : Seat) (back : List Message) → seats ≡ seat ∷ rest → these seat.server ≡ true → has_back seat ≡ true → TakesFirst found seat.back back → TakesBack these found seats (record seat { back = back } ∷ rest)
first-back these None seats rest seat back is own some takes =
    some-in (TakesBack these None seats (record seat { back = back } ∷ rest)) seat.back some takes.0
first-back these (Some message) seats rest seat back is own some takes =
    subst (λ (s : List Seat). TakesBack these (Some message) s (record seat { back = back } ∷ rest)) (sym is) (first message back seat (record seat { back = back }) own takes refl)

pub first-comes : {E : Type 0} (these : Server → Bool) (result : Result (Option (Option Entry)) E) (seats rest : List Seat) (seat now : Seat) (before after : List (List ℕ)) → seats ≡ seat ∷ rest → these seat.server ≡ true → has_link seat ≡ true → IfOk result (λ found. Comes found seat now before after) → IfOk result (λ found. FirstComes these found seats (now ∷ rest) before after)
first-comes these (Err error) seats rest seat now before after is own some comes = tt
first-comes these (Ok None) seats rest seat now before after is own some comes =
    some-in (FirstComes these None seats (now ∷ rest) before after) seat.link some comes.0
first-comes these (Ok (Some committed)) seats rest seat now before after is own some comes =
    subst (λ (s : List Seat). FirstComes these (Some committed) s (now ∷ rest) before after) (sym is) (here seat now own comes)

-- the first of them is none of these

apart : (one : Server → Bool) (server : Server) (P : Type 0) → one server ≡ false → one server ≡ true → P
apart one server P other is = let never = sym other ∙ is in cc

pub other-back : (these : Server → Bool) (found : Option Message) (seats rest news : List Seat) (seat : Seat) → seats ≡ seat ∷ rest → these seat.server ≡ false → TakesBack these found rest news → TakesBack these found seats (seat ∷ news)
other-back these found seats rest news seat is other deeper =
    subst (λ (s : List Seat). TakesBack these found s (seat ∷ news)) (sym is) (later seat (apart these seat.server (seat.back ≡ []) other) deeper)

pub other-comes : {E : Type 0} (these : Server → Bool) (result : Result (Option (Option Entry)) E) (seats rest news : List Seat) (seat : Seat) (before after : List (List ℕ)) → seats ≡ seat ∷ rest → these seat.server ≡ false → IfOk result (λ found. FirstComes these found rest news before after) → IfOk result (λ found. FirstComes these found seats (seat ∷ news) before after)
other-comes these (Err error) seats rest news seat before after is other deeper = tt
other-comes these (Ok found) seats rest news seat before after is other deeper =
    subst (λ (s : List Seat). FirstComes these found s (seat ∷ news) before after) (sym is) (there seat (apart these seat.server (seat.link ≡ []) other) deeper)
