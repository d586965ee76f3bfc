-- Strings in the order in which they came, read as a net whose newest comes first.
use Rattle.std.proofs.Common.{◌≡◌, ℕ, zero, suc, ◌+◌, ◌≤◌, ◌<◌, Bool, true, false, not, ◌||◌, cond, if◌then◌else◌, Option, Some, None, List, [], ◌∷◌, length, map, nat_eq, refl, ap, sym, ◌∙◌, subst, true≢false, option_map, slice_get, inl, inr, ◌⊎◌, ◌++◌, add-one, arith}
use Rattle.indexmap.specs.IndexSet.{insert_key}
use Rattle.std.specs.Global.{Vec}
use Rattle.std.specs.Str.{bytes_eq}
use Rattle.std.specs.List.{list_any, position_from, position_or_len, IsDistinct, AllByRecursion}
use Rattle.std.specs.Cmp.Lexicographic.{bytes_decides}
use Rattle.std.proofs.lemmas.Bool.{lt-ltb}
use Rattle.std.proofs.lemmas.Bool.Decides.{eqb_tells}
use Rattle.std.proofs.lemmas.Iterator.Adapters.{position_from-zero}
use Rattle.std.proofs.Math.Bool.{or-false}
use mathlib.Core.List.{reverse_aux}
use Rattle.message_net.specs.Nets.{knows, posted, bytes_at, place_of}

-- the bytes of strings
abbrev pub bytes_of : List (Vec ℕ) → List (List ℕ)
bytes_of strings = map (λ (bytes : Vec ℕ). bytes.items) strings

-- a string has these bytes
abbrev pub is_of : List ℕ → Vec ℕ → Bool
is_of bytes string = bytes_eq bytes string.items

either : (b c d : Bool) → (c || (b || d)) ≡ ((b || c) || d)
either true true d = refl
either true false d = refl
either false c d = refl

knows_all : (bytes : List ℕ) (strings : List (Vec ℕ)) (net : List (List ℕ)) → knows bytes (reverse_aux (bytes_of strings) net) ≡ (list_any (is_of bytes) strings || knows bytes net)
knows_all bytes [] net = refl
knows_all bytes (string ∷ strings) net =
    knows_all bytes strings (string.items ∷ net) ∙ either (is_of bytes string) (list_any (is_of bytes) strings) (knows bytes net)

-- whether bytes stand in the net is whether some string has them
pub knows-strings : (bytes : List ℕ) (strings : List (Vec ℕ)) → knows bytes (reverse_aux (bytes_of strings) []) ≡ list_any (is_of bytes) strings
knows-strings bytes strings = knows_all bytes strings [] ∙ or-false (list_any (is_of bytes) strings)

-- a place counted from 0 among the strings, or the place in the net below them
abbrev above : Option ℕ → Option ℕ → Option ℕ
above None below = below
above (Some index) below = Some (suc index)

-- no string is found that differs from one with these bytes
none_behind : (bytes : List ℕ) (string : Vec ℕ) (strings : List (Vec ℕ)) (start : ℕ) → is_of bytes string ≡ true → AllByRecursion (λ (other : Vec ℕ). bytes_eq string.items other.items ≡ false) strings → position_from (is_of bytes) start strings ≡ None
none_behind bytes string [] start is apart = refl
none_behind bytes string (other ∷ strings) start is apart =
    let behind = none_behind bytes string strings (start + 1) is apart.1 in
    let P : Bool → Type 0 = λ b. is_of bytes other ≡ b → cond b (Some start) (position_from (is_of bytes) (start + 1) strings) ≡ None in
    let found : is_of bytes other ≡ true → ⊥ = λ same.
    let first : string.items ≡ bytes = sym ((bytes_decides bytes string.items).0 is) in
    let both : string.items ≡ other.items = first ∙ (bytes_decides bytes other.items).0 same in
    true≢false (sym ((bytes_decides string.items other.items).1 both) ∙ apart.0) in
    let cases : (b : Bool) → P b = elim [ true ↦ λ same. absurd (found same) | false ↦ λ other. behind ] in
    cases (is_of bytes other) refl

place_all : (bytes : List ℕ) (strings : List (Vec ℕ)) (net : List (List ℕ)) → IsDistinct (λ (one other : Vec ℕ). bytes_eq one.items other.items) strings → place_of bytes (reverse_aux (bytes_of strings) net) ≡ above (position_from (is_of bytes) (length net) strings) (place_of bytes net)
unfolding IsDistinct
place_all bytes [] net apart = refl
place_all bytes (string ∷ strings) net apart =
    let deeper = place_all bytes strings (string.items ∷ net) apart.1 in
    let next : suc (length net) ≡ length net + 1 = omega arith in
    let P : Bool → Type 0 = λ b. is_of bytes string ≡ b → above (position_from (is_of bytes) (suc (length net)) strings) (if b then Some (suc (length net)) else place_of bytes net) ≡ above (cond b (Some (length net)) (position_from (is_of bytes) (length net + 1) strings)) (place_of bytes net) in
    let cases : (b : Bool) → P b = elim [
      | true ↦ λ is. ap (λ place. above place (Some (suc (length net)))) (none_behind bytes string strings (suc (length net)) is apart.0)
      | false ↦ λ other. ap (λ start. above (position_from (is_of bytes) start strings) (place_of bytes net)) next
    ] in
    deeper ∙ cases (is_of bytes string) refl

counted : (found : Option ℕ) → above found None ≡ option_map suc found
counted None = refl
counted (Some index) = refl

-- bytes stand at the place of the string that has them
pub place-strings : (bytes : List ℕ) (strings : List (Vec ℕ)) → IsDistinct (λ (one other : Vec ℕ). bytes_eq one.items other.items) strings → place_of bytes (reverse_aux (bytes_of strings) []) ≡ option_map suc (position_from (is_of bytes) 0 strings)
place-strings bytes strings apart = place_all bytes strings [] apart ∙ counted (position_from (is_of bytes) 0 strings)

-- where one has them, by its index
pub known-place : (bytes : List ℕ) (strings : List (Vec ℕ)) (index : ℕ) → IsDistinct (λ (one other : Vec ℕ). bytes_eq one.items other.items) strings → index ≡ position_or_len (is_of bytes) strings → index < length strings → place_of bytes (reverse_aux (bytes_of strings) []) ≡ Some (index + 1)
known-place bytes strings index apart is within =
    let first = position_or_len (is_of bytes) strings in
    let low : first < length strings = subst (λ (place : ℕ). place < length strings) is within in
    place-strings bytes strings apart
    ∙ ap (option_map suc) (sym (position_from-zero (is_of bytes) strings))
    ∙ ap (λ (b : Bool). option_map suc (cond b (Some first) None)) (lt-ltb first (length strings) low)
    ∙ ap (λ (place : ℕ). Some (suc place)) (sym is)
    ∙ ap Some (sym (add-one index))

-- where none has them, the index is behind all
pub none-len : {X : Type 0} (test : X → Bool) (xs : List X) → list_any test xs ≡ false → position_or_len test xs ≡ length xs
none-len test [] none = refl
none-len test (x ∷ xs) none =
    let P : Bool → Type 0 = λ b. (b || list_any test xs) ≡ false → cond (not b) (1 + position_or_len test xs) 0 ≡ suc (length xs) in
    let cases : (b : Bool) → P b = elim [
      | true ↦ λ is. absurd (true≢false is)
      | false ↦ λ is. omega (arith, none-len test xs is)
    ] in
    cases (test x) none

-- a place above all has nothing
nothing_above : (place : ℕ) (net : List (List ℕ)) → length net + 1 ≤ place → bytes_at place net ≡ None
nothing_above place [] high = refl
nothing_above place (known ∷ net) high =
    elim (eqb_tells place (suc (length net))) [
      | inl equal ↦ absurd (let same = equal.1 in omega arith)
      | inr other ↦ ap (λ (b : Bool). if b then Some known else bytes_at place net) other.0 ∙ nothing_above place net (omega arith)
    ]

-- nothing stands at the place 0
pub nothing_at_zero : (net : List (List ℕ)) → bytes_at 0 net ≡ None
nothing_at_zero [] = refl
nothing_at_zero (known ∷ net) =
    elim (eqb_tells 0 (suc (length net))) [
      | inl equal ↦ absurd (let same = equal.1 in omega arith)
      | inr other ↦ ap (λ (b : Bool). if b then Some known else bytes_at 0 net) other.0 ∙ nothing_at_zero net
    ]

-- a place of the net stays where strings come upon it
stays_at : (place : ℕ) (strings : List (List ℕ)) (net : List (List ℕ)) → place ≤ length net → bytes_at place (reverse_aux strings net) ≡ bytes_at place net
stays_at place [] net within = refl
stays_at place (string ∷ strings) net within =
    elim (eqb_tells place (suc (length net))) [
      | inl equal ↦ absurd (let same = equal.1 in omega arith)
      | inr other ↦ stays_at place strings (string ∷ net) (omega arith) ∙ ap (λ (b : Bool). if b then Some string else bytes_at place net) other.0
    ]

at_all : (strings : List (Vec ℕ)) (net : List (List ℕ)) (index : ℕ) → bytes_at (suc (index + length net)) (reverse_aux (bytes_of strings) net) ≡ option_map (λ (bytes : Vec ℕ). bytes.items) (slice_get strings index)
at_all [] net index = nothing_above (suc (index + length net)) net (omega arith)
at_all (string ∷ strings) net zero =
    let start : suc (0 + length net) ≡ suc (length net) = omega arith in
    ap (λ place. bytes_at place (reverse_aux (bytes_of strings) (string.items ∷ net))) start ∙ stays_at (suc (length net)) (bytes_of strings) (string.items ∷ net) (omega arith) ∙ top (eqb_tells (suc (length net)) (suc (length net))) where
      top : ((nat_eq (suc (length net)) (suc (length net)) ≡ true) × (suc (length net) ≡ suc (length net))) ⊎ ((nat_eq (suc (length net)) (suc (length net)) ≡ false) × ((suc (length net) ≡ suc (length net)) → ⊥)) → bytes_at (suc (length net)) (string.items ∷ net) ≡ Some string.items
      top (inl equal) = ap (λ (b : Bool). if b then Some string.items else bytes_at (suc (length net)) net) equal.0
      top (inr other) = absurd (other.1 refl)
at_all (string ∷ strings) net (suc index) =
    let up : suc (suc index + length net) ≡ suc (index + suc (length net)) = omega arith in
    ap (λ place. bytes_at place (reverse_aux (bytes_of strings) (string.items ∷ net))) up ∙ at_all strings (string.items ∷ net) index

-- what stands at a place is the string of that place, counted from 0
pub at-strings : (strings : List (Vec ℕ)) (place index : ℕ) → place ≡ suc index → bytes_at place (reverse_aux (bytes_of strings) []) ≡ option_map (λ (bytes : Vec ℕ). bytes.items) (slice_get strings index)
at-strings strings place index is =
    let same : place ≡ suc (index + 0) = omega (arith, is) in
    ap (λ p. bytes_at p (reverse_aux (bytes_of strings) [])) same ∙ at_all strings [] index

-- where bytes have no place the net does not know them, and where they have one it does
pub knows-place : (bytes : List ℕ) (net : List (List ℕ)) → (place_of bytes net ≡ None → knows bytes net ≡ false) × ((place : ℕ) → place_of bytes net ≡ Some place → knows bytes net ≡ true)
knows-place bytes [] = (λ none. refl, λ place some. absurd (let e : None ≡ Some place = some in cc))
knows-place bytes (known ∷ net) =
    let deeper = knows-place bytes net in
    let P : Bool → Type 0 = λ b. ((if b then Some (suc (length net)) else place_of bytes net) ≡ None → (b || knows bytes net) ≡ false) × ((place : ℕ) → (if b then Some (suc (length net)) else place_of bytes net) ≡ Some place → (b || knows bytes net) ≡ true) in
    let cases : (b : Bool) → P b = elim [
      | true ↦ (λ none. absurd (let e : Some (suc (length net)) ≡ None = none in cc), λ place some. refl)
      | false ↦ deeper
    ] in
    cases (bytes_eq bytes known)

-- bytes that are posted anew stand at the last place
pub place-newest : (bytes : List ℕ) (net : List (List ℕ)) → place_of bytes (bytes ∷ net) ≡ Some (suc (length net))
place-newest bytes net =
    ap (λ (b : Bool). if b then Some (suc (length net)) else place_of bytes net) ((bytes_decides bytes bytes).1 refl)

-- what is posted where it is known, and where it is not
pub posted-known : (bytes : List ℕ) (net : List (List ℕ)) → knows bytes net ≡ true → net ≡ posted bytes net
posted-known bytes net known = sym (ap (λ (b : Bool). if b then net else bytes ∷ net) known)

pub posted-new : (bytes : List ℕ) (net : List (List ℕ)) → knows bytes net ≡ false → bytes ∷ net ≡ posted bytes net
posted-new bytes net new = sym (ap (λ (b : Bool). if b then net else bytes ∷ net) new)

-- one string more
pub more_strings : (strings : List (Vec ℕ)) (string : Vec ℕ) (net : List (List ℕ)) → reverse_aux (bytes_of (strings ++ string ∷ [])) net ≡ string.items ∷ reverse_aux (bytes_of strings) net
more_strings [] string net = refl
more_strings (first ∷ strings) string net = more_strings strings string (first.items ∷ net)

-- a string whose bytes are not known joins behind all others
pub keys-pushed : (bytes : List ℕ) (old new : List (Vec ℕ)) (string : Vec ℕ) → string.items ≡ bytes → knows bytes (reverse_aux (bytes_of old) []) ≡ false → new ≡ insert_key (λ (one other : Vec ℕ). bytes_eq one.items other.items) old string → new ≡ old ++ string ∷ []
keys-pushed bytes old new string is unknown joins =
    let absent : list_any (is_of string.items) old ≡ false = ap (λ (b : List ℕ). list_any (is_of b) old) is ∙ sym (knows-strings bytes old) ∙ unknown in
    joins ∙ ap (λ (b : Bool). if b then old else old ++ string ∷ []) absent

-- and in the net as the newest
pub strings-pushed : (bytes : List ℕ) (old new : List (Vec ℕ)) (string : Vec ℕ) → string.items ≡ bytes → knows bytes (reverse_aux (bytes_of old) []) ≡ false → new ≡ insert_key (λ (one other : Vec ℕ). bytes_eq one.items other.items) old string → reverse_aux (bytes_of new) [] ≡ bytes ∷ reverse_aux (bytes_of old) []
strings-pushed bytes old new string is unknown joins =
    ap (λ (strings : List (Vec ℕ)). reverse_aux (bytes_of strings) []) (keys-pushed bytes old new string is unknown joins) ∙ more_strings old string [] ∙ ap (λ (b : List ℕ). b ∷ reverse_aux (bytes_of old) []) is

-- the place of bytes that were posted anew
pub place-pushed : (bytes : List ℕ) (net new : List (List ℕ)) (count : ℕ) → new ≡ bytes ∷ net → count ≡ length new → place_of bytes new ≡ Some count
place-pushed bytes net new count joins counts =
    ap (place_of bytes) joins ∙ place-newest bytes net ∙ ap Some (sym (counts ∙ ap length joins))
