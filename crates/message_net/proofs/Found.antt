-- Strings found by their fronts, as one more is posted.
use Rattle.std.proofs.Common.{◌≡◌, ℕ, zero, suc, ◌+◌, ◌≤◌, Bool, if◌then◌else◌, Option, Some, None, List, [], ◌∷◌, ◌++◌, length, nat_eq, option_map, slice_get, refl, ap, sym, ◌∙◌, subst, inl, inr, arith}
use Rattle.std.specs.Global.{Vec}
use Rattle.std.proofs.lemmas.Bool.Decides.{eqb_tells}
use Rattle.std.proofs.lemmas.List.{length-append}
use mathlib.Core.List.{reverse_aux}
use Rattle.message_net.specs.Nets.{bytes_at, front_of, newest_with, net_before}
use Rattle.message_net.specs.Inside.{net_from, AreOlder, AreNewest, AreFound}
use Rattle.message_net.proofs.Places.{bytes_of, more_strings, at-strings}

length-all : (strings : List (Vec ℕ)) (net : List (List ℕ)) → length (reverse_aux (bytes_of strings) net) ≡ length strings + length net
length-all [] net = omega arith
length-all (string ∷ strings) net =
    let rest = length-all strings (string.items ∷ net) in
    omega arith

pub length-net : (strings : List (Vec ℕ)) → length (net_from strings) ≡ length strings
length-net strings =
    let all = length-all strings [] in
    omega arith

-- one string more is the newest of its front
newest-joined : (strings new : List (Vec ℕ)) (string : Vec ℕ) (old now : ℕ → Option ℕ) (front place : ℕ) → new ≡ strings ++ string ∷ [] → front ≡ front_of string.items → place ≡ length new → AreNewest old strings → ((other : ℕ) → now other ≡ (if nat_eq front other then Some place else old other)) → AreNewest now new
newest-joined strings new string old now front place is front_is place_is newest joined other =
    let long = length-net strings in
    let all = ap length is in
    let more = length-append strings (string ∷ []) in
    let top : place ≡ suc (length (net_from strings)) = omega arith in
    let parts : (if nat_eq front other then Some place else old other) ≡ newest_with other (string.items ∷ net_from strings) = λ i. if nat_eq (front_is i) other then Some (top i) else newest other i in
    joined other ∙ parts ∙ sym (ap (λ (s : List (Vec ℕ)). newest_with other (net_from s)) is ∙ ap (newest_with other) (more_strings strings string []))

older-joined : (net : List (List ℕ)) (strings : List (Vec ℕ)) (older : List (Option ℕ)) (string : Vec ℕ) (place : Option ℕ) → AreOlder net strings older → place ≡ newest_with (front_of string.items) (reverse_aux (bytes_of strings) net) → AreOlder net (strings ++ string ∷ []) (older ++ place ∷ [])
older-joined net [] [] string place all is = (is, tt)
older-joined net [] (first ∷ older) string place all is = absurd all
older-joined net (first ∷ strings) [] string place all is = absurd all
older-joined net (first ∷ strings) (one ∷ older) string place all is =
    (all.0, older-joined (first.items ∷ net) strings older string place all.1 is)

-- what is found where one string more was posted
pub found-joined : (strings new : List (Vec ℕ)) (string : Vec ℕ) (old now : ℕ → Option ℕ) (older more : List (Option ℕ)) (front place : ℕ) → AreFound strings old older → new ≡ strings ++ string ∷ [] → front ≡ front_of string.items → place ≡ length new → ((other : ℕ) → now other ≡ (if nat_eq front other then Some place else old other)) → more ≡ older ++ old front ∷ [] → AreFound new now more
found-joined strings new string old now older more front place found is front_is place_is joined added =
    let before : old front ≡ newest_with (front_of string.items) (net_from strings) = found.newest front ∙ ap (λ f. newest_with f (net_from strings)) front_is in
    let one = ap length added in
    let two = ap length is in
    let three = length-append older (old front ∷ []) in
    let four = length-append strings (string ∷ []) in
    let same = found.count in
    let all : AreOlder [] (strings ++ string ∷ []) (older ++ old front ∷ []) = older-joined [] strings older string (old front) found.older before in
    record {
      newest = newest-joined strings new string old now front place is front_is place_is found.newest joined;
      count = omega arith;
      older = subst (λ (y : List (Vec ℕ) × List (Option ℕ)). AreOlder [] y.0 y.1) (λ i. (sym is i, sym added i)) all;
    }

-- what is found where the places of fronts were moved about
pub found-same : (strings : List (Vec ℕ)) (old now : ℕ → Option ℕ) (older more : List (Option ℕ)) → AreFound strings old older → ((other : ℕ) → now other ≡ old other) → more ≡ older → AreFound strings now more
found-same strings old now older more found moved same =
    let count = found.count in
    let long = ap length same in
    record {
      newest = λ front. moved front ∙ found.newest front;
      count = omega arith;
      older = subst (AreOlder [] strings) (sym same) found.older;
    }

-- the net before a place stays where strings come upon it
before-stays : (place : ℕ) (strings : List (List ℕ)) (net : List (List ℕ)) → place ≤ length net → net_before place (reverse_aux strings net) ≡ net_before place net
before-stays place [] net within = refl
before-stays place (string ∷ strings) net within =
    elim (eqb_tells place (suc (length net))) [
      | inl equal ↦ absurd (let same = equal.1 in omega arith)
      | inr other ↦ before-stays place strings (string ∷ net) (omega arith) ∙ ap (λ (b : Bool). if b then net else net_before place net) other.0
    ]

before-top : (bytes : List ℕ) (net : List (List ℕ)) → net_before (suc (length net)) (bytes ∷ net) ≡ net
before-top bytes net =
    elim (eqb_tells (suc (length net)) (suc (length net))) [
      | inl equal ↦ ap (λ (b : Bool). if b then net else net_before (suc (length net)) net) equal.0
      | inr other ↦ absurd (other.1 refl)
    ]

older-all : (net : List (List ℕ)) (strings : List (Vec ℕ)) (older : List (Option ℕ)) (index : ℕ) (string : Vec ℕ) (place : Option ℕ) → AreOlder net strings older → slice_get strings index ≡ Some string → slice_get older index ≡ Some place → place ≡ newest_with (front_of string.items) (net_before (suc (index + length net)) (reverse_aux (bytes_of strings) net))
older-all net [] older index string place all at found = absurd (let e : None ≡ Some string = at in cc)
older-all net (first ∷ strings) [] index string place all at found = absurd all
older-all net (first ∷ strings) (one ∷ older) zero string place all at found =
    let is : first ≡ string = (let e : Some first ≡ Some string = at in cc) in
    let here : one ≡ place = (let e : Some one ≡ Some place = found in cc) in
    let start : suc (0 + length net) ≡ suc (length net) = omega arith in
    let whole : net_before (suc (0 + length net)) (reverse_aux (bytes_of strings) (first.items ∷ net)) ≡ net = ap (λ p. net_before p (reverse_aux (bytes_of strings) (first.items ∷ net))) start ∙ before-stays (suc (length net)) (bytes_of strings) (first.items ∷ net) (omega arith) ∙ before-top first.items net in
    sym here ∙ all.0 ∙ (λ i. newest_with (front_of (is i).items) (sym whole i))
older-all net (first ∷ strings) (one ∷ older) (suc index) string place all at found =
    let up : suc (suc index + length net) ≡ suc (index + suc (length net)) = omega arith in
    older-all (first.items ∷ net) strings older index string place all.1 at found ∙ sym (ap (λ p. newest_with (front_of string.items) (net_before p (reverse_aux (bytes_of strings) (first.items ∷ net)))) up)

-- where the newest string of the front of the one at a place stood as that one came
pub older-found : (strings : List (Vec ℕ)) (older : List (Option ℕ)) (place index : ℕ) (bytes : List ℕ) (found : Option ℕ) → AreOlder [] strings older → place ≡ suc index → slice_get older index ≡ Some found → bytes_at place (net_from strings) ≡ Some bytes → found ≡ newest_with (front_of bytes) (net_before place (net_from strings))
older-found strings older place index bytes found all up at stands =
    let P : Option (Vec ℕ) → Type 0 = λ s. slice_get strings index ≡ s → option_map (λ (b : Vec ℕ). b.items) s ≡ Some bytes → found ≡ newest_with (front_of bytes) (net_before place (net_from strings)) in
    let cases : (s : Option (Vec ℕ)) → P s = elim [
      | None ↦ λ is none. absurd (let e : None ≡ Some bytes = none in cc)
      | Some string ↦ λ is same.
          let here : string.items ≡ bytes = (let e : Some string.items ≡ Some bytes = same in cc) in
          let p : suc (index + 0) ≡ place = omega (arith, up) in
          older-all [] strings older index string found all is at ∙ (λ i. newest_with (front_of (here i)) (net_before (p i) (net_from strings)))
    ] in
    cases (slice_get strings index) refl (sym (at-strings strings place index up) ∙ stands)
