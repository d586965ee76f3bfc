-- Pieces of a list that are written or read in turn.
use Rattle.std.proofs.Common.{◌≡◌, ℕ, ◌+◌, ◌-◌, ◌<◌, ◌≤◌, min, List, [], ◌++◌, length, take, drop, Option, arith, sym, ap, ◌∙◌, subst, take-append-drop, drop_of_length-le}
use Rattle.std.specs.Io.KnownBytes.{Appends}
use Rattle.std.proofs.KnownBytes.{Appends-trans}
use Rattle.std.proofs.lemmas.List.{drop-drop, take_rest}
use lib.Seq.{take-add, take-take}

-- the front up to i was appended, and then n bytes of what stands behind it
pub Appends-piece : (a b c : Option (List ℕ)) (xs : List ℕ) (i n : ℕ) → n ≤ length xs - i → Appends a b (take i xs)
    → Appends b c (take n (take (length xs - i) (drop i xs))) → Appends a c (take (i + n) xs)
Appends-piece a b c xs i n within before piece =
    let joined : take i xs ++ take n (take (length xs - i) (drop i xs)) ≡ take (i + n) xs =
    ap (λ ys. take i xs ++ ys) (take-take n (length xs - i) (drop i xs) within) ∙ sym (take-add i n xs) in
    subst (Appends a c) joined (Appends-trans a b c _ _ before piece)

-- n bytes that were copied from what stands behind i are the front of it
pub rest_by_piece : (xs to : List ℕ) (i n : ℕ) → take n to ≡ take n (take (length xs - i) (drop i xs)) → drop i xs ≡ take n to ++ drop (i + n) xs
rest_by_piece xs to i n copied =
    sym (take-append-drop n (drop i xs)) ∙ ap (λ ys. ys ++ drop n (drop i xs)) (sym (copied ∙ ap (take n) (take_rest xs i))) ∙ ap (λ ys. take n to ++ ys) (drop-drop n i xs)

-- where nothing was copied though there was room, nothing stands behind i
pub none_behind : (xs : List ℕ) (i n room : ℕ) → n ≡ min room (length xs - i) → n ≡ 0 → 0 < room → drop (i + n) xs ≡ []
none_behind xs i n room count none some = drop_of_length-le xs {i = i + n} (omega arith)
