-- Lists that rise, and what a function that keeps their order makes of them.
use Rattle.std.proofs.Common.{◌≡◌, Bool, List, [], ◌∷◌, map, sym, ◌∙◌}
use Rattle.client_set.specs.Rising.{IsRising, ComesFirst}

module _ {X Y : Type 0} (f : X → Y) (before : Y → Y → Bool) (own : X → X → Bool) (same : (x y : X) → before (f x) (f y) ≡ own x y) where
  first-mapped : (x : X) (xs : List X) → ComesFirst own x xs → ComesFirst before (f x) (map f xs)
  first-mapped x [] first = tt
  first-mapped x (y ∷ ys) first = (same x y ∙ first.0, first-mapped x ys first.1)

  pub rising-mapped : (xs : List X) → IsRising own xs → IsRising before (map f xs)
  rising-mapped [] rising = tt
  rising-mapped (x ∷ xs) rising = (first-mapped x xs rising.0, rising-mapped xs rising.1)

  mapped-first : (x : X) (xs : List X) → ComesFirst before (f x) (map f xs) → ComesFirst own x xs
  mapped-first x [] first = tt
  mapped-first x (y ∷ ys) first = (sym (same x y) ∙ first.0, mapped-first x ys first.1)

  pub mapped-rising : (xs : List X) → IsRising before (map f xs) → IsRising own xs
  mapped-rising [] rising = tt
  mapped-rising (x ∷ xs) rising = (mapped-first x xs rising.0, mapped-rising xs rising.1)
