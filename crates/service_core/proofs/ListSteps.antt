-- Lists that are read place by place.
use Rattle.std.proofs.Common.{◌≡◌, ℕ, zero, suc, ◌+◌, List, [], ◌∷◌, ◌++◌, take, map, refl, ap, ◌∙◌, add-one}
use Rattle.std.specs.Prelude.{Option, None, Some, slice_get}
use Rattle.std.specs.Option.{option_map, option_map_or, option_to_list}
use Rattle.std.specs.List.{flat_map}
use Rattle.std.proofs.lemmas.List.{map-append, append-nil}
use Rattle.std.proofs.lemmas.Grind.{flat_map-append}

take-next : {X : Type 0} (n : ℕ) (xs : List X) → take (suc n) xs ≡ take n xs ++ option_to_list (slice_get xs n)
take-next zero [] = refl
take-next zero (x ∷ xs) = refl
take-next (suc n) [] = refl
take-next (suc n) (x ∷ xs) = ap (λ rest. x ∷ rest) (take-next n xs)

-- one place more
pub take-place : {X : Type 0} (n : ℕ) (xs : List X) → take (n + 1) xs ≡ take n xs ++ option_to_list (slice_get xs n)
take-place n xs = ap (λ k. take k xs) (add-one n) ∙ take-next n xs

map-option : {X Y : Type 0} (f : X → Y) (found : Option X) → map f (option_to_list found) ≡ option_to_list (option_map f found)
map-option f None = refl
map-option f (Some x) = refl

pub map-place : {X Y : Type 0} (f : X → Y) (n : ℕ) (xs : List X) → map f (take (n + 1) xs) ≡ map f (take n xs) ++ option_to_list (option_map f (slice_get xs n))
map-place f n xs =
    ap (map f) (take-place n xs)
    ∙ map-append f (take n xs) (option_to_list (slice_get xs n))
    ∙ ap (λ last. map f (take n xs) ++ last) (map-option f (slice_get xs n))

flat-option : {X Y : Type 0} (f : X → List Y) (found : Option X) → flat_map f (option_to_list found) ≡ option_map_or f found []
flat-option f None = refl
flat-option f (Some x) = append-nil (f x)

pub flat-place : {X Y : Type 0} (f : X → List Y) (n : ℕ) (xs : List X) → flat_map f (take (n + 1) xs) ≡ flat_map f (take n xs) ++ option_map_or f (slice_get xs n) []
flat-place f n xs =
    ap (flat_map f) (take-place n xs)
    ∙ flat_map-append f (take n xs) (option_to_list (slice_get xs n))
    ∙ ap (λ last. flat_map f (take n xs) ++ last) (flat-option f (slice_get xs n))
