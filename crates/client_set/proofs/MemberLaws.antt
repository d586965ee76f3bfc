-- Where the elements of lists made of lists stand.
use Rattle.std.proofs.Common.{◌⊎◌, inl, inr, List, [], ◌∷◌, ◌++◌, sym, subst}
use Rattle.std.specs.Prelude.{reverse}
use Rattle.std.proofs.lemmas.List.{reverse-append, reverse-reverse}
use Rattle.client_set.specs.Members.{Stands}

pub Stands-append_left : {X : Type 0} (x : X) (xs ys : List X) → Stands x xs → Stands x (xs ++ ys)
Stands-append_left x [] ys stands = absurd stands
Stands-append_left x (y ∷ xs) ys (inl same) = inl same
Stands-append_left x (y ∷ xs) ys (inr there) = inr (Stands-append_left x xs ys there)

pub Stands-append_right : {X : Type 0} (x : X) (xs ys : List X) → Stands x ys → Stands x (xs ++ ys)
Stands-append_right x [] ys stands = stands
Stands-append_right x (y ∷ xs) ys stands = inr (Stands-append_right x xs ys stands)

pub Stands-append_cases : {X : Type 0} (x : X) (xs ys : List X) → Stands x (xs ++ ys) → Stands x xs ⊎ Stands x ys
Stands-append_cases x [] ys stands = inr stands
Stands-append_cases x (y ∷ xs) ys (inl same) = inl (inl same)
Stands-append_cases x (y ∷ xs) ys (inr there) = elim (Stands-append_cases x xs ys there) [
  | inl front ↦ inl (inr front)
  | inr back ↦ inr back
]

-- what stands in a list stands in it turned round
pub Stands-reverse : {X : Type 0} (x : X) (xs : List X) → Stands x xs → Stands x (reverse xs)
Stands-reverse x [] stands = stands
Stands-reverse {X} x (y ∷ xs) stands =
    let P : List X → Type 0 = Stands x in
    subst P (sym (reverse-append (y ∷ []) xs)) (elim stands [
      | inl same ↦ Stands-append_right x (reverse xs) (y ∷ []) (inl same)
      | inr there ↦ Stands-append_left x (reverse xs) (y ∷ []) (Stands-reverse x xs there)
    ])

pub Stands-reversed : {X : Type 0} (x : X) (xs : List X) → Stands x (reverse xs) → Stands x xs
Stands-reversed {X} x xs stands =
    let P : List X → Type 0 = Stands x in
    subst P (reverse-reverse xs) (Stands-reverse x (reverse xs) stands)
