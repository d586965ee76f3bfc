-- One text added after another.
use Rattle.std.proofs.Common.{◌≡◌, ℕ, List, [], ◌∷◌, ◌++◌, sym, ap, ◌∙◌, append_assoc}
use Rattle.std.proofs.lemmas.List.{append-nil, flat_map_more}
use Rattle.std.specs.List.{flat_map}

pub chained : {X : Type 0} (before between after a b : List X) → between ≡ before ++ a → after ≡ between ++ b → after ≡ before ++ (a ++ b)
chained before between after a b e f = f ∙ ap (λ x. x ++ b) e ∙ append_assoc before a b

pub chained_last : (before after a : List ℕ) → after ≡ before ++ a → after ≡ before ++ (a ++ [])
chained_last before after a e = e ∙ ap (λ x. before ++ x) (sym (append-nil a))

-- one turn of a loop that adds a text for each element
pub flat_step : {X : Type 0} (f : X → List ℕ) (xs more : List X) (x : X) (old before after : List ℕ) → more ≡ xs ++ x ∷ [] → before ≡ old ++ flat_map f xs → after ≡ before ++ f x → after ≡ old ++ flat_map f more
flat_step f xs more x old before after grown e g =
    g ∙ ap (λ t. t ++ f x) e ∙ flat_map_more f old xs x ∙ ap (λ these. old ++ flat_map f these) (sym grown)
