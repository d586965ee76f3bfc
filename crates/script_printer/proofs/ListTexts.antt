-- The texts of lists, one more value after another.
use Rattle.std.proofs.Common.{◌≡◌, ℕ, List, [], ◌∷◌, ◌++◌, refl, sym, ap, ◌∙◌, append_assoc}
use Rattle.std.proofs.lemmas.List.{append-nil}
use Rattle.script_grammar.specs.Writing.{commas_text, listed_text}

-- what stands before the next value
abbrev pub front_of : {X : Type 0} → List ℕ → List X → List ℕ
front_of word [] = word
front_of word (x ∷ xs) = 44 ∷ []

pub front_of-more : {X : Type 0} (word : List ℕ) (xs : List X) (x : X) → front_of word (xs ++ x ∷ []) ≡ 44 ∷ []
front_of-more word [] x = refl
front_of-more word (y ∷ ys) x = refl

commas_text-more : {X : Type 0} (write : X → List ℕ) (xs : List X) (x : X) → commas_text write (xs ++ x ∷ []) ≡ commas_text write xs ++ 44 ∷ write x
commas_text-more write [] x = append-nil (44 ∷ write x)
commas_text-more write (y ∷ ys) x =
    ap (λ t. 44 ∷ write y ++ t) (commas_text-more write ys x) ∙ sym (append_assoc (44 ∷ write y) (commas_text write ys) (44 ∷ write x))

pub listed_text-more : {X : Type 0} (word : List ℕ) (write : X → List ℕ) (xs : List X) (x : X) → listed_text word write (xs ++ x ∷ []) ≡ listed_text word write xs ++ (front_of word xs ++ write x)
listed_text-more word write [] x = ap (λ t. word ++ t) (append-nil (write x))
listed_text-more word write (y ∷ ys) x =
    ap (λ t. word ++ (write y ++ t)) (commas_text-more write ys x)
    ∙ sym (append_assoc word (write y ++ commas_text write ys) (44 ∷ write x) ∙ ap (λ t. word ++ t) (append_assoc (write y) (commas_text write ys) (44 ∷ write x)))

-- one turn of the loop
pub list_step : {X : Type 0} (word : List ℕ) (write : X → List ℕ) (xs more : List X) (x : X) (old before front between after : List ℕ)
    → more ≡ xs ++ x ∷ [] → before ≡ old ++ listed_text word write xs → front ≡ front_of word xs → between ≡ before ++ front → after ≡ between ++ write x
    → after ≡ old ++ listed_text word write more
list_step word write xs more x old before front between after grown e f g h =
    h ∙ ap (λ t. t ++ write x) (g ∙ ap (λ t. t ++ front) e ∙ ap (λ t. old ++ listed_text word write xs ++ t) f)
    ∙ append_assoc (old ++ listed_text word write xs) (front_of word xs) (write x)
    ∙ append_assoc old (listed_text word write xs) (front_of word xs ++ write x)
    ∙ ap (λ t. old ++ t) (sym (listed_text-more word write xs x) ∙ ap (listed_text word write) (sym grown))
