-- The counts of a disk beside another answer, and the line of a fall that is taken back.
use Rattle.std.proofs.Common.{◌≡◌, inr, ℕ, zero, suc, List, [], ◌∷◌, ◌++◌, length, take, refl, ap, sym, subst, ◌∙◌, arith}
use Rattle.std.specs.Prelude.{Result, Ok, Err}
use Rattle.ais_values.specs.Causes.{RoseExactlyOn}
use Rattle.disk_model.specs.declared.answers.DiskAnswer.{DiskAnswer}
use Rattle.disk_model.specs.declared.answers.DiskAnswer.TheVariants.{Memory}

-- what was done, and so was the rest
pub rose-done : {T U : Type 0} (before now : ℕ) (x : T) (y : U) (error : DiskAnswer) → RoseExactlyOn {T = T} before now (Ok x) error → RoseExactlyOn {T = U} before now (Ok y) error
rose-done before now x y error rose = record { later = rose.later; rose = λ is. cc; stands = rose.stands }

-- or memory ran out in the rest
pub rose-lacks : {T U : Type 0} (before now : ℕ) (x : T) (error : DiskAnswer) → (Memory ≡ error → ⊥) → RoseExactlyOn {T = T} before now (Ok x) error → RoseExactlyOn {T = U} before now (Err Memory) error
rose-lacks before now x error never rose = record {
  later = rose.later;
  rose = λ is. let same : Memory ≡ error = cc in absurd (never same);
  stands = inr rose.stands;
}

-- nothing was done
pub rose-not : {U : Type 0} (count : ℕ) (error : DiskAnswer) → (Memory ≡ error → ⊥) → RoseExactlyOn {T = U} count count (Err Memory) error
rose-not count error never = record { later = omega arith; rose = λ is. let same : Memory ≡ error = cc in absurd (never same); stands = inr refl }

-- nothing was to do
pub rose-still : {U : Type 0} (count : ℕ) (y : U) (error : DiskAnswer) → RoseExactlyOn {T = U} count count (Ok y) error
rose-still count y error = record { later = omega arith; rose = λ is. cc; stands = refl }

rose-as : {T U : Type 0} (before now : ℕ) (told error : DiskAnswer) → RoseExactlyOn {T = T} before now (Err told) error → RoseExactlyOn {T = U} before now (Err told) error
rose-as before now told error rose = record {
  later = rose.later;
  rose = λ is. let same : told ≡ error = cc in rose.rose (ap Err same);
  stands = rose.stands;
}

-- what was not done, by its answer; the count is seen later
pub rose-told : {T U : Type 0} (before now left : ℕ) (result : Result T DiskAnswer) (told error : DiskAnswer) → result ≡ Err told → left ≡ now → RoseExactlyOn before now result error → RoseExactlyOn {T = U} before left (Err told) error
rose-told {T} {U} before now left result told error is same rose =
    let first = subst (λ (r : Result T DiskAnswer). RoseExactlyOn before now r error) is rose in
    let last = subst (λ (n : ℕ). RoseExactlyOn {T = T} before n (Err told) error) (sym same) first in
    rose-as before left told error last

take-front : (one other : List (List ℕ)) (count : ℕ) → length one ≡ count → take count (one ++ other) ≡ one
take-front [] other zero is = refl
take-front [] other (suc count) is = cc
take-front (line ∷ one) other zero is = cc
take-front (line ∷ one) other (suc count) is = ap (λ rest. line ∷ rest) (take-front one other count (omega arith))

-- the line that was put first is taken back
pub none-left : (before put after ends : List (List ℕ)) (count : ℕ) → count ≡ length before → put ≡ before ++ ends → after ≡ take count put → after ≡ before
none-left before put after ends count is put_is taken = taken ∙ ap (take count) put_is ∙ take-front before ends count (sym is)
