-- Laws of the words on lists.
use Rattle.std.proofs.Common.{◌≡◌, ℕ, suc, ◌+◌, ◌<◌, ◌≤◌, inl, inr, Bool, true, false, ◌==◌, if◌then◌else◌, List, [], ◌∷◌, ◌++◌, length, refl, ap, sym, ◌∙◌, subst, arith, length-append}
use Rattle.std.specs.List.{AllByRecursion}
use Rattle.std.proofs.lemmas.Bool.Decides.{eqb_tells}
pub use Rattle.client_set.proofs.MemberLaws.{Stands-append_left as Stands-left, Stands-append_right as Stands-right, Stands-append_cases as Stands-append}
use Rattle.cluster_facts.specs.Lists.{Stands, EndsIn, IsNumbered, IsCounted, count_of, without}

-- a fact that tells of a test of two numbers, by the case that they are equal and the case that they are not
pub by_test : (P : Bool → Type 0) (one other : ℕ) → (one ≡ other → P true) → (((one ≡ other) → ⊥) → P false) → P (one == other)
by_test P one other same different =
    elim (eqb_tells one other) [
      | inl equal ↦ subst P (sym equal.0) (same equal.1)
      | inr unequal ↦ subst P (sym unequal.0) (different unequal.1)
    ]

-- one client's step lifted to all: a fact of each client in which the test of the acting client stands
pub each_client : (Q : ℕ → Bool → Type 0) (client : ℕ) → Q client true → ((other : ℕ) → Q other false) → (other : ℕ) → Q other (client == other)
each_client Q client own others other =
    by_test (Q other) client other (λ same. subst (λ x. Q x true) same own) (λ different. others other)

pub Stands-without : {X : Type 0} (x : X) (test : X → Bool) (xs : List X) → Stands x (without test xs) → Stands x xs
Stands-without x test [] stands = elim stands [ ]
Stands-without x test (y ∷ ys) stands =
    let P : Bool → Type 0 = λ b. Stands x (if b then without test ys else y ∷ without test ys) → Stands x (y ∷ ys) in
    let cases : P (test y) = elim (test y) as (λ b. P b) [
      | true ↦ λ deeper. inr (Stands-without x test ys deeper)
      | false ↦ elim [ inl same ↦ inl same | inr deeper ↦ inr (Stands-without x test ys deeper) ]
    ] in
    cases stands

pub All-at : {X : Type 0} (P : X → Type 0) (x : X) (xs : List X) → AllByRecursion P xs → Stands x xs → P x
All-at P x [] all stands = elim stands [ ]
All-at P x (y ∷ ys) all (inl same) = subst P (sym same) all.0
All-at P x (y ∷ ys) all (inr stands) = All-at P x ys all.1 stands

pub All-map : {X : Type 0} (P Q : X → Type 0) (xs : List X) → ((x : X) → P x → Q x) → AllByRecursion P xs → AllByRecursion Q xs
All-map P Q [] step all = tt
All-map P Q (x ∷ xs) step all = (step x all.0, All-map P Q xs step all.1)

pub All-of : {X : Type 0} (P : X → Type 0) (xs : List X) → ((x : X) → Stands x xs → P x) → AllByRecursion P xs
All-of P [] each = tt
All-of P (x ∷ xs) each = (each x (inl refl), All-of P xs (λ y stands. each y (inr stands)))

pub All-without : {X : Type 0} (P : X → Type 0) (test : X → Bool) (xs : List X) → AllByRecursion P xs → AllByRecursion P (without test xs)
All-without P test [] all = tt
All-without P test (x ∷ xs) all =
    elim (test x) as (λ b. AllByRecursion P (if b then without test xs else x ∷ without test xs)) [
      | true ↦ All-without P test xs all.1
      | false ↦ (all.0, All-without P test xs all.1)
    ]

pub All-append : {X : Type 0} (P : X → Type 0) (xs ys : List X) → AllByRecursion P xs → AllByRecursion P ys → AllByRecursion P (xs ++ ys)
All-append P [] ys left right = right
All-append P (x ∷ xs) ys left right = (left.0, All-append P xs ys left.1 right)

-- a number in a numbered list is 1 or more, and at most the length
pub IsNumbered-bound : {X : Type 0} (x : ℕ × X) (xs : List (ℕ × X)) → IsNumbered xs → Stands x xs → (1 ≤ x.0) × (x.0 ≤ length xs)
IsNumbered-bound x [] numbered stands = elim stands [ ]
IsNumbered-bound x (y ∷ ys) numbered (inl same) =
    let number : x.0 ≡ suc (length ys) = ap (λ p. p.0) same ∙ numbered.0 in
    (omega arith, omega arith)
IsNumbered-bound x (y ∷ ys) numbered (inr stands) =
    let deeper = IsNumbered-bound x ys numbered.1 stands in
    (omega arith, omega arith)

-- a number stands in a numbered list once
pub IsNumbered-once : {X : Type 0} (x y : ℕ × X) (xs : List (ℕ × X)) → IsNumbered xs → Stands x xs → Stands y xs → x.0 ≡ y.0 → x ≡ y
IsNumbered-once x y [] numbered one other same = elim one [ ]
IsNumbered-once x y (z ∷ zs) numbered (inl one) (inl other) same = one ∙ sym other
IsNumbered-once x y (z ∷ zs) numbered (inl one) (inr other) same =
    let number : x.0 ≡ suc (length zs) = ap (λ p. p.0) one ∙ numbered.0 in
    let bound = IsNumbered-bound y zs numbered.1 other in
    absurd (omega arith)
IsNumbered-once x y (z ∷ zs) numbered (inr one) (inl other) same =
    let number : y.0 ≡ suc (length zs) = ap (λ p. p.0) other ∙ numbered.0 in
    let bound = IsNumbered-bound x zs numbered.1 one in
    absurd (omega arith)
IsNumbered-once x y (z ∷ zs) numbered (inr one) (inr other) same = IsNumbered-once x y zs numbered.1 one other same

-- each number up to the length stands in a numbered list
pub IsNumbered-at : {X : Type 0} (number : ℕ) (xs : List (ℕ × X)) → IsNumbered xs → 1 ≤ number → number ≤ length xs → (x : X) × Stands (number, x) xs
IsNumbered-at number [] numbered some most = absurd (omega arith)
IsNumbered-at number (y ∷ ys) numbered some most =
    elim (eqb_tells number (suc (length ys))) [
      | inl same ↦ (y.1, inl (ap (λ n. (n, y.1)) (same.1 ∙ sym numbered.0)))
      | inr other ↦
          let different = other.1 in
          let deeper = IsNumbered-at number ys numbered.1 some (omega arith) in
          (deeper.0, inr deeper.1)
    ]

-- the next number of a front of a numbered list stands right above it
pub EndsIn-more : {X : Type 0} (x : ℕ × X) (more xs : List (ℕ × X)) → IsNumbered (more ++ xs) → Stands x (more ++ xs) → x.0 ≡ suc (length xs) → EndsIn (more ++ xs) (x ∷ xs)
EndsIn-more x [] xs numbered stands next =
    let bound = IsNumbered-bound x xs numbered stands in
    absurd (omega arith)
EndsIn-more x (y ∷ []) xs numbered (inl same) next = ([], ap (λ z. z ∷ xs) (sym same))
EndsIn-more x (y ∷ z ∷ more) xs numbered (inl same) next =
    let number : x.0 ≡ suc (suc (length (more ++ xs))) = ap (λ p. p.0) same ∙ numbered.0 in
    let longer = length-append more xs in
    absurd (omega arith)
EndsIn-more x (y ∷ more) xs numbered (inr stands) next =
    let deeper = EndsIn-more x more xs numbered.1 stands next in
    (y ∷ deeper.0, ap (λ rest. y ∷ rest) deeper.1)

pub EndsIn-same : {X : Type 0} (xs : List X) → EndsIn xs xs
EndsIn-same xs = ([], refl)

pub EndsIn-cons : {X : Type 0} (x : X) (new old : List X) → EndsIn new old → EndsIn (x ∷ new) old
EndsIn-cons x new old ends = (x ∷ ends.0, ap (λ rest. x ∷ rest) ends.1)

pub EndsIn-tail : {X : Type 0} (x : X) (new old : List X) → EndsIn new (x ∷ old) → EndsIn new old
EndsIn-tail x new old ends = (ends.0 ++ x ∷ [], ends.1 ∙ sym (append_of ends.0 x old))
  where
    append_of : {X : Type 0} (more : List X) (y : X) (xs : List X) → (more ++ y ∷ []) ++ xs ≡ more ++ y ∷ xs
    append_of more y xs = Rattle.std.proofs.Common.append_assoc more (y ∷ []) xs

pub EndsIn-stands : {X : Type 0} (x : X) (new old : List X) → EndsIn new old → Stands x old → Stands x new
EndsIn-stands {X = X} x new old ends stands =
    let P : List X → Type 0 = λ xs. Stands x xs in
    subst P (sym ends.1) (Stands-right x ends.0 old stands)

-- a receipt's number is at most the count of its key's receipts
pub IsCounted-bound : (key number : ℕ) (marks : List (ℕ × ℕ)) → IsCounted marks → Stands (key, number) marks → (1 ≤ number) × (number ≤ count_of key marks)
IsCounted-bound key number [] counted stands = elim stands [ ]
IsCounted-bound key number (mark ∷ marks) counted (inl same) =
    let keys : mark.0 ≡ key = ap (λ (p : ℕ × ℕ). p.0) (sym same) in
    let numbers : number ≡ suc (count_of mark.0 marks) = ap (λ (p : ℕ × ℕ). p.1) same ∙ counted.0 in
    let counts : count_of mark.0 marks ≡ count_of key marks = ap (λ k. count_of k marks) keys in
    let P : Bool → Type 0 = λ b. (1 ≤ number) × (number ≤ (if b then suc (count_of key marks) else count_of key marks)) in
    by_test P mark.0 key (λ same. (omega arith, omega arith)) (λ different. absurd (different keys))
IsCounted-bound key number (mark ∷ marks) counted (inr stands) =
    let deeper = IsCounted-bound key number marks counted.1 stands in
    let P : Bool → Type 0 = λ b. (1 ≤ number) × (number ≤ (if b then suc (count_of key marks) else count_of key marks)) in
    let cases : (b : Bool) → P b = elim [ true ↦ (deeper.0, omega arith) | false ↦ deeper ] in
    cases (mark.0 == key)

-- a key that no receipt has is counted 0 times
pub count_of-none : (key : ℕ) (marks : List (ℕ × ℕ)) → AllByRecursion (λ (mark : ℕ × ℕ). mark.0 < key) marks → count_of key marks ≡ 0
count_of-none key [] all = refl
count_of-none key (mark ∷ marks) all =
    let P : Bool → Type 0 = λ b. (if b then suc (count_of key marks) else count_of key marks) ≡ 0 in
    let below = all.0 in
    by_test P mark.0 key (λ same. absurd (omega arith)) (λ different. count_of-none key marks all.1)
