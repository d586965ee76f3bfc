-- What holds of each element of a list, and of every two: in a list to which one is put, from which some are taken, or which is mapped.
use Rattle.std.proofs.Common.{◌≡◌, ◌≤◌, Bool, true, false, not, ◌&&◌, ◌||◌, cond, inl, inr, List, [], ◌∷◌, ◌++◌, length, map, refl, ap, sym, ◌∙◌, subst, arith}
use Rattle.std.specs.Prelude.{Some, None, filter}
use Rattle.std.specs.List.{AllByRecursion, find, list_any}
use Rattle.std.proofs.lemmas.List.Folds.{list_any-append}
use Rattle.std.proofs.lemmas.Bool.{and_parts, and_from, or_parts, or_from, not-true}
use Rattle.client_set.specs.Members.{Stands}
use Rattle.client_set.specs.Rising.{put, without}
use Rattle.ais_values.specs.Codes.{all_differ}
use Rattle.log_history.specs.Firsts.{change_first}
use Rattle.log_history.proofs.FirstLaws.{Each, Each-weaker}

module _ {X : Type 0} (P : X → Type 0) where
  pub each-put : (before : X → X → Bool) (x : X) (xs : List X) → P x → AllByRecursion P xs → AllByRecursion P (put before x xs)
  each-put before x [] is each = (is, tt)
  each-put before x (y ∷ ys) is each = placed (before x y) (before y x) (each-put before x ys is each.1) where
    placed : (below above : Bool) → AllByRecursion P (put before x ys) → AllByRecursion P (cond below (x ∷ y ∷ ys) (cond above (y ∷ put before x ys) (x ∷ ys)))
    placed true above rest = (is, each)
    placed false true rest = (each.0, rest)
    placed false false rest = (is, each.1)

  pub each-without : (test : X → Bool) (xs : List X) → AllByRecursion P xs → AllByRecursion P (without test xs)
  each-without test [] each = tt
  each-without test (x ∷ xs) each = left (test x) (each-without test xs each.1) where
    left : (gone : Bool) → AllByRecursion P (without test xs) → AllByRecursion P (cond gone (without test xs) (x ∷ without test xs))
    left true rest = rest
    left false rest = (each.0, rest)

  pub standing-each : (x : X) (xs : List X) → AllByRecursion P xs → Stands x xs → P x
  standing-each x [] each stands = absurd stands
  standing-each x (y ∷ ys) each (inl same) = subst P (sym same) each.0
  standing-each x (y ∷ ys) each (inr there) = standing-each x ys each.1 there

  pub each-both : (Q : X → Type 0) (xs : List X) → AllByRecursion P xs → AllByRecursion Q xs → AllByRecursion (λ x. P x × Q x) xs
  each-both Q [] one other = tt
  each-both Q (x ∷ xs) one other = ((one.0, other.0), each-both Q xs one.1 other.1)

  pub each-weaker : (Q : X → Type 0) → ((x : X) → P x → Q x) → (xs : List X) → AllByRecursion P xs → AllByRecursion Q xs
  each-weaker Q weaker [] each = tt
  each-weaker Q weaker (x ∷ xs) each = (weaker x each.0, each-weaker Q weaker xs each.1)

  pub each-push : (xs : List X) (x : X) → AllByRecursion P xs → P x → AllByRecursion P (xs ++ x ∷ [])
  each-push [] x each is = (is, tt)
  each-push (y ∷ ys) x each is = (each.0, each-push ys x each.1 is)

  pub each-filter : (keep : X → Bool) (xs : List X) → AllByRecursion P xs → AllByRecursion (λ x. P x × (keep x ≡ true)) (filter keep xs)
  each-filter keep [] each = tt
  each-filter keep (x ∷ xs) each = by_case (each-filter keep xs each.1) (keep x) refl where
    by_case : AllByRecursion (λ y. P y × (keep y ≡ true)) (filter keep xs) → (b : Bool) → keep x ≡ b → AllByRecursion (λ y. P y × (keep y ≡ true)) (cond b (x ∷ filter keep xs) (filter keep xs))
    by_case rest true is = ((each.0, is), rest)
    by_case rest false is = rest

  pub each-change_first : (test : X → Bool) (change : X → X) → ((x : X) → P x → P (change x)) → (xs : List X) → AllByRecursion P xs → AllByRecursion P (change_first test change xs)
  each-change_first test change keeps [] each = tt
  each-change_first test change keeps (x ∷ xs) each = by_case (test x) (each-change_first test change keeps xs each.1) where
    by_case : (b : Bool) → AllByRecursion P (change_first test change xs) → AllByRecursion P (cond b (change x ∷ xs) (x ∷ change_first test change xs))
    by_case true rest = (keeps x each.0, each.1)
    by_case false rest = (each.0, rest)

  pub each-of : (xs : List X) → Each P xs → AllByRecursion P xs
  each-of [] each = tt
  each-of (x ∷ xs) each = (each.0, each-of xs each.1)

module _ {X : Type 0} (P Q : X → Type 0) where
  -- where one element changes, and what holds of the others is weaker too
  pub Each-becoming : (test : X → Bool) (change : X → X) → ((x : X) → P x → Q x) → ((x : X) → P x → Q (change x)) → (xs : List X) → Each P xs → Each Q (change_first test change xs)
  Each-becoming test change weaker changed [] each = tt
  Each-becoming test change weaker changed (x ∷ xs) each = by_case (test x) (Each-becoming test change weaker changed xs each.1) where
    by_case : (b : Bool) → Each Q (change_first test change xs) → Each Q (cond b (change x ∷ xs) (x ∷ change_first test change xs))
    by_case true rest = (changed x each.0, Each-weaker P Q weaker xs each.1)
    by_case false rest = (weaker x each.0, rest)

module _ {X Y : Type 0} (P : Y → Type 0) (f : X → Y) where
  pub each-mapped : (xs : List X) → AllByRecursion (λ x. P (f x)) xs → AllByRecursion P (map f xs)
  each-mapped [] each = tt
  each-mapped (x ∷ xs) each = (each.0, each-mapped xs each.1)

  pub mapped-each : (xs : List X) → AllByRecursion P (map f xs) → AllByRecursion (λ x. P (f x)) xs
  mapped-each [] each = tt
  mapped-each (x ∷ xs) each = (each.0, mapped-each xs each.1)

-- nothing is found where each element fails

pub find-none : {X : Type 0} (test : X → Bool) (x : X) (xs : List X) → find test (x ∷ xs) ≡ None → (test x ≡ false) × (find test xs ≡ None)
find-none test x xs none = by_case (test x) refl none where
  by_case : (b : Bool) → test x ≡ b → cond b (Some x) (find test xs) ≡ None → (test x ≡ false) × (find test xs ≡ None)
  by_case true is found = cc
  by_case false is behind = (is, behind)

pub none-each : {X : Type 0} (test : X → Bool) (xs : List X) → find test xs ≡ None → AllByRecursion (λ x. test x ≡ false) xs
none-each test [] none = tt
none-each test (x ∷ xs) none = let two = find-none test x xs none in (two.0, none-each test xs two.1)

pub any-none : {X : Type 0} (test : X → Bool) (xs : List X) → AllByRecursion (λ x. test x ≡ false) xs → list_any test xs ≡ false
any-none test [] each = refl
any-none test (x ∷ xs) each = or_from (test x) (list_any test xs) each.0 (any-none test xs each.1)

-- every two elements of a list differ

module _ {X : Type 0} where
  any-same : (test other : X → Bool) → ((x : X) → test x ≡ other x) → (xs : List X) → list_any test xs ≡ list_any other xs
  any-same test other same [] = refl
  any-same test other same (x ∷ xs) =
      ap (λ b. b || list_any test xs) (same x) ∙ ap (λ rest. other x || rest) (any-same test other same xs)

  any-changed : (test at : X → Bool) (change : X → X) → ((x : X) → test (change x) ≡ test x) → (xs : List X) → list_any test (change_first at change xs) ≡ list_any test xs
  any-changed test at change keeps [] = refl
  any-changed test at change keeps (x ∷ xs) = by_case (at x) (any-changed test at change keeps xs) where
    by_case : (b : Bool) → list_any test (change_first at change xs) ≡ list_any test xs → list_any test (cond b (change x ∷ xs) (x ∷ change_first at change xs)) ≡ list_any test (x ∷ xs)
    by_case true rest = ap (λ c. c || list_any test xs) (keeps x)
    by_case false rest = ap (λ c. test x || c) rest

  any-filtered : (test keep : X → Bool) (xs : List X) → list_any test xs ≡ false → list_any test (filter keep xs) ≡ false
  any-filtered test keep [] none = refl
  any-filtered test keep (x ∷ xs) none =
      let two = or_parts (test x) (list_any test xs) none in by_case two.0 (keep x) (any-filtered test keep xs two.1) where
        by_case : test x ≡ false → (b : Bool) → list_any test (filter keep xs) ≡ false → list_any test (cond b (x ∷ filter keep xs) (filter keep xs)) ≡ false
        by_case first true rest = or_from (test x) (list_any test (filter keep xs)) first rest
        by_case first false rest = rest

module _ {X : Type 0} (same : X → X → Bool) where
  pub differ-changed : (at : X → Bool) (change : X → X) → ((x y : X) → same (change x) y ≡ same x y) → ((x y : X) → same x (change y) ≡ same x y) → (xs : List X) → all_differ same (change_first at change xs) ≡ all_differ same xs
  differ-changed at change first second [] = refl
  differ-changed at change first second (x ∷ xs) = by_case (at x) (differ-changed at change first second xs) where
    by_case : (b : Bool) → all_differ same (change_first at change xs) ≡ all_differ same xs → all_differ same (cond b (change x ∷ xs) (x ∷ change_first at change xs)) ≡ all_differ same (x ∷ xs)
    by_case true rest =
        ap (λ c. not c && all_differ same xs) (any-same (same (change x)) (same x) (first x) xs)
    by_case false rest =
        ap (λ c. not c && all_differ same (change_first at change xs)) (any-changed (same x) at change (second x) xs)
        ∙ ap (λ c. not (list_any (same x) xs) && c) rest

  pub differ-filtered : (keep : X → Bool) (xs : List X) → all_differ same xs ≡ true → all_differ same (filter keep xs) ≡ true
  differ-filtered keep [] differ = refl
  differ-filtered keep (x ∷ xs) differ =
      let two = and_parts (not (list_any (same x) xs)) (all_differ same xs) differ in
      by_case two.0 (keep x) (differ-filtered keep xs two.1) where
        by_case : not (list_any (same x) xs) ≡ true → (b : Bool) → all_differ same (filter keep xs) ≡ true → all_differ same (cond b (x ∷ filter keep xs) (filter keep xs)) ≡ true
        by_case first true rest =
            and_from (not (list_any (same x) (filter keep xs))) (all_differ same (filter keep xs)) (ap not (any-filtered (same x) keep xs (not-true (list_any (same x) xs) first))) rest
        by_case first false rest = rest

  pub differ-pushed : (xs : List X) (x : X) → all_differ same xs ≡ true → list_any (λ y. same y x) xs ≡ false → all_differ same (xs ++ x ∷ []) ≡ true
  differ-pushed [] x differ none = refl
  differ-pushed (y ∷ ys) x differ none =
      let two = and_parts (not (list_any (same y) ys)) (all_differ same ys) differ in
      let parts = or_parts (same y x) (list_any (λ z. same z x) ys) none in
      and_from (not (list_any (same y) (ys ++ x ∷ []))) (all_differ same (ys ++ x ∷ []))
      (ap not (list_any-append (same y) ys (x ∷ []) ∙ or_from (list_any (same y) ys) (same y x || false) (not-true (list_any (same y) ys) two.0) (or_from (same y x) false parts.0 refl)))
      (differ-pushed ys x two.1 parts.1)

pub differ-mapped : {X Y : Type 0} (f : X → Y) (same : Y → Y → Bool) (other : X → X → Bool) → ((x y : X) → same (f x) (f y) ≡ other x y) → (xs : List X) → all_differ same (map f xs) ≡ all_differ other xs
differ-mapped f same other agree [] = refl
differ-mapped {X} f same other agree (x ∷ xs) =
    ap (λ b. not b && all_differ same (map f xs)) (any-mapped x xs)
    ∙ ap (λ rest. not (list_any (other x) xs) && rest) (differ-mapped f same other agree xs) where
      any-mapped : (z : X) (zs : List X) → list_any (same (f z)) (map f zs) ≡ list_any (other z) zs
      any-mapped z [] = refl
      any-mapped z (y ∷ ys) = ap (λ b. b || list_any (same (f z)) (map f ys)) (agree z y) ∙ ap (λ rest. other z y || rest) (any-mapped z ys)

-- how many elements pass a test

module _ {X : Type 0} (test : X → Bool) where
  pub count-changed : (at : X → Bool) (change : X → X) → ((x : X) → test (change x) ≡ test x) → (xs : List X) → length (filter test (change_first at change xs)) ≡ length (filter test xs)
  count-changed at change keeps [] = refl
  count-changed at change keeps (x ∷ xs) = by_case (at x) (count-changed at change keeps xs) where
    same : (one other : Bool) → one ≡ other → length (cond one (change x ∷ filter test xs) (filter test xs)) ≡ length (cond other (x ∷ filter test xs) (filter test xs))
    same true true e = refl
    same true false e = cc
    same false true e = cc
    same false false e = refl

    behind : (b : Bool) (one other : List X) → length one ≡ length other → length (cond b (x ∷ one) one) ≡ length (cond b (x ∷ other) other)
    behind true one other e = omega (arith, e)
    behind false one other e = e

    by_case : (b : Bool) → length (filter test (change_first at change xs)) ≡ length (filter test xs) → length (filter test (cond b (change x ∷ xs) (x ∷ change_first at change xs))) ≡ length (filter test (x ∷ xs))
    by_case true rest = same (test (change x)) (test x) (keeps x)
    by_case false rest = behind (test x) (filter test (change_first at change xs)) (filter test xs) rest

  pub count-filtered : (keep : X → Bool) (xs : List X) → length (filter test (filter keep xs)) ≤ length (filter test xs)
  count-filtered keep [] = omega arith
  count-filtered keep (x ∷ xs) = by_case (keep x) (count-filtered keep xs) where
    more : (b : Bool) (one other : List X) → length one ≤ length other → length (cond b (x ∷ one) one) ≤ length (cond b (x ∷ other) other)
    more true one other le = omega (arith, le)
    more false one other le = le

    skipped : (b : Bool) (one other : List X) → length one ≤ length other → length one ≤ length (cond b (x ∷ other) other)
    skipped true one other le = omega (arith, le)
    skipped false one other le = le

    by_case : (b : Bool) → length (filter test (filter keep xs)) ≤ length (filter test xs) → length (filter test (cond b (x ∷ filter keep xs) (filter keep xs))) ≤ length (filter test (x ∷ xs))
    by_case true rest = more (test x) (filter test (filter keep xs)) (filter test xs) rest
    by_case false rest = skipped (test x) (filter test (filter keep xs)) (filter test xs) rest

  pub filter-each : (xs : List X) → AllByRecursion (λ x. test x ≡ true) xs → filter test xs ≡ xs
  filter-each [] each = refl
  filter-each (x ∷ xs) each =
      ap (λ b. cond b (x ∷ filter test xs) (filter test xs)) each.0 ∙ ap (λ rest. x ∷ rest) (filter-each xs each.1)
