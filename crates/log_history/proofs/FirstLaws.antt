-- The first element that passes a test: in a filtered list, in a mapped one, and where at most one element passes.
use Rattle.std.proofs.Common.{◌≡◌, ℕ, ◌+◌, Bool, true, false, ◌&&◌, ◌||◌, cond, subst, List, [], ◌∷◌, ◌++◌, map, refl, ap, sym, ◌∙◌, add-zero}
use Rattle.std.specs.Prelude.{⊤, Option, Some, None, option_map, is_some, filter}
use Rattle.std.specs.List.{find, list_any, count_by, fold}
use Rattle.log_history.specs.Firsts.{change_first}

-- each element has a property
abbrev pub Each : {X : Type 0} → (X → Type 0) → List X → Type 0
Each P [] = ⊤
Each P (x ∷ xs) = P x × Each P xs

-- at most one element passes the test
abbrev pub AtMostOne : {X : Type 0} → (X → Bool) → List X → Type 0
AtMostOne test [] = ⊤
AtMostOne test (x ∷ xs) = (test x ≡ true → find test xs ≡ None) × AtMostOne test xs

pub none_is : {X : Type 0} (option : Option X) → is_some option ≡ false → option ≡ None
none_is None is = refl
none_is (Some x) is = cc

module _ {X : Type 0} (P Q : X → Type 0) where
  pub Each-weaker : ((x : X) → P x → Q x) → (xs : List X) → Each P xs → Each Q xs
  Each-weaker weaker [] each = tt
  Each-weaker weaker (x ∷ xs) each = (weaker x each.0, Each-weaker weaker xs each.1)

module _ {X : Type 0} (P : X → Type 0) where
  pub Each-push : (xs : List X) (x : X) → Each P xs → P x → Each P (xs ++ x ∷ [])
  Each-push [] x each more = (more, tt)
  Each-push (y ∷ xs) x each more = (each.0, Each-push xs x each.1 more)

  pub Each-filter : (keep : X → Bool) (xs : List X) → Each P xs → Each (λ x. P x × (keep x ≡ true)) (filter keep xs)
  Each-filter keep [] each = tt
  Each-filter keep (x ∷ xs) each = by_case (Each-filter keep xs each.1) (keep x) refl where
    by_case : Each (λ y. P y × (keep y ≡ true)) (filter keep xs) → (b : Bool) → keep x ≡ b → Each (λ y. P y × (keep y ≡ true)) (cond b (x ∷ filter keep xs) (filter keep xs))
    by_case rest true is = ((each.0, is), rest)
    by_case rest false is = rest

  pub Each-change_first : (test : X → Bool) (change : X → X) → ((x : X) → P x → P (change x)) → (xs : List X) → Each P xs → Each P (change_first test change xs)
  Each-change_first test change keeps [] each = tt
  Each-change_first test change keeps (x ∷ xs) each =
      elim (test x) as (λ b. Each P (cond b (change x ∷ xs) (x ∷ change_first test change xs))) [
        | true ↦ (keeps x each.0, each.1)
        | false ↦ (each.0, Each-change_first test change keeps xs each.1)
      ]

  -- what is found has the property, and passes
  pub Each-find : (test : X → Bool) (xs : List X) (x : X) → Each P xs → find test xs ≡ Some x → P x × (test x ≡ true)
  Each-find test [] x each found = cc
  Each-find test (y ∷ xs) x each found = by_case (Each-find test xs x each.1) (test y) refl found where
    by_case : (find test xs ≡ Some x → P x × (test x ≡ true)) → (b : Bool) → test y ≡ b → cond b (Some y) (find test xs) ≡ Some x → P x × (test x ≡ true)
    by_case behind true is same = let e : y ≡ x = cc in subst (λ (z : X). P z × (test z ≡ true)) e (each.0, is)
    by_case behind false is same = behind same

module _ {X : Type 0} (keep named : X → Bool) where
  -- the first kept element of a name is the first of that name among the kept ones
  pub find-filter : (xs : List X) → find (λ x. keep x && named x) xs ≡ find named (filter keep xs)
  find-filter [] = refl
  find-filter (x ∷ xs) =
      elim (keep x) as (λ b. cond (b && named x) (Some x) (find (λ y. keep y && named y) xs) ≡ find named (cond b (x ∷ filter keep xs) (filter keep xs))) [
        | true ↦ ap (λ rest. cond (named x) (Some x) rest) (find-filter xs)
        | false ↦ find-filter xs
      ]

  pub filter-change_first : (change : X → X) → ((x : X) → keep (change x) ≡ keep x) → (xs : List X) → filter keep (change_first (λ x. keep x && named x) change xs) ≡ change_first named change (filter keep xs)
  filter-change_first change keeps [] = refl
  filter-change_first change keeps (x ∷ xs) =
      by_case (filter-change_first change keeps xs) (keep x) refl (named x) refl where
        by_case : filter keep (change_first (λ y. keep y && named y) change xs) ≡ change_first named change (filter keep xs) → (k : Bool) → keep x ≡ k → (n : Bool) → named x ≡ n → filter keep (cond (k && n) (change x ∷ xs) (x ∷ change_first (λ y. keep y && named y) change xs)) ≡ change_first named change (cond k (x ∷ filter keep xs) (filter keep xs))
        by_case rest_is true kept true is =
            let stays : keep (change x) ≡ true = keeps x ∙ kept in
            ap (λ b. cond b (change x ∷ filter keep xs) (filter keep xs)) stays
            ∙ ap (λ b. cond b (change x ∷ filter keep xs) (x ∷ change_first named change (filter keep xs))) (sym is)
        by_case rest_is true kept false is =
            ap (λ b. cond b (x ∷ filter keep (change_first (λ y. keep y && named y) change xs)) (filter keep (change_first (λ y. keep y && named y) change xs))) kept
            ∙ ap (λ rest. x ∷ rest) rest_is
            ∙ ap (λ b. cond b (change x ∷ filter keep xs) (x ∷ change_first named change (filter keep xs))) (sym is)
        by_case rest_is false kept n is =
            ap (λ b. cond b (x ∷ filter keep (change_first (λ y. keep y && named y) change xs)) (filter keep (change_first (λ y. keep y && named y) change xs))) kept
            ∙ rest_is

  pub AtMostOne-filter : (xs : List X) → AtMostOne (λ x. keep x && named x) xs → AtMostOne named (filter keep xs)
  AtMostOne-filter [] single = tt
  AtMostOne-filter (x ∷ xs) single = by_case (AtMostOne-filter xs single.1) (keep x) refl where
    by_case : AtMostOne named (filter keep xs) → (b : Bool) → keep x ≡ b → AtMostOne named (cond b (x ∷ filter keep xs) (filter keep xs))
    by_case rest true kept =
        ((λ is. sym (find-filter xs) ∙ single.0 (ap (λ b. b && named x) kept ∙ is)), rest)
    by_case rest false kept = rest

  -- what passes among the kept ones
  pub list_any-filter : (xs : List X) → list_any named (filter keep xs) ≡ list_any (λ x. keep x && named x) xs
  list_any-filter [] = refl
  list_any-filter (x ∷ xs) =
      elim (keep x) as (λ b. list_any named (cond b (x ∷ filter keep xs) (filter keep xs)) ≡ (b && named x || list_any (λ y. keep y && named y) xs)) [
        | true ↦ ap (λ rest. named x || rest) (list_any-filter xs)
        | false ↦ list_any-filter xs
      ]

  pub count_by-filter : (xs : List X) → count_by named (filter keep xs) ≡ count_by (λ x. keep x && named x) xs
  count_by-filter xs = counted xs 0 where
    counted : (ys : List X) (n : ℕ) → fold (λ a y. a + cond (named y) 1 0) n (filter keep ys) ≡ fold (λ a y. a + cond (keep y && named y) 1 0) n ys
    counted [] n = refl
    counted (y ∷ ys) n =
        elim (keep y) as (λ b. fold (λ a z. a + cond (named z) 1 0) n (cond b (y ∷ filter keep ys) (filter keep ys)) ≡ fold (λ a z. a + cond (keep z && named z) 1 0) (n + cond (b && named y) 1 0) ys) [
          | true ↦ counted ys (n + cond (named y) 1 0)
          | false ↦ counted ys n ∙ ap (λ m. fold (λ a z. a + cond (keep z && named z) 1 0) m ys) (sym (add-zero n))
        ]

module _ {X Y : Type 0} (f : X → Y) (test : X → Bool) (test' : Y → Bool) (same : (x : X) → test' (f x) ≡ test x) where
  pub find-map : (xs : List X) → find test' (map f xs) ≡ option_map f (find test xs)
  find-map [] = refl
  find-map (x ∷ xs) =
      ap (λ b. cond b (Some (f x)) (find test' (map f xs))) (same x)
      ∙ elim (test x) as (λ b. cond b (Some (f x)) (find test' (map f xs)) ≡ option_map f (cond b (Some x) (find test xs))) [
        | true ↦ refl
        | false ↦ find-map xs
      ]

  pub filter-map : (xs : List X) → filter test' (map f xs) ≡ map f (filter test xs)
  filter-map [] = refl
  filter-map (x ∷ xs) =
      ap (λ b. cond b (f x ∷ filter test' (map f xs)) (filter test' (map f xs))) (same x)
      ∙ elim (test x) as (λ b. cond b (f x ∷ filter test' (map f xs)) (filter test' (map f xs)) ≡ map f (cond b (x ∷ filter test xs) (filter test xs))) [
        | true ↦ ap (λ rest. f x ∷ rest) (filter-map xs)
        | false ↦ filter-map xs
      ]

  -- the first one changed, before and after the map
  pub map-change_first : (P : X → Type 0) (change : X → X) (change' : Y → Y) → ((x : X) → P x → f (change x) ≡ change' (f x)) → (xs : List X) → Each P xs → map f (change_first test change xs) ≡ change_first test' change' (map f xs)
  map-change_first P change change' agree [] each = refl
  map-change_first P change change' agree (x ∷ xs) each =
      elim (test x) as (λ b. map f (cond b (change x ∷ xs) (x ∷ change_first test change xs)) ≡ cond b (change' (f x) ∷ map f xs) (f x ∷ change_first test' change' (map f xs))) [
        | true ↦ ap (λ first. first ∷ map f xs) (agree x each.0)
        | false ↦ ap (λ rest. f x ∷ rest) (map-change_first P change change' agree xs each.1)
      ]
      ∙ ap (λ b. cond b (change' (f x) ∷ map f xs) (f x ∷ change_first test' change' (map f xs))) (sym (same x))

  -- two maps that agree where the test fails are the same on a list in which nothing passes
  pub map-beside : (g : X → Y) → ((x : X) → test x ≡ false → g x ≡ f x) → (xs : List X) → find test xs ≡ None → map g xs ≡ map f xs
  map-beside g agree [] none = refl
  map-beside g agree (x ∷ xs) none = by_case (map-beside g agree xs) (test x) refl none where
    by_case : (find test xs ≡ None → map g xs ≡ map f xs) → (b : Bool) → test x ≡ b → cond b (Some x) (find test xs) ≡ None → g x ∷ map g xs ≡ f x ∷ map f xs
    by_case behind true is found = cc
    by_case behind false is none_behind =
        ap (λ first. first ∷ map g xs) (agree x is) ∙ ap (λ rest. f x ∷ rest) (behind none_behind)

  -- where at most one passes, a map that differs there alone changes the first
  pub map-at_first : (g : X → Y) (change' : Y → Y) → ((x : X) → test x ≡ true → g x ≡ change' (f x)) → ((x : X) → test x ≡ false → g x ≡ f x) → (xs : List X) → AtMostOne test xs → map g xs ≡ change_first test' change' (map f xs)
  map-at_first g change' at beside [] single = refl
  map-at_first g change' at beside (x ∷ xs) single =
      by_case (map-at_first g change' at beside xs single.1) (test x) refl
      ∙ ap (λ b. cond b (change' (f x) ∷ map f xs) (f x ∷ change_first test' change' (map f xs))) (sym (same x)) where
        by_case : map g xs ≡ change_first test' change' (map f xs) → (b : Bool) → test x ≡ b → g x ∷ map g xs ≡ cond b (change' (f x) ∷ map f xs) (f x ∷ change_first test' change' (map f xs))
        by_case behind true is =
            ap (λ first. first ∷ map g xs) (at x is) ∙ ap (λ rest. change' (f x) ∷ rest) (map-beside g beside xs (single.0 is))
        by_case behind false is =
            ap (λ first. first ∷ map g xs) (beside x is) ∙ ap (λ rest. f x ∷ rest) behind

  pub list_any-map : (xs : List X) → list_any test' (map f xs) ≡ list_any test xs
  list_any-map [] = refl
  list_any-map (x ∷ xs) = ap (λ b. b || list_any test' (map f xs)) (same x) ∙ ap (λ rest. test x || rest) (list_any-map xs)

  pub count_by-map : (xs : List X) → count_by test' (map f xs) ≡ count_by test xs
  count_by-map xs = counted xs 0 where
    counted : (ys : List X) (n : ℕ) → fold (λ a y. a + cond (test' y) 1 0) n (map f ys) ≡ fold (λ a y. a + cond (test y) 1 0) n ys
    counted [] n = refl
    counted (y ∷ ys) n = counted ys (n + cond (test' (f y)) 1 0) ∙ ap (λ b. fold (λ a z. a + cond (test z) 1 0) (n + cond b 1 0) ys) (same y)

module _ {X : Type 0} (test : X → Bool) where
  pub find-push : (xs : List X) (x : X) → find test (xs ++ x ∷ []) ≡ None → (find test xs ≡ None) × (test x ≡ false)
  find-push [] x none = (refl, by_case (test x) none) where
    by_case : (b : Bool) → cond b (Some x) None ≡ None → b ≡ false
    by_case true found = cc
    by_case false none_there = refl
  find-push (y ∷ xs) x none = by_case (find-push xs x) (test y) none where
    by_case : (find test (xs ++ x ∷ []) ≡ None → (find test xs ≡ None) × (test x ≡ false)) → (b : Bool) → cond b (Some y) (find test (xs ++ x ∷ [])) ≡ None → (cond b (Some y) (find test xs) ≡ None) × (test x ≡ false)
    by_case behind true found = cc
    by_case behind false none_behind = behind none_behind

  -- nothing passes behind the list either, where the element behind it does not
  pub find-push_none : (xs : List X) (x : X) → find test xs ≡ None → test x ≡ false → find test (xs ++ x ∷ []) ≡ None
  find-push_none [] x none beside = ap (λ b. cond b (Some x) None) beside
  find-push_none (y ∷ xs) x none beside = by_case (λ h. find-push_none xs x h beside) (test y) none where
    by_case : (find test xs ≡ None → find test (xs ++ x ∷ []) ≡ None) → (b : Bool) → cond b (Some y) (find test xs) ≡ None → cond b (Some y) (find test (xs ++ x ∷ [])) ≡ None
    by_case behind true found = cc
    by_case behind false none_behind = behind none_behind

  pub AtMostOne-push : (xs : List X) (x : X) → AtMostOne test xs → (test x ≡ true → find test xs ≡ None) → AtMostOne test (xs ++ x ∷ [])
  AtMostOne-push [] x single none = ((λ is. refl), tt)
  AtMostOne-push (y ∷ xs) x single none = (first, AtMostOne-push xs x single.1 (λ is. behind (test y) (none is))) where
    behind : (b : Bool) → cond b (Some y) (find test xs) ≡ None → find test xs ≡ None
    behind true found = cc
    behind false none_behind = none_behind

    not_both : (b : Bool) → test y ≡ true → test x ≡ b → find test (xs ++ x ∷ []) ≡ None
    not_both true is too =
        let found : cond (test y) (Some y) (find test xs) ≡ None = none too in
        let first_is : Some y ≡ None = ap (λ b. cond b (Some y) (find test xs)) (sym is) ∙ found in cc
    not_both false is beside = find-push_none xs x (single.0 is) beside

    first : test y ≡ true → find test (xs ++ x ∷ []) ≡ None
    first is = not_both (test x) is refl

  module _ (named : X → Bool) (change : X → X) (keeps : (x : X) → test (change x) ≡ test x) where
    pub find-change_first_none : (xs : List X) → is_some (find test (change_first named change xs)) ≡ is_some (find test xs)
    find-change_first_none [] = refl
    find-change_first_none (x ∷ xs) = by_case (find-change_first_none xs) (named x) where
      by_case : is_some (find test (change_first named change xs)) ≡ is_some (find test xs) → (b : Bool) → is_some (find test (cond b (change x ∷ xs) (x ∷ change_first named change xs))) ≡ is_some (cond (test x) (Some x) (find test xs))
      by_case behind true =
          ap (λ b. is_some (cond b (Some (change x)) (find test xs))) (keeps x)
          ∙ elim (test x) as (λ b. is_some (cond b (Some (change x)) (find test xs)) ≡ is_some (cond b (Some x) (find test xs))) [ true ↦ refl | false ↦ refl ]
      by_case behind false =
          elim (test x) as (λ b. is_some (cond b (Some x) (find test (change_first named change xs))) ≡ is_some (cond b (Some x) (find test xs))) [
            | true ↦ refl
            | false ↦ behind
          ]

    pub AtMostOne-change_first : (xs : List X) → AtMostOne test xs → AtMostOne test (change_first named change xs)
    AtMostOne-change_first [] single = tt
    AtMostOne-change_first (x ∷ xs) single = by_case (AtMostOne-change_first xs single.1) (named x) where
      none_too : find test xs ≡ None → find test (change_first named change xs) ≡ None
      none_too none = none_is (find test (change_first named change xs)) (find-change_first_none xs ∙ ap is_some none)

      by_case : AtMostOne test (change_first named change xs) → (b : Bool) → AtMostOne test (cond b (change x ∷ xs) (x ∷ change_first named change xs))
      by_case behind true = ((λ is. single.0 (sym (keeps x) ∙ is)), single.1)
      by_case behind false = ((λ is. none_too (single.0 is)), behind)
