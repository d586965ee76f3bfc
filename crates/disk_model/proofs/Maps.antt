-- Laws of finite maps whose keys tie only where they are equal, for equations between changed maps.
use Rattle.std.proofs.Common.{◌≡◌, ◌≢◌, Bool, true, false, cond, Some, None, refl, sym, ap, ◌∙◌, arith}
use Rattle.std.specs.declared.cmp.Ordering.{Ordering}
use Rattle.std.specs.declared.cmp.Ordering.TheVariants.{Equal}
use Rattle.std.specs.Ordering.{is_eq, eq_by_cmp}
use Rattle.std.specs.Cmp.{IsTotalOrder, tied_itself}
use Rattle.std.specs.FinMap.{FinMap, IsAntisymmetric, get, insert, remove, get-insert, get-remove, same_map}

-- an answer that is a tie
is_tie : (r : Ordering) → is_eq r ≡ true → r ≡ Equal
is_tie r e = grind arith

-- a choice by two tests that do not pass at once, in either order
in_either_order : {Y : Type 0} (b c : Bool) (x y z : Y) → (b ≡ true → c ≡ false) → cond b x (cond c y z) ≡ cond c y (cond b x z)
in_either_order true c x y z n = rw (n refl)
in_either_order false c x y z n = refl

module _ {K : Type 0} {R : K → K → Ordering} (o : IsTotalOrder R) (same : IsAntisymmetric R) where
  -- a key ties with itself
  pub tied : (k : K) → eq_by_cmp R k k ≡ true
  tied k = ap is_eq (tied_itself o k)

  -- keys that tie are equal
  pub same_key : (q k : K) → eq_by_cmp R q k ≡ true → q ≡ k
  same_key q k e = same q k (is_tie (R q k) e)

  -- different keys do not tie
  pub apart : (q k : K) → q ≢ k → eq_by_cmp R q k ≡ false
  apart q k n = elim (eq_by_cmp R q k) as (λ b. eq_by_cmp R q k ≡ b → eq_by_cmp R q k ≡ false) [
    | true ↦ λ e. absurd (n (same_key q k e))
    | false ↦ λ e. e
  ] refl

  -- two tests of different keys do not pass at once
  one_of : (j k q : K) → j ≢ k → eq_by_cmp R q j ≡ true → eq_by_cmp R q k ≡ false
  one_of j k q n e = apart q k (λ is. n (sym (same_key q j e) ∙ is))

module _ {K X : Type 0} {R : K → K → Ordering} (o : IsTotalOrder R) (same : IsAntisymmetric R) where
  -- what was put is found
  pub get-insert_same : (m : FinMap R X) (k : K) (v : X) → get (insert m k v) k ≡ Some v
  get-insert_same m k v = get-insert o m k v k ∙ ap (λ b. cond b (Some v) (get m k)) (tied o same k)

  -- what is put at a key leaves the others
  pub get-insert_other : (m : FinMap R X) (k : K) (v : X) (q : K) → q ≢ k → get (insert m k v) q ≡ get m q
  get-insert_other m k v q n = get-insert o m k v q ∙ ap (λ b. cond b (Some v) (get m q)) (apart o same q k n)

  -- what is removed at a key leaves the others
  pub get-remove_other : (m : FinMap R X) (k q : K) → q ≢ k → get (remove m k) q ≡ get m q
  get-remove_other m k q n = get-remove o m k q ∙ ap (λ b. cond b None (get m q)) (apart o same q k n)

  -- of two values put at one key the later stands
  pub insert_twice : (m : FinMap R X) (k : K) (v w : X) → insert (insert m k v) k w ≡ insert m k w
  insert_twice m k v w = same_map o same _ _ (λ q.
      get-insert o (insert m k v) k w q ∙ ap (cond (eq_by_cmp R q k) (Some w)) (get-insert o m k v q)
      ∙ elim (eq_by_cmp R q k) as (λ b. cond b (Some w) (cond b (Some v) (get m q)) ≡ cond b (Some w) (get m q)) [ true ↦ refl | false ↦ refl ]
      ∙ sym (get-insert o m k w q))

  -- to put what stands changes nothing
  pub insert_standing : (m : FinMap R X) (k : K) (v : X) → get m k ≡ Some v → insert m k v ≡ m
  insert_standing m k v stands = same_map o same _ _ (λ q.
      get-insert o m k v q
      ∙ elim (eq_by_cmp R q k) as (λ b. eq_by_cmp R q k ≡ b → cond b (Some v) (get m q) ≡ get m q) [
        | true ↦ λ e. sym stands ∙ ap (get m) (sym (same_key o same q k e))
        | false ↦ λ e. refl
      ] refl)

  -- what is put at a key might as well have been removed before
  pub insert-remove : (m : FinMap R X) (k : K) (v : X) → insert (remove m k) k v ≡ insert m k v
  insert-remove m k v = same_map o same _ _ (λ q.
      get-insert o (remove m k) k v q ∙ ap (cond (eq_by_cmp R q k) (Some v)) (get-remove o m k q)
      ∙ elim (eq_by_cmp R q k) as (λ b. cond b (Some v) (cond b None (get m q)) ≡ cond b (Some v) (get m q)) [ true ↦ refl | false ↦ refl ]
      ∙ sym (get-insert o m k v q))

  -- what is removed at one key and put at another, in either order
  pub remove-insert_other : (m : FinMap R X) (j k : K) (v : X) → j ≢ k → remove (insert m j v) k ≡ insert (remove m k) j v
  remove-insert_other m j k v n = same_map o same _ _ (λ q.
      get-remove o (insert m j v) k q ∙ ap (cond (eq_by_cmp R q k) None) (get-insert o m j v q)
      ∙ sym (in_either_order (eq_by_cmp R q j) (eq_by_cmp R q k) (Some v) None (get m q) (one_of o same j k q n))
      ∙ sym (get-insert o (remove m k) j v q ∙ ap (cond (eq_by_cmp R q j) (Some v)) (get-remove o m k q)))
