-- Where a key stands, or would stand, in a list of entries whose keys rise.
use Rattle.std.proofs.Common.{◌≡◌, ◌≢◌, ℕ, zero, suc, ◌<◌, ◌≤◌, true, false, Some, None, List, [], ◌∷◌, length, get_or, set, refl, sym, ap, subst, ◌∙◌, arith}
use Rattle.std.specs.List.{insert, remove}
use Rattle.std.proofs.lemmas.Bool.{and_parts}
use Rattle.std.proofs.lemmas.List.{get_or_read}
use Rattle.std.specs.List.Sorted.{IsPartitionedBy, IsPartitionPoint}
use Rattle.std.specs.declared.cmp.Ordering.{Ordering}
use Rattle.std.specs.declared.cmp.Ordering.TheVariants.{Less, Equal, Greater}
use Rattle.std.specs.Ordering.{is_lt, ordering_reverse}
use Rattle.std.specs.Cmp.{IsTotalOrder, tied_itself}
use Rattle.std.specs.FinMap.{IsAntisymmetric}
use Rattle.std.specs.FinMap.Entries.{put, find, is_sorted, below_all}
use Rattle.disk_model.specs.Shelf.{place_of, without, KeyStandsAt, KeyLacksAt}

-- a test that passes, from std's older form
is_less : (r : Ordering) → is_lt r ≡ true → r ≡ Less
is_less r e = grind arith

not_both : Greater ≡ Equal → ⊥
not_both e = cc

module _ {K : Type 0} {R : K → K → Ordering} (o : IsTotalOrder R) where
  -- the three cases of an entry's key against k, and what they say in the other direction
  pub against : (e k : K) (P : Type 0)
      → (R e k ≡ Less → R k e ≡ Greater → P) → (R e k ≡ Equal → R k e ≡ Equal → P) → (R e k ≡ Greater → R k e ≡ Less → P) → P
  against e k P below tie above =
      elim (R e k) as (λ r. R e k ≡ r → P) [
        | Less ↦ λ p. below p (o.antisymm k e ∙ ap ordering_reverse p)
        | Equal ↦ λ p. tie p (o.antisymm k e ∙ ap ordering_reverse p)
        | Greater ↦ λ p. above p (o.antisymm k e ∙ ap ordering_reverse p)
      ] refl

module _ {K X : Type 0} {R : K → K → Ordering} (o : IsTotalOrder R) (same : IsAntisymmetric R) where
  -- a key below the first of a list that rises is below all
  below_rest : (k j : K) (es : List (K × X)) → R k j ≡ Less → below_all R j es ≡ true → below_all R k es ≡ true
  below_rest k j [] less h = refl
  below_rest k j (e ∷ es) less h =
      let parts = and_parts (is_lt (R j e.0)) (below_all R j es) h in
      let next : R j e.0 ≡ Less = is_less (R j e.0) parts.0 in
      let first : R k e.0 ≡ Less = o.trans k j e.0 less next in
      rw first (below_rest k j es less parts.1)

  -- a key below all entries is not found
  find_below : (k : K) (es : List (K × X)) → below_all R k es ≡ true → find R k es ≡ None
  find_below k [] h = refl
  find_below k (e ∷ es) h =
      let parts = and_parts (is_lt (R k e.0)) (below_all R k es) h in
      let first : R k e.0 ≡ Less = is_less (R k e.0) parts.0 in
      rw first (find_below k es parts.1)

  -- and nothing is left out for it
  without_below : (k : K) (es : List (K × X)) → below_all R k es ≡ true → without R k es ≡ es
  without_below k [] h = refl
  without_below k (e ∷ es) h =
      let parts = and_parts (is_lt (R k e.0)) (below_all R k es) h in
      let first : R k e.0 ≡ Less = is_less (R k e.0) parts.0 in
      rw first (ap (λ t. e ∷ t) (without_below k es parts.1))

  -- what stands at a key's place, where the key is there
  record Stands (k : K) (v : X) (d : K × X) (es : List (K × X)) : Type 0 where
    pub found : find R k es ≡ Some (get_or es (place_of R k es) d).1
    pub put_is : put R k v es ≡ set es (place_of R k es) ((get_or es (place_of R k es) d).0, v)
    pub without_is : without R k es ≡ remove es (place_of R k es)

  -- what is done at a key's place, where the key is not there
  record Lacks (k : K) (es : List (K × X)) : Type 0 where
    pub missing : find R k es ≡ None
    pub put_is : (v : X) → put R k v es ≡ insert es (place_of R k es) (k, v)
    pub without_is : without R k es ≡ es

  -- what stands at a key's place, found there
  stands : (k : K) (v : X) (d : K × X) (es : List (K × X)) → is_sorted R es ≡ true
      → place_of R k es < length es → (get_or es (place_of R k es) d).0 ≡ k → Stands k v d es
  stands k v d [] sorted within at = absurd (omega arith)
  stands k v d (e ∷ es) sorted within at =
      let parts = and_parts (below_all R e.0 es) (is_sorted R es) sorted in
      against o e.0 k (Stands k v d (e ∷ es))
      (λ p q.
      let within' : suc (place_of R k es) < suc (length es) = rw p at within in
      let at' : (get_or es (place_of R k es) d).0 ≡ k = rw p at at in
      let rest = stands k v d es parts.1 (omega arith) at' in
      record {
        found = rw (p, q) rest.found;
        put_is = rw (p, q) (ap (λ t. e ∷ t) rest.put_is);
        without_is = rw (p, q) (ap (λ t. e ∷ t) rest.without_is);
      })
      (λ p q.
      let below : below_all R k es ≡ true = subst (λ x. below_all R x es ≡ true) (sym (same k e.0 q)) parts.0 in
      record {
        found = rw (p, q) refl;
        put_is = rw (p, q) refl;
        without_is = rw (p, q) (without_below k es below);
      })
      (λ p q.
      let at' : e.0 ≡ k = rw p at at in
      absurd (not_both (sym p ∙ ap (λ x. R x k) at' ∙ tied_itself o k)))

  -- what is done at a key's place, where another key or none stands there
  lacks : (k : K) (es : List (K × X)) → is_sorted R es ≡ true
      → ((d : K × X) → place_of R k es < length es → (get_or es (place_of R k es) d).0 ≢ k) → Lacks k es
  lacks k [] sorted other = record { missing = refl; put_is = λ v. refl; without_is = refl }
  lacks k (e ∷ es) sorted other =
      let parts = and_parts (below_all R e.0 es) (is_sorted R es) sorted in
      against o e.0 k (Lacks k (e ∷ es))
      (λ p q.
      let other' : (d : K × X) → suc (place_of R k es) < suc (length es) → (get_or es (place_of R k es) d).0 ≢ k = rw p at other in
      let rest = lacks k es parts.1 (λ d within. other' d (omega arith)) in
      record {
        missing = rw q rest.missing;
        put_is = λ v. rw (p, q) (ap (λ t. e ∷ t) (rest.put_is v));
        without_is = rw q (ap (λ t. e ∷ t) rest.without_is);
      })
      (λ p q.
      let other' : (d : K × X) → 0 < suc (length es) → (get_or (e ∷ es) 0 d).0 ≢ k = rw p at other in
      absurd (other' e (omega arith) (same e.0 k p)))
      (λ p q.
      let below = below_rest k e.0 es q parts.0 in
      record {
        missing = rw q (find_below k es below);
        put_is = λ v. rw (p, q) refl;
        without_is = rw q (ap (λ t. e ∷ t) (without_below k es below));
      })

  -- a key below all entries is below each
  below_each : (k : K) (es : List (K × X)) (n : ℕ) (d : K × X) → below_all R k es ≡ true → n < length es → R k (get_or es n d).0 ≡ Less
  below_each k [] n d h within = absurd (omega arith)
  below_each k (e ∷ es) zero d h within = is_less (R k e.0) (and_parts (is_lt (R k e.0)) (below_all R k es) h).0
  below_each k (e ∷ es) (suc n) d h within = below_each k es n d (and_parts (is_lt (R k e.0)) (below_all R k es) h).1 (omega arith)

  -- the entries below a key stand before the others
  pub rising_partitioned : (k : K) (es : List (K × X)) → is_sorted R es ≡ true → IsPartitionedBy (λ e. is_lt (R e.0 k)) es
  rising_partitioned k [] sorted i j d le within e = absurd (omega arith)
  rising_partitioned k (x ∷ es) sorted zero zero d le within e = e
  rising_partitioned k (x ∷ es) sorted zero (suc j) d le within e =
      let parts = and_parts (below_all R x.0 es) (is_sorted R es) sorted in
      let first = below_each x.0 es j d parts.0 (omega arith) in
      ap is_lt (o.trans x.0 (get_or es j d).0 k first (is_less (R (get_or es j d).0 k) e))
  rising_partitioned k (x ∷ es) sorted (suc i) zero d le within e = absurd (omega arith)
  rising_partitioned k (x ∷ es) sorted (suc i) (suc j) d le within e =
      rising_partitioned k es (and_parts (below_all R x.0 es) (is_sorted R es) sorted).1 i j d (omega arith) (omega arith) e

  -- the point between them is the key's place
  pub place_is : (k : K) (es : List (K × X)) (i : ℕ) → i ≤ length es
      → IsPartitionPoint (λ e. is_lt (R e.0 k) ≡ true) (λ e. is_lt (R e.0 k) ≡ false) es i → i ≡ place_of R k es
  place_is k [] i le part = omega arith
  place_is k (e ∷ es) zero le part =
      let above : is_lt (R e.0 k) ≡ false = part.1 0 e (omega arith) (omega arith) in
      rw above refl
  place_is k (e ∷ es) (suc i) le part =
      let below : is_lt (R e.0 k) ≡ true = part.0 0 e (omega arith) (omega arith) in
      let rest = place_is k es i (omega arith)
      ((λ n d low high. part.0 (suc n) d (omega arith) (omega arith)), (λ n d low high. part.1 (suc n) d (omega arith) (omega arith))) in
      rw below (ap suc rest)

  -- what is told of a key that stands at its place
  pub stands_at : (k : K) (es : List (K × X)) (i : ℕ) (x : K × X) → is_sorted R es ≡ true → i ≡ place_of R k es → i < length es
      → x ≡ get_or es i x → x.0 ≡ k → KeyStandsAt R k es i
  stands_at k es i x sorted is within read key =
      let at : (d : K × X) → (get_or es (place_of R k es) d).0 ≡ k =
      λ d. ap (λ n. (get_or es n d).0) (sym is) ∙ ap (λ e. e.0) (sym (get_or_read es i x within read d)) ∙ key in
      let within' : place_of R k es < length es = omega arith in
      record {
        within = within;
        found = λ d. rw is (stands k d.1 d es sorted within' (at d)).found;
        put_is = λ v d. rw is (stands k v d es sorted within' (at d)).put_is;
        without_is = rw is (stands k x.1 x es sorted within' (at x)).without_is;
      }

  -- what is told of a key that does not stand at its place
  pub lacks_at : (k : K) (es : List (K × X)) (i : ℕ) → is_sorted R es ≡ true → i ≡ place_of R k es → i ≤ length es
      → ((d : K × X) → i < length es → (get_or es i d).0 ≢ k) → KeyLacksAt R k es i
  lacks_at k es i sorted is within other =
      let other' : (d : K × X) → place_of R k es < length es → (get_or es (place_of R k es) d).0 ≢ k = rw is at other in
      record {
        within = within;
        missing = (lacks k es sorted other').missing;
        put_is = λ v. rw is ((lacks k es sorted other').put_is v);
        without_is = (lacks k es sorted other').without_is;
      }
