-- Lists in which no element stands twice, and stamps that come behind all others.
use Rattle.std.proofs.Common.{inl, inr, ℕ, ◌<◌, ◌≤◌, List, [], ◌∷◌, ◌++◌, refl, subst, arith}
use Rattle.client_set.specs.Members.{Stands}
use Rattle.client_set.proofs.MemberLaws.{Stands-append_left, Stands-append_right, Stands-append_cases}
use Rattle.log_history.specs.AllNames.{NoneTwice}

module _ {X : Type 0} where
  beside : (middle behind : List X) (x : X) → NoneTwice (middle ++ behind) → Stands x middle → Stands x behind → ⊥
  beside [] behind x once inside other = inside
  beside (y ∷ middle) behind x once (inl same) other =
      once.0 (subst (λ (z : X). Stands z (middle ++ behind)) same (Stands-append_right x middle behind other))
  beside (y ∷ middle) behind x once (inr later) other = beside middle behind x once.1 later other

  -- an element of the middle stands nowhere else
  pub middle-alone : (front middle behind : List X) (x : X) → NoneTwice (front ++ (middle ++ behind)) → Stands x middle → Stands x (front ++ behind) → ⊥
  middle-alone [] middle behind x once inside other = beside middle behind x once inside other
  middle-alone (y ∷ front) middle behind x once inside (inl same) =
      once.0 (subst (λ (z : X). Stands z (front ++ (middle ++ behind))) same
      (Stands-append_right x front (middle ++ behind) (Stands-append_left x middle behind inside)))
  middle-alone (y ∷ front) middle behind x once inside (inr later) = middle-alone front middle behind x once.1 inside later

-- stamps up to the last one, each once
pub record AreStamps (last : ℕ) (stamps : List ℕ) : Type 0 where
  pub upto : (stamp : ℕ) → Stands stamp stamps → stamp ≤ last
  pub once : NoneTwice stamps

-- stamps that come behind the last one, up to a later one
pub record AreNew (last later : ℕ) (stamps : List ℕ) : Type 0 where
  pub behind : (stamp : ℕ) → Stands stamp stamps → last < stamp
  pub upto : (stamp : ℕ) → Stands stamp stamps → stamp ≤ later
  pub once : NoneTwice stamps
  pub grows : last ≤ later

once-before : (last : ℕ) (new behind : List ℕ) → ((stamp : ℕ) → Stands stamp behind → stamp ≤ last) → NoneTwice behind → ((stamp : ℕ) → Stands stamp new → last < stamp) → NoneTwice new → NoneTwice (new ++ behind)
once-before last [] behind low once high apart = once
once-before last (stamp ∷ new) behind low once high apart = (alone, once-before last new behind low once (λ other there. high other (inr there)) apart.1) where
  alone : Stands stamp (new ++ behind) → ⊥
  alone there = elim (Stands-append_cases stamp new behind there) [
    | inl inside ↦ apart.0 inside
    | inr beyond ↦ let le = low stamp beyond in let lt = high stamp (inl refl) in omega (arith, le, lt)
  ]

once-inserted : (last : ℕ) (front new behind : List ℕ) → ((stamp : ℕ) → Stands stamp (front ++ behind) → stamp ≤ last) → NoneTwice (front ++ behind) → ((stamp : ℕ) → Stands stamp new → last < stamp) → NoneTwice new → NoneTwice (front ++ (new ++ behind))
once-inserted last [] new behind low once high apart = once-before last new behind low once high apart
once-inserted last (stamp ∷ front) new behind low once high apart =
    (alone, once-inserted last front new behind (λ other there. low other (inr there)) once.1 high apart) where
      alone : Stands stamp (front ++ (new ++ behind)) → ⊥
      alone there = elim (Stands-append_cases stamp front (new ++ behind) there) [
        | inl inside ↦ once.0 (Stands-append_left stamp front behind inside)
        | inr beyond ↦ elim (Stands-append_cases stamp new behind beyond) [
          | inl fresh ↦ let le = low stamp (inl refl) in let lt = high stamp fresh in omega (arith, le, lt)
          | inr old ↦ once.0 (Stands-append_right stamp front behind old)
        ]
      ]

-- new stamps may stand anywhere among the others
pub inserted : (last later : ℕ) (front new behind : List ℕ) → AreStamps last (front ++ behind) → AreNew last later new → AreStamps later (front ++ (new ++ behind))
inserted last later front new behind are fresh = record {
  upto = upto;
  once = once-inserted last front new behind are.upto are.once fresh.behind fresh.once;
} where
  upto : (stamp : ℕ) → Stands stamp (front ++ (new ++ behind)) → stamp ≤ later
  upto stamp there = elim (Stands-append_cases stamp front (new ++ behind) there) [
    | inl inside ↦ let le = are.upto stamp (Stands-append_left stamp front behind inside) in omega (arith, le, fresh.grows)
    | inr beyond ↦ elim (Stands-append_cases stamp new behind beyond) [
      | inl one ↦ fresh.upto stamp one
      | inr old ↦ let le = are.upto stamp (Stands-append_right stamp front behind old) in omega (arith, le, fresh.grows)
    ]
  ]

-- no new stamp
pub none-new : (last : ℕ) → AreNew last last []
none-new last = record { behind = λ stamp there. absurd there; upto = λ stamp there. absurd there; once = tt; grows = omega arith }

-- one new stamp
pub one-new : (last later : ℕ) → last < later → AreNew last later (later ∷ [])
one-new last later less = record { behind = behind; upto = upto; once = ((λ there. there), tt); grows = omega (arith, less) } where
  behind : (stamp : ℕ) → Stands stamp (later ∷ []) → last < stamp
  behind stamp (inl same) = omega (arith, same, less)
  behind stamp (inr there) = absurd there

  upto : (stamp : ℕ) → Stands stamp (later ∷ []) → stamp ≤ later
  upto stamp (inl same) = omega (arith, same)
  upto stamp (inr there) = absurd there

-- two new stamps
pub two-new : (last first second : ℕ) → last < first → first < second → AreNew last second (first ∷ second ∷ [])
two-new last first second less more = record { behind = behind; upto = upto; once = (alone, ((λ there. there), tt)); grows = omega (arith, less, more) } where
  behind : (stamp : ℕ) → Stands stamp (first ∷ second ∷ []) → last < stamp
  behind stamp (inl same) = omega (arith, same, less)
  behind stamp (inr (inl same)) = omega (arith, same, less, more)
  behind stamp (inr (inr there)) = absurd there

  upto : (stamp : ℕ) → Stands stamp (first ∷ second ∷ []) → stamp ≤ second
  upto stamp (inl same) = omega (arith, same, more)
  upto stamp (inr (inl same)) = omega (arith, same)
  upto stamp (inr (inr there)) = absurd there

  alone : Stands first (second ∷ []) → ⊥
  alone (inl same) = omega (arith, same, more)
  alone (inr there) = there
