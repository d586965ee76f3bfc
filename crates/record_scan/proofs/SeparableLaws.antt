-- Which piece stands in the way, and what pieces without one have.
use Rattle.std.proofs.Common.{◌≡◌, ℕ, zero, suc, ◌+◌, ◌-◌, ◌<◌, ◌≤◌, List, [], length, take, get_or, true, false, not, ◌&&◌, nat_lt, cond, inl, inr, refl, ap, arith}
use Rattle.std.proofs.lemmas.Bool.{cases_lt, cases_Bool, and_parts, and_from, ltb-true, lt-ltb, not-true, not_from_false}
use Rattle.std.proofs.lemmas.List.{take_all}
use Rattle.std.proofs.lemmas.List.Sums.{count_by_more_yes, count_by_more_no, sum_by-take-le}
use Rattle.format_expr.specs.declared.piece.Piece.{Piece}
use Rattle.format_expr.specs.declared.piece.Piece.TheVariants.{Plain}
use Rattle.record_scan.specs.Fits.{is_variable, variables}
use Rattle.record_scan.specs.Separable.{is_closed, IsSecondVariable, IsSeparable, IsFirstInWay}

-- one piece more has at most one variable token more, and none fewer
variables-more : (pieces : List Piece) (n : ℕ) → (variables (take (n + 1) pieces) ≤ variables (take n pieces) + 1) × (variables (take n pieces) ≤ variables (take (n + 1) pieces))
variables-more pieces n =
    elim (cases_lt n (length pieces)) [
      | inl inside ↦ elim (cases_Bool (is_variable (get_or pieces n (Plain [])))) [
        | inl free ↦ let more = count_by_more_yes is_variable pieces n (Plain []) inside free in (omega arith, omega arith)
        | inr fixed ↦ let more = count_by_more_no is_variable pieces n (Plain []) inside fixed in (omega arith, omega arith)
      ]
      | inr past ↦
          let one = ap variables (take_all n pieces past) in
          let other = ap variables (take_all (n + 1) pieces (omega arith)) in
          (omega arith, omega arith)
    ]

variables-rise : (pieces : List Piece) (n more : ℕ) → variables (take n pieces) ≤ variables (take (n + more) pieces)
variables-rise pieces n zero = let same : n + 0 ≡ n = omega arith in omega (arith, ap (λ k. variables (take k pieces)) same)
variables-rise pieces n (suc more) =
    let before = variables-rise pieces n more in
    let step = (variables-more pieces (n + more)).1 in
    let next : n + more + 1 ≡ n + suc more = omega arith in
    omega (arith, ap (λ k. variables (take k pieces)) next)

-- among pieces with two variable tokens one is the second
second_at : (pieces : List Piece) (n : ℕ) → 2 ≤ variables (take n pieces) → (piece : ℕ) × IsSecondVariable pieces piece
second_at pieces zero two = absurd (omega arith)
second_at pieces (suc n) two =
    elim (cases_lt (variables (take n pieces)) 2) [
      | inr already ↦ second_at pieces n already
      | inl less ↦
          let next : n + 1 ≡ suc n = omega arith in
          let back : suc n - 1 ≡ n = omega arith in
          let step = (variables-more pieces n).0 in
          let same = ap (λ k. variables (take k pieces)) next in
          let before = ap (λ k. variables (take k pieces)) back in
          (suc n, record { before = omega arith; through = omega arith })
    ]

-- it is one alone
second_only : (pieces : List Piece) (one other : ℕ) → IsSecondVariable pieces one → IsSecondVariable pieces other → one ≤ other
second_only pieces one other is is' =
    elim (cases_lt other one) [
      | inr fits ↦ fits
      | inl less ↦
          let rise = variables-rise pieces other (one - 1 - other) in
          let place : other + (one - 1 - other) ≡ one - 1 = omega arith in
          let same = ap (λ k. variables (take k pieces)) place in
          let before = is.before in
          let through = is'.through in
          absurd (omega arith)
    ]

second_two : (pieces : List Piece) (piece : ℕ) → IsSecondVariable pieces piece → 2 ≤ variables pieces
second_two pieces piece is =
    let through = is.through in
    let within = sum_by-take-le (λ (p : Piece). cond (is_variable p) 1 0) pieces piece in
    omega arith

second_inside : (pieces : List Piece) (piece : ℕ) → IsSecondVariable pieces piece → piece ≤ length pieces
second_inside pieces piece is =
    elim (cases_lt (length pieces) piece) [
      | inr fits ↦ fits
      | inl past ↦
          let one = ap variables (take_all piece pieces (omega arith)) in
          let other = ap variables (take_all (piece - 1) pieces (omega arith)) in
          let before = is.before in
          let through = is.through in
          absurd (omega arith)
    ]

-- what separable pieces have
pub one_at_most : (pieces : List Piece) (size : ℕ) → IsSeparable pieces size → variables pieces ≤ 1
one_at_most pieces size none =
    elim (cases_lt 1 (variables pieces)) [
      | inr fits ↦ fits
      | inl two ↦
          let whole = ap variables (take_all (length pieces) pieces (omega arith)) in
          let second = second_at pieces (length pieces) (omega arith) in
          absurd (none second.0 (inl second.1))
    ]

pub is_end_closed : (pieces : List Piece) (size : ℕ) → IsSeparable pieces size → 0 < size → 0 < variables pieces → is_closed pieces ≡ true
is_end_closed pieces size none padded some =
    elim (cases_Bool (is_closed pieces)) [
      | inl closed ↦ closed
      | inr unclosed ↦ absurd (none (length pieces) (inr (record { padded = padded; variable = some; last = refl; unclosed = unclosed })))
    ]

-- the first piece in the way
pub first_second : (pieces : List Piece) (size piece : ℕ) → IsSecondVariable pieces piece → IsFirstInWay pieces size piece
first_second pieces size piece is = record {
  stands = inl is;
  least = λ other stands. elim stands [
    | inl second ↦ second_only pieces piece other is second
    | inr end ↦ let inside = second_inside pieces piece is in let last = end.last in omega arith
  ];
}

no_second : (pieces : List Piece) (piece : ℕ) → variables pieces ≤ 1 → IsSecondVariable pieces piece → ⊥
no_second pieces piece one second = let two = second_two pieces piece second in omega arith

pub first_end : (pieces : List Piece) (size : ℕ) → variables pieces ≤ 1 → 0 < size → 0 < variables pieces → is_closed pieces ≡ false → IsFirstInWay pieces size (length pieces)
first_end pieces size one padded some unclosed = record {
  stands = inr (record { padded = padded; variable = some; last = refl; unclosed = unclosed });
  least = λ other stands. elim stands [
    | inl second ↦ absurd (no_second pieces other one second)
    | inr end ↦ let last = end.last in omega arith
  ];
}

pub none_in_way : (pieces : List Piece) (size : ℕ) → variables pieces ≤ 1 → (0 < size → 0 < variables pieces → is_closed pieces ≡ true) → IsSeparable pieces size
none_in_way pieces size one closes piece stands =
    elim stands [
      | inl second ↦ no_second pieces piece one second
      | inr end ↦ let closed = closes end.padded end.variable in let unclosed = end.unclosed in cc
    ]

pub end_in_way : (pieces : List Piece) (size : ℕ) → variables pieces ≤ 1 → (nat_lt 0 size && nat_lt 0 (variables pieces) && not (is_closed pieces)) ≡ true → IsFirstInWay pieces size (length pieces)
end_in_way pieces size one unclosed =
    let last = and_parts (nat_lt 0 size && nat_lt 0 (variables pieces)) (not (is_closed pieces)) unclosed in
    let first = and_parts (nat_lt 0 size) (nat_lt 0 (variables pieces)) last.0 in
    first_end pieces size one (ltb-true 0 size first.0) (ltb-true 0 (variables pieces) first.1) (not-true (is_closed pieces) last.1)

pub separable_end : (pieces : List Piece) (size : ℕ) → variables pieces ≤ 1 → (nat_lt 0 size && nat_lt 0 (variables pieces) && not (is_closed pieces)) ≡ false → IsSeparable pieces size
separable_end pieces size one closed =
    none_in_way pieces size one
    (λ padded some. elim (cases_Bool (is_closed pieces)) [
      | inl is ↦ is
      | inr unclosed ↦
          let all = and_from (nat_lt 0 size && nat_lt 0 (variables pieces)) (not (is_closed pieces))
          (and_from (nat_lt 0 size) (nat_lt 0 (variables pieces)) (lt-ltb 0 size padded) (lt-ltb 0 (variables pieces) some))
          (not_from_false (is_closed pieces) unclosed) in
          absurd cc
    ])
