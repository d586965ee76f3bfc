-- Lines of several events, and which events are loud.
use Rattle.std.proofs.Common.{◌≡◌, ℕ, suc, Bool, true, false, ◌||◌, nat_lt, if◌then◌else◌, List, [], ◌∷◌, ◌++◌, refl, ap, sym, ◌∙◌, append_assoc, append-nil, arith}
use Rattle.std.proofs.Math.Bool.{or-false}
use Rattle.std.proofs.lemmas.Bool.{lt-ltb, le-ltb}
use Rattle.cluster_facts.specs.Lists.{without}
use Rattle.cluster_events.specs.Lines.{Told, is_ignored, is_progress}
use Rattle.cluster_events.specs.Outcomes.{Outcome}
use Rattle.cluster_events.specs.Settling.{is_loud}
use Rattle.event_text.specs.Texts.{printed, lines_of}
use Rattle.cluster_clients.specs.Taken.{kept_lines}

pub printed-append : (second first : List Told) → printed (second ++ first) ≡ printed first ++ printed second
printed-append [] first = sym (append-nil (printed first))
printed-append (line ∷ second) first =
    ap (λ front. front ++ lines_of line) (printed-append second first) ∙ append_assoc (printed first) (printed second) (lines_of line)

pub without-append : (second first : List Told) → without is_ignored (second ++ first) ≡ without is_ignored second ++ without is_ignored first
without-append [] first = refl
without-append (line ∷ second) first =
    let deeper = without-append second first in
    elim (is_ignored line) as (λ b. (if b then without is_ignored (second ++ first) else line ∷ without is_ignored (second ++ first)) ≡ (if b then without is_ignored second else line ∷ without is_ignored second) ++ without is_ignored first) [
      | true ↦ deeper
      | false ↦ ap (λ rest. line ∷ rest) deeper
    ]

pub kept-append : (second first : List Told) → kept_lines (second ++ first) ≡ kept_lines first ++ kept_lines second
kept-append second first = ap printed (without-append second first) ∙ printed-append (without is_ignored second) (without is_ignored first)

swap : (a b c : Bool) → (a || (b || c)) ≡ (b || (a || c))
swap true true c = refl
swap true false c = refl
swap false true c = refl
swap false false c = refl

pub loud-append : (second first : List Told) → is_loud (second ++ first) ≡ (is_loud first || is_loud second)
loud-append [] first = sym (or-false (is_loud first))
loud-append (line ∷ second) first =
    ap (λ rest. is_progress line || rest) (loud-append second first) ∙ swap (is_progress line) (is_loud first) (is_loud second)

-- Numbers that grow.

pub not-less : (n : ℕ) → nat_lt n n ≡ false
not-less n = le-ltb n n (omega arith)

pub less-one : (n : ℕ) → nat_lt n (suc n) ≡ true
less-one n = lt-ltb n (suc n) (omega arith)

-- Outcomes that differ at most in the places that lines on messages without effect name.

pub record SameButPlace {S : Type 0} (one other : Outcome S) : Type 0 where
  pub state : one.state ≡ other.state
  pub lines : kept_lines one.told ≡ kept_lines other.told
  pub loud : is_loud one.told ≡ is_loud other.told

pub same-outcome : {S : Type 0} (outcome : Outcome S) → SameButPlace outcome outcome
same-outcome outcome = record { state = refl; lines = refl; loud = refl }
