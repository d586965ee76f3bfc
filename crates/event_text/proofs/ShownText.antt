-- Blanks at the ends of lines.
use Rattle.std.proofs.Common.{◌≡◌, ℕ, zero, suc, ◌+◌, ◌-◌, ◌<◌, ◌≤◌, inl, inr, true, false, ◌==◌, if◌then◌else◌, List, [], ◌∷◌, ◌++◌, length, take, get_or, refl, ap, sym, ◌∙◌, arith}
use Rattle.std.proofs.lemmas.Bool.Decides.{eqb_tells}
use Rattle.std.proofs.lemmas.List.{take_more}
use Rattle.event_text.specs.Pieces.{ends_blank}
use Rattle.event_text.specs.Texts.{before_rest, trimmed}

-- Blanks at the end.

before-more : (byte : ℕ) (line : List ℕ) (next : ℕ) → before_rest byte (line ++ next ∷ []) ≡ byte ∷ (line ++ next ∷ [])
before-more byte [] next = refl
before-more byte (x ∷ line) next = refl

-- a blank at the end goes
pub trimmed-blank : (line : List ℕ) → trimmed (line ++ 32 ∷ []) ≡ trimmed line
trimmed-blank [] = refl
trimmed-blank (byte ∷ line) = ap (before_rest byte) (trimmed-blank line)

-- another byte keeps the whole line
pub trimmed-other : (line : List ℕ) (byte : ℕ) → (byte == 32) ≡ false → trimmed (line ++ byte ∷ []) ≡ line ++ byte ∷ []
trimmed-other [] byte other = ap (λ b. if b then [] else byte ∷ []) other
trimmed-other (first ∷ line) byte other = ap (before_rest first) (trimmed-other line byte other) ∙ before-more first line byte

-- The end of a line goes back over blanks.

grown : (line : List ℕ) (n : ℕ) → n < length line → take (suc n) line ≡ take n line ++ get_or line n 0 ∷ []
grown line n within = let e : suc n ≡ n + 1 = omega arith in ap (λ i. take i line) e ∙ take_more line n 0 within

pub back-step : (line : List ℕ) (end last : ℕ) → end ≤ length line → last ≡ end - 1 → ends_blank line end ≡ true → trimmed line ≡ trimmed (take end line) → trimmed line ≡ trimmed (take last line)
back-step line zero last within is blank same = cc
back-step line (suc n) last within is blank same =
    let here : n ≡ last = omega arith in
    let below : n < length line = omega arith in
    let byte : get_or line n 0 ≡ 32 = elim (eqb_tells (get_or line n 0) 32) [ inl it ↦ it.1 | inr other ↦ absurd (Rattle.std.proofs.Common.true≢false (sym blank ∙ other.0)) ] in
    same ∙ ap trimmed (grown line n below ∙ ap (λ b. take n line ++ b ∷ []) byte) ∙ trimmed-blank (take n line) ∙ ap (λ i. trimmed (take i line)) here

pub back-end : (line : List ℕ) (end : ℕ) → end ≤ length line → ends_blank line end ≡ false → trimmed line ≡ trimmed (take end line) → take end line ≡ trimmed line
back-end line zero within blank same = sym same
back-end line (suc n) within blank same =
    let below : n < length line = omega arith in
    let whole = grown line n below in
    whole ∙ sym (trimmed-other (take n line) (get_or line n 0) blank) ∙ ap trimmed (sym whole) ∙ sym same
