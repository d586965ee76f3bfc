-- The turns of the search for the first line that is shown.
use Rattle.std.proofs.Common.{◌≡◌, ◌⊎◌, ℕ, ◌+◌, true, false, List, [], ◌∷◌, ◌++◌, length, Some, None, refl, ap, sym, subst, inl, inr, ⊎_elim, arith}
use Rattle.script_language.specs.Scripts.{IsSkipped, SpellAll}
use Rattle.script_language.specs.Scripts.SpellAll.{done, skipped}
use Rattle.script_language.specs.ScriptReading.{is_skipped}
use Rattle.script_language.proofs.Judging.{skipped-true, true-skipped}
use Rattle.trio_lines.specs.declared.line.TrioLine.{TrioLine}
use Rattle.trio_lines.specs.Lines.{SpellsOwn}
use Rattle.trio_lines.specs.LineReading.{own_line_at}
use Rattle.trio_lines.specs.Weaving.{BeginsOwn}
use Rattle.trio_lines.proofs.OwnRules.{own_rule}
use Rattle.trio_lines.proofs.Apart.{unread-no_own, skipped-not_own}
use Rattle.trio_lines.proofs.Masked.{same_head, same_tail, skipped-parts}

-- the first line is an own one, or it is skipped and one of the others is the first that is shown
parted : (first number : ℕ) (raw own : List ℕ) (raws above below : List (List ℕ)) (line : TrioLine)
    → raw ∷ raws ≡ above ++ own ∷ below → number ≡ first + length above → SpellAll [] above → SpellsOwn line own
    → SpellsOwn line raw ⊎ (IsSkipped raw × BeginsOwn (first + 1) raws number)
parted first number raw own raws [] below line parts place h text =
    inl (subst (SpellsOwn line) (sym (same_head parts)) text)
parted first number raw own raws (x ∷ above) below line parts place h text =
    let both = skipped-parts h in
    inr (
      subst IsSkipped (sym (same_head parts)) both.0,
      record { above = above; own = own; below = below; line = line; parts = same_tail parts; place = omega arith; skipped = both.1; spelled = text },
    )

pub begins-here : (first : ℕ) (raw : List ℕ) (raws : List (List ℕ)) (line : TrioLine) → own_line_at raw ≡ Some line → BeginsOwn first (raw ∷ raws) first
begins-here first raw raws line found = record {
  above = [];
  own = raw;
  below = raws;
  line = line;
  parts = refl;
  place = omega arith;
  skipped = done;
  spelled = own_rule.sound raw line found;
}

pub begins-not : (first number : ℕ) (raw : List ℕ) (raws : List (List ℕ)) → own_line_at raw ≡ None → is_skipped raw ≡ false → BeginsOwn first (raw ∷ raws) number → ⊥
begins-not first number raw raws none shown b =
    ⊎_elim
    (λ (text : SpellsOwn b.line raw). unread-no_own raw none b.line text)
    (λ (later : IsSkipped raw × BeginsOwn (first + 1) raws number). (let on = skipped-true raw later.0 in cc))
    (parted first number raw b.own raws b.above b.below b.line b.parts b.place b.skipped b.spelled)

-- behind a skipped line it is as with it
pub begins-later : (first number : ℕ) (raw : List ℕ) (raws : List (List ℕ)) → is_skipped raw ≡ true → BeginsOwn (first + 1) raws number → BeginsOwn first (raw ∷ raws) number
begins-later first number raw raws sign b = record {
  above = raw ∷ b.above;
  own = b.own;
  below = b.below;
  line = b.line;
  parts = ap (λ these. raw ∷ these) b.parts;
  place = omega (arith, b.place);
  skipped = skipped (true-skipped raw sign) b.skipped;
  spelled = b.spelled;
}

pub begins-behind : (first number : ℕ) (raw : List ℕ) (raws : List (List ℕ)) → is_skipped raw ≡ true → BeginsOwn first (raw ∷ raws) number → BeginsOwn (first + 1) raws number
begins-behind first number raw raws sign b =
    ⊎_elim
    (λ (text : SpellsOwn b.line raw). absurd (skipped-not_own raw (true-skipped raw sign) b.line text))
    (λ (later : IsSkipped raw × BeginsOwn (first + 1) raws number). later.1)
    (parted first number raw b.own raws b.above b.below b.line b.parts b.place b.skipped b.spelled)

nothing : (own : List ℕ) (above below : List (List ℕ)) → [] ≡ above ++ own ∷ below → ⊥
nothing own [] below h = cc
nothing own (x ∷ above) below h = cc

pub begins-none : (first number : ℕ) → BeginsOwn first [] number → ⊥
begins-none first number b = nothing b.own b.above b.below b.parts
