-- Own lines and shared ones woven in the order of the bytes.
use Rattle.std.proofs.Common.{◌≡◌, ℕ, ◌+◌, true, false, List, [], ◌∷◌, ◌++◌, length, Some, None, refl, sym, ap, subst, ◌∙◌, arith, append_assoc, append-nil}
use Rattle.std.specs.List.{AllZip}
use Rattle.std.specs.Vec.Iter.{into_iter_items, into_iter_len}
use Rattle.std.specs.declared.vec.IntoIter.{IntoIter}
use Rattle.std.specs.declared.alloc.Global.{Global}
use Rattle.script_lines.specs.declared.line.Line.{Line}
use Rattle.script_language.specs.Lines.{Spells}
use Rattle.script_language.specs.Scripts.{IsSkipped, SpellAll}
use Rattle.script_language.specs.Scripts.SpellAll.{done, skipped, spelled}
use Rattle.script_language.specs.ScriptReading.{is_skipped}
use Rattle.script_language.proofs.Judging.{skipped-true, true-skipped}
use Rattle.trio_lines.specs.declared.line.TrioLine.{TrioLine}
use Rattle.trio_lines.specs.declared.line.TrioLine.TheVariants.{Plain}
use Rattle.trio_lines.specs.LineReading.{own_line_at}
use Rattle.trio_lines.specs.Scripts.{shared_lines, Masks}
use Rattle.trio_lines.specs.Scripts.SpellTrios.{done as trio_done, skipped as trio_skipped, spelled as trio_spelled}
use Rattle.trio_lines.specs.Weaving.{Fits, IsWoven, Weaves}
use Rattle.trio_lines.proofs.OwnRules.{own_rule}
use Rattle.trio_lines.proofs.Apart.{skipped-unspelled, skipped-no_own, own-unshared}
use Rattle.trio_lines.proofs.Masked.{same_head, same_tail, mask, mask-own, mask-other, masks-mask}

-- a skipped line spells none of the lines
past-skipped : {lines : List Line} {raw : List ℕ} {raws : List (List ℕ)} → SpellAll lines (raw ∷ raws) → IsSkipped raw → SpellAll lines raws
past-skipped (skipped sign more) on = more
past-skipped (spelled {one} {raw} {lines} {raws} text more) on = absurd (skipped-unspelled raw on one text)

-- a line that is shown spells the first
record Shows (lines : List Line) (raw : List ℕ) (raws : List (List ℕ)) : Type 0 where
  one : Line
  others : List Line
  parts : lines ≡ one ∷ others
  text : Spells one raw
  more : SpellAll others raws

shown-first : {lines : List Line} {raw : List ℕ} {raws : List (List ℕ)} → SpellAll lines (raw ∷ raws) → (IsSkipped raw → ⊥) → Shows lines raw raws
shown-first (skipped sign more) off = absurd (off sign)
shown-first (spelled {one} {raw} {lines} {raws} text more) off = record { one = one; others = lines; parts = refl; text = text; more = more }

-- what fits behind a line with something in its place that is skipped
record Fitting (shared : List Line) (raw : List ℕ) (raws : List (List ℕ)) : Type 0 where
  others : List (List ℕ)
  masks : AllZip Masks raws others
  spelled : SpellAll shared (mask raw ∷ others)

fitting : (shared : List Line) (raw : List ℕ) (raws masked : List (List ℕ)) → AllZip Masks (raw ∷ raws) masked → SpellAll shared masked → Fitting shared raw raws
fitting shared raw raws [] masks all = absurd masks
fitting shared raw raws (x ∷ others) masks all =
    record { others = others; masks = masks.1; spelled = subst (λ y. SpellAll shared (y ∷ others)) (masks-mask masks.0) all }

fits-past : {shared : List Line} {raw : List ℕ} {raws : List (List ℕ)} → Fits shared (raw ∷ raws) → IsSkipped (mask raw) → Fits shared raws
fits-past {shared} {raw} {raws} fits on =
    let f = fitting shared raw raws fits.masked fits.masks fits.spelled in
    record { masked = f.others; masks = f.masks; spelled = past-skipped f.spelled on }

-- a skipped line
pub weave-skipped : (shared : List Line) (all : List (List ℕ)) (lines : List TrioLine) (left : IntoIter Line Global) (raw : List ℕ) (raws : List (List ℕ))
    → is_skipped raw ≡ true → Weaves shared all lines left (raw ∷ raws) → Weaves shared all lines left raws
weave-skipped shared all lines left raw raws test h =
    let sign = true-skipped raw test in
    record {
      rest = h.rest;
      items = h.items;
      count = h.count;
      fits = fits-past h.fits (subst IsSkipped (sym (mask-other raw (skipped-no_own raw sign))) sign);
      goes_on = λ more woven. h.goes_on more (record { spelled = trio_skipped sign woven.spelled; are_shared = woven.are_shared });
    }

-- an own line
pub weave-own : (shared : List Line) (all : List (List ℕ)) (lines now : List TrioLine) (left : IntoIter Line Global) (raw : List ℕ) (raws : List (List ℕ)) (line : TrioLine)
    → own_line_at raw ≡ Some line → now ≡ lines ++ line ∷ [] → Weaves shared all lines left (raw ∷ raws) → Weaves shared all now left raws
weave-own shared all lines now left raw raws line found grown h =
    let own = own-unshared line raw (own_rule.sound raw line found) in
    record {
      rest = h.rest;
      items = h.items;
      count = h.count;
      fits = fits-past h.fits (subst IsSkipped (sym (mask-own raw line found)) refl);
      goes_on = λ more woven.
          let one : shared_lines (line ∷ more) ≡ h.rest = rw own.0 woven.are_shared in
          let whole = h.goes_on (line ∷ more) (record { spelled = trio_spelled own.1 woven.spelled; are_shared = one }) in
          let same : now ++ more ≡ lines ++ line ∷ more = ap (λ these. these ++ more) grown ∙ append_assoc lines (line ∷ []) more in
          subst (λ these. IsWoven these shared all) (sym same) whole;
    }

-- a shared line
pub weave-shared : (shared : List Line) (all : List (List ℕ)) (lines now : List TrioLine) (left after : IntoIter Line Global) (raw : List ℕ) (raws : List (List ℕ)) (line : Line)
    → is_skipped raw ≡ false → own_line_at raw ≡ None
    → into_iter_items left ≡ line ∷ into_iter_items after → into_iter_len after + 1 ≡ into_iter_len left → now ≡ lines ++ Plain line ∷ []
    → Weaves shared all lines left (raw ∷ raws) → Weaves shared all now after raws
weave-shared shared all lines now left after raw raws line off none items count grown h =
    let f = fitting h.rest raw raws h.fits.masked h.fits.masks h.fits.spelled in
    let here : SpellAll h.rest (raw ∷ f.others) = subst (λ y. SpellAll h.rest (y ∷ f.others)) (mask-other raw none) f.spelled in
    let first = shown-first here (λ sign. (let on = skipped-true raw sign in cc)) in
    let both : line ∷ into_iter_items after ≡ first.one ∷ first.others = sym items ∙ h.items ∙ first.parts in
    let same = same_head both in
    let others = same_tail both in
    let long = ap length first.parts in
    record {
      rest = first.others;
      items = others;
      count = omega (arith, h.count);
      fits = record { masked = f.others; masks = f.masks; spelled = first.more };
      goes_on = λ more woven.
          let text : Spells line raw = subst (λ one. Spells one raw) (sym same) first.text in
          let one : shared_lines (Plain line ∷ more) ≡ h.rest = ap (λ these. line ∷ these) woven.are_shared ∙ ap (λ one. one ∷ first.others) same ∙ sym first.parts in
          let whole = h.goes_on (Plain line ∷ more) (record { spelled = trio_spelled text woven.spelled; are_shared = one }) in
          let alike : now ++ more ≡ lines ++ Plain line ∷ more = ap (λ these. these ++ more) grown ∙ append_assoc lines (Plain line ∷ []) more in
          subst (λ these. IsWoven these shared all) (sym alike) whole;
    }

-- there is one
pub weave-lacks : (shared : List Line) (all : List (List ℕ)) (lines : List TrioLine) (left after : IntoIter Line Global) (raw : List ℕ) (raws : List (List ℕ))
    → is_skipped raw ≡ false → own_line_at raw ≡ None → into_iter_len left ≡ 0 → Weaves shared all lines left (raw ∷ raws) → Weaves shared all lines after raws
weave-lacks shared all lines left after raw raws off none empty h =
    let f = fitting h.rest raw raws h.fits.masked h.fits.masks h.fits.spelled in
    let here : SpellAll h.rest (raw ∷ f.others) = subst (λ y. SpellAll h.rest (y ∷ f.others)) (mask-other raw none) f.spelled in
    let first = shown-first here (λ sign. (let on = skipped-true raw sign in cc)) in
    let long = ap length first.parts in
    absurd (omega (arith, h.count))

nothing-left : {lines : List Line} → SpellAll lines [] → lines ≡ []
nothing-left done = refl

fits-none : {shared : List Line} (masked : List (List ℕ)) → AllZip Masks [] masked → SpellAll shared masked → shared ≡ []
fits-none [] masks all = nothing-left all
fits-none (x ∷ masked) masks all = absurd masks

-- at the end
pub weaves-all : (shared : List Line) (all : List (List ℕ)) (lines : List TrioLine) (left : IntoIter Line Global) → Weaves shared all lines left [] → IsWoven lines shared all
weaves-all shared all lines left h =
    let none = fits-none h.fits.masked h.fits.masks h.fits.spelled in
    subst (λ these. IsWoven these shared all) (append-nil lines) (h.goes_on [] (record { spelled = trio_done; are_shared = sym none }))

-- and at the begin
pub weaves-none : (shared : List Line) (all : List (List ℕ)) (left : IntoIter Line Global) → into_iter_items left ≡ shared → into_iter_len left ≡ length shared → Fits shared all → Weaves shared all [] left all
weaves-none shared all left items count fits =
    record { rest = shared; items = items; count = count; fits = fits; goes_on = λ more woven. woven }
