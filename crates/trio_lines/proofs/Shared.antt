-- A script for two servers is one for three.
use Rattle.std.proofs.Common.{◌≡◌, ℕ, List, [], ◌∷◌, ◌++◌, map, refl, sym, ap, subst}
use Rattle.std.specs.List.{AllZip}
use Rattle.script_lines.specs.declared.line.Line.{Line}
use Rattle.script_language.specs.Scripts.{SpellAll, IsScriptOf}
use Rattle.script_language.specs.Scripts.SpellAll.{done, skipped, spelled}
use Rattle.script_language.proofs.Judging.{spelling_rule}
use Rattle.trio_lines.specs.declared.line.TrioLine.{TrioLine}
use Rattle.trio_lines.specs.declared.line.TrioLine.TheVariants.{Plain}
use Rattle.trio_lines.specs.Lines.{SpellsOwn}
use Rattle.trio_lines.specs.Scripts.{SpellTrios, Masks, shared_lines, IsTrioOf}
use Rattle.trio_lines.specs.Scripts.SpellTrios.{done as trio_done, skipped as trio_skipped, spelled as trio_spelled}
use Rattle.trio_lines.specs.Scripts.Masks.{other}
use Rattle.trio_lines.proofs.Apart.{own-no_line, skipped-not_own}

-- no line of such a script is an own one
record Tail (raws : List (List ℕ)) : Type 0 where
  lines : List Line
  more : SpellAll lines raws

tail-spelled : {lines : List Line} {raw : List ℕ} {raws : List (List ℕ)} → SpellAll lines (raw ∷ raws) → Tail raws
tail-spelled (skipped {lines} sign more) = record { lines = lines; more = more }
tail-spelled (spelled {lines = lines} text more) = record { lines = lines; more = more }

first-shared : {lines : List Line} {raw : List ℕ} {raws : List (List ℕ)} → SpellAll lines (raw ∷ raws) → (line : TrioLine) → SpellsOwn line raw → ⊥
first-shared (skipped {lines} {raw} {raws} sign more) line own = skipped-not_own raw sign line own
first-shared (spelled {one} {raw} {lines} {raws} text more) line own =
    let found = spelling_rule.complete raw one text in
    let none = own-no_line line raw own in
    cc

none-own : (above below : List (List ℕ)) (raw : List ℕ) {lines : List Line} → SpellAll lines (above ++ raw ∷ below) → (line : TrioLine) → SpellsOwn line raw → ⊥
none-own [] below raw all line own = first-shared all line own
none-own (first ∷ above) below raw all line own = none-own above below raw (tail-spelled all).more line own

unmasked : {lines : List Line} {raws : List (List ℕ)} → SpellAll lines raws → AllZip Masks raws raws
unmasked done = tt
unmasked (skipped {lines} {raw} {raws} sign more) = (other (skipped-not_own raw sign), unmasked more)
unmasked (spelled {one} {raw} {lines} {raws} text more) = (other (first-shared (spelled {one = one} text more)), unmasked more)

as-trios : {lines : List Line} {raws : List (List ℕ)} → SpellAll lines raws → SpellTrios (map Plain lines) raws
as-trios done = trio_done
as-trios (skipped sign more) = trio_skipped sign (as-trios more)
as-trios (spelled text more) = trio_spelled text (as-trios more)

all-shared : (lines : List Line) → shared_lines (map Plain lines) ≡ lines
all-shared [] = refl
all-shared (line ∷ lines) = ap (λ these. line ∷ these) (all-shared lines)

pub shared-script : (lines : List Line) (bytes : List ℕ) → IsScriptOf lines bytes → IsTrioOf (map Plain lines) bytes
shared-script lines bytes script = record {
  spelled = as-trios script.spelled;
  masked = bytes;
  masks = unmasked script.spelled;
  script = subst (λ these. IsScriptOf these bytes) (sym (all-shared lines)) script;
  begun = λ number is. none-own is.above is.below is.own (subst (SpellAll lines) is.parts script.spelled) is.line is.spelled;
}
