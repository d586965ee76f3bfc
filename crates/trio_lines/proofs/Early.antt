-- Own lines with no cluster line above them: where the first line that is shown is one, it is the least bad line, and else none is before the line that is told.
use Rattle.std.proofs.Common.{◌≡◌, ◌⊎◌, ℕ, ◌+◌, ◌≤◌, Bool, true, false, List, [], ◌∷◌, ◌++◌, length, map, Option, Some, None, Err, refl, sym, ap, subst, ◌∙◌, inl, inr, ⊎_elim, arith, append_assoc, length-append}
use Rattle.script_lines.specs.declared.line.Line.{Line}
use Rattle.script_lines.specs.declared.answer.ScriptWhy.{ScriptWhy}
use Rattle.script_lines.specs.declared.answer.ScriptWhy.TheVariants as why
use Rattle.script_language.specs.Lines.{Spells}
use Rattle.script_language.specs.Scripts.{raw_lines, IsSkipped, SpellAll}
use Rattle.script_language.specs.Scripts.SpellAll.{done, skipped}
use Rattle.script_language.specs.ScriptReading.{is_skipped, judged}
use Rattle.script_language.proofs.Judging.{true-skipped}
use Rattle.trio_lines.specs.declared.line.TrioLine.{TrioLine}
use Rattle.trio_lines.specs.LineReading.{own_line_at}
use Rattle.trio_lines.specs.Scripts.{IsCluster, AreUnbegun, IsEarly, IsFault, IsBadTrioAt}
use Rattle.trio_lines.specs.Scripts.IsFault.{shared, early}
use Rattle.trio_lines.specs.Weaving.{BeginsOwn}
use Rattle.trio_lines.proofs.OwnRules.{own_rule}
use Rattle.trio_lines.proofs.Apart.{skipped-unspelled, skipped-not_own}
use Rattle.trio_lines.proofs.Masked.{same_head, same_tail, mask, judged_masked, bad-judged, bad-place, skipped-parts, judged-past, judged-past_own, judged-first}

-- the first line that is shown
record FirstShown (raws : List (List ℕ)) : Type 0 where
  above : List (List ℕ)
  raw : List ℕ
  below : List (List ℕ)
  parts : raws ≡ above ++ raw ∷ below
  skipped : SpellAll [] above
  shown : is_skipped raw ≡ false

first_shown : (raws : List (List ℕ)) → SpellAll [] raws ⊎ FirstShown raws
first_shown [] = inl done
first_shown (raw ∷ raws) =
    let at : (t : Bool) → is_skipped raw ≡ t → SpellAll [] (raw ∷ raws) ⊎ FirstShown (raw ∷ raws) = elim [
      | true ↦ λ test.
          let sign = true-skipped raw test in
          ⊎_elim
          (λ (all : SpellAll [] raws). inl (skipped sign all))
          (λ (found : FirstShown raws). inr (record {
            above = raw ∷ found.above;
            raw = found.raw;
            below = found.below;
            parts = ap (λ these. raw ∷ these) found.parts;
            skipped = skipped sign found.skipped;
            shown = found.shown;
          }))
          (first_shown raws)
      | false ↦ λ test. inr (record { above = []; raw = raw; below = raws; parts = refl; skipped = done; shown = test })
    ] in
    at (is_skipped raw) refl

-- no line of these is a cluster line, so this one is not
unbegun-at : (above below : List (List ℕ)) (raw : List ℕ) → AreUnbegun (above ++ raw ∷ below) → (one : Line) → Spells one raw → IsCluster one → ⊥
unbegun-at [] below raw h = h.0
unbegun-at (first ∷ above) below raw h = unbegun-at above below raw h.1

skipped-unbegun : (above : List (List ℕ)) → SpellAll [] above → AreUnbegun above
skipped-unbegun [] h = tt
skipped-unbegun (raw ∷ above) h =
    let parts = skipped-parts h in
    (λ one text is. skipped-unspelled raw parts.0 one text, skipped-unbegun above parts.1)

-- a line that is shown does not stand among skipped ones
shown-behind : (front other : List (List ℕ)) (raw shown : List ℕ) (rest below : List (List ℕ)) → SpellAll [] front → front ++ raw ∷ rest ≡ other ++ shown ∷ below → (IsSkipped shown → ⊥) → length front ≤ length other
shown-behind [] other raw shown rest below h same not = omega arith
shown-behind (first ∷ front) [] raw shown rest below h same not =
    absurd (not (subst IsSkipped (same_head same) (skipped-parts h).0))
shown-behind (first ∷ front) (next ∷ other) raw shown rest below h same not =
    let fewer = shown-behind front other raw shown rest below (skipped-parts h).1 (same_tail same) not in
    omega arith

-- the bytes are bad with `#` in the place of own lines, no later than here
pub record BadBy (bytes : List ℕ) (limit : ℕ) : Type 0 where
  pub number : ℕ
  pub reason : ScriptWhy
  pub is : judged_masked bytes ≡ Err (number, reason)
  pub soon : number ≤ limit

-- where the first line that is shown is no own one, a line before each early one is bad
pub early-bad : (bytes : List ℕ) (limit : ℕ) → ((number : ℕ) → BeginsOwn 1 (raw_lines bytes) number → ⊥) → IsEarly bytes limit → BadBy bytes limit
early-bad bytes limit none is =
    let raws = raw_lines bytes in
    ⊎_elim
    (λ (all : SpellAll [] is.above). absurd (none limit (record {
      above = is.above;
      own = is.own;
      below = is.below;
      line = is.line;
      parts = is.parts;
      place = is.place;
      skipped = all;
      spelled = is.spelled;
    })))
    (λ (first : FirstShown is.above).
    let rest = first.below ++ is.own ∷ is.below in
    let whole : raws ≡ first.above ++ first.raw ∷ rest =
    is.parts ∙ ap (λ these. these ++ is.own ∷ is.below) first.parts ∙ append_assoc first.above (first.raw ∷ first.below) (is.own ∷ is.below) in
    let long = length-append first.above (first.raw ∷ first.below) in
    let count = ap length first.parts in
    let here : 1 + length first.above ≤ limit = omega (arith, is.place) in
    let not_own : own_line_at first.raw ≡ None = (
    let at : (o : Option TrioLine) → own_line_at first.raw ≡ o → o ≡ None = elim [
      | None ↦ λ was. refl
      | Some line ↦ λ was. absurd (none (1 + length first.above) (record {
        above = first.above;
        own = first.raw;
        below = rest;
        line = line;
        parts = whole;
        place = refl;
        skipped = first.skipped;
        spelled = own_rule.sound first.raw line was;
      }))
    ] in
    at (own_line_at first.raw) refl) in
    let unbegun = unbegun-at first.above first.below first.raw (subst AreUnbegun first.parts is.unbegun) in
    let bad = judged-first first.raw rest (1 + length first.above) first.shown not_own unbegun in
    record {
      number = 1 + length first.above;
      reason = bad.0;
      is = ap (λ these. judged None 1 (map mask these)) whole ∙ judged-past first.above (first.raw ∷ rest) 1 first.skipped ∙ bad.1;
      soon = here;
    })
    (first_shown is.above)

-- where it is an own one it is early
pub begins-early : (bytes : List ℕ) (number : ℕ) → BeginsOwn 1 (raw_lines bytes) number → IsEarly bytes number
begins-early bytes number begins = record {
  above = begins.above;
  own = begins.own;
  below = begins.below;
  line = begins.line;
  parts = begins.parts;
  place = begins.place;
  spelled = begins.spelled;
  unbegun = skipped-unbegun begins.above begins.skipped;
}

-- and no line before it is bad
begins-least : (bytes : List ℕ) (number other : ℕ) (reason : ScriptWhy) → BeginsOwn 1 (raw_lines bytes) number → IsFault bytes other reason → number ≤ other
begins-least bytes number other reason begins (shared masked masks bad) =
    let found = own_rule.complete begins.own begins.line begins.spelled in
    let past = ap (λ these. judged None 1 (map mask these)) begins.parts
    ∙ judged-past begins.above (begins.own ∷ begins.below) 1 begins.skipped
    ∙ judged-past_own begins.own begins.line begins.below (1 + length begins.above) found in
    let later = bad-place (map mask begins.below) (1 + length begins.above + 1) other reason (sym past ∙ bad-judged bytes masked other reason masks bad) in
    omega (arith, begins.place, later)
begins-least bytes number other reason begins (early is) =
    let shown = λ (sign : IsSkipped is.own). skipped-not_own is.own sign is.line is.spelled in
    let behind = shown-behind begins.above is.above begins.own is.own begins.below is.below begins.skipped (sym begins.parts ∙ is.parts) shown in
    omega (arith, begins.place, is.place, behind)

pub begins-bad : (bytes : List ℕ) (number : ℕ) → BeginsOwn 1 (raw_lines bytes) number → IsBadTrioAt bytes number why.Cluster
begins-bad bytes number begins = record {
  fault = early (begins-early bytes number begins);
  least = λ other reason fault. begins-least bytes number other reason begins fault;
}
