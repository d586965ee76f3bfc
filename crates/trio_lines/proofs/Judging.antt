-- From lines that are woven, or a line that is told, to what is answered.
use Rattle.std.proofs.Common.{◌≡◌, ◌⊎◌, ℕ, ◌≤◌, List, [], ◌∷◌, ◌++◌, length, map, None, Result, Ok, Err, refl, sym, ap, subst, ◌∙◌, inl, inr, ⊎_elim, arith, length-append}
use Rattle.std.specs.Prelude.{IfOk, IfErr, MatchResult, IsErrAnd, codes}
use Rattle.std.proofs.lemmas.List.{length-map, map-append}
use Rattle.script_lines.specs.declared.line.Line.{Line}
use Rattle.script_lines.specs.declared.answer.ScriptWhy.{ScriptWhy}
use Rattle.script_lines.specs.declared.answer.ScriptAnswer.{ScriptAnswer}
use Rattle.script_lines.specs.declared.answer.ScriptAnswer.TheVariants as answer
use Rattle.script_language.specs.Scripts.{raw_lines, IsSkipped, IsScriptOf, IsBadLine, LacksCluster, IsBadAt}
use Rattle.script.specs.Answers.{Tells}
use Rattle.trio_lines.specs.declared.line.TrioLine.{TrioLine}
use Rattle.trio_lines.specs.Scripts.{AreMasked, IsEarly, IsTrioOf, IsFault, IsBadTrioAt, shared_lines}
use Rattle.trio_lines.specs.Scripts.IsFault.{shared, early}
use Rattle.trio_lines.specs.Answers.{TellsTrio, JudgesTrio}
use Rattle.trio_lines.specs.Weaving.{BeginsOwn, IsWoven}
use Rattle.trio_lines.proofs.OwnRules.{own_rule}
use Rattle.trio_lines.proofs.Apart.{same-lines}
use Rattle.trio_lines.proofs.Masked.{same_head, same_tail, same_bad, good_bad, mask, mask-own, judged_masked, all-masked, script-judged, bad-judged}
use Rattle.trio_lines.proofs.Early.{early-bad}

-- what is woven is a script
pub woven-script : (bytes masked : List ℕ) (lines : List TrioLine) (others : List Line) → ((number : ℕ) → BeginsOwn 1 (raw_lines bytes) number → ⊥)
    → AreMasked bytes masked → IsScriptOf others masked → IsWoven lines others (raw_lines bytes) → IsTrioOf lines bytes
woven-script bytes masked lines others none masks script woven = record {
  spelled = woven.spelled;
  masked = masked;
  masks = masks;
  script = subst (λ these. IsScriptOf these masked) (sym woven.are_shared) script;
  begun = λ number is.
      let bad = early-bad bytes number none is in
      good_bad others bad.number bad.reason (sym (script-judged bytes masked others masks script) ∙ bad.is);
}

told-least : (bytes : List ℕ) (number other : ℕ) (reason why : ScriptWhy) → ((number : ℕ) → BeginsOwn 1 (raw_lines bytes) number → ⊥)
    → judged_masked bytes ≡ Err (number, reason) → IsFault bytes other why → number ≤ other
told-least bytes number other reason why none is (shared masked masks bad) =
    let same = same_bad number other reason why (sym is ∙ bad-judged bytes masked other why masks bad) in
    omega (arith, same.0)
told-least bytes number other reason why none is (early early_line) =
    let bad = early-bad bytes other none early_line in
    let same = same_bad number bad.number reason bad.reason (sym is ∙ bad.is) in
    omega (arith, same.0, bad.soon)

-- what is told of the masked bytes is the least bad line
pub told-bad : (bytes masked : List ℕ) (number : ℕ) (reason : ScriptWhy) → ((number : ℕ) → BeginsOwn 1 (raw_lines bytes) number → ⊥)
    → AreMasked bytes masked → IsBadAt masked number reason → IsBadTrioAt bytes number reason
told-bad bytes masked number reason none masks bad = record {
  fault = shared masked masks bad;
  least = λ other why fault. told-least bytes number other reason why none (bad-judged bytes masked number reason masks bad) fault;
}

-- so it is of the answer
pub told_clause : (told : ScriptAnswer) (bytes masked : List ℕ) → ((number : ℕ) → BeginsOwn 1 (raw_lines bytes) number → ⊥)
    → AreMasked bytes masked → Tells told masked → TellsTrio told bytes
told_clause answer.Memory bytes masked none masks bad = tt
told_clause (answer.Bad number reason) bytes masked none masks bad = told-bad bytes masked number reason none masks bad

-- a script has no bad line
script-good : (bytes : List ℕ) (lines : List TrioLine) (number : ℕ) (reason : ScriptWhy) → IsTrioOf lines bytes → IsFault bytes number reason → ⊥
script-good bytes lines number reason script (shared masked masks bad) =
    let good = script-judged bytes script.masked (shared_lines lines) script.masks script.script in
    good_bad (shared_lines lines) number reason (sym good ∙ bad-judged bytes masked number reason masks bad)
script-good bytes lines number reason script (early is) = script.begun number is

-- two lists that are equal have equal elements at equal places
same_place : (front other rest below : List (List ℕ)) (x y : List ℕ) → front ++ x ∷ rest ≡ other ++ y ∷ below → length front ≡ length other → x ≡ y
same_place [] [] rest below x y h e = same_head h
same_place [] (b ∷ other) rest below x y h e = absurd (omega arith)
same_place (a ∷ front) [] rest below x y h e = absurd (omega arith)
same_place (a ∷ front) (b ∷ other) rest below x y h e =
    let long : length front ≡ length other = omega arith in
    same_place front other rest below x y (same_tail h) long

-- an own line is not told with `#` in its place
own-untold : (bytes masked : List ℕ) (number : ℕ) (reason : ScriptWhy) → AreMasked bytes masked → IsBadAt masked number reason → IsEarly bytes number → ⊥
own-untold bytes masked number reason masks bad is =
    let hidden = mask-own is.own is.line (own_rule.complete is.own is.line is.spelled) in
    let split : raw_lines masked ≡ map mask is.above ++ codes "#" ∷ map mask is.below =
    all-masked (raw_lines bytes) (raw_lines masked) masks ∙ ap (map mask) is.parts ∙ map-append mask is.above (is.own ∷ is.below)
    ∙ ap (λ x. map mask is.above ++ x ∷ map mask is.below) hidden in
    let long = length-map is.above mask in
    ⊎_elim
    (λ (line : IsBadLine None 1 (raw_lines masked) number reason). line.shown (
    let alike : length (map mask is.above) ≡ length line.before = omega (arith, long, line.place, is.place) in
    let same : codes "#" ≡ line.bad =
    same_place (map mask is.above) line.before (map mask is.below) line.behind (codes "#") line.bad (sym split ∙ line.parts) alike in
    subst IsSkipped same refl))
    (λ (lacks : LacksCluster None 1 (raw_lines masked) number reason).
    let count = ap length split in
    let parts = length-append (map mask is.above) (codes "#" ∷ map mask is.below) in
    absurd (omega (arith, lacks.place, is.place)))
    bad

same-reason : (bytes : List ℕ) (number : ℕ) (reason why : ScriptWhy) → IsFault bytes number reason → IsFault bytes number why → reason ≡ why
same-reason bytes number reason why (shared masked masks bad) (shared also also_masks worse) =
    (same_bad number number reason why (sym (bad-judged bytes masked number reason masks bad) ∙ bad-judged bytes also number why also_masks worse)).1
same-reason bytes number reason why (shared masked masks bad) (early is) = absurd (own-untold bytes masked number reason masks bad is)
same-reason bytes number reason why (early is) (shared masked masks bad) = absurd (own-untold bytes masked number why masks bad is)
same-reason bytes number reason why (early is) (early also) = refl

-- the clauses of the public call
pub every_script_clause : (r : Result (List TrioLine) ScriptAnswer) (bytes : List ℕ) → JudgesTrio r bytes
    → (lines : List TrioLine) → IsTrioOf lines bytes → MatchResult r (λ found. found ≡ lines) (λ told. told ≡ answer.Memory)
every_script_clause (Ok found) bytes h lines script = same-lines h.spelled script.spelled
every_script_clause (Err answer.Memory) bytes h lines script = refl
every_script_clause (Err (answer.Bad number reason)) bytes h lines script = absurd (script-good bytes lines number reason script h.fault)

pub lines_clause : (r : Result (List TrioLine) ScriptAnswer) (bytes : List ℕ) → JudgesTrio r bytes → IfOk r (λ lines. IsTrioOf lines bytes)
lines_clause (Ok lines) bytes h = h
lines_clause (Err told) bytes h = tt

pub fault_clause : (r : Result (List TrioLine) ScriptAnswer) (bytes : List ℕ) → JudgesTrio r bytes → IfErr r (λ told. TellsTrio told bytes)
fault_clause (Ok lines) bytes h = tt
fault_clause (Err told) bytes h = h

pub every_fault_clause : (r : Result (List TrioLine) ScriptAnswer) (bytes : List ℕ) → JudgesTrio r bytes
    → (number : ℕ) (reason : ScriptWhy) → IsBadTrioAt bytes number reason → IsErrAnd r (λ told. (told ≡ answer.Memory) ⊎ (told ≡ answer.Bad number reason))
every_fault_clause (Ok lines) bytes h number reason bad = absurd (script-good bytes lines number reason h bad.fault)
every_fault_clause (Err answer.Memory) bytes h number reason bad = inl refl
every_fault_clause (Err (answer.Bad told why)) bytes h number reason bad =
    let low = h.least number reason bad.fault in
    let high = bad.least told why h.fault in
    let place : told ≡ number = omega arith in
    let same = same-reason bytes number why reason (subst (λ n. IsFault bytes n why) place h.fault) bad.fault in
    inr (cc)
