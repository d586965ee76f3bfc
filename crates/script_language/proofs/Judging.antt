-- That reading of whole scripts is exact: the lines exactly where the bytes spell them, else the least bad line.
use Rattle.std.proofs.Common.{◌≡◌, ◌⊎◌, ℕ, suc, ◌+◌, ◌<◌, Bool, true, false, not, cond, ◌==◌, List, [], ◌∷◌, ◌++◌, length, Option, Some, None, Result, Ok, Err, refl, sym, ap, subst, ◌∙◌, inl, inr, ⊎_elim, arith, append_assoc, add-zero}
use Rattle.std.specs.Prelude.{ℤ, is_some}
use Rattle.std.specs.List.{list_all}
use Rattle.std.proofs.lemmas.Bool.{not-true, and_parts, or_cases}
use Rattle.std.proofs.lemmas.Bool.Decides.{Decides-eqb}
use Rattle.std.proofs.lemmas.List.{append-nil}
use Rattle.script_lines.specs.declared.line.Line.{Line}
use Rattle.script_lines.specs.declared.line.Line.TheVariants as line
use Rattle.script_lines.specs.declared.answer.ScriptWhy.{ScriptWhy}
use Rattle.script_lines.specs.declared.answer.ScriptWhy.TheVariants as why
use Rattle.script_grammar.specs.Reading.{skipped as skipped_word}
use Rattle.script_language.specs.Lines.{Spells}
use Rattle.script_language.specs.Scripts.{IsSkipped, SpellAll, time_after, time_in_force, misplaced, AreInOrder, IsReason, IsBadLine, LacksCluster, IsBadAt, IsScriptOf, raw_lines}
use Rattle.script_language.specs.Scripts.SpellAll.{done, skipped, spelled}
use Rattle.script_language.specs.Scripts.IsReason.{formless, out_of_place}
use Rattle.script_language.specs.ScriptReading.{line_at, is_skipped, behind, ending, judged}
use Rattle.script_grammar.proofs.Rules.Beginning.{Ends, Begins}
use Rattle.script_grammar.proofs.Rules.{Beginning, LineRule, line_rule, begins, begins_by}
use Rattle.script_language.proofs.LineRules.{line_table, line_starts}

pub spelling_rule : LineRule line_at Spells line_starts
unfolding line_at Spells
spelling_rule = line_rule line_table.rule

-- it begins with a byte other than `#`
abbrev shows : Beginning → Bool
shows Ends = false
shows (Begins []) = false
shows (Begins (w ∷ word)) = not (w == 35)

shows-shown : (start : Beginning) (raw : List ℕ) → shows start ≡ true → begins start raw ≡ true → is_skipped raw ≡ false
shows-shown Ends raw h p = cc
shows-shown (Begins []) raw h p = cc
shows-shown (Begins (w ∷ word)) [] h p = cc
shows-shown (Begins (w ∷ word)) (b ∷ raw) h p =
    let at : (t : Bool) → (b == w) ≡ t → is_some (cond t (skipped_word word raw) None) ≡ true → (b == 35) ≡ false = elim [
      | true ↦ λ test here. let same = (Decides-eqb b w).0 test in ap (λ x. x == 35) same ∙ not-true (w == 35) h
      | false ↦ λ test here. cc
    ] in
    at (b == w) refl p

all_show-shown : (starts : List Beginning) (raw : List ℕ) → list_all shows starts ≡ true → begins_by starts raw ≡ true → is_skipped raw ≡ false
all_show-shown [] raw h p = cc
all_show-shown (start ∷ starts) raw h p =
    let parts = and_parts (shows start) (list_all shows starts) h in
    ⊎_elim (λ here. shows-shown start raw parts.0 here) (λ later. all_show-shown starts raw parts.1 later) (or_cases (begins start raw) (begins_by starts raw) p)

-- no line's spelling is skipped
spelled_shown : (one : Line) (raw : List ℕ) → Spells one raw → is_skipped raw ≡ false
spelled_shown one raw h = all_show-shown line_starts raw refl (spelling_rule.first raw one h)

pub skipped-true : (raw : List ℕ) → IsSkipped raw → is_skipped raw ≡ true
skipped-true [] h = refl
skipped-true (b ∷ raw) h = (Decides-eqb b 35).1 h

pub true-skipped : (raw : List ℕ) → is_skipped raw ≡ true → IsSkipped raw
true-skipped [] h = tt
true-skipped (b ∷ raw) h = (Decides-eqb b 35).0 h

not-skipped : (raw : List ℕ) → ¬ IsSkipped raw → is_skipped raw ≡ false
not-skipped raw h =
    let at : (t : Bool) → is_skipped raw ≡ t → t ≡ false = elim [
      | true ↦ λ test. absurd (h (true-skipped raw test))
      | false ↦ λ test. refl
    ] in
    at (is_skipped raw) refl

abbrev Outcome : Type 0
Outcome = Result (List Line) (ℕ × ScriptWhy)

behind-none : (outcome : Outcome) → behind [] outcome ≡ outcome
behind-none (Ok lines) = refl
behind-none (Err bad) = refl

pub behind-behind : (front more : List Line) (outcome : Outcome) → behind front (behind more outcome) ≡ behind (front ++ more) outcome
behind-behind front more (Ok lines) = ap Ok (sym (append_assoc front more lines))
behind-behind front more (Err bad) = refl

-- the turns of reading
pub judged_skips : (now : Option ℤ) (n : ℕ) (raw : List ℕ) (raws : List (List ℕ)) → is_skipped raw ≡ true → judged now n (raw ∷ raws) ≡ judged now (n + 1) raws
unfolding judged
judged_skips now n raw raws h = rw h refl

pub judged_formless : (now : Option ℤ) (n : ℕ) (raw : List ℕ) (raws : List (List ℕ)) → is_skipped raw ≡ false → line_at raw ≡ None → judged now n (raw ∷ raws) ≡ Err (n, why.Grammar)
unfolding judged
judged_formless now n raw raws h none = rw (h, none) refl

pub judged_misplaced : (now : Option ℤ) (n : ℕ) (raw : List ℕ) (raws : List (List ℕ)) (one : Line) (reason : ScriptWhy) → is_skipped raw ≡ false → line_at raw ≡ Some one → misplaced now one ≡ Some reason → judged now n (raw ∷ raws) ≡ Err (n, reason)
unfolding judged
judged_misplaced now n raw raws one reason h found wrong = rw (h, found, wrong) refl

pub judged_more : (now : Option ℤ) (n : ℕ) (raw : List ℕ) (raws : List (List ℕ)) (one : Line) → is_skipped raw ≡ false → line_at raw ≡ Some one → misplaced now one ≡ None → judged now n (raw ∷ raws) ≡ behind (one ∷ []) (judged (time_after now one) (n + 1) raws)
unfolding judged
judged_more now n raw raws one h found right = rw (h, found, right) refl

pub judged_ends : (now : Option ℤ) (n : ℕ) → judged now n [] ≡ ending now n
unfolding judged
judged_ends now n = refl

-- good lines are read, and then the rest
judged-append : (now : Option ℤ) (n : ℕ) (rest : List (List ℕ)) {lines : List Line} {before : List (List ℕ)} → SpellAll lines before → AreInOrder now lines
    → judged now n (before ++ rest) ≡ behind lines (judged (time_in_force now lines) (n + length before) rest)
judged-append now n rest done order = sym (behind-none (judged now (n + 0) rest) ∙ ap (λ k. judged now k rest) (add-zero n))
judged-append now n rest (skipped {lines} {raw} {raws} sign more) order =
    let turn = judged_skips now n raw (raws ++ rest) (skipped-true raw sign) in
    let count : n + 1 + length raws ≡ n + suc (length raws) = omega arith in
    turn ∙ judged-append now (n + 1) rest more order ∙ ap (λ k. behind lines (judged (time_in_force now lines) k rest)) count
judged-append now n rest (spelled {one} {raw} {lines} {raws} text more) order =
    let turn = judged_more now n raw (raws ++ rest) one (spelled_shown one raw text) (spelling_rule.complete raw one text) order.0 in
    let later = judged-append (time_after now one) (n + 1) rest more order.1 in
    let count : n + 1 + length raws ≡ n + suc (length raws) = omega arith in
    turn ∙ ap (behind (one ∷ [])) later ∙ behind-behind (one ∷ []) lines (judged (time_in_force (time_after now one) lines) (n + 1 + length raws) rest)
    ∙ ap (λ k. behind (one ∷ lines) (judged (time_in_force (time_after now one) lines) k rest)) count

-- the time in force does not end
after-begun : (now : Option ℤ) (one : Line) → is_some now ≡ true → is_some (time_after now one) ≡ true
after-begun now (line.Cluster start queue callbacks alarm ntf sys) h = refl
after-begun now (line.Time later) h = refl
after-begun now _ h = h

in_force-begun : (now : Option ℤ) (lines : List Line) → is_some now ≡ true → is_some (time_in_force now lines) ≡ true
in_force-begun now [] h = h
in_force-begun now (one ∷ lines) h = in_force-begun (time_after now one) lines (after-begun now one h)

-- the first line sets a time
first-begun : (one : Line) → misplaced None one ≡ None → is_some (time_after None one) ≡ true
first-begun (line.Cluster start queue callbacks alarm ntf sys) h = refl
first-begun _ h = cc

script-begun : (lines : List Line) → AreInOrder None lines → 0 < length lines → is_some (time_in_force None lines) ≡ true
script-begun [] order some = absurd (omega arith)
script-begun (one ∷ lines) order some = in_force-begun (time_after None one) lines (first-begun one order.0)

ending-begun : (now : Option ℤ) (n : ℕ) → is_some now ≡ true → ending now n ≡ Ok []
ending-begun None n h = cc
ending-begun (Some now) n h = refl

-- a script's bytes are read as its lines
pub judged-complete : (lines : List Line) (bytes : List ℕ) → IsScriptOf lines bytes → judged None 1 (raw_lines bytes) ≡ Ok lines
judged-complete lines bytes h =
    let raws = raw_lines bytes in
    let whole = judged-append None 1 [] h.spelled h.ordered in
    let at_end = judged_ends (time_in_force None lines) (1 + length raws) ∙ ending-begun (time_in_force None lines) (1 + length raws) (script-begun lines h.ordered h.begun) in
    ap (judged None 1) (sym (append-nil raws)) ∙ whole ∙ ap (behind lines) at_end ∙ ap Ok (append-nil lines)

-- a bad line ends the reading
reason-complete : {now : Option ℤ} {bad : List ℕ} {reason : ScriptWhy} (n : ℕ) (rest : List (List ℕ)) → is_skipped bad ≡ false → IsReason now bad reason → judged now n (bad ∷ rest) ≡ Err (n, reason)
reason-complete {now} {bad} n rest off (formless none) =
    let here : (o : Option Line) → line_at bad ≡ o → o ≡ None = elim [
      | None ↦ λ was. refl
      | Some one ↦ λ was. absurd (none one (spelling_rule.sound bad one was))
    ] in
    judged_formless now n bad rest off (here (line_at bad) refl)
reason-complete {now} {bad} n rest off (out_of_place {reason = reason} one text wrong) = judged_misplaced now n bad rest one reason off (spelling_rule.complete bad one text) wrong

bad_line-complete : (now : Option ℤ) (first : ℕ) (raws : List (List ℕ)) (number : ℕ) (reason : ScriptWhy) → IsBadLine now first raws number reason → judged now first raws ≡ Err (number, reason)
bad_line-complete now first raws number reason h =
    let front = judged-append now first (h.bad ∷ h.behind) h.spelled h.ordered in
    let here = reason-complete (first + length h.before) h.behind (not-skipped h.bad h.shown) h.wrong in
    ap (judged now first) h.parts ∙ front ∙ ap (behind h.lines) here ∙ ap (λ k. Err (k, reason)) (sym h.place)

lacking-complete : (now : Option ℤ) (first : ℕ) (raws : List (List ℕ)) (number : ℕ) (reason : ScriptWhy) → LacksCluster now first raws number reason → judged now first raws ≡ Err (number, reason)
lacking-complete now first raws number reason h =
    let whole = judged-append now first [] h.spelled tt in
    let at_end = judged_ends now (first + length raws) ∙ ap (λ t. ending t (first + length raws)) h.unbegun in
    ap (judged now first) (sym (append-nil raws)) ∙ whole ∙ ap (behind []) at_end ∙ cc (h.place, h.wrong)

pub bad-complete : (bytes : List ℕ) (number : ℕ) (reason : ScriptWhy) → IsBadAt bytes number reason → judged None 1 (raw_lines bytes) ≡ Err (number, reason)
bad-complete bytes number reason =
    ⊎_elim (λ h. bad_line-complete None 1 (raw_lines bytes) number reason h) (λ h. lacking-complete None 1 (raw_lines bytes) number reason h)

-- what was read is spelled so, and a cluster line was there
abbrev Good : Option ℤ → List (List ℕ) → List Line → Type 0
Good now raws lines = SpellAll lines raws × AreInOrder now lines × (is_some (time_in_force now lines) ≡ true)

abbrev BadFrom : Option ℤ → ℕ → List (List ℕ) → ℕ → ScriptWhy → Type 0
BadFrom now first raws number reason = IsBadLine now first raws number reason ⊎ LacksCluster now first raws number reason

abbrev Judges : Option ℤ → ℕ → List (List ℕ) → Outcome → Type 0
Judges now first raws (Ok lines) = Good now raws lines
Judges now first raws (Err bad) = BadFrom now first raws bad.0 bad.1

ending-judges : (now : Option ℤ) (n : ℕ) → Judges now n [] (ending now n)
ending-judges None n = inr (record { unbegun = refl; place = sym (add-zero n); spelled = done; wrong = refl })
ending-judges (Some now) n = (done, tt, refl)

-- a skipped line in front
skipped-judges : (now : Option ℤ) (n : ℕ) (raw : List ℕ) (raws : List (List ℕ)) (outcome : Outcome) → IsSkipped raw → Judges now (n + 1) raws outcome → Judges now n (raw ∷ raws) outcome
skipped-judges now n raw raws (Ok lines) sign h = (skipped sign h.0, h.1, h.2)
skipped-judges now n raw raws (Err bad) sign (inl h) = inl (record {
  before = raw ∷ h.before;
  bad = h.bad;
  behind = h.behind;
  lines = h.lines;
  parts = ap (λ x. raw ∷ x) h.parts;
  place = omega (arith, h.place);
  spelled = skipped sign h.spelled;
  ordered = h.ordered;
  shown = h.shown;
  wrong = h.wrong;
})
skipped-judges now n raw raws (Err bad) sign (inr h) = inr (record { unbegun = h.unbegun; place = omega (arith, h.place); spelled = skipped sign h.spelled; wrong = h.wrong })

-- behind a good line a time is in force
begun_after : (now : Option ℤ) (one : Line) → misplaced now one ≡ None → time_after now one ≡ None → ⊥
begun_after None one right none = let some = first-begun one right in let gone = ap (λ (t : Option ℤ). is_some t) none in cc
begun_after (Some now) one right none = let some = after-begun (Some now) one refl in let gone = ap (λ (t : Option ℤ). is_some t) none in cc

-- a good line in front
line-judges : (now : Option ℤ) (n : ℕ) (raw : List ℕ) (raws : List (List ℕ)) (one : Line) (outcome : Outcome) → Spells one raw → misplaced now one ≡ None
    → Judges (time_after now one) (n + 1) raws outcome → Judges now n (raw ∷ raws) (behind (one ∷ []) outcome)
line-judges now n raw raws one (Ok lines) text right h = (spelled text h.0, (right, h.1), h.2)
line-judges now n raw raws one (Err bad) text right (inl h) = inl (record {
  before = raw ∷ h.before;
  bad = h.bad;
  behind = h.behind;
  lines = one ∷ h.lines;
  parts = ap (λ x. raw ∷ x) h.parts;
  place = omega (arith, h.place);
  spelled = spelled text h.spelled;
  ordered = (right, h.ordered);
  shown = h.shown;
  wrong = h.wrong;
})
line-judges now n raw raws one (Err bad) text right (inr h) = absurd (begun_after now one right h.unbegun)

-- a bad line
bad-judges : (now : Option ℤ) (n : ℕ) (raw : List ℕ) (raws : List (List ℕ)) (reason : ScriptWhy) → is_skipped raw ≡ false → IsReason now raw reason → Judges now n (raw ∷ raws) (Err (n, reason))
bad-judges now n raw raws reason off wrong = inl (record {
  before = [];
  bad = raw;
  behind = raws;
  lines = [];
  parts = refl;
  place = sym (add-zero n);
  spelled = done;
  ordered = tt;
  shown = λ sign. (let on = skipped-true raw sign in cc);
  wrong = wrong;
})

pub judged-sound : (raws : List (List ℕ)) (now : Option ℤ) (n : ℕ) → Judges now n raws (judged now n raws)
judged-sound [] now n = subst (Judges now n []) (sym (judged_ends now n)) (ending-judges now n)
judged-sound (raw ∷ raws) now n =
    let by_place : (one : Line) → is_skipped raw ≡ false → line_at raw ≡ Some one → (o : Option ScriptWhy) → misplaced now one ≡ o → Judges now n (raw ∷ raws) (judged now n (raw ∷ raws)) = λ one off found. elim [
      | None ↦ λ right. subst (Judges now n (raw ∷ raws)) (sym (judged_more now n raw raws one off found right))
          (line-judges now n raw raws one (judged (time_after now one) (n + 1) raws) (spelling_rule.sound raw one found) right (judged-sound raws (time_after now one) (n + 1)))
      | Some reason ↦ λ wrong. subst (Judges now n (raw ∷ raws)) (sym (judged_misplaced now n raw raws one reason off found wrong))
          (bad-judges now n raw raws reason off (out_of_place one (spelling_rule.sound raw one found) wrong))
    ] in
    let by_line : is_skipped raw ≡ false → (o : Option Line) → line_at raw ≡ o → Judges now n (raw ∷ raws) (judged now n (raw ∷ raws)) = λ off. elim [
      | None ↦ λ none. subst (Judges now n (raw ∷ raws)) (sym (judged_formless now n raw raws off none))
          (bad-judges now n raw raws why.Grammar off (formless (λ one text. (let found = spelling_rule.complete raw one text in cc))))
      | Some one ↦ λ found. by_place one off found (misplaced now one) refl
    ] in
    let by_sign : (t : Bool) → is_skipped raw ≡ t → Judges now n (raw ∷ raws) (judged now n (raw ∷ raws)) = elim [
      | true ↦ λ on. subst (Judges now n (raw ∷ raws)) (sym (judged_skips now n raw raws on)) (skipped-judges now n raw raws (judged now (n + 1) raws) (true-skipped raw on) (judged-sound raws now (n + 1)))
      | false ↦ λ off. by_line off (line_at raw) refl
    ] in
    by_sign (is_skipped raw) refl

-- no line is there where no time is in force at the end
begun-length : (lines : List Line) → is_some (time_in_force None lines) ≡ true → 0 < length lines
begun-length [] h = cc
begun-length (one ∷ lines) h = omega arith

-- what is read is a script of the bytes
pub judged-script : (bytes : List ℕ) (lines : List Line) → judged None 1 (raw_lines bytes) ≡ Ok lines → IsScriptOf lines bytes
judged-script bytes lines h =
    let good : Good None (raw_lines bytes) lines = subst (Judges None 1 (raw_lines bytes)) h (judged-sound (raw_lines bytes) None 1) in
    record { spelled = good.0; ordered = good.1; begun = begun-length lines good.2 }

-- where reading ends the least bad line is
pub judged-bad : (bytes : List ℕ) (number : ℕ) (reason : ScriptWhy) → judged None 1 (raw_lines bytes) ≡ Err (number, reason) → IsBadAt bytes number reason
judged-bad bytes number reason h = subst (Judges None 1 (raw_lines bytes)) h (judged-sound (raw_lines bytes) None 1)
