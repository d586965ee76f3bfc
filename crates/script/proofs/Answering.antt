-- From reading on lists to what is answered.
use Rattle.std.proofs.Common.{◌≡◌, ◌⊎◌, ℕ, ◌∙◌, List, [], Option, Some, None, Result, Ok, Err, true, false, refl, sym, ap, subst, inl, inr}
use Rattle.std.specs.Prelude.{ℤ, is_some, length, IfOk, IfErr, MatchResult, IsErrAnd}
use Rattle.std.proofs.lemmas.List.{append-nil}
use Rattle.script_lines.specs.declared.line.Line.{Line}
use Rattle.script_lines.specs.declared.answer.ScriptWhy.{ScriptWhy}
use Rattle.script_lines.specs.declared.answer.ScriptWhy.TheVariants as why
use Rattle.script_lines.specs.declared.answer.ScriptAnswer.{ScriptAnswer}
use Rattle.script_lines.specs.declared.answer.ScriptAnswer.TheVariants as answer
use Rattle.script_language.specs.Scripts.{raw_lines, IsScriptOf, IsBadAt}
use Rattle.script_language.specs.ScriptReading.{behind, judged}
use Rattle.script.specs.Answers.{Tells, CountsScript}
use Rattle.script.specs.Judged.{Outcome, Judges}
use Rattle.script_language.proofs.Judging.{judged_ends, judged-script, judged-complete, judged-bad, bad-complete}

-- where nothing is left
pub ends_unbegun : (front : List Line) (now : Option ℤ) (number : ℕ) → is_some now ≡ false → behind front (judged now number []) ≡ Err (number, why.Cluster)
ends_unbegun front None number h = ap (behind front) (judged_ends None number)
ends_unbegun front (Some now) number h = cc

pub ends_begun : (front : List Line) (now : Option ℤ) (number : ℕ) → is_some now ≡ true → behind front (judged now number []) ≡ Ok front
ends_begun front None number h = cc
ends_begun front (Some now) number h = ap (behind front) (judged_ends (Some now) number) ∙ ap Ok (append-nil front)

same_lines : {one other : List Line} → ◌≡◌ {A = Outcome} (Ok one) (Ok other) → one ≡ other
same_lines h = cc

same_fault : {bad other : ℕ × ScriptWhy} → ◌≡◌ {A = Outcome} (Err bad) (Err other) → bad ≡ other
same_fault h = cc

-- the clauses of the public calls
pub every_script_clause : {K : Type 0} (Keeps : K → List Line → Type 0) (r : Result K ScriptAnswer) (bytes : List ℕ) → Judges Keeps r (judged None 1 (raw_lines bytes))
    → (lines : List Line) → IsScriptOf lines bytes → MatchResult r (λ kept. Keeps kept lines) (λ told. told ≡ answer.Memory)
every_script_clause Keeps (Ok kept) bytes h lines s = subst (Keeps kept) (same_lines (sym h.1 ∙ judged-complete lines bytes s)) h.2
every_script_clause Keeps (Err answer.Memory) bytes h lines s = refl
every_script_clause Keeps (Err (answer.Bad number reason)) bytes h lines s = let e = sym h ∙ judged-complete lines bytes s in cc

pub fault_clause : {K : Type 0} (Keeps : K → List Line → Type 0) (r : Result K ScriptAnswer) (bytes : List ℕ) → Judges Keeps r (judged None 1 (raw_lines bytes))
    → IfErr r (λ told. Tells told bytes)
fault_clause Keeps (Ok kept) bytes h = tt
fault_clause Keeps (Err answer.Memory) bytes h = tt
fault_clause Keeps (Err (answer.Bad number reason)) bytes h = judged-bad bytes number reason h

pub every_fault_clause : {K : Type 0} (Keeps : K → List Line → Type 0) (r : Result K ScriptAnswer) (bytes : List ℕ) → Judges Keeps r (judged None 1 (raw_lines bytes))
    → (number : ℕ) (reason : ScriptWhy) → IsBadAt bytes number reason → IsErrAnd r (λ told. (told ≡ answer.Memory) ⊎ (told ≡ answer.Bad number reason))
every_fault_clause Keeps (Ok kept) bytes h number reason s = let e = sym h.1 ∙ bad-complete bytes number reason s in cc
every_fault_clause Keeps (Err answer.Memory) bytes h number reason s = inl refl
every_fault_clause Keeps (Err (answer.Bad other why)) bytes h number reason s =
    inr (ap (λ (p : ℕ × ScriptWhy). answer.Bad p.0 p.1) (same_fault (sym h ∙ bad-complete bytes number reason s)))

-- what is kept, all lines or their count
abbrev pub KeepsAll : List Line → List Line → Type 0
KeepsAll kept lines = kept ≡ lines

abbrev pub KeepsCount : ℕ → List Line → Type 0
KeepsCount count lines = count ≡ length lines

pub lines_clause : (r : Result (List Line) ScriptAnswer) (bytes : List ℕ) → Judges KeepsAll r (judged None 1 (raw_lines bytes)) → IfOk r (λ lines. IsScriptOf lines bytes)
lines_clause (Ok kept) bytes h = subst (λ lines. IsScriptOf lines bytes) (sym h.2) (judged-script bytes h.0 h.1)
lines_clause (Err told) bytes h = tt

pub count_clause : (r : Result ℕ ScriptAnswer) (bytes : List ℕ) → Judges KeepsCount r (judged None 1 (raw_lines bytes)) → IfOk r (CountsScript bytes)
count_clause (Ok count) bytes h = record { lines = h.0; spelled = judged-script bytes h.0 h.1; count_is = h.2 }
count_clause (Err told) bytes h = tt
