-- Ends of parts of the commands `check` and `expr`.
use Rattle.std.proofs.Common.{ℕ, List, Some, Result, Ok, Err, refl, sym, subst}
use Rattle.std.specs.Prelude.{IfOk}
use Rattle.played_runs.specs.declared.ending.End.{End}
use Rattle.played_runs.specs.declared.ending.Status8.{Status8}
use Rattle.played_runs.specs.Counts.{HasStood}
use Rattle.played_runs.specs.Edges.{Edge, fault_count}
use Rattle.played_runs.specs.Writing.{Reaching, Counting, unasked}
use Rattle.played_runs.proofs.CountSteps.{on-same}
use Rattle.script_inputs.specs.Inputs.{ReadsWhole}
use Rattle.text_commands.specs.Checking.{CheckEnds, Judged, IsScript, IsNoScript}

-- a script that was judged
pub judged-check : {S : Type 0} (source : Edge S (List ℕ)) (bytes : List ℕ) → ReadsWhole source bytes → HasStood (fault_count source) → (status : Status8) (text : List ℕ) → Judged bytes status text → Counting (fault_count source) unasked (CheckEnds source) (Some status) text
judged-check source bytes read stood status text (IsScript is passes) =
    let C : Status8 → Type 0 = λ one. Counting (fault_count source) unasked (CheckEnds source) (Some one) text in
    subst C (sym is) ((bytes, read, passes), (stood, on-same 0))
judged-check source bytes read stood status text (IsNoScript is fails) =
    let C : Status8 → Type 0 = λ one. Counting (fault_count source) unasked (CheckEnds source) (Some one) text in
    subst C (sym is) ((bytes, read, fails), (stood, refl))

-- the end of a part
pub ok-ends : {X : Type 0} (end : Result End X) (P : Status8 → List ℕ → Type 0) (E : Reaching) → ((status : Status8) (text : List ℕ) → P status text → E (Some status) text) → IfOk end (λ one. P one.status one.text.items) → IfOk end (λ one. E (Some one.status) one.text.items)
ok-ends (Ok one) P E ends part = ends one.status one.text.items part
ok-ends (Err e) P E ends part = tt
