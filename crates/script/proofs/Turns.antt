-- What reading one line says of the lines behind it.
use Rattle.std.proofs.Common.{◌≡◌, ℕ, ◌+◌, List, [], ◌∷◌, ◌++◌, Option, Some, None, Ok, ap, subst, ◌∙◌, arith}
use Rattle.std.specs.Prelude.{ℤ}
use Rattle.std.proofs.lemmas.List.{length-append}
use Rattle.script_lines.specs.declared.line.Line.{Line}
use Rattle.script_lines.specs.declared.answer.ScriptAnswer.{ScriptAnswer}
use Rattle.script_lines.specs.declared.answer.ScriptAnswer.TheVariants.{Memory, Bad}
use Rattle.script_language.specs.ScriptReading.{behind, judged}
use Rattle.script_language.proofs.Judging.{behind-behind}
use Rattle.script.specs.declared.reader.Reader.{Reader}
use Rattle.script.specs.Judged.{Outcome, TurnsTo, Refuses, LeadsTo}

-- the line was skipped
pub turn_none : (now : Option ℤ) (number : ℕ) (raw : List ℕ) (found : Option (Line × Option ℤ)) → found ≡ None → TurnsTo now number raw (Ok found)
    → (raws : List (List ℕ)) → judged now number (raw ∷ raws) ≡ judged now (number + 1) raws
turn_none now number raw found is h = subst (λ f. TurnsTo now number raw (Ok f)) is h

-- the line was read
pub turn_some : (now : Option ℤ) (number : ℕ) (raw : List ℕ) (found : Option (Line × Option ℤ)) (line : Line) (later : Option ℤ) → found ≡ Some (line, later) → TurnsTo now number raw (Ok found)
    → (raws : List (List ℕ)) → judged now number (raw ∷ raws) ≡ behind (line ∷ []) (judged later (number + 1) raws)
turn_some now number raw found line later is h = subst (λ f. TurnsTo now number raw (Ok f)) is h

-- a refusal is that of the whole
pub leads_refused : {K : Type 0} (Keeps : K → List Line → Type 0) (reader : Reader K) (told : ScriptAnswer) (raws : List (List ℕ)) (outcome : Outcome)
    → Refuses told (judged reader.time reader.number raws) → LeadsTo Keeps reader raws outcome → Refuses told outcome
leads_refused Keeps reader Memory raws outcome refused h = tt
leads_refused Keeps reader (Bad number reason) raws outcome refused h = h.same ∙ ap (behind h.lines) refused

-- behind a skipped line
pub leads_past : {K : Type 0} (Keeps : K → List Line → Type 0) (reader : Reader K) (raw : List ℕ) (raws : List (List ℕ)) (outcome : Outcome)
    → judged reader.time reader.number (raw ∷ raws) ≡ judged reader.time (reader.number + 1) raws
    → LeadsTo Keeps reader (raw ∷ raws) outcome → LeadsTo Keeps (record { kept = reader.kept; time = reader.time; number = reader.number + 1 }) raws outcome
leads_past Keeps reader raw raws outcome turn h =
    record { lines = h.lines; keeps = h.keeps; few = omega (arith, h.few); same = h.same ∙ ap (behind h.lines) turn }

-- behind a line that was kept
pub leads_on : {K : Type 0} (Keeps : K → List Line → Type 0) (reader : Reader K) (kept : K) (later : Option ℤ) (line : Line) (raw : List ℕ) (raws : List (List ℕ)) (outcome : Outcome)
    → judged reader.time reader.number (raw ∷ raws) ≡ behind (line ∷ []) (judged later (reader.number + 1) raws)
    → ((lines : List Line) → Keeps reader.kept lines → Keeps kept (lines ++ line ∷ []))
    → LeadsTo Keeps reader (raw ∷ raws) outcome → LeadsTo Keeps (record { kept = kept; time = later; number = reader.number + 1 }) raws outcome
leads_on Keeps reader kept later line raw raws outcome turn keep h = record {
  lines = h.lines ++ line ∷ [];
  keeps = keep h.lines h.keeps;
  few = omega (arith, h.few, length-append h.lines (line ∷ []));
  same = h.same ∙ ap (behind h.lines) turn ∙ behind-behind h.lines (line ∷ []) (judged later (reader.number + 1) raws);
}
