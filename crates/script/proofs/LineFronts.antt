-- From the line at the front of some bytes to the line that they spell.
use Rattle.std.proofs.Common.{◌≡◌, ℕ, suc, Bool, true, false, ◌==◌, List, [], ◌∷◌, Some, None, refl, ap, ◌∙◌, length, arith}
use Rattle.std.proofs.lemmas.Bool.Decides.{nat_tests}
use Rattle.std.specs.Prelude.{option_and_then}
use Rattle.script_lines.specs.declared.line.Line.{Line}
use Rattle.script_grammar.specs.Reading.{alone, whole}
use Rattle.script_language.specs.ScriptReading.{line_at}
use Rattle.script.specs.LineFront.{front_at}
use Rattle.script.specs.declared.trouble.Trouble.{Trouble}
use Rattle.script.specs.declared.trouble.Trouble.TheVariants.{Memory, Bad}
use Rattle.script.specs.Gives.{Fails}

by_front : (raw : List ℕ) → line_at raw ≡ whole front_at raw
unfolding line_at front_at
by_front raw = refl

apart : (n : ℕ) → (suc n == 0) ≡ false
apart n = grind (arith, nat_tests)

-- nothing follows the line
pub whole_line : (raw rest : List ℕ) (line : Line) (empty : Bool) → front_at raw ≡ Some (line, rest) → empty ≡ (length rest == 0) → empty ≡ true → line_at raw ≡ Some line
whole_line raw [] line empty found is test = by_front raw ∙ ap (option_and_then (λ f. alone f.0 f.1)) found
whole_line raw (byte ∷ rest) line empty found is test = absurd (cc (apart (length rest)))

-- bytes follow it
pub more_behind : (raw rest : List ℕ) (line : Line) (empty : Bool) → front_at raw ≡ Some (line, rest) → empty ≡ (length rest == 0) → empty ≡ false → line_at raw ≡ None
more_behind raw [] line empty found is test = absurd (cc)
more_behind raw (byte ∷ rest) line empty found is test = by_front raw ∙ ap (option_and_then (λ f. alone f.0 f.1)) found

-- there is none
pub no_line : (raw : List ℕ) (trouble : Trouble) → Fails trouble (front_at raw) → Fails trouble (line_at raw)
no_line raw Memory h = tt
no_line raw Bad h = by_front raw ∙ ap (option_and_then (λ f. alone f.0 f.1)) h
