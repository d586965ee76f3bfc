-- The test of names, where a name was refused.
use Rattle.std.proofs.Common.{◌≡◌, ℕ, true, false, Bool, List, Result, Ok, Err, refl}
use Rattle.ais_values.specs.Names.{IsName}
use Rattle.script_language.specs.ValueReading.{is_name}
use Rattle.script_language.proofs.ValueRules.{decides_name}

pub a_name : (bytes : List ℕ) → IsName bytes → is_name bytes ≡ true
a_name bytes h = (decides_name bytes).1 h

pub kept : (bytes : List ℕ) → (¬ IsName bytes → ⊥) → is_name bytes ≡ true
kept bytes h =
    let at : (t : Bool) → is_name bytes ≡ t → t ≡ true = elim [
      | true ↦ λ test. refl
      | false ↦ λ test. absurd (h (λ name. (let yes = a_name bytes name in cc)))
    ] in
    at (is_name bytes) refl

-- a value is no error
pub never_err : {X E : Type 0} (x : X) (e : E) → ◌≡◌ {A = Result X E} (Ok x) (Err e) → ⊥
never_err x e h = cc
