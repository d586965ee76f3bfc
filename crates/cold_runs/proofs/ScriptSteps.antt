-- The lines of a script can be played one after another.
use Rattle.std.proofs.Common.{◌≡◌, ℕ, ℤ, ◌<◌, ◌≤ℤ◌, Bool, true, false, if◌then◌else◌, List, [], ◌∷◌, Option, Some, None, refl, ap, sym, subst, arith}
use Rattle.std.specs.Prelude.{int_lt}
use Rattle.std.proofs.lemmas.Int.{ints}
use Rattle.script_lines.specs.declared.line.Line.{Line}
use Rattle.script_lines.specs.declared.line.Line.TheVariants as line
use Rattle.script_lines.specs.declared.answer.ScriptWhy.TheVariants as why
use Rattle.script_language.specs.Lines.{Spells}
use Rattle.script_language.specs.Scripts.{SpellAll, AreInOrder, IsScriptOf, misplaced, time_after}
use Rattle.script_language.specs.Scripts.SpellAll.{done, skipped, spelled}
use Rattle.plain_service.specs.Setups.{Setup}
use Rattle.cluster_lines.specs.Lines.{CanPlay}
use Rattle.cold_servers.specs.ColdKit.{cold_script}
use Rattle.played_runs.specs.Steps.{time_behind}
use Rattle.cold_runs.specs.Steps.{CanFollowCold, CanOpenCold, IsPlayableCold}

-- a time that is not below the one in force
not-below : (now later : ℤ) → (below : Bool) → int_lt later now ≡ below → (if below then Some why.Time else None) ≡ None → now ≤ℤ later
not-below now later true is placed = absurd cc
not-below now later false is placed = omega (arith, ints, is)

-- a line that can stand behind the first can be played
event-line : (now : ℤ) (one : Line) → misplaced (Some now) one ≡ None → CanPlay cold_script now one
event-line now (line.Cluster start queue callbacks alarm ntf sys) placed = absurd cc
event-line now (line.Time later) placed = not-below now later (int_lt later now) refl placed
event-line now (line.Crash server) placed = tt
event-line now (line.Arm server count) placed = tt
event-line now line.Disarm placed = tt
event-line now (line.Restart server) placed = tt
event-line now _ placed = tt

time-behind : (now : ℤ) (one : Line) → misplaced (Some now) one ≡ None → time_after (Some now) one ≡ Some (time_behind now (Some one))
time-behind now (line.Cluster start queue callbacks alarm ntf sys) placed = absurd cc
time-behind now (line.Time later) placed = refl
time-behind now _ placed = refl

pub can-follow : (now : ℤ) {lines : List Line} {raws : List (List ℕ)} → SpellAll lines raws → AreInOrder (Some now) lines → CanFollowCold now lines
can-follow now done ordered = tt
can-follow now (skipped skips rest) ordered = can-follow now rest ordered
can-follow now (spelled {one = one} {raw = raw} {lines = lines} spells rest) ordered =
    let O : Option ℤ → Type 0 = λ time. AreInOrder time lines in
    let others = subst O (time-behind now one ordered.0) ordered.1 in
    ((raw, spells), event-line now one ordered.0, can-follow (time_behind now (Some one)) rest others)

-- the first line that is spelled
pub record SpelledFirst (one : Line) (lines : List Line) : Type 0 where
  pub raw : List ℕ
  pub raws : List (List ℕ)
  pub spells : Spells one raw
  pub others : SpellAll lines raws

spelled-first : {all : List Line} {raws : List (List ℕ)} → SpellAll all raws → (one : Line) (lines : List Line) → all ≡ one ∷ lines → SpelledFirst one lines
spelled-first done one lines is = absurd cc
spelled-first (skipped skips rest) one lines is = spelled-first rest one lines is
spelled-first (spelled {one = first} {raw = raw} {lines = others} {raws = raws} spells rest) one lines is =
    let heads : first ≡ one = cc in
    let tails : others ≡ lines = cc in
    let S : List Line → Type 0 = λ all. SpellAll all raws in
    record { raw = raw; raws = raws; spells = subst (λ (each : Line). Spells each raw) heads spells; others = subst S tails rest }

-- the opening of a script is its cluster line
can-open : (opening : Line) (events : List Line) → SpelledFirst opening events → misplaced None opening ≡ None → AreInOrder (time_after None opening) events → CanOpenCold opening events
can-open (line.Cluster start queue callbacks alarm ntf sys) events first placed ordered = record {
  spelled = (first.raw, first.spells);
  begins = (_, _, (refl, refl));
  follows = λ setup places begins. subst (λ (now : ℤ). CanFollowCold now events) (sym (ap (λ (one : Setup). one.start) begins.0)) (can-follow start first.others ordered);
}
can-open _ events first placed ordered = absurd cc

pub can-play : (lines : List Line) (bytes : List ℕ) → IsScriptOf lines bytes → IsPlayableCold lines
can-play [] bytes script = let some : 0 < 0 = script.begun in absurd (omega arith)
can-play (opening ∷ events) bytes script =
    can-open opening events (spelled-first script.spelled opening events refl) script.ordered.0 script.ordered.1
