-- The lines of a script can be played one after another.
use Rattle.std.proofs.Common.{◌≡◌, ℕ, ℤ, ◌<◌, List, [], ◌∷◌, Option, Some, None, refl, subst, arith}
use Rattle.script_lines.specs.declared.line.Line.{Line}
use Rattle.script_language.specs.Lines.{Spells}
use Rattle.script_language.specs.Scripts.{SpellAll, AreInOrder, IsScriptOf, misplaced, time_after}
use Rattle.script_language.specs.Scripts.SpellAll.{done, skipped, spelled}
use Rattle.played_runs.specs.Games.{Game}
use Rattle.played_runs.specs.Steps.{CanPlay, IsPlayable, CanFollow, time_behind}
use Rattle.script_runs.specs.Handed.{PlaysScriptLines}

-- the first line that is spelled
pub record SpelledFirst (one : Line) (lines : List Line) : Type 0 where
  pub raw : List ℕ
  pub raws : List (List ℕ)
  pub spells : Spells one raw
  pub others : SpellAll lines raws

spelled-first : {all : List Line} {raws : List (List ℕ)} → SpellAll all raws → (one : Line) (lines : List Line) → all ≡ one ∷ lines → SpelledFirst one lines
spelled-first done one lines is = absurd cc
spelled-first (skipped skips rest) one lines is = spelled-first rest one lines is
spelled-first (spelled {one = first} {raw = raw} {lines = others} {raws = raws} spells rest) one lines is =
    let heads : first ≡ one = cc in
    let tails : others ≡ lines = cc in
    let S : List Line → Type 0 = λ all. SpellAll all raws in
    record { raw = raw; raws = raws; spells = subst (λ (each : Line). Spells each raw) heads spells; others = subst S tails rest }

module _ {P G W : Type 0} (game : Game P Line G W) (plays : PlaysScriptLines game) where
  can-follow : (now : ℤ) {lines : List Line} {raws : List (List ℕ)} → SpellAll lines raws → AreInOrder (Some now) lines → (CanFollow game) now lines
  can-follow now done ordered = tt
  can-follow now (skipped skips rest) ordered = can-follow now rest ordered
  can-follow now (spelled {one = one} {raw = raw} {lines = lines} spells rest) ordered =
      let O : Option ℤ → Type 0 = λ time. AreInOrder time lines in
      let others = subst O (plays.times now one ordered.0) ordered.1 in
      ((raw, plays.spelled one raw spells), plays.follows now one ordered.0, can-follow (time_behind now (game.shared one)) rest others)

  -- the opening of a script is its cluster line
  can-open : (opening : Line) (events : List Line) → SpelledFirst opening events → misplaced None opening ≡ None → AreInOrder (time_after None opening) events → CanPlay game opening events
  can-open opening events first placed ordered = record {
    spelled = (first.raw, plays.spelled opening first.raw first.spells);
    begins = plays.begins opening placed;
    follows = λ setup places begins.
        let O : Option ℤ → Type 0 = λ time. AreInOrder time events in
        can-follow setup.start first.others (subst O (plays.starts opening setup places begins) ordered);
  }

  pub can-play : (lines : List Line) (bytes : List ℕ) → IsScriptOf lines bytes → (IsPlayable game) lines
  can-play [] bytes script = let some : 0 < 0 = script.begun in absurd (omega arith)
  can-play (opening ∷ events) bytes script =
      can-open opening events (spelled-first script.spelled opening events refl) script.ordered.0 script.ordered.1
