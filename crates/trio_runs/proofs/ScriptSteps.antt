-- The lines of a script for three servers can be played one after another.
use Rattle.std.proofs.Common.{◌≡◌, ℕ, ℤ, ◌+◌, ◌<◌, ◌≤ℤ◌, Bool, true, false, if◌then◌else◌, List, [], ◌∷◌, ◌++◌, length, Option, Some, None, refl, ap, sym, subst, arith}
use Rattle.std.specs.Prelude.{int_lt}
use Rattle.std.specs.List.{AllByRecursion}
use Rattle.std.proofs.lemmas.Int.{ints}
use Rattle.script_lines.specs.declared.line.Line.{Line}
use Rattle.script_lines.specs.declared.line.Line.TheVariants as line
use Rattle.script_lines.specs.declared.answer.ScriptWhy.TheVariants as why
use Rattle.script_language.specs.Scripts.{AreInOrder, IsSkipped, misplaced, raw_lines, time_after}
use Rattle.plain_service.specs.Setups.{Setup}
use Rattle.trio_lines.specs.declared.line.TrioLine.{TrioLine}
use Rattle.trio_lines.specs.declared.line.TrioLine.TheVariants.{Plain, Crash, Arm, Restart, Mirror, Ack}
use Rattle.trio_lines.specs.Lines.{SpellsOwn, SpellsTrio}
use Rattle.trio_lines.specs.Scripts.{AreUnbegun, IsEarly, IsTrioOf, SpellTrios, shared_lines}
use Rattle.trio_lines.specs.Scripts.SpellTrios.{done, skipped, spelled}
use Rattle.trio_lines.proofs.Apart.{skipped-unspelled}
use Rattle.group_begin.specs.Lines.{IsEventLine}
use Rattle.played_runs.specs.Steps.{CanFollow, CanPlay, IsPlayable, time_behind}
use Rattle.spare_server.specs.Game.{trio_game}

-- a time that is not below the one in force
not-below : (now later : ℤ) → (below : Bool) → int_lt later now ≡ below → (if below then Some why.Time else None) ≡ None → now ≤ℤ later
not-below now later true is placed = absurd cc
not-below now later false is placed = omega (arith, ints, is)

-- a line that can stand behind the first can be played
event-line : (now : ℤ) (one : Line) → misplaced (Some now) one ≡ None → IsEventLine now one
event-line now (line.Cluster start queue callbacks alarm ntf sys) placed = absurd cc
event-line now (line.Time later) placed = not-below now later (int_lt later now) refl placed
event-line now _ placed = tt

time-behind : (now : ℤ) (one : Line) → misplaced (Some now) one ≡ None → time_after (Some now) one ≡ Some (time_behind now (Some one))
time-behind now (line.Cluster start queue callbacks alarm ntf sys) placed = absurd cc
time-behind now (line.Time later) placed = refl
time-behind now _ placed = refl

abbrev Follow : ℤ → List TrioLine → Type 0
Follow now lines = (CanFollow trio_game) now lines

-- one line, where those behind it can be played
follow-one : (now : ℤ) (one : TrioLine) (lines : List TrioLine) (raw : List ℕ) → SpellsTrio one raw → AreInOrder (Some now) (shared_lines (one ∷ lines)) → ((later : ℤ) → AreInOrder (Some later) (shared_lines lines) → Follow later lines) → Follow now (one ∷ lines)
follow-one now (Plain next) lines raw spells ordered others =
    let O : Option ℤ → Type 0 = λ time. AreInOrder time (shared_lines lines) in
    ((raw, spells), event-line now next ordered.0, others (time_behind now (Some next)) (subst O (time-behind now next ordered.0) ordered.1))
follow-one now Crash lines raw spells ordered others = ((raw, spells), tt, others now ordered)
follow-one now (Arm k) lines raw spells ordered others = ((raw, spells), tt, others now ordered)
follow-one now Restart lines raw spells ordered others = ((raw, spells), tt, others now ordered)
follow-one now (Mirror one) lines raw spells ordered others = ((raw, spells), tt, others now ordered)
follow-one now (Ack one) lines raw spells ordered others = ((raw, spells), tt, others now ordered)

can-follow : (now : ℤ) {lines : List TrioLine} {raws : List (List ℕ)} → SpellTrios lines raws → AreInOrder (Some now) (shared_lines lines) → Follow now lines
can-follow now done ordered = tt
can-follow now (skipped skips rest) ordered = can-follow now rest ordered
can-follow now (spelled {one = one} {raw = raw} {lines = lines} spells rest) ordered =
    follow-one now one lines raw spells ordered (λ later behind. can-follow later rest behind)

-- The first line that is spelled: those above it are skipped.

record SpelledFirst (raws : List (List ℕ)) (one : TrioLine) (lines : List TrioLine) : Type 0 where
  above : List (List ℕ)
  raw : List ℕ
  below : List (List ℕ)
  parts : raws ≡ above ++ raw ∷ below
  skips : AllByRecursion IsSkipped above
  spells : SpellsTrio one raw
  others : SpellTrios lines below

skipped-above : (skip : List ℕ) (raws : List (List ℕ)) (one : TrioLine) (lines : List TrioLine) → IsSkipped skip → SpelledFirst raws one lines → SpelledFirst (skip ∷ raws) one lines
skipped-above skip raws one lines skips first = record {
  above = skip ∷ first.above;
  raw = first.raw;
  below = first.below;
  parts = ap (λ rest. skip ∷ rest) first.parts;
  skips = (skips, first.skips);
  spells = first.spells;
  others = first.others;
}

spelled-first : {all : List TrioLine} {raws : List (List ℕ)} → SpellTrios all raws → (one : TrioLine) (lines : List TrioLine) → all ≡ one ∷ lines → SpelledFirst raws one lines
spelled-first done one lines is = absurd cc
spelled-first (skipped {raw = skip} {raws = raws} skips rest) one lines is = skipped-above skip raws one lines skips (spelled-first rest one lines is)
spelled-first (spelled {one = first} {raw = raw} {lines = others} {raws = raws} spells rest) one lines is =
    let heads : first ≡ one = cc in
    let tails : others ≡ lines = cc in
    record {
      above = [];
      raw = raw;
      below = raws;
      parts = refl;
      skips = tt;
      spells = subst (λ (each : TrioLine). SpellsTrio each raw) heads spells;
      others = subst (λ (all : List TrioLine). SpellTrios all raws) tails rest;
    }

-- no cluster line stands among them
unbegun : (above : List (List ℕ)) → AllByRecursion IsSkipped above → AreUnbegun above
unbegun [] skips = tt
unbegun (raw ∷ above) skips = ((λ one spells begins. skipped-unspelled raw skips.0 one spells), unbegun above skips.1)

-- so it is no own line
early : (bytes : List ℕ) (one : TrioLine) (lines : List TrioLine) (first : SpelledFirst (raw_lines bytes) one lines) → SpellsOwn one first.raw → IsEarly bytes (1 + length first.above)
early bytes one lines first own = record {
  above = first.above;
  own = first.raw;
  below = first.below;
  line = one;
  parts = first.parts;
  place = refl;
  spelled = own;
  unbegun = unbegun first.above first.skips;
}

-- the opening of a script is its cluster line
can-open : (raws : List (List ℕ)) (opening : Line) (events : List TrioLine) → SpelledFirst raws (Plain opening) events → misplaced None opening ≡ None → AreInOrder (time_after None opening) (shared_lines events) → (CanPlay trio_game) (Plain opening) events
can-open raws (line.Cluster start queue callbacks alarm ntf sys) events first placed ordered = record {
  spelled = (first.raw, first.spells);
  begins = (_, _, (refl, refl));
  follows = λ setup places begins. subst (λ (now : ℤ). Follow now events) (sym (ap (λ (one : Setup). one.start) begins.0)) (can-follow start first.others ordered);
}
can-open raws _ events first placed ordered = absurd cc

open-by : (bytes : List ℕ) (opening : TrioLine) (events : List TrioLine) → IsTrioOf (opening ∷ events) bytes → SpelledFirst (raw_lines bytes) opening events → (CanPlay trio_game) opening events
open-by bytes (Plain opening) events script first = can-open (raw_lines bytes) opening events first script.script.ordered.0 script.script.ordered.1
open-by bytes Crash events script first = absurd (script.begun (1 + length first.above) (early bytes Crash events first first.spells))
open-by bytes (Arm k) events script first = absurd (script.begun (1 + length first.above) (early bytes (Arm k) events first first.spells))
open-by bytes Restart events script first = absurd (script.begun (1 + length first.above) (early bytes Restart events first first.spells))
open-by bytes (Mirror one) events script first = absurd (script.begun (1 + length first.above) (early bytes (Mirror one) events first first.spells))
open-by bytes (Ack one) events script first = absurd (script.begun (1 + length first.above) (early bytes (Ack one) events first first.spells))

-- **a script for three servers can be played**
pub can-play : (lines : List TrioLine) (bytes : List ℕ) → IsTrioOf lines bytes → (IsPlayable trio_game) lines
can-play [] bytes script = let some : 0 < 0 = script.script.begun in absurd (omega arith)
can-play (opening ∷ events) bytes script = open-by bytes opening events script (spelled-first script.spelled opening events refl)
