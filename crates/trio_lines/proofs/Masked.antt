-- Lines with `#` in the place of own ones, as a function, and how they are judged.
use Rattle.std.proofs.Common.{◌≡◌, ◌⊎◌, ℕ, suc, ◌+◌, ◌≤◌, false, List, [], ◌∷◌, ◌++◌, length, map, Option, Some, None, Result, Ok, Err, refl, sym, ap, ◌∙◌, ⊎_elim, arith}
use Rattle.std.specs.Prelude.{codes}
use Rattle.std.specs.List.{AllZip}
use Rattle.std.specs.Option.{option_map_or}
use Rattle.script_lines.specs.declared.line.Line.{Line}
use Rattle.script_lines.specs.declared.line.Line.TheVariants as line
use Rattle.script_lines.specs.declared.answer.ScriptWhy.{ScriptWhy}
use Rattle.script_lines.specs.declared.answer.ScriptWhy.TheVariants as why
use Rattle.script_language.specs.Lines.{Spells}
use Rattle.script_language.specs.Scripts.{raw_lines, IsSkipped, SpellAll, misplaced, IsScriptOf, IsBadLine, LacksCluster, IsBadAt}
use Rattle.script_language.specs.Scripts.SpellAll.{skipped}
use Rattle.script_language.specs.ScriptReading.{line_at, is_skipped, judged}
use Rattle.script_language.proofs.Judging.{spelling_rule, judged_skips, judged_formless, judged_misplaced, judged-complete, bad-complete, judged-sound, skipped-true}
use Rattle.trio_lines.specs.declared.line.TrioLine.{TrioLine}
use Rattle.trio_lines.specs.LineReading.{own_line_at}
use Rattle.trio_lines.specs.Scripts.{Masks, AreMasked, IsCluster}
use Rattle.trio_lines.specs.Scripts.Masks.{own, other}
use Rattle.trio_lines.proofs.OwnRules.{own_rule}
use Rattle.trio_lines.proofs.Apart.{skipped-no_own, no_own-read}

pub same_head : {A : Type 0} {x y : A} {xs ys : List A} → x ∷ xs ≡ y ∷ ys → x ≡ y
same_head h = cc

pub same_tail : {A : Type 0} {x y : A} {xs ys : List A} → x ∷ xs ≡ y ∷ ys → xs ≡ ys
same_tail h = cc

abbrev pub mask : List ℕ → List ℕ
mask raw = option_map_or (λ line. codes "#") (own_line_at raw) raw

pub mask-own : (raw : List ℕ) (line : TrioLine) → own_line_at raw ≡ Some line → mask raw ≡ codes "#"
mask-own raw line found = rw found refl

pub mask-other : (raw : List ℕ) → own_line_at raw ≡ None → mask raw ≡ raw
mask-other raw none = rw none refl

pub masks-mask : {raw masked : List ℕ} → Masks raw masked → masked ≡ mask raw
masks-mask (own {raw} line text) = sym (mask-own raw line (own_rule.complete raw line text))
masks-mask (other {raw} none) = sym (mask-other raw (no_own-read raw none))

pub all-masked : (raws masked : List (List ℕ)) → AllZip Masks raws masked → masked ≡ map mask raws
all-masked [] [] h = refl
all-masked [] (x ∷ masked) h = absurd h
all-masked (raw ∷ raws) [] h = absurd h
all-masked (raw ∷ raws) (x ∷ masked) h =
    ap (λ y. y ∷ masked) (masks-mask h.0) ∙ ap (λ ys. mask raw ∷ ys) (all-masked raws masked h.1)

abbrev pub Outcome : Type 0
Outcome = Result (List Line) (ℕ × ScriptWhy)

pub same_bad : (number second : ℕ) (reason why : ScriptWhy) → ◌≡◌ {A = Outcome} (Err (number, reason)) (Err (second, why)) → (number ≡ second) × (reason ≡ why)
same_bad number second reason why h =
    let pair : ◌≡◌ {A = ℕ × ScriptWhy} (number, reason) (second, why) = cc in
    (ap (λ (p : ℕ × ScriptWhy). p.0) pair, ap (λ (p : ℕ × ScriptWhy). p.1) pair)

pub good_bad : (lines : List Line) (number : ℕ) (reason : ScriptWhy) → ◌≡◌ {A = Outcome} (Ok lines) (Err (number, reason)) → ⊥
good_bad lines number reason h = cc

-- how the bytes are judged with `#` in the place of own lines
abbrev pub judged_masked : List ℕ → Outcome
judged_masked bytes = judged None 1 (map mask (raw_lines bytes))

pub masked-judged : (bytes masked : List ℕ) → AreMasked bytes masked → judged None 1 (raw_lines masked) ≡ judged_masked bytes
masked-judged bytes masked masks = ap (λ raws. judged None 1 raws) (all-masked (raw_lines bytes) (raw_lines masked) masks)

pub script-judged : (bytes masked : List ℕ) (lines : List Line) → AreMasked bytes masked → IsScriptOf lines masked → judged_masked bytes ≡ Ok lines
script-judged bytes masked lines masks script = sym (masked-judged bytes masked masks) ∙ judged-complete lines masked script

pub bad-judged : (bytes masked : List ℕ) (number : ℕ) (reason : ScriptWhy) → AreMasked bytes masked → IsBadAt masked number reason → judged_masked bytes ≡ Err (number, reason)
bad-judged bytes masked number reason masks bad = sym (masked-judged bytes masked masks) ∙ bad-complete masked number reason bad

-- the line that is told is not before the first one
pub bad-place : (raws : List (List ℕ)) (first number : ℕ) (reason : ScriptWhy) → judged None first raws ≡ Err (number, reason) → first ≤ number
bad-place raws first number reason h =
    let told : IsBadLine None first raws number reason ⊎ LacksCluster None first raws number reason = rw h at (judged-sound raws None first) in
    ⊎_elim
    (λ (bad : IsBadLine None first raws number reason). omega (arith, bad.place))
    (λ (lacks : LacksCluster None first raws number reason). omega (arith, lacks.place))
    told

-- skipped lines alone
pub skipped-parts : {raw : List ℕ} {raws : List (List ℕ)} → SpellAll [] (raw ∷ raws) → IsSkipped raw × SpellAll [] raws
skipped-parts (skipped sign more) = (sign, more)

-- skipped lines are gone past
pub judged-past : (front rest : List (List ℕ)) (first : ℕ) → SpellAll [] front → judged None first (map mask (front ++ rest)) ≡ judged None (first + length front) (map mask rest)
judged-past [] rest first h = let same : first ≡ first + 0 = omega arith in ap (λ n. judged None n (map mask rest)) same
judged-past (raw ∷ front) rest first h =
    let parts = skipped-parts h in
    let same = mask-other raw (skipped-no_own raw parts.0) in
    let count : first + 1 + length front ≡ first + suc (length front) = omega arith in
    ap (λ x. judged None first (x ∷ map mask (front ++ rest))) same
    ∙ judged_skips None first raw (map mask (front ++ rest)) (skipped-true raw parts.0)
    ∙ judged-past front rest (first + 1) parts.1
    ∙ ap (λ n. judged None n (map mask rest)) count

-- an own line is gone past
pub judged-past_own : (raw : List ℕ) (line : TrioLine) (rest : List (List ℕ)) (first : ℕ) → own_line_at raw ≡ Some line
    → judged None first (map mask (raw ∷ rest)) ≡ judged None (first + 1) (map mask rest)
judged-past_own raw line rest first found =
    ap (λ x. judged None first (x ∷ map mask rest)) (mask-own raw line found) ∙ judged_skips None first (codes "#") (map mask rest) refl

-- no other line than a cluster line is the first
not_first : (one : Line) → (IsCluster one → ⊥) → misplaced None one ≡ Some why.Cluster
not_first (line.Cluster start queue callbacks alarm ntf sys) none = absurd (none tt)
not_first _ none = refl

-- a line that is shown and no cluster line is bad where none was before it
pub judged-first : (raw : List ℕ) (rest : List (List ℕ)) (first : ℕ) → is_skipped raw ≡ false → own_line_at raw ≡ None
    → ((one : Line) → Spells one raw → IsCluster one → ⊥) → (reason : ScriptWhy) × (judged None first (map mask (raw ∷ rest)) ≡ Err (first, reason))
judged-first raw rest first shown none unbegun =
    let same = ap (λ x. judged None first (x ∷ map mask rest)) (mask-other raw none) in
    let at : (o : Option Line) → line_at raw ≡ o → (reason : ScriptWhy) × (judged None first (map mask (raw ∷ rest)) ≡ Err (first, reason)) = elim [
      | None ↦ λ formless. (why.Grammar, same ∙ judged_formless None first raw (map mask rest) shown formless)
      | Some one ↦ λ found.
          let wrong = not_first one (unbegun one (spelling_rule.sound raw one found)) in
          (why.Cluster, same ∙ judged_misplaced None first raw (map mask rest) one why.Cluster shown found wrong)
    ] in
    at (line_at raw) refl
