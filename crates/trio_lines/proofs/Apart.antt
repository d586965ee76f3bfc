-- Each line is read in one way: skipped lines, own lines of three servers and lines that two servers have are apart.
use Rattle.std.proofs.Common.{◌≡◌, ℕ, false, List, [], ◌∷◌, ◌++◌, Option, Some, None, refl, sym, ap, ◌∙◌, inl, inr}
use Rattle.std.specs.Prelude.{codes, filter_map, is_some}
use Rattle.std.specs.Option.{option_map_or}
use Rattle.script_lines.specs.declared.line.Line.{Line}
use Rattle.script_language.specs.Lines.{Spells}
use Rattle.script_language.specs.Scripts.{IsSkipped}
use Rattle.script_language.specs.ValueReading.{server_at}
use Rattle.script_language.specs.ControlReading.{crash_at, arm_at, restart_at}
use Rattle.script_language.specs.ScriptReading.{line_at}
use Rattle.script_language.proofs.Judging.{spelling_rule}
use Rattle.trio_lines.specs.declared.line.TrioLine.{TrioLine}
use Rattle.trio_lines.specs.declared.line.TrioLine.TheVariants.{Plain}
use Rattle.trio_lines.specs.Lines.{shared_line, IsArmC, IsMirrorAt, IsAckAt, SpellsOwn, SpellsTrio}
use Rattle.trio_lines.specs.LineReading.{own_line_at}
use Rattle.trio_lines.specs.Scripts.{SpellTrios}
use Rattle.trio_lines.specs.Scripts.SpellTrios.{done, skipped, spelled}
use Rattle.trio_lines.proofs.OwnRules.{own_rule}

-- an own line is no line of two servers
pub own-no_line : (line : TrioLine) (raw : List ℕ) → SpellsOwn line raw → line_at raw ≡ None
unfolding SpellsOwn line_at crash_at arm_at restart_at server_at
own-no_line line raw (inl p) = ap line_at (p.1 ∙ ap (λ rest. codes "crash c" ++ rest) p.2.1)
own-no_line line raw (inr (inl p)) = ap line_at p.1
own-no_line line raw (inr (inr (inl p))) = ap line_at (p.1 ∙ ap (λ rest. codes "restart c" ++ rest) p.2.1)
own-no_line line raw (inr (inr (inr (inl p)))) = ap line_at p.1
own-no_line line raw (inr (inr (inr (inr (inl p))))) = ap line_at p.1
own-no_line line raw (inr (inr (inr (inr (inr none))))) = absurd none

-- a skipped line is none of either kind
pub skipped-no_line : (raw : List ℕ) → IsSkipped raw → line_at raw ≡ None
unfolding line_at
skipped-no_line [] h = refl
skipped-no_line (b ∷ raw) h = ap (λ x. line_at (x ∷ raw)) h

pub skipped-no_own : (raw : List ℕ) → IsSkipped raw → own_line_at raw ≡ None
unfolding own_line_at
skipped-no_own [] h = refl
skipped-no_own (b ∷ raw) h = ap (λ x. own_line_at (x ∷ raw)) h

pub skipped-unspelled : (raw : List ℕ) → IsSkipped raw → (one : Line) → Spells one raw → ⊥
skipped-unspelled raw sign one text =
    let found = spelling_rule.complete raw one text in
    let none = skipped-no_line raw sign in
    cc

pub skipped-not_own : (raw : List ℕ) → IsSkipped raw → (line : TrioLine) → SpellsOwn line raw → ⊥
skipped-not_own raw sign line text =
    let found = own_rule.complete raw line text in
    let none = skipped-no_own raw sign in
    cc

pub none_of : (o : Option TrioLine) → is_some o ≡ false → o ≡ None
none_of None h = refl
none_of (Some line) h = cc

-- none is read where none is spelled
pub no_own-read : (raw : List ℕ) → ((line : TrioLine) → SpellsOwn line raw → ⊥) → own_line_at raw ≡ None
no_own-read raw none =
    let at : (o : Option TrioLine) → own_line_at raw ≡ o → o ≡ None = elim [
      | None ↦ λ was. refl
      | Some line ↦ λ was. absurd (none line (own_rule.sound raw line was))
    ] in
    at (own_line_at raw) refl

pub unread-no_own : (raw : List ℕ) → own_line_at raw ≡ None → (line : TrioLine) → SpellsOwn line raw → ⊥
unread-no_own raw none line text = let found = own_rule.complete raw line text in cc

-- what two servers have is no own line
shared-not_own : (line : Line) (raw : List ℕ) → SpellsOwn (Plain line) raw → ⊥
unfolding SpellsOwn IsArmC IsMirrorAt IsAckAt
shared-not_own line raw (inl p) = let e = p.2.0 in cc
shared-not_own line raw (inr (inl p)) = let e = p.2.5.0 in cc
shared-not_own line raw (inr (inr (inl p))) = let e = p.2.0 in cc
shared-not_own line raw (inr (inr (inr (inl p)))) = let e = p.2.5.0 in cc
shared-not_own line raw (inr (inr (inr (inr (inl p))))) = let e = p.2.5.0 in cc
shared-not_own line raw (inr (inr (inr (inr (inr none))))) = absurd none

pub own-unshared : (line : TrioLine) (raw : List ℕ) → SpellsOwn line raw → (shared_line line ≡ None) × SpellsTrio line raw
own-unshared (Plain line) raw h = absurd (shared-not_own line raw h)
own-unshared own raw h = (refl, h)

-- the line that some bytes spell, as they are read
abbrev pub trio_at : List ℕ → Option TrioLine
trio_at raw = option_map_or (λ line. Some (Plain line)) (line_at raw) (own_line_at raw)

pub spelled-read : (one : TrioLine) (raw : List ℕ) → SpellsTrio one raw → trio_at raw ≡ Some one
spelled-read (Plain line) raw h = rw (spelling_rule.complete raw line h) refl
spelled-read own raw h = rw (own-no_line own raw h) (own_rule.complete raw own h)

skipped-read : (raw : List ℕ) → IsSkipped raw → trio_at raw ≡ None
skipped-read raw sign = rw (skipped-no_line raw sign) (skipped-no_own raw sign)

-- the lines that some bytes spell are those that are read
spelled-lines : {lines : List TrioLine} {raws : List (List ℕ)} → SpellTrios lines raws → filter_map trio_at raws ≡ lines
spelled-lines done = refl
spelled-lines (skipped {lines} {raw} {raws} sign more) = rw (skipped-read raw sign) (spelled-lines more)
spelled-lines (spelled {one} {raw} {lines} {raws} text more) = rw (spelled-read one raw text, spelled-lines more) refl

pub same-lines : {one other : List TrioLine} {raws : List (List ℕ)} → SpellTrios one raws → SpellTrios other raws → one ≡ other
same-lines first second = sym (spelled-lines first) ∙ spelled-lines second
