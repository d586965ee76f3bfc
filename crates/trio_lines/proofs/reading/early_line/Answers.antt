use Rattle.std.proofs.Common.{◌≡◌, ◌∙◌, [], sym, subst, arith, length}
use Rattle.std.proofs.lemmas.Bool.{eqb-true}
use Rattle.std.proofs.lemmas.List.{nil_from_length}
use Rattle.ais_values.proofs.Basics.{some_of}
use Rattle.script_language.specs.Scripts.{raw_lines}
use Rattle.trio_lines.specs.LineReading.{own_line_at}
use Rattle.trio_lines.specs.Weaving.{BeginsOwn}
use Rattle.trio_lines.proofs.Apart.{none_of}
use Rattle.trio_lines.proofs.Begins.{begins-here, begins-not, begins-later, begins-behind, begins-none}
use Rattle.trio_lines.proofs.reading.early_line.Goals as goal

pub returns-then-is_own : goal.returns-then-is_own
returns-then-is_own c =
    let number = c.lines.number in
    let raw = c.first_line.result.0.now in
    let found = some_of (own_line_at raw) (sym c.is_own.ensures ∙ c.if-is_own.true) in
    let here = begins-here number raw (raw_lines c.first_line.result.1.now) found.0 found.1 in
    c.lines.invariant.there number (subst (λ raws. BeginsOwn number raws number) (sym c.first_line.ensures.lines) here)

pub returns-then-not-skips : goal.returns-then-not-skips
returns-then-not-skips c k b =
    let raw = c.first_line.result.0.now in
    let none = none_of (own_line_at raw) (sym c.is_own.ensures ∙ c.if-is_own.false) in
    begins-not c.lines.number k raw (raw_lines c.first_line.result.1.now) none (sym c.skips.ensures ∙ c.if-not-skips.true)
    (subst (λ raws. BeginsOwn c.lines.number raws k) c.first_line.ensures.lines (c.lines.invariant.back k b))

pub lines-preserved : goal.lines-preserved
lines-preserved c =
    let number = c.lines.number in
    let raw = c.first_line.result.0.now in
    let raws = raw_lines c.first_line.result.1.now in
    let sign = sym c.skips.ensures ∙ c.if-not-skips.false in
    record {
      place = omega (arith, c.lines.invariant.place, c.first_line.ensures.shorter);
      there = λ k b. c.lines.invariant.there k (subst (λ these. BeginsOwn number these k) (sym c.first_line.ensures.lines) (begins-later number k raw raws sign b));
      back = λ k b. begins-behind number k raw raws sign (subst (λ these. BeginsOwn number these k) c.first_line.ensures.lines (c.lines.invariant.back k b));
    }

pub returns : goal.returns
returns c k b =
    let empty : c.lines.rest.now ≡ [] = nil_from_length c.lines.rest.now (eqb-true (length c.lines.rest.now) 0 (sym c.is_empty.ensures ∙ c.lines-test.false)) in
    begins-none c.lines.number k (subst (λ these. BeginsOwn c.lines.number (raw_lines these) k) empty (c.lines.invariant.back k b))
