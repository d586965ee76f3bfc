use Rattle.std.proofs.Common.{◌≡◌, ◌∙◌, List, [], length, sym, ap, subst}
use Rattle.std.proofs.lemmas.Bool.{eqb-true}
use Rattle.std.proofs.lemmas.List.{nil_from_length}
use Rattle.script_language.specs.Scripts.{raw_lines}
use Rattle.trio_lines.specs.declared.line.TrioLine.{TrioLine}
use Rattle.trio_lines.specs.Weaving.{Weaves}
use Rattle.trio_lines.proofs.Weaving.{weaves-none, weaves-all}
use Rattle.trio_lines.proofs.reading.woven.Goals as goal

pub lines-init : goal.lines-init
lines-init c =
    let all = raw_lines c.args.bytes.now in
    let left = c.into_iter-left.result in
    let count = c.into_iter-left.ensures.len ∙ c.into_vec.result.ok.0 ∙ ap length c.into_vec.ensures in
    subst (λ (none : List TrioLine). Weaves c.args.shared all none left all) (sym c.new-lines.ensures)
    (weaves-none c.args.shared all left (c.into_iter-left.ensures.rest ∙ c.into_vec.ensures) count c.requires)

pub returns : goal.returns
returns c =
    let all = raw_lines c.args.bytes.now in
    let empty : c.lines.rest.now ≡ [] = nil_from_length c.lines.rest.now (eqb-true (length c.lines.rest.now) 0 (sym c.is_empty.ensures ∙ c.lines-test.false)) in
    weaves-all c.args.shared all c.lines.lines c.lines.left
    (subst (λ these. Weaves c.args.shared all c.lines.lines c.lines.left (raw_lines these)) empty c.lines.invariant)
