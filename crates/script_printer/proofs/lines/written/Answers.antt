use Rattle.std.proofs.Common.{◌+◌, ◌++◌, ◌∙◌, [], ◌∷◌, take, sym, ap}
use Rattle.std.proofs.lemmas.List.{take_more}
use Rattle.script_language.specs.Printing.{line_text}
use Rattle.script_printer.proofs.Chain.{chained, flat_step}
use Rattle.script_printer.proofs.lines.written.Goals as goal

pub loop-line-preserved : goal.loop-line-preserved
loop-line-preserved c =
    let lines = c.args.lines.now in
    let i = c.loop-line.line-index in
    flat_step (λ line. line_text line ++ 10 ∷ []) (take i lines) (take (i + 1) lines) c.line-item.result [] c.loop-line.out.items c.put.new.out.items
    (take_more lines i c.line-item.result c.loop-line-test.true ∙ ap (λ x. take i lines ++ x ∷ []) (sym c.line-item.is))
    c.loop-line.invariant
    (chained c.loop-line.out.items c.put_script_line.new.out.items c.put.new.out.items _ _ c.in_ok-put_script_line.ensures c.in_ok-put.ensures)
