use Rattle.std.proofs.Common.{◌∙◌, ap, ◌++◌, drop}
use Rattle.event_text.specs.Texts.{lines_behind, shown_lines}
use Rattle.ais_values.proofs.Basics.{OnErr-from}
use Rattle.event_text.proofs.Chain.{part-added}
use Rattle.event_text.proofs.shown.put_shown.Goals as goal

pub returns-in_err-put_byte-clause-err : goal.returns-in_err-put_byte-clause-err
returns-in_err-put_byte-clause-err c =
    let rest = shown_lines (lines_behind c.loop-byte.front.items (drop c.loop-byte.byte-index c.args.bytes.now)) in
    OnErr-from c.from_residual.result (part-added c.args.lines.now.items _ c.put_byte.new.lines.items c.loop-byte.invariant.front.0 rest
    (c.in_err-put_byte.ensures.err ∙ c.loop-byte.invariant.front.1)
    (ap (λ x. x ++ rest) c.in_err-put_byte.ensures.err ∙ c.loop-byte.invariant.whole))

pub returns-in_err-put_text-clause-err : goal.returns-in_err-put_text-clause-err
returns-in_err-put_text-clause-err c =
    let rest = shown_lines (lines_behind c.loop-byte.front.items (drop c.loop-byte.byte-index c.args.bytes.now)) in
    OnErr-from c.from_residual-in_err-put_text.result (part-added c.args.lines.now.items _ c.put_text.new.lines.items c.loop-byte.invariant.front.0 rest
    (c.in_err-put_text.ensures.err ∙ c.loop-byte.invariant.front.1)
    (ap (λ x. x ++ rest) c.in_err-put_text.ensures.err ∙ c.loop-byte.invariant.whole))
