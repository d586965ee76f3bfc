use Rattle.std.proofs.Common.{◌≡◌, ◌+◌, ◌-◌, suc, length, Some, sym, ap, ◌∙◌, arith}
use Rattle.script_grammar.specs.Reading.{listed}
use Rattle.script.proofs.Commas.{left, commas_end, commas_fail, commas_more, fails_on}
use Rattle.script.proofs.lists.listed.Goals as goal

pub returns-in_default : goal.returns-in_default
returns-in_default g c =
    c.loop.invariant ∙ commas_end g.E.Element.at (length c.args.bytes.now - c.loop.counter) c.loop.items.items c.loop.rest.now c.in_default.ensures ∙ ap (λ xs. Some (xs, c.loop.rest.now)) (sym c.from_vec.ensures)

pub returns-in-Err : goal.returns-in-Err
returns-in-Err g c =
    let turn : length c.args.bytes.now - c.loop.counter ≡ suc (length c.args.bytes.now - (c.loop.counter + 1)) = omega arith in
    fails_on c.in-Err.trouble (g.E.Element.at c.in-Some.after.now) (listed g.E.Element.at c.args.bytes.now)
    (λ none. c.loop.invariant ∙ commas_fail g.E.Element.at (length c.args.bytes.now - c.loop.counter) (length c.args.bytes.now - (c.loop.counter + 1)) c.loop.items.items c.loop.rest.now c.in-Some.after.now turn c.in-Some.ensures none)
    c.in-Err.ensures

pub loop-preserved : goal.loop-preserved
loop-preserved g c =
    let turn : length c.args.bytes.now - c.loop.counter ≡ suc (length c.args.bytes.now - (c.loop.counter + 1)) = omega arith in
    c.loop.invariant
    ∙ commas_more g.E.Element.at (length c.args.bytes.now - c.loop.counter) (length c.args.bytes.now - (c.loop.counter + 1)) c.loop.items.items c.loop.rest.now c.in-Some.after.now c.in-Ok.item c.in-Ok.behind.now turn c.in-Some.ensures c.in-Ok.ensures
    ∙ ap (λ f. left g.E.Element.at (length c.args.bytes.now - (c.loop.counter + 1)) f c.in-Ok.behind.now) (sym c.in_ok-push-in-Ok.ensures.items)
