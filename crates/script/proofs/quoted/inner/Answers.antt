use Rattle.std.proofs.Common.{◌≡◌, ◌+◌, ◌-◌, suc, length, sym, ap, ◌∙◌, arith}
use Rattle.script_grammar.proofs.Inner.{inner_ends, inner_fails, inner_more, left}
use Rattle.script.proofs.quoted.inner.Goals as goal

pub returns-in-Some : goal.returns-in-Some
returns-in-Some c =
    let turn : length c.args.bytes.now - c.loop.counter ≡ suc (length c.args.bytes.now - (c.loop.counter + 1)) = omega arith in
    c.loop.invariant ∙ inner_ends (length c.args.bytes.now - c.loop.counter) (length c.args.bytes.now - (c.loop.counter + 1)) c.loop.content.items c.loop.rest.now c.in-Some.after.now turn c.in-Some.ensures

pub returns-in_default-part : goal.returns-in_default-part
returns-in_default-part c =
    let turn : length c.args.bytes.now - c.loop.counter ≡ suc (length c.args.bytes.now - (c.loop.counter + 1)) = omega arith in
    c.loop.invariant ∙ inner_fails (length c.args.bytes.now - c.loop.counter) (length c.args.bytes.now - (c.loop.counter + 1)) c.loop.content.items c.loop.rest.now turn c.in_default.ensures c.in_default-part.ensures

pub loop-preserved : goal.loop-preserved
loop-preserved c =
    let turn : length c.args.bytes.now - c.loop.counter ≡ suc (length c.args.bytes.now - (c.loop.counter + 1)) = omega arith in
    let step = inner_more (length c.args.bytes.now - c.loop.counter) (length c.args.bytes.now - (c.loop.counter + 1)) c.loop.content.items c.loop.rest.now c.in-Some-part.byte c.in-Some-part.after.now turn c.in_default.ensures c.in-Some-part.ensures in
    c.loop.invariant ∙ step ∙ ap (λ f. left (length c.args.bytes.now - (c.loop.counter + 1)) f c.in-Some-part.after.now) (sym c.in_ok-push.ensures.items)
