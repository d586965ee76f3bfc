use Rattle.std.proofs.Common.{◌≡◌, true, false, refl, sym, ◌∙◌, arith}
use Rattle.std.proofs.lemmas.Bool.{not-true, not-false}
use Rattle.std.proofs.lemmas.List.Elements.{All-from_get_or}
use Rattle.wire_code.specs.Spelling.{IsByte, IsBytes}
use Rattle.cluster_clients.proofs.DispatchSteps.{on-err}
use Rattle.cluster_clients.proofs.PostingSteps.{injects-some, injects-known, injects-new}
use Rattle.cluster_clients.proofs.posting.inject_raw.Goals as goal

pub returns-in_err-put_raw-clause-err : goal.returns-in_err-put_raw-clause-err
returns-in_err-put_raw-clause-err c =
    let all : IsBytes c.args.bytes.now = All-from_get_or IsByte c.args.bytes.now 0 (λ i _. omega (arith, c.type_inv.bytes i)) in
    on-err c.from_residual-in_err-put_raw.result (injects-some c.args.bytes.now c.args.net.now c.post.new.self all c.requires c.in_ok-posted.ensures.net)

pub returns-then-not-posted-clause-ok : goal.returns-then-not-posted-clause-ok
returns-then-not-posted-clause-ok c =
    let all : IsBytes c.args.bytes.now = All-from_get_or IsByte c.args.bytes.now 0 (λ i _. omega (arith, c.type_inv.bytes i)) in
    let same : c.in_ok-posted.posted.new ≡ false = not-true c.in_ok-posted.posted.new c.if-not-posted.true in
    injects-known c.args.bytes.now c.args.net.now c.post.new.self c.args.lines.now.items c.args.lines.now.items all c.in_ok-posted.ensures.net (sym same ∙ c.in_ok-posted.ensures.first) refl

pub returns-clause-ok : goal.returns-clause-ok
returns-clause-ok c =
    let all : IsBytes c.args.bytes.now = All-from_get_or IsByte c.args.bytes.now 0 (λ i _. omega (arith, c.type_inv.bytes i)) in
    let same : c.in_ok-posted.posted.new ≡ true = not-false c.in_ok-posted.posted.new c.if-not-posted.false in
    injects-new c.args.bytes.now c.args.net.now c.post.new.self c.args.lines.now.items c.put_raw.new.lines.items c.in_ok-posted.posted.place all c.in_ok-posted.ensures.net c.in_ok-posted.ensures.place (sym same ∙ c.in_ok-posted.ensures.first) c.in_ok-put_raw.ensures.ok
