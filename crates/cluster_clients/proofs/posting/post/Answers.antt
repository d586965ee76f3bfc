use Rattle.std.proofs.Common.{◌≡◌, true, false, not, refl, sym, ◌∙◌}
use Rattle.std.proofs.lemmas.Bool.{not-true, not-false}
use Rattle.message_net.specs.Nets as bytes
use Rattle.cluster_clients.proofs.DispatchSteps.{on-err}
use Rattle.cluster_clients.proofs.PostingSteps.{posts-some, posts-known, posts-new}
use Rattle.cluster_clients.proofs.posting.post.Goals as goal

pub returns-in_err-put_post-clause-err : goal.returns-in_err-put_post-clause-err
returns-in_err-put_post-clause-err c =
    let string = c.in_ok-bytes.bytes.items in
    on-err c.from_residual-in_err-put_post.result (posts-some c.law_of_spellings.ensures c.args.message.now string c.args.net.now c.post_owned.new.self c.in_ok-bytes.ensures c.in_ok-posted.ensures.net)

pub returns-then-not-posted-clause-ok : goal.returns-then-not-posted-clause-ok
returns-then-not-posted-clause-ok c =
    let string = c.in_ok-bytes.bytes.items in
    let old = c.args.net.now in
    let same : c.in_ok-posted.posted.new ≡ false = not-true c.in_ok-posted.posted.new c.if-not-posted.true in
    let first : false ≡ not (bytes.knows string old) = sym same ∙ c.in_ok-posted.ensures.first in
    posts-known c.law_of_spellings.ensures c.args.message.now string old c.post_owned.new.self c.args.lines.now.items c.args.lines.now.items c.in_ok-bytes.ensures c.in_ok-posted.ensures.net first refl

pub returns-clause-ok : goal.returns-clause-ok
returns-clause-ok c =
    let string = c.in_ok-bytes.bytes.items in
    let old = c.args.net.now in
    let same : c.in_ok-posted.posted.new ≡ true = not-false c.in_ok-posted.posted.new c.if-not-posted.false in
    let first : true ≡ not (bytes.knows string old) = sym same ∙ c.in_ok-posted.ensures.first in
    posts-new c.law_of_spellings.ensures c.args.message.now string old c.post_owned.new.self c.args.lines.now.items c.put_post.new.lines.items c.in_ok-posted.posted.place c.in_ok-bytes.ensures c.in_ok-posted.ensures.net c.in_ok-posted.ensures.place first c.in_ok-put_post.ensures.ok
