use Rattle.std.proofs.Common.{ap, sym, subst, ◌∙◌}
use Rattle.message_net.specs.Nets.{newest_with}
use Rattle.cluster_clients.specs.Replies.{IsReplyIn}
use Rattle.cluster_clients.proofs.ReplySteps.{first-there, finds-here}
use Rattle.cluster_clients.proofs.FrontSteps.{IsOpen, Searches, searches-newest, searches-on, falls}
use Rattle.cluster_clients.proofs.replies.first_with.Goals as goal

pub loop-next-init : goal.loop-next-init
loop-next-init c =
    let net = c.args.net.now in
    searches-newest c.args.front.now net c.newest_with-next.result c.requires (c.newest_with-next.ensures ∙ ap (λ front. newest_with front net) c.front_of.ensures)

pub returns-in-Ok-Some : goal.returns-in-Ok-Some
returns-in-Ok-Some c =
    let front = c.args.front.now in
    let net = c.args.net.now in
    let bytes = c.in-Some-at.bytes.now in
    let here : IsOpen front net c.in-Some.place = subst (Searches front net) c.in-Some.is c.loop-next.invariant in
    let is = subst (IsReplyIn front bytes) c.in-Ok-Some.field-0-is c.in-Ok-Some.ensures in
    finds-here front c.in-Some.place net bytes c.in-Ok-Some.message here.some (sym c.in-Some-at.ensures) is here.below

pub returns-in-None : goal.returns-in-None
returns-in-None c =
    let front = c.args.front.now in
    let net = c.args.net.now in
    let here : IsOpen front net c.in-Some.place = subst (Searches front net) c.in-Some.is c.loop-next.invariant in
    absurd (first-there c.in-Some.place net here.some here.within (sym c.in-None.ensures))

pub loop-next-smaller : goal.loop-next-smaller
loop-next-smaller c =
    let front = c.args.front.now in
    let net = c.args.net.now in
    let here : IsOpen front net c.in-Some.place = subst (Searches front net) c.in-Some.is c.loop-next.invariant in
    falls _ net c.in-Some.place c.older_with-next.result c.loop-next.next c.in-Some.is here.some here.within (c.older_with-next.ensures c.in-Some-at.bytes.now (sym c.in-Some-at.ensures))

pub loop-next-preserved : goal.loop-next-preserved
loop-next-preserved c =
    let front = c.args.front.now in
    let net = c.args.net.now in
    let bytes = c.in-Some-at.bytes.now in
    let here : IsOpen front net c.in-Some.place = subst (Searches front net) c.in-Some.is c.loop-next.invariant in
    let none = subst (IsReplyIn front bytes) c.in-Ok-None.field-0-is c.in-Ok-None.ensures in
    let at = sym c.in-Some-at.ensures in
    searches-on front net c.in-Some.place bytes c.older_with-next.result c.requires here at none (c.older_with-next.ensures bytes at)
