use Rattle.std.proofs.Common.{Option, Some, subst}
use Rattle.std.proofs.lemmas.Result.{IfOk-weaker, on_ok_weaker, on_err_weaker}
use Rattle.wire.specs.declared.message.Message.{Message}
use Rattle.cluster_rounds.proofs.rounds.take_reply.Goals as goal
use Rattle.cluster_clients.specs.Replies.{FindsReply}
use Rattle.cluster_rounds.specs.Worlds.{StandsIn, any_state}
use Rattle.cluster_rounds.proofs.BrokenClients.{same-breaks-if}
use Rattle.cluster_rounds.proofs.CameSteps.{alone-so}
use Rattle.cluster_rounds.proofs.RoundSteps.{reply-nothing, reply-ready, reply-stands, reply-taken}
use Rattle.cluster_rounds.specs.Wild.{KeepsWild, Posted, always}
use Rattle.cluster_rounds.proofs.WildSteps.{asks-from, wild-same}
use Rattle.cluster_rounds.proofs.WildClients.{found-posted}

pub take_owned-requires : goal.take_owned-requires
take_owned-requires g c =
    let F : Option Message → Type 0 = λ o. FindsReply c.args.client c.args.seq c.args.world.now.net o in
    (asks-from g.S.Serving.kit) always (Posted c.in-Ok-Some.reply) c.args.world.now c.args.world.now c.requires.state
    (λ has. (reply-ready g.S.Serving.kit g.met.S.Serving.laws) c.args.client c.args.seq c.in-Ok-Some.reply c.args.world.now (subst F c.in-Ok-Some.field-0-is c.in-Ok-Some.ensures) has)
    (λ disks seen wild so. ((wild-same g.S.Serving.kit) seen c.args.world.now disks wild, found-posted c.args.client c.args.seq c.in-Ok-Some.reply c.args.world.now.net seen (subst F c.in-Ok-Some.field-0-is c.in-Ok-Some.ensures) wild.shows.net))

pub returns-in-Ok-Some-clause-ok : goal.returns-in-Ok-Some-clause-ok
returns-in-Ok-Some-clause-ok g c =
    let F : Option Message → Type 0 = λ o. FindsReply c.args.client c.args.seq c.args.world.now.net o in
    let finds : F (Some c.in-Ok-Some.reply) = subst F c.in-Ok-Some.field-0-is c.in-Ok-Some.ensures in
    IfOk-weaker c.take_owned.result _ _ (λ loud plays. (reply-taken g.S.Serving.kit g.met.S.Serving.laws) c.args.client c.args.seq c.in-Ok-Some.reply c.args.world.now c.take_owned.new.world c.args.lines.now.items c.take_owned.new.lines.items loud finds plays) c.take_owned.ensures.ok

pub returns-in-Ok-Some-clause-err : goal.returns-in-Ok-Some-clause-err
returns-in-Ok-Some-clause-err g c =
    let F : Option Message → Type 0 = λ o. FindsReply c.args.client c.args.seq c.args.world.now.net o in
    let finds : F (Some c.in-Ok-Some.reply) = subst F c.in-Ok-Some.field-0-is c.in-Ok-Some.ensures in
    on_err_weaker c.take_owned.result ((alone-so g.S.Serving.kit g.met.S.Serving.laws) any_state (StandsIn c.in-Ok-Some.reply) c.args.world.now c.take_owned.new.world (λ setup state good shows so. (reply-stands g.S.Serving.kit g.met.S.Serving.laws) c.args.client c.args.seq c.in-Ok-Some.reply c.args.world.now finds setup state shows)) c.take_owned.ensures.err

pub returns-in-Ok-None-clause-ok : goal.returns-in-Ok-None-clause-ok
returns-in-Ok-None-clause-ok g c =
    (reply-nothing g.S.Serving.kit g.met.S.Serving.laws) c.args.client c.args.seq c.args.world.now c.args.lines.now.items (subst (λ (o : Option Message). FindsReply c.args.client c.args.seq c.args.world.now.net o) c.in-Ok-None.field-0-is c.in-Ok-None.ensures)

pub returns-in-Err-clause-err : goal.returns-in-Err-clause-err
returns-in-Err-clause-err g c = (same-breaks-if g.S.Serving.kit g.met.S.Serving.laws) any_state c.args.world.now

pub returns-in-Ok-Some-clause-wild : goal.returns-in-Ok-Some-clause-wild
returns-in-Ok-Some-clause-wild g c =
    let F : Option Message → Type 0 = λ o. FindsReply c.args.client c.args.seq c.args.world.now.net o in
    on_ok_weaker c.take_owned.result (λ (keeps : (KeepsWild g.S.Serving.kit) (Posted c.in-Ok-Some.reply) c.args.world.now c.take_owned.new.world). (λ disks seen wild so. keeps disks seen wild (found-posted c.args.client c.args.seq c.in-Ok-Some.reply c.args.world.now.net seen (subst F c.in-Ok-Some.field-0-is c.in-Ok-Some.ensures) wild.shows.net))) c.take_owned.ensures.wild

pub returns-in-Ok-None-clause-wild : goal.returns-in-Ok-None-clause-wild
returns-in-Ok-None-clause-wild g c = λ disks seen wild so. (wild-same g.S.Serving.kit) seen c.args.world.now disks wild
