use Rattle.std.proofs.Common.{sym, subst, ⊎_elim}
use Rattle.std.specs.Prelude.{IfOk}
use Rattle.std.proofs.lemmas.Result.{on_ok_weaker}
use Rattle.wire.specs.declared.message.Message.{Message}
use Rattle.wire.specs.MessageSpelling.{MessageInRange}
use Rattle.cluster_facts.specs.Types.{Request}
use Rattle.cluster_rounds.proofs.rounds.take_answer.Goals as goal
use Rattle.cluster_rounds.specs.Rounds.{Plays, answer_taken}
use Rattle.cluster_rounds.specs.Worlds.{any_state}
use Rattle.cluster_rounds.proofs.ChainSteps.{standing-range}
use Rattle.cluster_rounds.proofs.RoundSteps.{answer-nothing}
use Rattle.cluster_rounds.specs.Wild.{KeepsWild, Posted, always}
use Rattle.cluster_rounds.proofs.WildSteps.{asks-from, posted-range, wild-same}

pub take_reply-requires-clause-client : goal.take_reply-requires-clause-client
take_reply-requires-clause-client g c =
    let range : MessageInRange c.args.message.now = ⊎_elim (λ has. (standing-range g.S.Serving.kit g.met.S.Serving.laws) has.setup has.state c.args.world.now c.args.message.now has.good has.shows has.so) (λ wild. posted-range wild.1.seen c.args.world.now c.args.message.now wild.1.wild.clients wild.1.wild.shows wild.1.so) c.requires in
    let own : MessageInRange (Request c.in-Request.client c.in-Request.seq c.in-Request.call) = subst (λ (m : Message). MessageInRange m) c.in-Request.is range in
    own.0

pub take_reply-requires-clause-count : goal.take_reply-requires-clause-count
take_reply-requires-clause-count g c =
    let range : MessageInRange c.args.message.now = ⊎_elim (λ has. (standing-range g.S.Serving.kit g.met.S.Serving.laws) has.setup has.state c.args.world.now c.args.message.now has.good has.shows has.so) (λ wild. posted-range wild.1.seen c.args.world.now c.args.message.now wild.1.wild.clients wild.1.wild.shows wild.1.so) c.requires in
    let own : MessageInRange (Request c.in-Request.client c.in-Request.seq c.in-Request.call) = subst (λ (m : Message). MessageInRange m) c.in-Request.is range in
    own.1

pub returns-in-Request-clause-ok : goal.returns-in-Request-clause-ok
returns-in-Request-clause-ok g c =
    subst (λ (m : Message). IfOk c.take_reply.result (λ loud. (Plays g.S.Serving.kit) any_state ((answer_taken g.S.Serving.kit) m) c.args.world.now c.take_reply.new.world c.args.lines.now.items c.take_reply.new.lines.items loud)) (sym c.in-Request.is) c.take_reply.ensures.ok

pub returns-in_default-clause-ok : goal.returns-in_default-clause-ok
returns-in_default-clause-ok g c =
    (answer-nothing g.S.Serving.kit g.met.S.Serving.laws) c.args.message.now c.args.world.now c.args.lines.now.items (λ client number call is. c.in_default.not-Request client number call is)

pub take_reply-requires-clause-state : goal.take_reply-requires-clause-state
take_reply-requires-clause-state g c =
    (asks-from g.S.Serving.kit) (Posted c.args.message.now) always c.args.world.now c.args.world.now c.requires
    (λ has. record { setup = has.setup; state = has.state; good = has.good; shows = has.shows; so = tt })
    (λ disks seen wild so. ((wild-same g.S.Serving.kit) seen c.args.world.now disks wild, tt))

pub returns-in-Request-clause-wild : goal.returns-in-Request-clause-wild
returns-in-Request-clause-wild g c =
    on_ok_weaker c.take_reply.result (λ (keeps : (KeepsWild g.S.Serving.kit) always c.args.world.now c.take_reply.new.world). (λ disks seen wild so. keeps disks seen wild tt)) c.take_reply.ensures.wild

pub returns-in_default-clause-wild : goal.returns-in_default-clause-wild
returns-in_default-clause-wild g c = λ disks seen wild so. (wild-same g.S.Serving.kit) seen c.args.world.now disks wild
