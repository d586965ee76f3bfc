use Rattle.std.proofs.Common.{◌+◌, Bool, take, get_or, sym, subst}
use Rattle.std.proofs.lemmas.List.{get_or_default, take_all}
use Rattle.std.specs.Prelude.{Err}
use Rattle.cluster_rounds.proofs.rounds.turn_clients.Goals as goal
use Rattle.cluster_rounds.specs.Came.{Comes}
use Rattle.cluster_rounds.specs.Rounds.{EndsClient, EndsClients, client_by, clients_by}
use Rattle.cluster_rounds.specs.Worlds.{IsIdle}
use Rattle.cluster_rounds.proofs.CameSteps.{off-after, on-after}
use Rattle.cluster_rounds.proofs.TurnSteps.{clients-end, clients-lead, loop-begins, loop-comes}
use Rattle.cluster_rounds.specs.Wild.{always}
use Rattle.cluster_rounds.proofs.WildSteps.{asks-on, goes-off, wild-both, wild-same}
use Rattle.cluster_rounds.proofs.CountSteps.{counts-after}

pub loop-client-init : goal.loop-client-init
loop-client-init g c =
    let held = g.S.Serving.kit.see (g.D.SharedDisk.seen c.args.disk.now) (g.J.SharedDisk.seen c.args.beside.now) in (
      (loop-begins g.S.Serving.kit g.met.S.Serving.laws) IsIdle (client_by g.S.Serving.kit) c.args.world.now c.args.lines.now.items held,
      λ seen wild. (wild-same g.S.Serving.kit) seen c.args.world.now held wild,
      g.met.S.Serving.laws.stands held,
    )

pub turn_client-requires : goal.turn_client-requires
turn_client-requires g c =
    let held = g.S.Serving.kit.see (g.D.SharedDisk.seen c.args.disk.now) (g.J.SharedDisk.seen c.args.beside.now) in
    let told = g.S.Serving.kit.see (g.D.SharedDisk.seen c.loop-client.disk) (g.J.SharedDisk.seen c.loop-client.beside) in
    let clients = c.args.clients.now in
    let index = c.loop-client.client-index in
    let one = get_or clients index 0 in
    (asks-on g.S.Serving.kit) always always c.args.world.now c.loop-client.world held told c.requires
    (λ has. (on-after g.S.Serving.kit g.met.S.Serving.laws) IsIdle IsIdle ((clients_by g.S.Serving.kit) (take index clients)) c.args.world.now c.loop-client.world c.args.lines.now.items c.loop-client.lines.items c.loop-client.loud held told ((clients-lead g.S.Serving.kit g.met.S.Serving.laws) (take index clients)) has c.loop-client.invariant.0)
    (λ seen wild so. (c.loop-client.invariant.1 seen wild, tt))

pub loop-client-preserved : goal.loop-client-preserved
loop-client-preserved g c =
    let told = g.S.Serving.kit.see (g.D.SharedDisk.seen c.loop-client.disk) (g.J.SharedDisk.seen c.loop-client.beside) in
    let clients = c.args.clients.now in
    let index = c.loop-client.client-index in
    let one = get_or clients index 0 in
    let old = c.args.world.now in
    let new = c.turn_client.new.world in
    let before = c.args.lines.now.items in
    let after = c.turn_client.new.lines.items in
    let held = g.S.Serving.kit.see (g.D.SharedDisk.seen c.args.disk.now) (g.J.SharedDisk.seen c.args.beside.now) in
    let left = g.S.Serving.kit.see (g.D.SharedDisk.seen c.turn_client.new.disk) (g.J.SharedDisk.seen c.turn_client.new.beside) in
    let comes = (loop-comes g.S.Serving.kit g.met.S.Serving.laws) IsIdle (λ client. IsIdle) (client_by g.S.Serving.kit) clients index one old c.loop-client.world new before c.loop-client.lines.items after c.loop-client.loud c.in-Ok.more held told left ((clients-lead g.S.Serving.kit g.met.S.Serving.laws) (take index clients)) c.loop-client-test.true (get_or_default clients index 0 one c.loop-client-test.true) c.loop-client.invariant.0 c.in-Ok.ensures.ok in (
      subst (λ (b : Bool). (Comes g.S.Serving.kit) IsIdle ((clients_by g.S.Serving.kit) (take (index + 1) clients)) old new before after b held left) (sym c.either-loud.ensures) comes,
      λ seen wild.
          let before_it = c.loop-client.invariant.1 seen wild in
          (wild-both g.S.Serving.kit) seen c.loop-client.world new told left before_it (c.in-Ok.ensures.wild before_it.now before_it.wild tt),
      g.met.S.Serving.laws.further held told left c.loop-client.invariant.2 c.in-Ok.ensures.counts,
    )

pub returns-clause-ok : goal.returns-clause-ok
returns-clause-ok g c =
    let clients = c.args.clients.now in
    subst (λ l. (Comes g.S.Serving.kit) IsIdle ((clients_by g.S.Serving.kit) l) c.args.world.now c.loop-client.world c.args.lines.now.items c.loop-client.lines.items c.loop-client.loud (g.S.Serving.kit.see (g.D.SharedDisk.seen c.args.disk.now) (g.J.SharedDisk.seen c.args.beside.now)) (g.S.Serving.kit.see (g.D.SharedDisk.seen c.loop-client.disk) (g.J.SharedDisk.seen c.loop-client.beside))) (take_all c.loop-client.client-index clients c.loop-client-test.false) c.loop-client.invariant.0

pub returns-in-Err-clause-err : goal.returns-in-Err-clause-err
returns-in-Err-clause-err g c =
    let clients = c.args.clients.now in
    let index = c.loop-client.client-index in
    let one = get_or clients index 0 in
    (off-after g.S.Serving.kit g.met.S.Serving.laws) IsIdle IsIdle ((EndsClient g.S.Serving.kit) one) ((EndsClients g.S.Serving.kit) clients) ((clients_by g.S.Serving.kit) (take index clients)) c.in-Err.answer c.args.world.now c.loop-client.world c.turn_client.new.world c.args.lines.now.items c.loop-client.lines.items c.turn_client.new.lines.items c.loop-client.loud (g.S.Serving.kit.see (g.D.SharedDisk.seen c.args.disk.now) (g.J.SharedDisk.seen c.args.beside.now)) (g.S.Serving.kit.see (g.D.SharedDisk.seen c.loop-client.disk) (g.J.SharedDisk.seen c.loop-client.beside)) (g.S.Serving.kit.see (g.D.SharedDisk.seen c.turn_client.new.disk) (g.J.SharedDisk.seen c.turn_client.new.beside)) ((clients-end g.S.Serving.kit g.met.S.Serving.laws) clients index one c.loop-client-test.true (get_or_default clients index 0 one c.loop-client-test.true)) ((clients-lead g.S.Serving.kit g.met.S.Serving.laws) (take index clients)) c.loop-client.invariant.0 c.in-Err.ensures.err

pub returns-clause-wild : goal.returns-clause-wild
returns-clause-wild g c = λ seen wild so. c.loop-client.invariant.1 seen wild

pub returns-in-Err-clause-wild : goal.returns-in-Err-clause-wild
returns-in-Err-clause-wild g c =
    (goes-off g.S.Serving.kit) Bool Bool always always c.in-Err.answer c.args.world.now c.loop-client.world c.turn_client.new.world (g.S.Serving.kit.see (g.D.SharedDisk.seen c.args.disk.now) (g.J.SharedDisk.seen c.args.beside.now)) (g.S.Serving.kit.see (g.D.SharedDisk.seen c.loop-client.disk) (g.J.SharedDisk.seen c.loop-client.beside)) (g.S.Serving.kit.see (g.D.SharedDisk.seen c.turn_client.new.disk) (g.J.SharedDisk.seen c.turn_client.new.beside)) (λ seen wild so. c.loop-client.invariant.1 seen wild) (λ one two grows so. tt) c.in-Err.ensures.wild

pub returns-in-Err-clause-counts : goal.returns-in-Err-clause-counts
returns-in-Err-clause-counts g c = (counts-after g.S.Serving.kit g.met.S.Serving.laws) {T = Bool} (Err c.in-Err.answer) (g.S.Serving.kit.see (g.D.SharedDisk.seen c.args.disk.now) (g.J.SharedDisk.seen c.args.beside.now)) (g.S.Serving.kit.see (g.D.SharedDisk.seen c.loop-client.disk) (g.J.SharedDisk.seen c.loop-client.beside)) (g.S.Serving.kit.see (g.D.SharedDisk.seen c.turn_client.new.disk) (g.J.SharedDisk.seen c.turn_client.new.beside)) c.loop-client.invariant.2 c.in-Err.ensures.counts

pub returns-clause-counts : goal.returns-clause-counts
returns-clause-counts g c = c.loop-client.invariant.2
