use Rattle.std.proofs.Common.{◌≡◌, List, map, ap, ◌∙◌}
use Rattle.std.proofs.lemmas.Result.{IfOk-weaker, IfErr-weaker}
use Rattle.client_agent.specs.Seen.{Seen}
use Rattle.cluster_rounds.proofs.rounds.turn_each.Goals as goal
use Rattle.cluster_rounds.specs.Rounds.{EndsEach}
use Rattle.cluster_rounds.specs.Worlds.{IsIdle}
use Rattle.cluster_rounds.proofs.BrokenClients.{same-breaks-if}
use Rattle.cluster_rounds.proofs.CameSteps.{alone-off}
use Rattle.cluster_rounds.proofs.RoundSteps.{clients-are}
use Rattle.cluster_rounds.proofs.TurnSteps.{each-comes, each-off}

pub returns-in-Ok-clause-ok : goal.returns-in-Ok-clause-ok
returns-in-Ok-clause-ok g c =
    let clients = c.as_slice-in-Ok.result.now in
    let are : clients ≡ map (λ (one : Seen). one.client) c.args.world.now.agents = c.as_slice-in-Ok.ensures.value ∙ c.in-Ok.ensures ∙ ap (λ (l : List Seen). map (λ (one : Seen). one.client) l) c.as_slice.ensures in
    IfOk-weaker c.turn_clients.result _ _ (λ loud comes. (each-comes g.S.Serving.kit g.met.S.Serving.laws) clients c.args.world.now c.turn_clients.new.world c.args.lines.now.items c.turn_clients.new.lines.items loud (g.S.Serving.kit.see (g.D.SharedDisk.seen c.args.disk.now) (g.J.SharedDisk.seen c.args.beside.now)) (g.S.Serving.kit.see (g.D.SharedDisk.seen c.turn_clients.new.disk) (g.J.SharedDisk.seen c.turn_clients.new.beside)) ((clients-are g.S.Serving.kit g.met.S.Serving.laws) clients c.args.world.now are) comes) c.turn_clients.ensures.ok

pub returns-in-Ok-clause-err : goal.returns-in-Ok-clause-err
returns-in-Ok-clause-err g c =
    let clients = c.as_slice-in-Ok.result.now in
    let are : clients ≡ map (λ (one : Seen). one.client) c.args.world.now.agents = c.as_slice-in-Ok.ensures.value ∙ c.in-Ok.ensures ∙ ap (λ (l : List Seen). map (λ (one : Seen). one.client) l) c.as_slice.ensures in
    IfErr-weaker c.turn_clients.result _ _ (λ answer off. (each-off g.S.Serving.kit g.met.S.Serving.laws) clients answer c.args.world.now c.turn_clients.new.world c.args.lines.now.items c.turn_clients.new.lines.items (g.S.Serving.kit.see (g.D.SharedDisk.seen c.args.disk.now) (g.J.SharedDisk.seen c.args.beside.now)) (g.S.Serving.kit.see (g.D.SharedDisk.seen c.turn_clients.new.disk) (g.J.SharedDisk.seen c.turn_clients.new.beside)) ((clients-are g.S.Serving.kit g.met.S.Serving.laws) clients c.args.world.now are) off) c.turn_clients.ensures.err

pub returns-in-Err-clause-err : goal.returns-in-Err-clause-err
returns-in-Err-clause-err g c =
    let world = c.args.world.now in
    let lines = c.args.lines.now.items in
    (alone-off g.S.Serving.kit g.met.S.Serving.laws) IsIdle (EndsEach g.S.Serving.kit) world world lines lines (g.S.Serving.kit.see (g.D.SharedDisk.seen c.args.disk.now) (g.J.SharedDisk.seen c.args.beside.now)) ((same-breaks-if g.S.Serving.kit g.met.S.Serving.laws) IsIdle world)
