use Rattle.std.specs.Prelude.{◌≡◌, None, IsSome}
use Rattle.std.proofs.Common.{rules, refl}
use Rattle.cluster_clients.proofs.DispatchSteps.{on-err}
use Rattle.cluster_rounds.proofs.BrokenClients.{same-breaks}
use Rattle.group_servers.specs.GroupKit.{group_kit}
use Rattle.group_servers.specs.GroupLaws.{group_laws}
use Rattle.group_servers.specs.Steps.{grew}
use Rattle.group_servers.proofs.OwnSteps.{idle-line, work-line}
use Rattle.group_servers.proofs.playing.work_line.Goals as goal

pub work-requires : goal.work-requires
work-requires g c =
    let ready = c.if-ready.ensures.0 refl in
    (search rules, (c.requires.state, (ready.0, ready.1)))

pub returns-then-ready : goal.returns-then-ready
returns-then-ready g c =
    let held = (g.D.SharedDisk.seen c.args.disk.now) in
    let left = (g.D.SharedDisk.seen c.work.new.disk) in
    work-line g.row.N c.work.result c.args.line.now c.args.world.now c.work.new.world c.args.lines.now.items c.work.new.lines.items (grew c.args.world.now c.work.new.world) held left c.requires.line c.requires.state c.work.ensures.ok c.work.ensures.err

pub returns : goal.returns
returns g c =
    let old = c.args.world.now in
    let idle : IsSome old.servers.active.replica.owed × (old.servers.active.waits ≡ None) → ⊥ = λ ready.
    let is = c.ready.ensures.1 ready in let no = c.if-ready.false in cc
    in
    let held = (g.D.SharedDisk.seen c.args.disk.now) in
    idle-line g.row.N c.refused.result c.as_answer.result c.args.line.now old old c.args.lines.now.items c.refused.new.lines.items held c.requires.line idle c.as_answer.ensures c.requires.state c.refused.ensures.ok (on-err c.refused.result ((same-breaks (group_kit g.row.N) (group_laws g.row.N)) old))
