use Rattle.std.proofs.Common.{rules, ℕ, Bool, true, false, ◌≡◌, None, List, refl, ◌∙◌, subst}
use Rattle.std.specs.Prelude.{IsSome}
use Rattle.group_cluster.specs.Group.{mirror_group, ack_group}
use Rattle.cluster_rounds.specs.declared.cluster.Cluster.{Cluster}
use Rattle.cluster_rounds.specs.Worlds.{any_state}
use Rattle.cluster_rounds.specs.Broken.{BreaksAlone}
use Rattle.cluster_rounds.specs.Came.{Comes, ComesOff, Advances}
use Rattle.cluster_rounds.proofs.ArmedSteps.{state-told}
use Rattle.cluster_rounds.proofs.BrokenSteps.{broken-ends}
use Rattle.group_servers.specs.declared.group.Group.{Group}
use Rattle.group_servers.specs.GroupKit.{group_kit}
use Rattle.group_servers.specs.GroupLaws.{group_laws}
use Rattle.group_servers.specs.Steps.{StepsBy, grew, worked_by, EndsWork}
use Rattle.group_servers.proofs.AdvanceSteps.{mirror-advances, ack-advances, no-message, state-after, state-on, work-advances, work-off, advances-none}
use Rattle.group_servers.proofs.working.advance.Goals as goal

pub mirror-requires : goal.mirror-requires
mirror-requires g c = (search rules, (state-told (group_kit g.row.N) (group_laws g.row.N)) any_state c.args.world.now (g.D.SharedDisk.seen c.args.disk.now) c.requires)

pub returns-then-mirrored-clause-ok : goal.returns-then-mirrored-clause-ok
returns-then-mirrored-clause-ok g c =
    let S : Bool → Type 0 = λ went. StepsBy g.row.N mirror_group went c.args.world.now c.mirror.new.world c.args.lines.now.items c.mirror.new.lines.items in
    mirror-advances g.row.N c.args.world.now c.mirror.new.world c.args.lines.now.items c.mirror.new.lines.items (g.D.SharedDisk.seen c.args.disk.now) (subst S c.if-mirrored.true c.in-Ok.ensures.ok)

-- the link is empty
pub ack-requires : goal.ack-requires
ack-requires g c =
    let S : Bool → Type 0 = λ went. StepsBy g.row.N mirror_group went c.args.world.now c.mirror.new.world c.args.lines.now.items c.mirror.new.lines.items in
    let none = subst S c.if-mirrored.false c.in-Ok.ensures.ok in
    (search rules, state-after g.row.N c.args.world.now c.mirror.new.world none.0 ((state-told (group_kit g.row.N) (group_laws g.row.N)) any_state c.args.world.now (g.D.SharedDisk.seen c.args.disk.now) c.requires))

pub returns-then-confirmed-clause-ok : goal.returns-then-confirmed-clause-ok
returns-then-confirmed-clause-ok g c =
    let first = c.args.lines.now.items in
    let lines = c.mirror.new.lines.items in
    let S : Bool → Type 0 = λ went. StepsBy g.row.N mirror_group went c.args.world.now c.mirror.new.world first lines in
    let A : Bool → Type 0 = λ went. StepsBy g.row.N ack_group went c.mirror.new.world c.ack.new.world lines lines in
    ack-advances g.row.N c.args.world.now c.mirror.new.world c.ack.new.world first lines lines (g.D.SharedDisk.seen c.args.disk.now) (subst S c.if-mirrored.false c.in-Ok.ensures.ok) (subst A c.if-confirmed.true (c.in-Ok-ack.ensures.ok lines))

-- no message is on its way
pub work-requires : goal.work-requires
work-requires g c =
    let first = c.args.lines.now.items in
    let lines = c.mirror.new.lines.items in
    let S : Bool → Type 0 = λ went. StepsBy g.row.N mirror_group went c.args.world.now c.mirror.new.world first lines in
    let mirrors = subst S c.if-mirrored.false c.in-Ok.ensures.ok in
    let A : Bool → Type 0 = λ went. StepsBy g.row.N ack_group went c.mirror.new.world c.ack.new.world lines lines in
    let acks = subst A c.if-confirmed.false (c.in-Ok-ack.ensures.ok lines) in
    let same = acks.0 ∙ mirrors.0 in
    let ready = c.if-ready.ensures.0 refl in
    (search rules, (state-on g.row.N c.args.world.now c.ack.new.world (g.D.SharedDisk.seen c.args.disk.now) same c.requires, (ready.0, ready.1)))

pub returns-in-Ok-work-clause-ok : goal.returns-in-Ok-work-clause-ok
returns-in-Ok-work-clause-ok g c =
    let first = c.args.lines.now.items in
    let lines = c.mirror.new.lines.items in
    let S : Bool → Type 0 = λ went. StepsBy g.row.N mirror_group went c.args.world.now c.mirror.new.world first lines in
    let mirrors = subst S c.if-mirrored.false c.in-Ok.ensures.ok in
    let A : Bool → Type 0 = λ went. StepsBy g.row.N ack_group went c.mirror.new.world c.ack.new.world lines lines in
    let acks = subst A c.if-confirmed.false (c.in-Ok-ack.ensures.ok lines) in
    let same = acks.0 ∙ mirrors.0 in
    let none = no-message g.row.N c.args.world.now c.mirror.new.world c.ack.new.world first lines lines mirrors acks in
    let after = c.work.new.lines.items in
    let ready = c.if-ready.ensures.0 refl in
    let C : Cluster (Group g.row.N) → Type 0 = λ world. Comes (group_kit g.row.N) any_state (worked_by g.row.N) world c.work.new.world lines after (grew world c.work.new.world) (g.D.SharedDisk.seen c.args.disk.now) (g.D.SharedDisk.seen c.work.new.disk) in
    let comes = subst C same c.in-Ok-work.ensures.ok in
    let some = subst (λ (world : Cluster (Group g.row.N)). IsSome world.servers.active.replica.owed) same ready.0 in
    let left = subst (λ (world : Cluster (Group g.row.N)). world.servers.active.waits ≡ None) same ready.1 in
    let does = work-advances g.row.N c.args.world.now c.work.new.world lines after (g.D.SharedDisk.seen c.args.disk.now) (g.D.SharedDisk.seen c.work.new.disk) none some left comes in
    subst (λ (start : List (List ℕ)). Advances (group_kit g.row.N) true c.args.world.now c.work.new.world start after (g.D.SharedDisk.seen c.args.disk.now) (g.D.SharedDisk.seen c.work.new.disk)) mirrors.1 does

pub returns-in-Err-work-clause-err : goal.returns-in-Err-work-clause-err
returns-in-Err-work-clause-err g c =
    let first = c.args.lines.now.items in
    let lines = c.mirror.new.lines.items in
    let S : Bool → Type 0 = λ went. StepsBy g.row.N mirror_group went c.args.world.now c.mirror.new.world first lines in
    let mirrors = subst S c.if-mirrored.false c.in-Ok.ensures.ok in
    let A : Bool → Type 0 = λ went. StepsBy g.row.N ack_group went c.mirror.new.world c.ack.new.world lines lines in
    let acks = subst A c.if-confirmed.false (c.in-Ok-ack.ensures.ok lines) in
    let same = acks.0 ∙ mirrors.0 in
    let none = no-message g.row.N c.args.world.now c.mirror.new.world c.ack.new.world first lines lines mirrors acks in
    let after = c.work.new.lines.items in
    let C : Cluster (Group g.row.N) → List (List ℕ) → Type 0 = λ world start. ComesOff (group_kit g.row.N) any_state (EndsWork g.row.N) c.in-Err-work.answer world c.work.new.world start after (g.D.SharedDisk.seen c.args.disk.now) (g.D.SharedDisk.seen c.work.new.disk) in
    let comes = subst (λ (world : Cluster (Group g.row.N)). C world lines) same c.in-Err-work.ensures.err in
    work-off g.row.N c.in-Err-work.answer c.args.world.now c.work.new.world first after (g.D.SharedDisk.seen c.args.disk.now) (g.D.SharedDisk.seen c.work.new.disk) none (subst (λ (start : List (List ℕ)). C c.args.world.now start) mirrors.1 comes)

-- and no entry in hand is ready
pub returns-clause-ok : goal.returns-clause-ok
returns-clause-ok g c =
    let first = c.args.lines.now.items in
    let lines = c.mirror.new.lines.items in
    let S : Bool → Type 0 = λ went. StepsBy g.row.N mirror_group went c.args.world.now c.mirror.new.world first lines in
    let mirrors = subst S c.if-mirrored.false c.in-Ok.ensures.ok in
    let A : Bool → Type 0 = λ went. StepsBy g.row.N ack_group went c.mirror.new.world c.ack.new.world lines lines in
    let acks = subst A c.if-confirmed.false (c.in-Ok-ack.ensures.ok lines) in
    let same = acks.0 ∙ mirrors.0 in
    let none = no-message g.row.N c.args.world.now c.mirror.new.world c.ack.new.world first lines lines mirrors acks in
    let R : Cluster (Group g.row.N) → Type 0 = λ world. IsSome world.servers.active.replica.owed × (world.servers.active.waits ≡ None) → ⊥ in
    let not : R c.ack.new.world = λ ready. let is = c.ready.ensures.1 ready in let no = c.if-ready.false in cc in
    (same, mirrors.1, refl, advances-none g.row.N c.args.world.now none (subst R same not))

-- memory ran out as a message was taken: nothing was worked
pub returns-in-Err-clause-err : goal.returns-in-Err-clause-err
returns-in-Err-clause-err g c = λ setup state good shows armed told.
    let held = g.D.SharedDisk.seen c.args.disk.now in
    let new = c.mirror.new.world in
    let broken = c.in-Err.ensures.err held setup state good shows in
    (broken, (group_laws g.row.N).lacks_same false setup state new.history.entries new.servers held ((broken-ends (group_kit g.row.N) (group_laws g.row.N)) setup state held held new broken))

pub returns-in-Err-ack-clause-err : goal.returns-in-Err-ack-clause-err
returns-in-Err-ack-clause-err g c = λ setup state good shows armed told.
    let held = g.D.SharedDisk.seen c.args.disk.now in
    let S : Bool → Type 0 = λ went. StepsBy g.row.N mirror_group went c.args.world.now c.mirror.new.world c.args.lines.now.items c.mirror.new.lines.items in
    let none = subst S c.if-mirrored.false c.in-Ok.ensures.ok in
    let B : Cluster (Group g.row.N) → Type 0 = λ world. BreaksAlone (group_kit g.row.N) world c.ack.new.world in
    let new = c.ack.new.world in
    let broken = subst B none.0 c.in-Err-ack.ensures.err held setup state good shows in
    (broken, (group_laws g.row.N).lacks_same false setup state new.history.entries new.servers held ((broken-ends (group_kit g.row.N) (group_laws g.row.N)) setup state held held new broken))
