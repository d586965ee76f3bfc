use Rattle.std.proofs.Common.{◌≡◌, inl, inr, ℕ, List, [], refl, ap, subst}
use Rattle.std.specs.Prelude.{Ok, Err}
use Rattle.cluster_rounds.specs.declared.cluster.Cluster.{Cluster}
use Rattle.lone_server.specs.Restarting.{ComesBack}
use Rattle.cold_servers.specs.declared.solo.Solo.{Solo}
use Rattle.cold_servers.specs.ColdKit.{cold_kit}
use Rattle.cold_servers.specs.ColdSeen.{ColdSeen}
use Rattle.cold_servers.proofs.RestartSteps.{both-stood, start-breaks, start-counts, start-plays, start-untold}
use Rattle.cold_servers.proofs.SilentLines.{rests-ok, unarmed-ok}
use Rattle.cold_servers.proofs.SilentStarts.{starts-on}
use Rattle.cold_servers.proofs.restarting.restart.Goals as goal

pub come_back-requires : goal.come_back-requires
come_back-requires g c =
    let rests = rests-ok c.args.world.now (cold_kit.see (g.D.SharedDisk.seen c.args.disk.now) (g.J.SharedDisk.seen c.args.beside.now)) c.requires.state c.requires.down in
    record { link = rests.link; back = rests.back }

pub returns-in-Ok-append-clause-ok : goal.returns-in-Ok-append-clause-ok
returns-in-Ok-append-clause-ok g c =
    let held : ColdSeen = cold_kit.see (g.D.SharedDisk.seen c.args.disk.now) (g.J.SharedDisk.seen c.args.beside.now) in
    let left : ColdSeen = cold_kit.see (g.D.SharedDisk.seen c.come_back.new.disk) (g.J.SharedDisk.seen c.come_back.new.beside) in
    let it = c.in-Ok.ensures in
    let found : ComesBack c.args.world.now.servers.lone c.come_back.new.servers c.args.world.now.history.entries c.come_back.new.history.entries [] c.come_back.new.lines.items held.journal.files left.journal.files held.disk.files left.disk.files =
    subst (λ (l : List (List ℕ)). ComesBack c.args.world.now.servers.lone c.come_back.new.servers c.args.world.now.history.entries c.come_back.new.history.entries l c.come_back.new.lines.items held.journal.files left.journal.files held.disk.files left.disk.files) c.new-told.ensures.items it.found
    in
    start-plays c.args.world.now c.come_back.new.servers c.come_back.new.history c.come_back.new.lines.items held left c.requires.down.states found it.kept it.arms
    (both-stood (Ok _) held left it.cause it.stop (λ is. cc) (λ is. cc)) c.args.lines.now.items c.append.new.self.items c.in-Ok-append.ensures.items

pub returns-in-Ok-append-clause-counts : goal.returns-in-Ok-append-clause-counts
returns-in-Ok-append-clause-counts g c =
    let held : ColdSeen = cold_kit.see (g.D.SharedDisk.seen c.args.disk.now) (g.J.SharedDisk.seen c.args.beside.now) in
    let left : ColdSeen = cold_kit.see (g.D.SharedDisk.seen c.come_back.new.disk) (g.J.SharedDisk.seen c.come_back.new.beside) in
    start-counts (Ok _) held left c.in-Ok.ensures.cause

pub returns-in-Ok-clause-err : goal.returns-in-Ok-clause-err
returns-in-Ok-clause-err g c =
    let held : ColdSeen = cold_kit.see (g.D.SharedDisk.seen c.args.disk.now) (g.J.SharedDisk.seen c.args.beside.now) in
    let left : ColdSeen = cold_kit.see (g.D.SharedDisk.seen c.come_back.new.disk) (g.J.SharedDisk.seen c.come_back.new.beside) in
    let it = c.in-Ok.ensures in
    let found : ComesBack c.args.world.now.servers.lone c.come_back.new.servers c.args.world.now.history.entries c.come_back.new.history.entries [] c.come_back.new.lines.items held.journal.files left.journal.files held.disk.files left.disk.files =
    subst (λ (l : List (List ℕ)). ComesBack c.args.world.now.servers.lone c.come_back.new.servers c.args.world.now.history.entries c.come_back.new.history.entries l c.come_back.new.lines.items held.journal.files left.journal.files held.disk.files left.disk.files) c.new-told.ensures.items it.found
    in
    start-untold c.args.world.now c.come_back.new.servers c.come_back.new.history c.come_back.new.lines.items held left c.requires.down.states found it.kept it.arms
    (both-stood (Ok _) held left it.cause it.stop (λ is. cc) (λ is. cc)) c.args.lines.now.items c.append.new.self.items

pub returns-in-Ok-clause-counts : goal.returns-in-Ok-clause-counts
returns-in-Ok-clause-counts g c =
    let held : ColdSeen = cold_kit.see (g.D.SharedDisk.seen c.args.disk.now) (g.J.SharedDisk.seen c.args.beside.now) in
    let left : ColdSeen = cold_kit.see (g.D.SharedDisk.seen c.come_back.new.disk) (g.J.SharedDisk.seen c.come_back.new.beside) in
    let done = start-counts (Ok _) held left c.in-Ok.ensures.cause in
    record { disk = done.disk; journal = done.journal }

pub returns-clause-err : goal.returns-clause-err
returns-clause-err g c =
    let held : ColdSeen = cold_kit.see (g.D.SharedDisk.seen c.args.disk.now) (g.J.SharedDisk.seen c.args.beside.now) in
    let left : ColdSeen = cold_kit.see (g.D.SharedDisk.seen c.come_back.new.disk) (g.J.SharedDisk.seen c.come_back.new.beside) in
    let it = c.in-Err.ensures in
    let old = c.args.world.now in
    let new : Cluster Solo = record old { servers = record { lone = c.come_back.new.servers }; history = c.come_back.new.history } in
    let same : new ≡ old = λ i. record old { servers = record { lone = it.err.0 i }; history = it.err.1 i } in
    start-breaks old new c.args.lines.now.items c.args.lines.now.items held left c.requires.down.states same it.kept it.broken it.arms.unarmed_too it.arms.unarmed c.in-Err.answer refl it.cause it.stop it.arms
    (λ is. it.none (ap Err is)) (λ place is. it.refused place (ap Err is))

pub returns-clause-same : goal.returns-clause-same
returns-clause-same g c =
    let it = c.in-Err.ensures in
    let old = c.args.world.now in
    elim it.untouched [
      | inl disk ↦ inl disk
      | inr files ↦ inr (λ i. record old { servers = record { lone = it.err.0 i }; history = it.err.1 i }, refl, files.1, files.0)
    ]

pub returns-clause-counts : goal.returns-clause-counts
returns-clause-counts g c =
    let held : ColdSeen = cold_kit.see (g.D.SharedDisk.seen c.args.disk.now) (g.J.SharedDisk.seen c.args.beside.now) in
    let left : ColdSeen = cold_kit.see (g.D.SharedDisk.seen c.come_back.new.disk) (g.J.SharedDisk.seen c.come_back.new.beside) in
    start-counts (Err c.in-Err.answer) held left c.in-Err.ensures.cause

pub returns-in-Ok-append-clause-wild : goal.returns-in-Ok-append-clause-wild
returns-in-Ok-append-clause-wild g c =
    let held : ColdSeen = cold_kit.see (g.D.SharedDisk.seen c.args.disk.now) (g.J.SharedDisk.seen c.args.beside.now) in
    let left : ColdSeen = cold_kit.see (g.D.SharedDisk.seen c.come_back.new.disk) (g.J.SharedDisk.seen c.come_back.new.beside) in
    let it = c.in-Ok.ensures in
    let found : ComesBack c.args.world.now.servers.lone c.come_back.new.servers c.args.world.now.history.entries c.come_back.new.history.entries [] c.come_back.new.lines.items held.journal.files left.journal.files held.disk.files left.disk.files =
    subst (λ (l : List (List ℕ)). ComesBack c.args.world.now.servers.lone c.come_back.new.servers c.args.world.now.history.entries c.come_back.new.history.entries l c.come_back.new.lines.items held.journal.files left.journal.files held.disk.files left.disk.files) c.new-told.ensures.items it.found
    in
    starts-on c.args.world.now c.come_back.new.servers c.come_back.new.history c.come_back.new.lines.items held left c.requires.state c.requires.down found it.arms

pub returns-in-Ok-append-clause-never : goal.returns-in-Ok-append-clause-never
returns-in-Ok-append-clause-never g c = λ is. cc

pub returns-in-Ok-clause-never : goal.returns-in-Ok-clause-never
returns-in-Ok-clause-never g c = λ is. cc

pub returns-clause-never : goal.returns-clause-never
returns-clause-never g c = λ is.
    let held : ColdSeen = cold_kit.see (g.D.SharedDisk.seen c.args.disk.now) (g.J.SharedDisk.seen c.args.beside.now) in
    let unarmed = unarmed-ok c.args.world.now held c.requires.state c.requires.down in
    elim (c.in-Err.ensures.arms.stopped is) [
      | inl armed ↦ armed.armed unarmed.1
      | inr armed ↦ armed.armed unarmed.0
    ]
