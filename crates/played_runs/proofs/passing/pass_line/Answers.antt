use Rattle.std.proofs.Common.{refl}
use Rattle.played_runs.specs.Ends.{StoodUpTo}
use Rattle.played_runs.proofs.PassingSteps.{passes-broken, passes-fault, passes-line}
use Rattle.played_runs.proofs.passing.pass_line.Goals as goal

pub returns-in-Ok-clause-passes : goal.returns-in-Ok-clause-passes
returns-in-Ok-clause-passes g c =
    let mid = g.D.SharedDisk.seen c.args.disk.now in
    let left = g.D.SharedDisk.seen c.event.new.arg3 in
    passes-line g.W.Playable.game g.W.Playable.plays (StoodUpTo g.D.SharedDisk.seen) c.args.line.now c.in-Ok.printed mid left c.args.world.now c.event.new.arg4 _ (c.requires.event.does _ _ _ _ _ _ c.in-Ok.ensures).ok

pub returns-in-Err-Memory-clause-passes : goal.returns-in-Err-Memory-clause-passes
returns-in-Err-Memory-clause-passes g c =
    let mid = g.D.SharedDisk.seen c.args.disk.now in
    let left = g.D.SharedDisk.seen c.event.new.arg3 in
    let broken = (c.requires.event.does _ _ _ _ _ _ (rw c.in-Err-Memory.field-0-is at c.in-Err-Memory.ensures)).broken in
    passes-broken g.W.Playable.game g.W.Playable.plays (StoodUpTo g.D.SharedDisk.seen) c.args.line.now mid left c.args.world.now c.event.new.arg4 broken

pub returns-in-Err-Memory-clause-counts : goal.returns-in-Err-Memory-clause-counts
returns-in-Err-Memory-clause-counts g c = (c.requires.event.does _ _ _ _ _ _ (rw c.in-Err-Memory.field-0-is at c.in-Err-Memory.ensures)).cause

pub returns-in-Err-DiskFault-clause-passes : goal.returns-in-Err-DiskFault-clause-passes
returns-in-Err-DiskFault-clause-passes g c =
    let mid = g.D.SharedDisk.seen c.args.disk.now in
    let left = g.D.SharedDisk.seen c.event.new.arg3 in
    let happened = c.requires.event.does _ _ _ _ _ _ (rw c.in-Err-DiskFault.field-0-is at c.in-Err-DiskFault.ensures) in
    passes-fault g.W.Playable.game g.W.Playable.plays (StoodUpTo g.D.SharedDisk.seen) c.args.line.now c.in-Err-DiskFault.printed mid left c.args.world.now c.event.new.arg4 (record { mid = c.args.disk.now; told = refl; count = refl }) happened.cause happened.broken

pub returns-in-Err-DiskFault-clause-counts : goal.returns-in-Err-DiskFault-clause-counts
returns-in-Err-DiskFault-clause-counts g c = (c.requires.event.does _ _ _ _ _ _ (rw c.in-Err-DiskFault.field-0-is at c.in-Err-DiskFault.ensures)).cause
