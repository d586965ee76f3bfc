use Rattle.std.proofs.Common.{ℕ, List, Some, refl, sym, subst}
use Rattle.script_lines.specs.declared.line.Line.{Line}
use Rattle.command_journal.specs.Worlds.{both}
use Rattle.played_runs.specs.Edges.{edge}
use Rattle.cold_runs.specs.Ends.{PlaysCold}
use Rattle.cold_runs.specs.Stages.{cold_scene}
use Rattle.cold_runs.specs.Steps.{FirstOfBoth, IsPlayableCold}
use Rattle.cold_runs.proofs.NameSteps.{names-fail, names-lack, root-ends, still-bare, still-unarmed, still-unarmed-too}
use Rattle.cold_runs.proofs.playing.play_all.Goals as goal

pub open-requires-clause-script : goal.open-requires-clause-script
open-requires-clause-script g c κs within = subst IsPlayableCold c.in-Some.ensures c.requires.script

pub open-requires-clause-bare : goal.open-requires-clause-bare
open-requires-clause-bare g c κs within =
    let held = both (g.D.SharedDisk.seen c.args.disk.now) (g.J.SharedDisk.seen c.args.journal.now) in
    let left = both (g.D.SharedDisk.seen c.first_of.new.disk) (g.J.SharedDisk.seen c.first_of.new.journal) in
    (still-bare held left (rw c.in-Ok-None.field-0-is at c.in-Ok-None.ensures)).0

pub open-requires-clause-bare_too : goal.open-requires-clause-bare_too
open-requires-clause-bare_too g c κs within =
    let held = both (g.D.SharedDisk.seen c.args.disk.now) (g.J.SharedDisk.seen c.args.journal.now) in
    let left = both (g.D.SharedDisk.seen c.first_of.new.disk) (g.J.SharedDisk.seen c.first_of.new.journal) in
    (still-bare held left (rw c.in-Ok-None.field-0-is at c.in-Ok-None.ensures)).1

pub open-requires-clause-unarmed : goal.open-requires-clause-unarmed
open-requires-clause-unarmed g c κs within =
    let held = both (g.D.SharedDisk.seen c.args.disk.now) (g.J.SharedDisk.seen c.args.journal.now) in
    let left = both (g.D.SharedDisk.seen c.first_of.new.disk) (g.J.SharedDisk.seen c.first_of.new.journal) in
    still-unarmed held left (rw c.in-Ok-None.field-0-is at c.in-Ok-None.ensures) c.requires.unarmed

pub open-requires-clause-unarmed_too : goal.open-requires-clause-unarmed_too
open-requires-clause-unarmed_too g c κs within =
    let held = both (g.D.SharedDisk.seen c.args.disk.now) (g.J.SharedDisk.seen c.args.journal.now) in
    let left = both (g.D.SharedDisk.seen c.first_of.new.disk) (g.J.SharedDisk.seen c.first_of.new.journal) in
    still-unarmed-too held left (rw c.in-Ok-None.field-0-is at c.in-Ok-None.ensures) c.requires.unarmed_too

pub returns-in-Some : goal.returns-in-Some
returns-in-Some g c =
    let held = both (g.D.SharedDisk.seen c.args.disk.now) (g.J.SharedDisk.seen c.args.journal.now) in
    let left = both (g.D.SharedDisk.seen c.open.new.disk) (g.J.SharedDisk.seen c.open.new.journal) in
    let sink = edge g.K.Sink.written g.K.Sink.faults c.args.out.now c.open.new.out in
    let named = rw c.in-Ok-None.field-0-is at c.in-Ok-None.ensures in
    subst (λ (lines : List Line). PlaysCold lines (cold_scene held left c.args.world.now c.open.new.world) sink c.open.result) (sym c.in-Some.ensures) (c.open.ensures held named.2)

pub returns-in-Ok-Some : goal.returns-in-Ok-Some
returns-in-Ok-Some g c =
    let held = both (g.D.SharedDisk.seen c.args.disk.now) (g.J.SharedDisk.seen c.args.journal.now) in
    let left = both (g.D.SharedDisk.seen c.first_of.new.disk) (g.J.SharedDisk.seen c.first_of.new.journal) in
    let sink = edge g.K.Sink.written g.K.Sink.faults c.args.out.now c.write_held.new.out in
    let found : FirstOfBoth held left (Some c.in-Ok-Some.name) = rw c.in-Ok-Some.field-0-is at c.in-Ok-Some.ensures in
    let named = subst (λ (name : List ℕ). FirstOfBoth held left (Some name)) (sym c.as_slice.ensures.bytes) found in
    root-ends c.args.lines.now held left c.args.world.now sink c.as_slice.result.now c.write_held.result named c.write_held.ensures

-- a script that can be played has a line
pub returns-in-None : goal.returns-in-None
returns-in-None g c = absurd (subst IsPlayableCold c.in-None.ensures.0 c.requires.script)

pub returns-in-Err-Memory : goal.returns-in-Err-Memory
returns-in-Err-Memory g c =
    let held = both (g.D.SharedDisk.seen c.args.disk.now) (g.J.SharedDisk.seen c.args.journal.now) in
    let left = both (g.D.SharedDisk.seen c.first_of.new.disk) (g.J.SharedDisk.seen c.first_of.new.journal) in
    let sink = edge g.K.Sink.written g.K.Sink.faults c.args.out.now c.args.out.now in
    names-lack c.args.lines.now held left c.args.world.now sink (rw c.in-Err-Memory.field-0-is at c.in-Err-Memory.ensures) refl

pub returns-in-Err-Stopped : goal.returns-in-Err-Stopped
returns-in-Err-Stopped g c =
    let held = both (g.D.SharedDisk.seen c.args.disk.now) (g.J.SharedDisk.seen c.args.journal.now) in
    let left = both (g.D.SharedDisk.seen c.first_of.new.disk) (g.J.SharedDisk.seen c.first_of.new.journal) in
    let sink = edge g.K.Sink.written g.K.Sink.faults c.args.out.now c.args.out.now in
    names-lack c.args.lines.now held left c.args.world.now sink (rw c.in-Err-Stopped.field-0-is at c.in-Err-Stopped.ensures) refl

pub returns-in-Err-Failed : goal.returns-in-Err-Failed
returns-in-Err-Failed g c =
    let held = both (g.D.SharedDisk.seen c.args.disk.now) (g.J.SharedDisk.seen c.args.journal.now) in
    let left = both (g.D.SharedDisk.seen c.first_of.new.disk) (g.J.SharedDisk.seen c.first_of.new.journal) in
    let sink = edge g.K.Sink.written g.K.Sink.faults c.args.out.now c.write_broken.new.out in
    names-fail c.args.lines.now held left c.args.world.now sink c.write_broken.result (rw c.in-Err-Failed.field-0-is at c.in-Err-Failed.ensures) c.write_broken.ensures
