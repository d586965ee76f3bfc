use Rattle.std.proofs.Common.{length, ap, ◌∙◌}
use Rattle.std.specs.Prelude.{option_map}
use Rattle.disk_model.specs.DeviceCalls.{all_applied}
use Rattle.stream_layout.specs.Deeds.{calls_of_all}
use Rattle.cluster_lines.proofs.BeginSpelled.{spelled-begins}
use Rattle.group_begin.proofs.StartSteps.{begun-counts, start-broken, unbegun-stands}
use Rattle.cluster_core.proofs.BeginSteps.{begun}
use Rattle.cluster_core.proofs.world.World.begin.Goals as goal

pub returns-in-Ok-perform-clause-ok : goal.returns-in-Ok-perform-clause-ok
returns-in-Ok-perform-clause-ok g c setup places begins none =
    let starts = c.in-Ok.ensures setup places begins in
    let held = (g.D.SharedDisk.seen c.args.disk.now).files in
    begun setup places (length (calls_of_all c.in-Ok.made.1)) held (g.D.SharedDisk.seen c.args.disk.now) (g.D.SharedDisk.seen c.perform.new.disk) c.replace.new.dest (spelled-begins c.args.line.now c.requires.spelled.0 setup places c.requires.spelled.1 begins) (c.replace.ensures.after ∙ starts.0) none
    (c.in-Ok-perform.ensures.performs.0 ∙ ap (λ deeds. option_map (all_applied (calls_of_all deeds)) held) starts.1) c.in-Ok-perform.ensures.performs.1.1 c.requires.unarmed

pub returns-in-Ok-perform-clause-leaves : goal.returns-in-Ok-perform-clause-leaves
returns-in-Ok-perform-clause-leaves g c setup places begins =
    let starts = c.in-Ok.ensures setup places begins in
    let done = c.in-Ok-perform.ensures in
    begun-counts setup c.in-Ok.made.1 (g.D.SharedDisk.seen c.args.disk.now) (g.D.SharedDisk.seen c.perform.new.disk) starts.1 done.performs.1.1 done.cause.stands done.stop.stands

pub returns-clause-leaves : goal.returns-clause-leaves
returns-clause-leaves g c setup places begins =
    let starts = c.in-Ok.ensures setup places begins in
    let failed = c.in-Err-perform.ensures in
    start-broken (Unit {0}) setup c.in-Err-perform.answer _ _ (g.D.SharedDisk.seen c.args.disk.now) (g.D.SharedDisk.seen c.perform.new.disk)
    starts.1 c.unbegun.ensures c.requires.unarmed failed.cause failed.stop failed.performs

pub returns-in-Err-clause-leaves : goal.returns-in-Err-clause-leaves
returns-in-Err-clause-leaves g c setup places begins = unbegun-stands setup (g.D.SharedDisk.seen c.args.disk.now) c.requires.unarmed
