use Rattle.disk_model.specs.declared.answers.DiskAnswer.{DiskAnswer}
use Rattle.script_lines.specs.declared.line.Line.TheVariants as line
use Rattle.std.proofs.lemmas.Result.{on_ok_weaker}
use Rattle.cluster_rounds.specs.Came.{ComesOff}
use Rattle.cluster_rounds.specs.Rounds.{EndsSettle}
use Rattle.cluster_rounds.specs.Worlds.{any_state}
use Rattle.cluster_lines.specs.Playing.{BreaksOff}
use Rattle.cluster_lines.proofs.LineBroken.{settle-broken}
use Rattle.cluster_lines.proofs.LineSteps.{halt-stands, plays-halt, plays-settle, settle-stands}
use Rattle.cluster_lines.proofs.StopSteps.{stop-counts, stop-err, stop-ok, stop-wild}
use Rattle.cluster_lines.proofs.playing.settle_line.Goals as goal

pub settle-requires : goal.settle-requires
settle-requires g c = c.requires.state

pub returns-clause-ok : goal.returns-clause-ok
returns-clause-ok g c =
    let old = c.args.world.now in
    let new = c.settle.new.world in
    let before = c.args.lines.now.items in
    let after = c.settle.new.lines.items in
    let held = g.S.Serving.kit.see (g.D.SharedDisk.seen c.args.disk.now) (g.J.SharedDisk.seen c.args.beside.now) in
    let left = g.S.Serving.kit.see (g.D.SharedDisk.seen c.settle.new.disk) (g.J.SharedDisk.seen c.settle.new.beside) in
    let Off : DiskAnswer → Type 0 = λ answer. (ComesOff g.S.Serving.kit) any_state (EndsSettle g.S.Serving.kit) answer old new before after held left in
    stop-ok Off c.settle.result c.done_at_stop.result c.done_at_stop.ensures
    (on_ok_weaker c.settle.result (λ does. (plays-settle g.S.Serving.kit g.met.S.Serving.laws g.S.Serving.script g.met.S.Scripted.follows) old new before after held left c.requires.shares does) c.settle.ensures.ok)
    c.settle.ensures.err
    (λ halts. (plays-halt g.S.Serving.kit g.met.S.Serving.laws g.S.Serving.script g.met.S.Scripted.follows) old new before after held left c.requires.shares halts)

pub returns-clause-stands : goal.returns-clause-stands
returns-clause-stands g c =
    let old = c.args.world.now in
    let new = c.settle.new.world in
    let before = c.args.lines.now.items in
    let after = c.settle.new.lines.items in
    let held = g.S.Serving.kit.see (g.D.SharedDisk.seen c.args.disk.now) (g.J.SharedDisk.seen c.args.beside.now) in
    let left = g.S.Serving.kit.see (g.D.SharedDisk.seen c.settle.new.disk) (g.J.SharedDisk.seen c.settle.new.beside) in
    let Off : DiskAnswer → Type 0 = λ answer. (ComesOff g.S.Serving.kit) any_state (EndsSettle g.S.Serving.kit) answer old new before after held left in
    λ has. stop-ok Off c.settle.result c.done_at_stop.result c.done_at_stop.ensures
    (on_ok_weaker c.settle.result (λ does. (settle-stands g.S.Serving.kit g.met.S.Serving.laws) old new before after held left has does) c.settle.ensures.ok)
    c.settle.ensures.err
    (λ halts. (halt-stands g.S.Serving.kit g.met.S.Serving.laws) old new before after held left has halts)

pub returns-clause-broken : goal.returns-clause-broken
returns-clause-broken g c =
    let old = c.args.world.now in
    let new = c.settle.new.world in
    let before = c.args.lines.now.items in
    let after = c.settle.new.lines.items in
    let held = g.S.Serving.kit.see (g.D.SharedDisk.seen c.args.disk.now) (g.J.SharedDisk.seen c.args.beside.now) in
    let left = g.S.Serving.kit.see (g.D.SharedDisk.seen c.settle.new.disk) (g.J.SharedDisk.seen c.settle.new.beside) in
    let Off : DiskAnswer → Type 0 = λ answer. (ComesOff g.S.Serving.kit) any_state (EndsSettle g.S.Serving.kit) answer old new before after held left in
    stop-err (λ answer. (BreaksOff g.S.Serving.kit g.S.Serving.script) answer line.Settle old new before after held left) Off c.settle.result c.done_at_stop.result c.done_at_stop.ensures c.settle.ensures.err
    (λ answer never off. (settle-broken g.S.Serving.kit g.met.S.Serving.laws g.S.Serving.script g.met.S.Scripted.follows) answer old new before after held left c.requires.shares never off)

pub returns-clause-wild : goal.returns-clause-wild
returns-clause-wild g c =
    let old = c.args.world.now in
    let new = c.settle.new.world in
    let before = c.args.lines.now.items in
    let after = c.settle.new.lines.items in
    let held = g.S.Serving.kit.see (g.D.SharedDisk.seen c.args.disk.now) (g.J.SharedDisk.seen c.args.beside.now) in
    let left = g.S.Serving.kit.see (g.D.SharedDisk.seen c.settle.new.disk) (g.J.SharedDisk.seen c.settle.new.beside) in
    (stop-wild g.S.Serving.kit) c.settle.result c.done_at_stop.result old new held left c.done_at_stop.ensures c.settle.ensures.wild

pub returns-clause-counts : goal.returns-clause-counts
returns-clause-counts g c =
    let old = c.args.world.now in
    let new = c.settle.new.world in
    let before = c.args.lines.now.items in
    let after = c.settle.new.lines.items in
    let held = g.S.Serving.kit.see (g.D.SharedDisk.seen c.args.disk.now) (g.J.SharedDisk.seen c.args.beside.now) in
    let left = g.S.Serving.kit.see (g.D.SharedDisk.seen c.settle.new.disk) (g.J.SharedDisk.seen c.settle.new.beside) in
    (stop-counts g.S.Serving.kit) c.settle.result c.done_at_stop.result held left c.done_at_stop.ensures c.settle.ensures.counts
