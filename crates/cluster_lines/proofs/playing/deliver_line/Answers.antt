use Rattle.std.proofs.Common.{Bool, subst}
use Rattle.std.proofs.lemmas.Result.{on_ok_weaker}
use Rattle.cluster_rounds.specs.Delivered.{Delivers}
use Rattle.cluster_clients.proofs.DispatchSteps.{on-err}
use Rattle.cluster_lines.proofs.LineBroken.{alone-as}
use Rattle.cluster_lines.proofs.LineSteps.{delivers-refused-after}
use Rattle.cluster_rounds.proofs.WildSteps.{on-ok}
use Rattle.cluster_lines.proofs.playing.deliver_line.Goals as goal

pub returns-then-done-clause-ok : goal.returns-then-done-clause-ok
returns-then-done-clause-ok g c =
    let D : Bool → Type 0 = λ done. (Delivers g.S.Serving.kit) c.args.place done c.args.world.now c.deliver.new.world c.args.lines.now.items c.deliver.new.lines.items in
    subst D c.if-done.true c.in-Ok.ensures.ok

pub returns-else-done-clause-ok : goal.returns-else-done-clause-ok
returns-else-done-clause-ok g c =
    let D : Bool → Type 0 = λ done. (Delivers g.S.Serving.kit) c.args.place done c.args.world.now c.deliver.new.world c.args.lines.now.items c.deliver.new.lines.items in
    on_ok_weaker c.refused.result (λ refuses. (delivers-refused-after g.S.Serving.kit g.met.S.Serving.laws) c.args.place c.args.line.now c.args.world.now c.deliver.new.world c.args.lines.now.items c.deliver.new.lines.items c.refused.new.lines.items c.requires.line (subst D c.if-done.false c.in-Ok.ensures.ok) refuses) c.refused.ensures.ok

pub returns-else-done-clause-err : goal.returns-else-done-clause-err
returns-else-done-clause-err g c =
    let D : Bool → Type 0 = λ done. (Delivers g.S.Serving.kit) c.args.place done c.args.world.now c.deliver.new.world c.args.lines.now.items c.deliver.new.lines.items in
    let none = subst D c.if-done.false c.in-Ok.ensures.ok in
    on-err c.refused.result ((alone-as g.S.Serving.kit g.met.S.Serving.laws) c.args.world.now c.deliver.new.world none.0)

pub returns-then-done-clause-wild : goal.returns-then-done-clause-wild
returns-then-done-clause-wild g c = c.in-Ok.ensures.wild

pub returns-else-done-clause-wild : goal.returns-else-done-clause-wild
returns-else-done-clause-wild g c = on-ok c.refused.result c.in-Ok.ensures.wild
