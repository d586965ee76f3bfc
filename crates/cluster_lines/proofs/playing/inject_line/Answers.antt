use Rattle.std.proofs.Common.{Bool, List, ℕ, subst}
use Rattle.std.proofs.lemmas.Result.{on_ok_weaker}
use Rattle.script_lines.specs.declared.line.Line.TheVariants as line
use Rattle.cluster_rounds.specs.Delivered.{Injects}
use Rattle.cluster_clients.proofs.DispatchSteps.{on-err}
use Rattle.cluster_lines.proofs.LineBroken.{alone-as}
use Rattle.cluster_lines.proofs.LineSteps.{plays-as, plays-injected, plays-spelling}
use Rattle.cluster_rounds.proofs.WildSteps.{on-ok}
use Rattle.cluster_lines.proofs.playing.inject_line.Goals as goal

pub returns-else-not-done-clause-ok : goal.returns-else-not-done-clause-ok
returns-else-not-done-clause-ok g c =
    let old = c.args.world.now in
    let new = c.inject.new.world in
    let before = c.args.lines.now.items in
    let after = c.inject.new.lines.items in
    let B : List ℕ → Type 0 = λ bytes. (Injects g.S.Serving.kit) bytes c.in-Ok.done old new before after in
    let D : Bool → Type 0 = λ done. (Injects g.S.Serving.kit) c.args.bytes.now done old new before after in
    let injects = subst D c.if-not-done.false (subst B c.as_slice.ensures.bytes c.in-Ok.ensures.ok) in
    (plays-as g.S.Serving.kit g.met.S.Serving.laws) (line.Inject c.args.bytes.now) c.args.line.now old new before after c.requires ((plays-injected g.S.Serving.kit g.met.S.Serving.laws) c.args.bytes.now old new before after injects)

pub returns-then-not-done-clause-ok : goal.returns-then-not-done-clause-ok
returns-then-not-done-clause-ok g c =
    let old = c.args.world.now in
    let new = c.inject.new.world in
    let before = c.args.lines.now.items in
    let between = c.inject.new.lines.items in
    let after = c.refused.new.lines.items in
    let B : List ℕ → Type 0 = λ bytes. (Injects g.S.Serving.kit) bytes c.in-Ok.done old new before between in
    let D : Bool → Type 0 = λ done. (Injects g.S.Serving.kit) c.args.bytes.now done old new before between in
    let none = subst D c.if-not-done.true (subst B c.as_slice.ensures.bytes c.in-Ok.ensures.ok) in
    on_ok_weaker c.refused.result (λ refuses. (plays-as g.S.Serving.kit g.met.S.Serving.laws) (line.Inject c.args.bytes.now) c.args.line.now old new before after c.requires ((plays-spelling g.S.Serving.kit g.met.S.Serving.laws) c.args.bytes.now c.args.line.now old new before between after c.requires none refuses)) c.refused.ensures.ok

pub returns-then-not-done-clause-err : goal.returns-then-not-done-clause-err
returns-then-not-done-clause-err g c =
    let old = c.args.world.now in
    let new = c.inject.new.world in
    let B : List ℕ → Type 0 = λ bytes. (Injects g.S.Serving.kit) bytes c.in-Ok.done old new c.args.lines.now.items c.inject.new.lines.items in
    let D : Bool → Type 0 = λ done. (Injects g.S.Serving.kit) c.args.bytes.now done old new c.args.lines.now.items c.inject.new.lines.items in
    let none = subst D c.if-not-done.true (subst B c.as_slice.ensures.bytes c.in-Ok.ensures.ok) in
    on-err c.refused.result ((alone-as g.S.Serving.kit g.met.S.Serving.laws) old new none.1)

pub returns-then-not-done-clause-wild : goal.returns-then-not-done-clause-wild
returns-then-not-done-clause-wild g c = on-ok c.refused.result c.in-Ok.ensures.wild

pub returns-else-not-done-clause-wild : goal.returns-else-not-done-clause-wild
returns-else-not-done-clause-wild g c = c.in-Ok.ensures.wild
