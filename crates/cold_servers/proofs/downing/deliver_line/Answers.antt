use Rattle.std.proofs.Common.{Bool, subst}
use Rattle.std.proofs.lemmas.Result.{on_ok_weaker}
use Rattle.script_lines.specs.declared.line.Line.{Line}
use Rattle.cluster_clients.proofs.DispatchSteps.{on-err}
use Rattle.cluster_rounds.proofs.BrokenClients.{same-breaks}
use Rattle.cluster_rounds.specs.Delivered.{Delivers}
use Rattle.cluster_rounds.specs.Worlds.{Does}
use Rattle.cluster_lines.specs.Showing.{refused}
use Rattle.cluster_lines.proofs.LineBroken.{alone-as}
use Rattle.cluster_lines.proofs.WildLines.{same-wild}
use Rattle.cluster_rounds.proofs.WildSteps.{on-ok}
use Rattle.cold_servers.specs.ColdKit.{cold_kit}
use Rattle.cold_servers.specs.ColdLaws.{cold_laws}
use Rattle.cold_servers.specs.Ignoring.{IsAskingAt}
use Rattle.cold_servers.proofs.DownSteps.{delivers-ignored, delivers-none, delivers-same}
use Rattle.cold_servers.proofs.downing.deliver_line.Goals as goal

pub deliver-requires : goal.deliver-requires
deliver-requires g c = c.requires.state

pub returns-then-asking-clause-ok : goal.returns-then-asking-clause-ok
returns-then-asking-clause-ok g c =
    let A : Bool → Type 0 = λ asking. IsAskingAt asking c.args.place c.args.world.now.net in
    on_ok_weaker c.put_ignored.result (λ lines. delivers-ignored c.args.place c.args.world.now c.args.lines.now.items c.put_ignored.new.lines.items (subst A c.if-asking.true c.in-Ok.ensures) lines) c.put_ignored.ensures.ok

pub returns-then-asking-clause-err : goal.returns-then-asking-clause-err
returns-then-asking-clause-err g c = on-err c.put_ignored.result ((same-breaks cold_kit cold_laws) c.args.world.now)

pub returns-in-Err-clause-err : goal.returns-in-Err-clause-err
returns-in-Err-clause-err g c = (same-breaks cold_kit cold_laws) c.args.world.now

pub returns-then-done-clause-ok : goal.returns-then-done-clause-ok
returns-then-done-clause-ok g c =
    let A : Bool → Type 0 = λ asking. IsAskingAt asking c.args.place c.args.world.now.net in
    let D : Bool → Type 0 = λ done. Delivers cold_kit c.args.place done c.args.world.now c.deliver.new.world c.args.lines.now.items c.deliver.new.lines.items in
    delivers-same c.args.place c.args.world.now c.deliver.new.world c.args.lines.now.items c.deliver.new.lines.items (subst A c.if-asking.false c.in-Ok.ensures) (subst D c.if-done.true c.in-Ok-deliver.ensures.ok)

pub returns-else-done-clause-ok : goal.returns-else-done-clause-ok
returns-else-done-clause-ok g c =
    let D : Bool → Type 0 = λ done. Delivers cold_kit c.args.place done c.args.world.now c.deliver.new.world c.args.lines.now.items c.deliver.new.lines.items in
    let R : Line → Type 0 = λ next. Does cold_kit (refused cold_kit next) c.deliver.new.world c.deliver.new.world c.deliver.new.lines.items c.refuse.new.lines.items in
    on_ok_weaker c.refuse.result (λ refuses. delivers-none c.args.place c.args.world.now c.deliver.new.world c.args.lines.now.items c.deliver.new.lines.items c.refuse.new.lines.items (subst D c.if-done.false c.in-Ok-deliver.ensures.ok) (subst R c.requires.line refuses)) c.refuse.ensures.ok

pub returns-else-done-clause-err : goal.returns-else-done-clause-err
returns-else-done-clause-err g c =
    let D : Bool → Type 0 = λ done. Delivers cold_kit c.args.place done c.args.world.now c.deliver.new.world c.args.lines.now.items c.deliver.new.lines.items in
    let none = subst D c.if-done.false c.in-Ok-deliver.ensures.ok in
    on-err c.refuse.result ((alone-as cold_kit cold_laws) c.args.world.now c.deliver.new.world none.0)

pub returns-then-asking-clause-wild : goal.returns-then-asking-clause-wild
returns-then-asking-clause-wild g c = on-ok c.put_ignored.result ((same-wild cold_kit cold_laws) c.args.world.now)

pub returns-then-done-clause-wild : goal.returns-then-done-clause-wild
returns-then-done-clause-wild g c = c.in-Ok-deliver.ensures.wild

pub returns-else-done-clause-wild : goal.returns-else-done-clause-wild
returns-else-done-clause-wild g c = on-ok c.refuse.result c.in-Ok-deliver.ensures.wild
