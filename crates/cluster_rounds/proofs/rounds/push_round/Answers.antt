use Rattle.std.proofs.Common.{List, sym, subst}
use Rattle.std.proofs.lemmas.Result.{IfOk-weaker, on_ok_weaker, on_err_weaker}
use Rattle.std.specs.Prelude.{OnOk}
use Rattle.wire.specs.declared.message.Message.{Message}
use Rattle.cluster_rounds.proofs.rounds.push_round.Goals as goal
use Rattle.cluster_rounds.specs.Broken.{BreaksAloneIf}
use Rattle.cluster_rounds.specs.Rounds.{IsIdleWithItems, Plays, items_taken}
use Rattle.cluster_rounds.proofs.RoundSteps.{push-plays, push-ready}
use Rattle.cluster_rounds.proofs.TurnSteps.{push-lacks}
use Rattle.cluster_rounds.specs.Wild.{AllPosted, KeepsWild, StandsOf, always}
use Rattle.cluster_rounds.proofs.WildSteps.{asks-from, wild-both}

pub take_items-taken-requires : goal.take_items-taken-requires
take_items-taken-requires g c =
    subst (λ (l : List Message). (StandsOf g.S.Serving.kit) (IsIdleWithItems l) (AllPosted l) c.push.new.world) (sym c.as_slice.ensures)
    ((asks-from g.S.Serving.kit) always (AllPosted c.in-Ok.items) c.args.world.now c.push.new.world c.requires
    (λ has. (push-ready g.S.Serving.kit g.met.S.Serving.laws) c.in-Ok.items c.args.world.now c.push.new.world c.args.lines.now.items c.push.new.lines.items has c.in-Ok.ensures.ok)
    (λ disks seen wild so. c.in-Ok.ensures.wild disks seen wild))

pub returns-in-Ok-clause-ok : goal.returns-in-Ok-clause-ok
returns-in-Ok-clause-ok g c =
    let middle = c.push.new.world in
    let new = c.take_items-taken.new.world in
    let between = c.push.new.lines.items in
    let after = c.take_items-taken.new.lines.items in
    IfOk-weaker c.take_items-taken.result _ _ (λ loud takes. (push-plays g.S.Serving.kit g.met.S.Serving.laws) c.in-Ok.items c.args.world.now middle new c.args.lines.now.items between after loud c.in-Ok.ensures.ok (subst (λ (l : List Message). (Plays g.S.Serving.kit) (IsIdleWithItems l) ((items_taken g.S.Serving.kit) l) middle new between after loud) c.as_slice.ensures takes)) c.take_items-taken.ensures.ok

pub returns-in-Ok-clause-err : goal.returns-in-Ok-clause-err
returns-in-Ok-clause-err g c =
    let middle = c.push.new.world in
    let new = c.take_items-taken.new.world in
    on_err_weaker c.take_items-taken.result (λ breaks. (push-lacks g.S.Serving.kit g.met.S.Serving.laws) c.in-Ok.items c.args.world.now middle new c.args.lines.now.items c.push.new.lines.items c.in-Ok.ensures.ok (subst (λ (l : List Message). (BreaksAloneIf g.S.Serving.kit) (IsIdleWithItems l) middle new) c.as_slice.ensures breaks)) c.take_items-taken.ensures.err

pub returns-in-Err-clause-err : goal.returns-in-Err-clause-err
returns-in-Err-clause-err g c = c.in-Err.ensures.err

pub returns-in-Ok-clause-wild : goal.returns-in-Ok-clause-wild
returns-in-Ok-clause-wild g c =
    let middle = c.push.new.world in
    let new = c.take_items-taken.new.world in
    let items = c.in-Ok.items in
    let W : List Message → Type 0 = λ l. OnOk c.take_items-taken.result ((KeepsWild g.S.Serving.kit) (AllPosted l) middle new) in
    on_ok_weaker c.take_items-taken.result (λ (keeps : (KeepsWild g.S.Serving.kit) (AllPosted items) middle new). (λ disks seen wild so.
    let first = c.in-Ok.ensures.wild disks seen wild in
    (wild-both g.S.Serving.kit) seen middle new disks disks first.0 (keeps disks first.0.now first.0.wild first.1)))
    (subst W c.as_slice.ensures c.take_items-taken.ensures.wild)
