use Rattle.std.proofs.Common.{◌≡◌, Some, None, sym, ◌∙◌, ap}
use Rattle.std.specs.FinMap.{get, insert, remove}
use Rattle.std.specs.Cmp.Lexicographic.{same_text, other_text}
use Rattle.std.proofs.lemmas.Result.{on_ok_weaker}
use Rattle.disk_model.specs.Disk.{renamed}
use Rattle.disk_model.proofs.Renaming.{renamed_absent, renamed_itself, renamed_is, place_stands, not_lost, no_error, copied_none, copied_some}
use Rattle.disk_model.proofs.shelf.Shelf.rename.Goals as goal

pub returns-then-eq-clause-ok : goal.returns-then-eq-clause-ok
returns-then-eq-clause-ok c =
    let same = same_text c.args.from.now c.args.to.now c.if-eq.ensures in
    sym (ap (λ to. renamed c.args.self.now c.args.from.now to) (sym same) ∙ renamed_itself c.args.self.now c.args.from.now)

pub returns-then-is_none-clause-ok : goal.returns-then-is_none-clause-ok
returns-then-is_none-clause-ok c =
    let absent = copied_none _ _ c.if-is_none.ensures c.find.ensures in
    sym (renamed_absent c.args.self.now c.args.from.now c.args.to.now absent)

pub returns-in-None-clause-ok : goal.returns-in-None-clause-ok
returns-in-None-clause-ok c =
    let other = other_text c.args.from.now c.args.to.now c.if-eq.ensures in
    let stands = copied_some _ _ c.if-is_none.ensures c.find.ensures in
    let gone : get (insert c.args.self.now c.args.to.now c.new.result) c.args.from.now ≡ None =
    ap (λ m. get m c.args.from.now) (sym c.in_ok-put.ensures.ok) ∙ sym c.in-None.ensures.found in
    absurd (not_lost c.args.self.now c.args.from.now c.args.to.now c.new.result other stands gone)

pub returns-in-Some-clause-ok : goal.returns-in-Some-clause-ok
returns-in-Some-clause-ok c =
    let other = other_text c.args.from.now c.args.to.now c.if-eq.ensures in
    let found : get (insert c.args.self.now c.args.to.now c.new.result) c.args.from.now ≡ Some c.in-Some.file =
    ap (λ m. get m c.args.from.now) (sym c.in_ok-put.ensures.ok) ∙ sym c.in-Some.ensures.found in
    on_ok_weaker c.put-in-Some.result
    (λ e. e ∙ ap (λ m. insert m c.args.to.now c.in-Some.file) (c.take.ensures.left ∙ ap (λ m. remove m c.args.from.now) c.in_ok-put.ensures.ok)
    ∙ renamed_is c.args.self.now c.args.from.now c.args.to.now c.new.result c.in-Some.file other found) c.put-in-Some.ensures.ok

pub returns-in-Some-clause-err : goal.returns-in-Some-clause-err
returns-in-Some-clause-err c =
    let other = other_text c.args.from.now c.args.to.now c.if-eq.ensures in
    let stands = place_stands c.args.self.now c.args.from.now c.args.to.now c.new.result other in
    no_error _ c.put-in-Some.result (c.put-in-Some.ensures.standing (rw (c.take.ensures.left, c.in_ok-put.ensures.ok) stands))
