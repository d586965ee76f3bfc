use Rattle.std.proofs.Common.{◌≡◌, sym, ◌∙◌, ap, Some, None}
use Rattle.std.specs.List.{position}
use Rattle.log_history.specs.Table.{is_named, with_opener}
use Rattle.log_service.proofs.PlaceLemmas.{first-is, nowhere-is, changed-at}
use Rattle.log_service.proofs.streams.join.Goals as goal

pub returns-in_ok-join-clause-ok : goal.returns-in_ok-join-clause-ok
returns-in_ok-join-clause-ok c =
    let named = is_named c.args.name.now in
    let items = c.args.streams.now.items in
    let at : position named items ≡ Some c.in-Some.place = ap (position named) (sym c.as_slice.ensures.value) ∙ sym c.place_of.ensures ∙ c.in-Some.is in
    changed-at named items c.in-Some.place c.index_mut.result.now c.join.new.self (with_opener c.args.client) (first-is named items c.in-Some.place at) c.index_mut.ensures.value c.in_ok-join.ensures.ok

pub returns-in_default-clause-ok : goal.returns-in_default-clause-ok
returns-in_default-clause-ok c =
    let named = is_named c.args.name.now in
    let items = c.args.streams.now.items in
    let none : position named items ≡ None = ap (position named) (sym c.as_slice.ensures.value) ∙ sym c.place_of.ensures ∙ c.in_default.is in
    sym ((nowhere-is named items none).unchanged (with_opener c.args.client))
