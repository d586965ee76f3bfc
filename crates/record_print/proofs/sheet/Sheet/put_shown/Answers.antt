use Rattle.std.proofs.Common.{List, ℕ, ◌-◌, ◌++◌, take, drop, map, ap, refl, ◌∙◌, arith}
use Rattle.std.proofs.lemmas.List.{with_items_is}
use Rattle.record_print.specs.Printing.{shown_byte}
use Rattle.record_print.proofs.SheetLaws.{change_adds}
use Rattle.record_print.proofs.sheet.Sheet.put_shown.Goals as goal

pub returns : goal.returns
returns c =
    let middle = c.put.new.self in
    let start = c.min.result in
    let end = c.min-end.result in
    let held = c.put.new.self.bytes.ok.0 in
    let items = with_items_is c.put.new.self.bytes c.hide_between.new.bytes (c.hide_between.auto.bytes ∙ c.as_mut_slice.ensures.len) in
    let changed = λ (slice : List ℕ). take start slice ++ map shown_byte (take (end - start) (drop start slice)) ++ drop end slice in
    change_adds shown_byte c.args.self.now middle _ c.args.text.now start end c.put.ensures (omega arith) (omega arith) refl refl
    (items ∙ c.hide_between.ensures ∙ ap changed c.as_mut_slice.ensures.value)
