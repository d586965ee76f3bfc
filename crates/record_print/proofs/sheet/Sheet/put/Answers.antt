use Rattle.std.proofs.Common.{List, ℕ, ◌+◌, ◌++◌, length, take, drop, ap, refl, ◌∙◌, arith}
use Rattle.std.proofs.lemmas.List.{with_items_is, length-take-le}
use Rattle.record_print.proofs.SheetLaws.{put_adds}
use Rattle.record_print.proofs.sheet.Sheet.put.Goals as goal

pub returns : goal.returns
returns c =
    let old = c.args.self.now in
    let visible = c.min-visible.result in
    let held = c.args.self.now.bytes.ok.0 in
    let items = with_items_is c.args.self.now.bytes c.lay.new.bytes (c.lay.auto.bytes ∙ c.as_mut_slice.ensures.len) in
    let long = length-take-le visible c.args.text.now (omega arith) in
    let laid = λ (slice : List ℕ) (n : ℕ). take old.used slice ++ take visible c.args.text.now ++ drop (old.used + n) slice in
    put_adds old _ c.args.text.now c.min-count.result visible refl refl c.min-count.ensures (omega arith)
    (items ∙ c.lay.ensures ∙ ap (λ s. laid s (length (take visible c.args.text.now))) c.as_mut_slice.ensures.value ∙ ap (laid old.bytes.items) long)
