use Rattle.std.proofs.Common.{ℕ, ◌++◌, codes, subst, ap, ◌∙◌}
use Rattle.record_print.specs.Printing.{led_digits}
use Rattle.record_print.specs.Sheets.{Adds}
use Rattle.record_print.proofs.SheetLaws.{adds_then}
use Rattle.record_print.proofs.sheet.Sheet.put_class.Goals as goal

pub returns : goal.returns
returns c =
    let text = λ (vendor major minor : ℕ). led_digits (codes "NCI[0x") 8 vendor ++ led_digits (codes ",0x") 4 major ++ led_digits (codes ",0x") 4 minor ++ codes "]" in
    let class = c.args.class in
    let two = adds_then _ _ _ _ _ c.put_hex.ensures c.put_hex-2.ensures in
    let three = adds_then _ _ _ _ _ two c.put_hex-3.ensures in
    subst (Adds c.args.self.now c.put.new.self)
    (ap (λ v. text v c.from-2.result c.from-3.result) c.from.ensures ∙ ap (λ m. text class.vendor m c.from-3.result) c.from-2.ensures ∙ ap (text class.vendor class.major) c.from-3.ensures)
    (adds_then _ _ _ _ _ three c.put.ensures)
