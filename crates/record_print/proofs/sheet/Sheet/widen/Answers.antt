use Rattle.std.proofs.Common.{◌++◌, length, sym, ◌∙◌, subst, refl}
use Rattle.record_print.specs.Printing.{fitted}
use Rattle.record_print.specs.Sheets.{Shows}
use Rattle.record_print.proofs.SheetLaws.{widen_shows}
use Rattle.record_print.proofs.sheet.Sheet.widen.Goals as goal

pub returns-clause-text : goal.returns-clause-text
returns-clause-text c = λ text base width window has.
    let sheet = c.args.self.now in
    let size = c.len-self.ensures ∙ sheet.bytes.ok.0 in
    subst (λ limit. Shows sheet.bytes.items sheet.limit limit (text ++ fitted width base)) (sym size)
    (widen_shows sheet.bytes.items sheet.used sheet.limit (length sheet.bytes.items) width text base has refl window)
