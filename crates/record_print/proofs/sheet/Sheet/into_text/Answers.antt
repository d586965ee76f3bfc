use Rattle.std.proofs.Common.{length, subst, refl, ◌∙◌}
use Rattle.record_print.specs.Sheets.{Shows}
use Rattle.record_print.proofs.SheetLaws.{shows_line}
use Rattle.record_print.proofs.sheet.Sheet.into_text.Goals as goal

pub returns : goal.returns
returns c = λ text has.
    let bytes = c.args.self.bytes.items in
    c.from_vec.ensures
    ∙ shows_line bytes c.args.self.used (length bytes) text (subst (λ limit. Shows bytes c.args.self.used limit text) c.requires.open has) refl c.args.self.some
