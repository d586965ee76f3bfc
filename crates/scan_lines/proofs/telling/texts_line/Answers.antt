use Rattle.scan_lines.specs.Telling.{Shows, Hides}
use Rattle.scan_lines.proofs.telling.texts_line.Goals as goal

pub returns-in_ok-line : goal.returns-in_ok-line
returns-in_ok-line c size rec fits =
    Shows c.args.texts.now fits (c.is_shown.ensures.0 c.if-is_shown.true) c.in_ok-line.ensures

pub returns-else-is_shown : goal.returns-else-is_shown
returns-else-is_shown c size rec fits =
    Hides c.args.texts.now fits (λ shown. let yes = c.is_shown.ensures.1 shown in let no = c.if-is_shown.false in cc) c.new.ensures.items
