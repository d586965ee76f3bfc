use Rattle.text_commands.specs.ScanSteps.{NotSpelled}
use Rattle.text_commands.proofs.scanning.refused.Goals as goal

pub returns-in_ok-end-in-Bad : goal.returns-in_ok-end-in-Bad
returns-in_ok-end-in-Bad c text told =
    let end = c.in_ok-end-in-Bad.ensures in
    NotSpelled end.status (record { fault = c.in-Bad.fault; found = told c.in-Bad.fault c.in-Bad.is; shown = end.text })
