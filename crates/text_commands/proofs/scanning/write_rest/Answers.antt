use Rattle.std.proofs.Common.{◌∙◌, refl}
use Rattle.played_runs.specs.Writing.{IsNone}
use Rattle.played_runs.proofs.EndingSteps.{lacked, text-written}
use Rattle.text_commands.proofs.scanning.write_rest.Goals as goal

pub returns-in-Ok : goal.returns-in-Ok
returns-in-Ok g c =
    text-written _ IsNone _ c.as_slice.result.now _ c.write_text.result (refl, c.as_slice.ensures.value ∙ c.in-Ok.ensures) c.write_text.ensures

pub returns-in-Err : goal.returns-in-Err
returns-in-Err g c = lacked _ IsNone _ refl refl
