use Rattle.std.proofs.Common.{◌∙◌, Some, refl, ap}
use Rattle.played_runs.specs.Writing.{IsNone}
use Rattle.played_runs.proofs.EndingSteps.{lacked, text-written}
use Rattle.cold_runs.proofs.playing.write_refused.Goals as goal

pub returns-in-Ok : goal.returns-in-Ok
returns-in-Ok g c =
    text-written _ IsNone c.in-Ok.end.status c.as_slice.result.now _ c.write_text.result (ap Some c.in-Ok.ensures.status, c.as_slice.ensures.value ∙ c.in-Ok.ensures.text) c.write_text.ensures

pub returns-in-Err : goal.returns-in-Err
returns-in-Err g c = lacked _ IsNone _ refl refl
