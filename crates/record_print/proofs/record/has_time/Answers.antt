use Rattle.std.proofs.Common.{ℤ, subst, w64}
use Rattle.std.specs.Bool.{Decides, one_answer}
use Rattle.std.proofs.lemmas.Int.{to_z-of_z}
use Rattle.ais_values.specs.Times.{IsTime}
use Rattle.ais_values.specs.TimeTests.{is_time}
use Rattle.ais_values.proofs.TimeLaws.{is_time-decides}
use Rattle.record_print.proofs.record.has_time.Goals as goal

pub returns : goal.returns
returns c =
    let tells = subst (λ (time : ℤ). Decides c.is_time.result (IsTime time)) (to_z-of_z w64 c.args.time c.ranges.time) c.is_time.ensures in
    one_answer c.is_time.result (is_time c.args.time) tells (is_time-decides c.args.time)
