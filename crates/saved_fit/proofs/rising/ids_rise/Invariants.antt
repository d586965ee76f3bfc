use Rattle.std.proofs.Common.{◌≡◌, drop}
use Rattle.std.specs.Prelude.{None}
use Rattle.saved_fit.specs.Rising.{rises_by_id}
use Rattle.saved_fit.proofs.rising.ids_rise.Given as goal

abbrev pub invariant-loop-alarm : goal.invariant-loop-alarm
invariant-loop-alarm l = rises_by_id l.last (drop l.alarm-index l.alarms) ≡ rises_by_id None l.alarms
