use Rattle.std.proofs.Common.{◌≡◌, take}
use Rattle.alarm_view.specs.Inside.{places_of}
use Rattle.alarm_view.proofs.rebuilding.places_of.Given as goal

abbrev pub invariant-loop-alarm : goal.invariant-loop-alarm
invariant-loop-alarm l = l.places.items ≡ places_of (take l.alarm-index l.alarms)
