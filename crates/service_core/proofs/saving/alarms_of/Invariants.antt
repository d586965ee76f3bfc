use Rattle.std.proofs.Common.{◌≡◌, take, map}
use Rattle.plain_service.specs.Values.{saved_alarm}
use Rattle.service_core.proofs.saving.alarms_of.Given as goal

abbrev pub invariant-loop-place : goal.invariant-loop-place
invariant-loop-place l = l.saved ≡ map saved_alarm (take l.place l.alarms.kept)
