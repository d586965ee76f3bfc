use Rattle.std.proofs.Common.{◌≡◌, take}
use Rattle.log_history.specs.Deeds.{deeds_of_all}
use Rattle.service_core.proofs.deeds.deeds_of_all.Given as goal

abbrev pub invariant-loop-event : goal.invariant-loop-event
invariant-loop-event l = l.all.items ≡ deeds_of_all (take l.event-index l.events)
