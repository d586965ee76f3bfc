use Rattle.std.proofs.Common.{◌≡◌, take, map}
use Rattle.service_table.specs.Tables.{saved_queue}
use Rattle.service_core.proofs.saving.subs_of.Given as goal

abbrev pub invariant-loop-place : goal.invariant-loop-place
invariant-loop-place l = l.subs ≡ map saved_queue (take l.place l.ntf.table.subs)
