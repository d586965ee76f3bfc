use Rattle.std.proofs.Common.{◌≡◌, take, map}
use Rattle.plain_service.specs.Values.{saved_stream}
use Rattle.service_core.proofs.saving.streams_of.Given as goal

abbrev pub invariant-loop-place : goal.invariant-loop-place
invariant-loop-place l = l.streams ≡ map saved_stream (take l.place l.log.table.streams)
