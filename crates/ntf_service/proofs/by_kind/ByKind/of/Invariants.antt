use Rattle.std.proofs.Common.{take}
use Rattle.ntf_service.specs.ByKind.{filters_of, IsByKind}
use Rattle.ntf_service.proofs.by_kind.ByKind.of.Given as goal

abbrev pub invariant-loop-place : goal.invariant-loop-place
invariant-loop-place l = IsByKind l.by_kind (filters_of (take l.place l.subs))
