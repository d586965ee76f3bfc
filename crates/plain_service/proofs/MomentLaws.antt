-- A moment fits the code's time.
use Rattle.std.proofs.Common.{◌≡◌, ℤ, arith}
use Rattle.std.specs.Prelude.{pos, negsuc}
use Rattle.std.proofs.lemmas.Bool.{leb-true}
use Rattle.std.proofs.lemmas.Int.{to_z-of_z}
use mir.Syntax.{w64}
use mir.Val.{to_z, of_z}
use Rattle.ais_values.proofs.Basics.{true_from_T}
use Rattle.plain_service.specs.Setups.{IsMoment}

pub moment-same : (now : ℤ) → IsMoment now → to_z w64 (of_z w64 now) ≡ now
moment-same (pos n) moment = let to = leb-true n 9000000000000000000 (true_from_T _ moment.to.le) in to_z-of_z w64 (pos n) (record { sfits = omega arith })
moment-same (negsuc n) moment = absurd moment.from.le
