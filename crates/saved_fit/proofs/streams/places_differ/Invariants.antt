use Rattle.std.proofs.Common.{◌≡◌, drop}
use Rattle.ais_values.specs.Codes.{all_differ}
use Rattle.plain_service.specs.Fitness.{stand_at_one_place}
use Rattle.saved_fit.proofs.streams.places_differ.Given as goal

abbrev pub invariant-loop-i : goal.invariant-loop-i
invariant-loop-i l = all_differ stand_at_one_place (drop l.i l.streams) ≡ all_differ stand_at_one_place l.streams
