use Rattle.std.proofs.Common.{◌≡◌, drop}
use Rattle.ais_values.specs.Codes.{all_differ}
use Rattle.plain_service.specs.Fitness.{have_one_id}
use Rattle.saved_fit.proofs.asking.ids_differ.Given as goal

abbrev pub invariant-loop-i : goal.invariant-loop-i
invariant-loop-i l = all_differ have_one_id (drop l.i l.subs) ≡ all_differ have_one_id l.subs
