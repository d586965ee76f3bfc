use Rattle.std.proofs.Common.{◌≡◌}
use Rattle.service_parts.proofs.Fronts.{changed_front}
use Rattle.service_table.specs.Steps.{told_alarm}
use Rattle.service_parts.proofs.readers.tell_reader.Given as goal

abbrev pub invariant-loop-place : goal.invariant-loop-place
invariant-loop-place l = l.readers.items ≡ changed_front (told_alarm l.client l.alarm) l.place l.initial.readers.items
