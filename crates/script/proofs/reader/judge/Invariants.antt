use Rattle.std.proofs.Common.{◌+◌, ◌≤◌, None, length}
use Rattle.script_language.specs.Scripts.{raw_lines}
use Rattle.script_language.specs.ScriptReading.{judged}
use Rattle.script.specs.Judged.{LeadsTo}
use Rattle.script.proofs.reader.judge.Given as goal

abbrev pub invariant-lines : goal.invariant-lines
invariant-lines g l = record {
  leads : LeadsTo g.K.Keep.Keeps l.reader (raw_lines l.rest) (judged None 1 (raw_lines l.bytes));
  place : l.reader.number + length l.rest ≤ length l.bytes + 1;
}

abbrev pub decreases-lines : goal.decreases-lines
decreases-lines g l = length l.rest
