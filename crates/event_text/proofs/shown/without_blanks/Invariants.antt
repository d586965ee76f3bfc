use Rattle.std.proofs.Common.{◌≡◌, ◌≤◌, length, take}
use Rattle.event_text.specs.Texts.{trimmed}
use Rattle.event_text.proofs.shown.without_blanks.Given as goal

abbrev pub invariant-loop-end : goal.invariant-loop-end
invariant-loop-end l = record {
  within : l.end ≤ length l.line;
  same : trimmed l.line ≡ trimmed (take l.end l.line);
}

abbrev pub decreases-loop-end : goal.decreases-loop-end
decreases-loop-end l = l.end
