use Rattle.std.proofs.Common.{◌≡◌, List, ℕ, ◌++◌, drop}
use Rattle.event_text.specs.Texts.{lines_behind, file_text_lines, shown_lines}
use Rattle.event_text.proofs.shown.put_shown.Given as goal

abbrev pub invariant-loop-byte : goal.invariant-loop-byte
invariant-loop-byte l = record {
  whole : l.lines.items ++ shown_lines (lines_behind l.front.items (drop l.byte-index l.bytes)) ≡ l.initial.lines.items ++ shown_lines (file_text_lines l.bytes);
  front : (more : List (List ℕ)) × (l.lines.items ≡ l.initial.lines.items ++ more);
}
