use Rattle.std.proofs.Common.{◌≡◌, ◌-◌, length}
use Rattle.std.specs.Prelude.{option_map}
use Rattle.script_grammar.specs.ValueReading.{with_front, inner_at}
use Rattle.script.proofs.quoted.inner.Given as goal

abbrev pub invariant-loop : goal.invariant-loop
invariant-loop l = inner_at (length l.bytes) l.bytes ≡ option_map (with_front l.content.items) (inner_at (length l.bytes - l.counter) l.rest)
