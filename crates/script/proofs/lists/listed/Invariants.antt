use Rattle.std.proofs.Common.{◌≡◌, ◌-◌, length}
use Rattle.script_grammar.specs.Reading.{listed}
use Rattle.script.proofs.Commas.{left}
use Rattle.script.proofs.lists.listed.Given as goal

abbrev pub invariant-loop : goal.invariant-loop
invariant-loop g l = listed g.E.Element.at l.bytes ≡ left g.E.Element.at (length l.bytes - l.counter) l.items.items l.rest
