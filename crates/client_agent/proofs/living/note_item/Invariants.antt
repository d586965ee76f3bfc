use Rattle.std.proofs.Common.{◌≡◌, ◌++◌, length, map, take, drop}
use Rattle.client_agent.specs.Inside.{moved}
use Rattle.client_agent.proofs.living.note_item.Given as goal

abbrev pub invariant-loop-index : goal.invariant-loop-index
invariant-loop-index l = (l.living.items ≡ map (moved l.key l.number) (take l.index l.initial.living.items) ++ drop l.index l.initial.living.items) × (length l.living.items ≡ length l.initial.living.items) × (l.index-end ≡ length l.initial.living.items)
