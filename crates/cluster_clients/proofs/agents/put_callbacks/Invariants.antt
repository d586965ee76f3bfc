use Rattle.std.proofs.Common.{◌≡◌, ◌++◌, take}
use Rattle.std.specs.List.{flat_map}
use Rattle.callback_dispatch.specs.declared.numbered.Numbered.{Numbered}
use Rattle.event_text.specs.Texts.{callback_lines}
use Rattle.cluster_clients.proofs.agents.put_callbacks.Given as goal

abbrev pub invariant-loop-one : goal.invariant-loop-one
invariant-loop-one l =
    l.lines.items ≡ l.initial.lines.items ++ flat_map (λ (one : Numbered). callback_lines l.client one.number one.callback) (take l.one-index l.callbacks)
