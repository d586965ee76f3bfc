use Rattle.std.proofs.Common.{◌≡◌, take, map}
use Rattle.disk_model.proofs.entries.names_in.Given as goal

abbrev pub invariant-loop-entry : goal.invariant-loop-entry
invariant-loop-entry l = l.names.items ≡ map (λ e. e.0) (take l.entry-index l.entries)
