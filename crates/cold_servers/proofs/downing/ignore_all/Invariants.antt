use Rattle.std.proofs.Common.{take}
use Rattle.cold_servers.specs.Ignoring.{IgnoresAll}
use Rattle.cold_servers.proofs.downing.ignore_all.Given as goal

abbrev pub invariant-loop-message : goal.invariant-loop-message
invariant-loop-message l = IgnoresAll (take l.message-index l.messages) l.net l.initial.lines.items l.lines.items
