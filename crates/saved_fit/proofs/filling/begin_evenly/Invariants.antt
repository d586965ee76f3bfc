use Rattle.std.proofs.Common.{◌≡◌, ◌+◌, ◌-◌, drop, length}
use Rattle.std.specs.Prelude.{◌↔◌}
use Rattle.stream_config.specs.Fit.{BeginEvenly}
use Rattle.saved_fit.proofs.filling.begin_evenly.Given as goal

abbrev pub invariant-loop-file : goal.invariant-loop-file
invariant-loop-file l =
    (l.number ≡ l.opened - length l.files + l.file-index)
    × (BeginEvenly l.n l.number (drop l.file-index l.files) ↔ BeginEvenly l.n (l.opened - length l.files) l.files)
