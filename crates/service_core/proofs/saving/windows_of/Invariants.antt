use Rattle.std.proofs.Common.{◌≡◌, take, map}
use Rattle.service_table.specs.Tables.{saved_window}
use Rattle.service_core.proofs.saving.windows_of.Given as goal

abbrev pub invariant-loop-caller : goal.invariant-loop-caller
invariant-loop-caller l = l.windows ≡ map saved_window (take l.caller-index l.callers)
