use Rattle.std.proofs.Common.{◌≡◌, ◌≤◌, vec_len, vec_capacity}
use Rattle.callback_dispatch.specs.Crew.{AreFree}
use Rattle.callback_dispatch.proofs.buffers.free_buffers.Given as goal

abbrev pub invariant-loop-made : goal.invariant-loop-made
invariant-loop-made l = (vec_len l.buffers ≡ l.made) × AreFree l.places l.buffers.items × (l.workers ≤ vec_capacity l.buffers)
