use Rattle.std.proofs.Common.{◌≤◌, ◌++◌, IsPermutation, length, vec_len, vec_capacity}
use Rattle.callback_dispatch.specs.Crew.{gathered}
use Rattle.callback_dispatch.proofs.buffers.collect.Given as goal

abbrev pub invariant-loop-buffer : goal.invariant-loop-buffer
invariant-loop-buffer l =
    IsPermutation (gathered l.fn.buffers.items) (l.answer.items ++ gathered l.buffers.items)
    × (length (gathered l.fn.buffers.items) ≤ vec_capacity l.answer) × (vec_capacity l.fn.answer ≤ vec_capacity l.answer)

abbrev pub decreases-loop-buffer : goal.decreases-loop-buffer
decreases-loop-buffer l = vec_len l.buffers
