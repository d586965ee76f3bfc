-- What was taken stands in the buffer, which is never longer than the limit and one byte, and nothing failed.
use Rattle.std.proofs.Common.{◌≡◌, ◌≤◌, ◌+◌, ◌-◌, vec_items, vec_len}
use Rattle.std.specs.Io.KnownBytes.{Consumes}
use Rattle.io_edge.proofs.whole_read.read_all.Given as goal

abbrev pub invariant-loop-chunk : goal.invariant-loop-chunk
invariant-loop-chunk g l =
    (vec_len l.bytes ≤ l.limit + 1) × (g.S.Source.faults l.source ≡ g.S.Source.faults l.initial.source)
    × Consumes (g.S.Source.left l.initial.source) (g.S.Source.left l.source) (vec_items l.bytes)

abbrev pub decreases-loop-chunk : goal.decreases-loop-chunk
decreases-loop-chunk g l = l.limit + 1 - vec_len l.bytes
