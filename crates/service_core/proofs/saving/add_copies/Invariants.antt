use Rattle.std.proofs.Common.{◌≡◌, ◌+◌, ◌≤◌, ◌++◌, length, take, vec_len}
use Rattle.std.specs.Vec.{vec_capacity}
use Rattle.service_core.proofs.saving.add_copies.Given as goal

abbrev pub invariant-loop-item : goal.invariant-loop-item
invariant-loop-item g l = record {
  copied : l.copies.items ≡ l.initial.copies.items ++ take l.item-index l.items;
  room : vec_len l.initial.copies + length l.items ≤ vec_capacity l.copies;
  same : vec_capacity l.copies ≡ vec_capacity l.initial.copies;
}
