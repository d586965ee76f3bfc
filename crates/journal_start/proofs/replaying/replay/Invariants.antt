use Rattle.std.proofs.Common.{◌≡◌, ◌≤◌, ◌-◌, true, length}
use Rattle.journal_found.specs.Found.{is_journal}
use Rattle.journal_start.specs.Replays.{Following}
use Rattle.journal_start.proofs.replaying.replay.Given as goal

abbrev pub invariant-loop-alloc : goal.invariant-loop-alloc
invariant-loop-alloc l = record {
  following : Following l.bytes l.rest (length l.bytes - length l.rest) l.number l.entries.items l.node;
  long : 1 ≤ length l.rest;
  within : length l.rest ≤ length l.bytes;
  journal : is_journal l.bytes ≡ true;
}

abbrev pub decreases-loop-alloc : goal.decreases-loop-alloc
decreases-loop-alloc l = length l.rest
