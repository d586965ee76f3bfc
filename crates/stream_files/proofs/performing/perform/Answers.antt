use Rattle.std.proofs.Common.{◌<◌, length, ◌∙◌, arith}
use Rattle.stream_files.proofs.Calls.{breaks_deed, done_more, counts_more}
use Rattle.stream_files.proofs.performing.perform.Goals as goal

-- a deed that is not done breaks the list off
pub returns-in-Err-clause-performs : goal.returns-in-Err-clause-performs
returns-in-Err-clause-performs g c =
    let within : c.loop-deed.deed-index < length c.as_slice-deed-items.result.now = omega arith in
    rw (← c.as_slice-deed-items.ensures)
    (breaks_deed c.as_slice-deed-items.result.now c.loop-deed.deed-index c.deed-item.result c.in-Err.answer _ _ _ _ _ _ within c.deed-item.is
    c.loop-deed.invariant.done c.loop-deed.invariant.counted c.in-Err.ensures.performs)

pub loop-deed-preserved : goal.loop-deed-preserved
loop-deed-preserved g c =
    let within : c.loop-deed.deed-index < length c.as_slice-deed-items.result.now = omega arith in
    record {
      done = done_more c.as_slice-deed-items.result.now c.loop-deed.deed-index c.deed-item.result _ _ _ within c.deed-item.is
          c.loop-deed.invariant.done c.in-Ok.ensures.performs.0;
      counted = counts_more c.as_slice-deed-items.result.now c.loop-deed.deed-index c.deed-item.result _ _ _ within c.deed-item.is
          c.loop-deed.invariant.counted c.in-Ok.ensures.performs.1;
      stands = c.in-Ok.ensures.cause.stands ∙ c.loop-deed.invariant.stands;
      runs = c.in-Ok.ensures.stop.stands ∙ c.loop-deed.invariant.runs;
    }
