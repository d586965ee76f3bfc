use Rattle.std.proofs.Common.{◌+◌, add-one, ap, ◌∙◌}
use Rattle.load_script.specs.Numbers.{next_state}
use Rattle.load_script.proofs.TurnLaws.{turn-breaks, turn-done}
use Rattle.load_script.proofs.writing.write_turns.Goals as goal

pub returns-in-Err-clause-bytes : goal.returns-in-Err-clause-bytes
returns-in-Err-clause-bytes g c =
    let written = g.K.Sink.written in
    let so_far = c.loop-done.invariant in
    turn-breaks (written c.args.out.now) (written c.loop-done.out) (written c.write_turn.new.out) c.args.seed c.loop-done.done (c.loop-done.done + 1) c.loop-done.state c.next_state-state.result c.number_in.result (add-one c.loop-done.done) so_far.state c.next_state-state.ensures c.number_in.ensures so_far.appended c.args.count c.loop-done-test.true c.in-Err.ensures.bytes

pub loop-done-preserved : goal.loop-done-preserved
loop-done-preserved g c =
    let written = g.K.Sink.written in
    let so_far = c.loop-done.invariant in
    let next = add-one c.loop-done.done in
    record {
      state = rw next (c.next_state-state.ensures ∙ ap next_state so_far.state);
      appended = rw next (turn-done (written c.args.out.now) (written c.loop-done.out) (written c.write_turn.new.out) c.args.seed c.loop-done.done (c.loop-done.done + 1) c.loop-done.state c.next_state-state.result c.number_in.result next so_far.state c.next_state-state.ensures c.number_in.ensures so_far.appended c.in-Ok.ensures.bytes);
      stands = c.in-Ok.ensures.cause.stands ∙ so_far.stands;
    }
