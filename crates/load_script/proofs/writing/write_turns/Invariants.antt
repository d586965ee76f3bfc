use Rattle.std.proofs.Common.{◌≡◌}
use Rattle.std.specs.Io.KnownBytes.{Appends}
use Rattle.load_script.specs.Numbers.{state_at}
use Rattle.load_script.specs.Texts.{turns_text}
use Rattle.load_script.proofs.writing.write_turns.Given as goal

abbrev pub invariant-loop-done : goal.invariant-loop-done
invariant-loop-done g l = record {
  state : l.state ≡ state_at l.seed l.done;
  appended : Appends (g.K.Sink.written l.fn.out) (g.K.Sink.written l.out) (turns_text l.seed l.done);
  stands : g.K.Sink.faults l.out ≡ g.K.Sink.faults l.fn.out;
}
