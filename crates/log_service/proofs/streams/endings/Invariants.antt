use Rattle.log_service.proofs.EndLemmas.{AreEndings}
use Rattle.log_service.proofs.streams.endings.Given as goal

abbrev pub invariant-loop-stream : goal.invariant-loop-stream
invariant-loop-stream l = AreEndings l.last l.now l.client l.streams l.stream-index l.stamped l.events
