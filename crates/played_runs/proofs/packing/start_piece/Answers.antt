use Rattle.std.proofs.Common.{ℕ, List, ◌++◌, ap, ◌∙◌}
use Rattle.played_runs.proofs.PackingSteps.{waits-all}
use Rattle.played_runs.proofs.packing.start_piece.Goals as goal

pub returns-in-Ok-clause-ok : goal.returns-in-Ok-clause-ok
returns-in-Ok-clause-ok g c =
    waits-all (g.K.Sink.written c.args.out.now) c.args.bytes.now c.try_extend_from_slice.new.self.items (c.in-Ok.ensures.ok ∙ ap (λ (held : List ℕ). held ++ c.args.bytes.now) c.requires)
