use Rattle.std.proofs.Common.{sym, ◌∙◌}
use Rattle.world_runs.proofs.FigureLaws.{fetched-at}
use Rattle.world_runs.proofs.figures.is_request_at.Goals as goal

pub returns-in-Ok : goal.returns-in-Ok
returns-in-Ok c postings spelled =
    c.is_request_in.ensures ∙ sym (fetched-at c.args.place c.args.net.now c.in-Ok.found c.in-Ok.ensures postings spelled)
