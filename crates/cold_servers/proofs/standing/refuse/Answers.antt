use Rattle.std.proofs.Common.{ap, ◌∷◌, [], ◌++◌, ◌∙◌}
use Rattle.std.proofs.lemmas.Result.{on_ok_weaker}
use Rattle.script_language.specs.Printing.{line_text}
use Rattle.event_text.specs.Texts.{refused_line}
use Rattle.cold_servers.proofs.StandingSteps.{refuses}
use Rattle.cold_servers.proofs.standing.refuse.Goals as goal

pub returns-clause-ok : goal.returns-clause-ok
returns-clause-ok c =
    on_ok_weaker c.put_refused.result
    (λ told. refuses c.args.line.now c.args.world.now c.args.lines.now.items c.put_refused.new.lines.items (told ∙ ap (λ standing. c.args.lines.now.items ++ refused_line (line_text c.args.line.now) standing ∷ []) c.standing_of-standing.ensures))
    c.put_refused.ensures.ok
