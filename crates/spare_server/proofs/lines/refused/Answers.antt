use Rattle.std.proofs.Common.{◌≡◌, ℕ, List, [], ◌∷◌, ◌++◌, ap, ◌∙◌}
use Rattle.std.proofs.lemmas.Result.{on_ok_weaker}
use Rattle.event_text.specs.Texts.{refused_line}
use Rattle.trio_lines.specs.Printing.{trio_line_text}
use Rattle.spare_server.proofs.OwnSteps.{refuses}
use Rattle.spare_server.proofs.lines.refused.Goals as goal

pub returns-in-Ok-clause-ok : goal.returns-in-Ok-clause-ok
returns-in-Ok-clause-ok c =
    let text : c.put_trio_line.new.out.items ≡ trio_line_text c.args.line.now = c.in-Ok.ensures.written ∙ ap (λ (front : List ℕ). front ++ trio_line_text c.args.line.now) c.new-text.ensures.items in
    on_ok_weaker c.put_refused_text-told.result (λ told. refuses c.args.line.now c.args.parts.now c.args.lines.now.items c.put_refused_text-told.new.lines.items
    (told ∙ (λ i. c.args.lines.now.items ++ refused_line ((c.as_slice.ensures.value ∙ text) i) (c.standing_of-standing.ensures i) ∷ []))) c.put_refused_text-told.ensures.ok
