use Rattle.std.proofs.Common.{◌∙◌}
use Rattle.script.proofs.Answering.{ends_unbegun, ends_begun}
use Rattle.script.proofs.reader.Reader.finish.Goals as goal

pub returns-then-is_none : goal.returns-then-is_none
returns-then-is_none g c outcome h = h.same ∙ ends_unbegun h.lines c.args.self.time c.args.self.number c.if-is_none.ensures

pub returns : goal.returns
returns g c outcome h = (h.lines, h.same ∙ ends_begun h.lines c.args.self.time c.args.self.number c.if-is_none.ensures, h.keeps)
