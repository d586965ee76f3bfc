use Rattle.std.proofs.Common.{ap, subst, sym, ◌∙◌}
use Rattle.cluster_facts.specs.Agents.{put_mark}
use Rattle.client_agent.specs.Marks.{Marks}
use Rattle.client_agent.specs.Inside.{mark_ready, marks_kept, AreUnderKeys}
use Rattle.client_agent.proofs.Marking.{marks-put, keys-put}
use Rattle.client_agent.proofs.marks.SeenMarks.put_ready.Goals as goal

pub invariant_of-self : goal.invariant_of-self
invariant_of-self c =
    subst AreUnderKeys (sym c.in-Ok.ensures.entries) (keys-put c.args.ready.key c.args.ready.seen c.self.inside.marks.entries c.requires.0 c.self.invariant)

pub returns : goal.returns
returns c =
    ap marks_kept c.in-Ok.ensures.entries ∙ marks-put c.args.ready.key c.args.ready.seen c.self.inside.marks.entries c.requires.0 c.self.invariant
    ∙ ap (λ (marks : Marks). put_mark (mark_ready c.args.ready) marks.told) c.self.view_is
