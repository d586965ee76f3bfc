use Rattle.std.proofs.Common.{reverse, sym, subst, ◌∙◌}
use Rattle.std.proofs.lemmas.List.{length-reverse}
use Rattle.client_window.specs.Windows.{HasRepliesBefore}
use Rattle.client_window.proofs.Keeping.{window_of-some}
use Rattle.client_window.proofs.window.Window.next.Goals as goal

pub returns-clause-stands : goal.returns-clause-stands
returns-clause-stands g c =
    let kept = c.self.inside.replies.items in
    let before = subst (HasRepliesBefore c.self.inside.next) (sym (length-reverse kept)) c.self.invariant.replies in
    let some = window_of-some c.self.inside.next (reverse kept) before in
    (some.0, sym c.self.view_is ∙ some.1)
