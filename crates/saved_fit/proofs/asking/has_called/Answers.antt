use Rattle.std.proofs.Common.{◌<◌, ◌==◌, ap, subst, ◌∙◌}
use Rattle.std.specs.Prelude.{IsTrue, ◌↔◌, MatchOption, Option, find}
use Rattle.calls.specs.declared.saved.SavedWindow.{SavedWindow}
use Rattle.saved_fit.proofs.asking.has_called.Goals as goal

pub returns : goal.returns
returns c =
    let found = c.window_of.ensures ∙ ap (find (λ (window : SavedWindow). window.client == c.args.client)) c.as_slice.ensures in
    subst (λ (one : Option SavedWindow). IsTrue c.tells_of.result ↔ MatchOption one ⊥ (λ (window : SavedWindow). c.args.number < window.next)) found c.tells_of.ensures
