use Rattle.std.proofs.Common.{◌≡◌, List, [], ◌∷◌, reverse, subst}
use Rattle.std.specs.Prelude.{MatchOption}
use Rattle.played_runs.proofs.left.LinesLeft.take_next.Goals as goal

pub returns : goal.returns
returns g c =
    subst (λ (old : List g.row.L.Denot). MatchOption c.take_last.result ((old ≡ []) × (reverse c.take_last.new.lines.items ≡ [])) (λ line. old ≡ line ∷ reverse c.take_last.new.lines.items)) c.self.view_is c.take_last.ensures
