use Rattle.std.proofs.Common.{rules}
use Rattle.std.proofs.lemmas.Fn.{always_returns_same}
use Rattle.alarm_view.specs.Inside.{place_first}
use Rattle.alarm_view.proofs.Sorting.{place_first-order}
use Rattle.alarm_view.proofs.rebuilding.sort.Goals as goal

pub returns-clause-sorted : goal.returns-clause-sorted
returns-clause-sorted c =
    c.sort_unstable_by.ensures.sorted place_first place_first-order (always_returns_same _ _ _ (λ a r q k. search rules))
