-- Words of public clauses: the codes of search modes and directions.
use Rattle.std.specs.Prelude.{ℕ, ◌==◌, Option, [], ◌∷◌}
use Rattle.ais_values.specs.FirstRow.{first_row}
use Rattle.alarm_view.specs.declared.mode.SearchMode.{SearchMode}
use Rattle.alarm_view.specs.declared.mode.SearchMode.TheVariants.{BeforeOrAtTime, AtTime, AtOrAfterTime, BeforeTime, AfterTime, NotificationId, OnlyFilter}
use Rattle.alarm_view.specs.declared.mode.Direction.{Direction}
use Rattle.alarm_view.specs.declared.mode.Direction.TheVariants.{Older, Younger}

abbrev pub mode_of : ℕ → Option SearchMode
mode_of code =
    first_row ((code == 1, BeforeOrAtTime) ∷ (code == 2, AtTime) ∷ (code == 3, AtOrAfterTime) ∷ (code == 4, BeforeTime)
    ∷ (code == 5, AfterTime) ∷ (code == 6, NotificationId) ∷ (code == 7, OnlyFilter) ∷ [])

abbrev pub direction_of : ℕ → Option Direction
direction_of code = first_row ((code == 1, Older) ∷ (code == 2, Younger) ∷ [])

-- the direction in which a mode's starting alarm is the first of those that pass: the youngest up to a time, and else the oldest
abbrev pub way_of : SearchMode → Direction
way_of BeforeOrAtTime = Older
way_of AtTime = Younger
way_of AtOrAfterTime = Younger
way_of BeforeTime = Older
way_of AfterTime = Younger
way_of NotificationId = Younger
way_of OnlyFilter = Younger
