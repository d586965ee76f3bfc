-- What an answer unfolds to compute the fields and the stamp of a second that is written out.
use Rattle.std.specs.Prelude.{⊤}
use Rattle.civil_time.specs.Fields.{year_from, month_from, year_of, month_of, civil_of}
use Rattle.civil_time.specs.Stamps.{stamp_of}

unfoldable pub civil_on_literals : ⊤
unfolding year_from month_from year_of month_of civil_of stamp_of
civil_on_literals = tt
