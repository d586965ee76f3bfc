-- What a picture that is not drawn tells. Words of public clauses.
use Rattle.std.specs.Prelude.{ℕ, ◌≤◌, ⊤}
use Rattle.run_chart.specs.declared.drawing.DrawError.{DrawError}
use Rattle.run_chart.specs.declared.drawing.DrawError.TheVariants.{Memory, Unknown}

-- of so many lines one is named by its number, or memory ran out
abbrev pub Tells : ℕ → DrawError → Type 0
Tells count Memory = ⊤
Tells count (Unknown line) = (1 ≤ line) × (line ≤ count)
