-- Words of bodies alone: what a table of tokens has for two letters.
use Rattle.std.specs.Prelude.{ℕ, ◌∷◌, [], List, ◌&&◌, ◌==◌, if◌then◌else◌, Option, Some, None}
use Rattle.format_expr.specs.declared.token.Part.{Part}
use Rattle.format_expr.specs.declared.token.TokenRow.{TokenRow}

-- the first row of a table of tokens that has these letters
abbrev pub part_in : List TokenRow → ℕ → ℕ → Option Part
part_in [] class field = None
part_in (row ∷ rows) class field =
    if row.class == class && row.field == field then Some row.part else part_in rows class field
