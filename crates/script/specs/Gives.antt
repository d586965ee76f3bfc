-- Words of bodies alone: what reading in memory gives, against reading on lists.
use Rattle.std.specs.Prelude.{◌≡◌, Option, Some, None, Result, Ok, Err}
use Rattle.script.specs.declared.trouble.Trouble.{Trouble}
use Rattle.script.specs.declared.trouble.Trouble.TheVariants.{Memory, Bad}

-- nothing is read on lists either, unless memory ran out
abbrev pub Fails : {Y : Type 0} → Trouble → Option Y → Type 0
Fails Memory read = Unit {0}
Fails Bad read = read ≡ None

-- what was returned, seen by view, is what reading on lists gives, unless memory ran out
abbrev pub Gives : {X Y : Type 0} → (X → Y) → Result X Trouble → Option Y → Type 0
Gives view (Ok x) read = read ≡ Some (view x)
Gives view (Err trouble) read = Fails trouble read
