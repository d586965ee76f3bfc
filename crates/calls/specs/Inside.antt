-- Words of bodies alone: how a history is stored, its entries in a vector, the oldest first.
use Rattle.std.specs.Prelude.{◌-◌, reverse, vec_len}
use Rattle.std.specs.Vec.{vec_capacity}
use Rattle.calls.specs.declared.history.History.TheInside.{Inside}
use Rattle.calls.specs.History.{Pushed}

abbrev pub pushed_of : Inside → Pushed
pushed_of inside = record { entries = reverse inside.entries.items; spare = vec_capacity inside.entries - vec_len inside.entries }
