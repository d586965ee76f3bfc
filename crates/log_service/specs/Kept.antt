-- Words of bodies alone: how the state is kept.
use Rattle.std.specs.Prelude.{◌≡◌, ◌-◌, false, pos, ◌≤ℤ◌, unsigned_abs, vec_capacity, vec_len}
use Rattle.std.specs.List.{list_any}
use Rattle.log_history.specs.Table.{LogTable, has_nobody}
use Rattle.log_service.specs.State.{AreFew, KeptLog}
use Rattle.log_service.specs.declared.state.LogState.TheInside.{Inside}

abbrev pub table_of : Inside → LogTable
table_of inside =
    record { last = unsigned_abs inside.last; users = inside.users; streams = inside.streams.items }

abbrev pub kept_inside : Inside → KeptLog
kept_inside inside =
    record { table = table_of inside; spare = vec_capacity inside.streams - vec_len inside.streams }

pub record IsKeptState (inside : Inside) : Type 0 where
  pub from : pos 0 ≤ℤ inside.last
  pub few : AreFew inside.streams.items
  pub busy : list_any has_nobody inside.streams.items ≡ false
