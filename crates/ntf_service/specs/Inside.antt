-- Words of bodies alone: how the state is kept.
use Rattle.ntf_service.specs.declared.state.NtfState.TheInside.{Inside}
use Rattle.ntf_history.specs.Tables.{NtfTable, IsSoundTable}
use Rattle.ntf_service.specs.Told.{KeptNtf, all_told, spare_in}
use Rattle.ntf_service.specs.ByKind.{IsByKind, filters_of}
use Rattle.ntf_service.specs.Rooms.{HaveRoomsBut}

abbrev pub table_inside : Inside → NtfTable
table_inside inside = record {
  capacity = inside.capacity;
  users = inside.users;
  last_id = inside.last_id;
  subs = all_told inside.subs.items;
}

abbrev pub kept_inside : Inside → KeptNtf
kept_inside inside =
    record { table = table_inside inside; spare = spare_in inside.subs.items }

-- the table is sound, the places by types are those of its subscriptions, and there is room in each queue that is not told to lack it
pub record IsKept (inside : Inside) : Type 0 where
  pub table : IsSoundTable (table_inside inside)
  pub places : IsByKind inside.by_kind (filters_of inside.subs.items)
  pub rooms : HaveRoomsBut inside.lacking.items inside.subs.items
