-- Words of public clauses: readers of stored alarms, by what changed them.
use Rattle.std.specs.Prelude.{ℕ, ◌==◌, nat_lt, Bool, if◌then◌else◌, List, [], ◌∷◌, map, Option, Some, None}
use Rattle.ntf_filters.specs.declared.filter.FilterSet.{FilterSet}
use Rattle.alarm_view.specs.declared.cursor.Cursor.{Cursor}
use Rattle.client_set.specs.Rising.{put, without}

-- a reader: its client, what it asks for, and its point: the last alarm that it was told, or the starting one with the mark that none was told yet
pub record Reader : Type 0 where
  pub client : ℕ
  pub filters : FilterSet
  pub cursor : Cursor

-- a client started a reader, its reader was told an alarm, or it stopped, by its own call or with the client's use
pub data ReaderChange : Type 0 where
  Started : (client : ℕ) (filters : FilterSet) (cursor : Cursor) → ReaderChange
  Told : (client : ℕ) (cursor : Cursor) → ReaderChange
  Stopped : (client : ℕ) → ReaderChange

abbrev pub moved_to : Cursor → Option Reader → Option Reader
moved_to cursor None = None
moved_to cursor (Some reader) = Some (record { client = reader.client; filters = reader.filters; cursor = cursor })

-- the reader of a client, if it has one
abbrev pub reader_of : List ReaderChange → ℕ → Option Reader
reader_of [] client = None
reader_of (Started other filters cursor ∷ past) client =
    if other == client then Some (record { client = other; filters = filters; cursor = cursor }) else reader_of past client
reader_of (Told other cursor ∷ past) client =
    if other == client then moved_to cursor (reader_of past client) else reader_of past client
reader_of (Stopped other ∷ past) client = if other == client then None else reader_of past client

abbrev pub reader_first : Reader → Reader → Bool
reader_first one other = nat_lt one.client other.client

abbrev pub is_reader_of : ℕ → Reader → Bool
is_reader_of client reader = reader.client == client

abbrev pub move : ℕ → Cursor → Reader → Reader
move client cursor reader = record {
  client = reader.client;
  filters = reader.filters;
  cursor = if reader.client == client then cursor else reader.cursor;
}

-- the readers, in order of their clients
abbrev pub readers : List ReaderChange → List Reader
readers [] = []
readers (Started client filters cursor ∷ past) =
    put reader_first (record { client = client; filters = filters; cursor = cursor }) (readers past)
readers (Told client cursor ∷ past) = map (move client cursor) (readers past)
readers (Stopped client ∷ past) = without (is_reader_of client) (readers past)
