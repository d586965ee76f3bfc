-- Words of public clauses: the sizes of records, and how many a file of a stream holds.
use Rattle.std.specs.Prelude.{◌≡◌, ℕ, ◌+◌, ◌/◌, ◌≤◌, ◌<◌, Bool, nat_le}
use Rattle.stream_config.specs.declared.attrs.StreamAttrs.{StreamAttrs}

-- of records of one size: the greatest file size divided by it, rounded down
abbrev pub records_per_file : StreamAttrs → ℕ
records_per_file attrs = attrs.max_file / attrs.record_size

-- how many bytes a stored record may have: the size of the stream's records, or what its text needs where that is 0
pub record IsLength (attrs : StreamAttrs) (len : ℕ) : Type 0 where
  pub some : 1 ≤ len
  pub most : len ≤ 16384
  pub own : 0 < attrs.record_size → len ≡ attrs.record_size

-- a record of so many bytes fits behind those that stand in a file
abbrev pub has_room : StreamAttrs → (bytes len : ℕ) → Bool
has_room attrs bytes len = nat_le (bytes + len) attrs.max_file
