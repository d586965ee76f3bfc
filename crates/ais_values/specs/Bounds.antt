-- Words of public clauses: bounds of what is accepted.
use Rattle.std.specs.Prelude.{ℕ}

-- the last moment of an entry, in nanoseconds since the first second of 1970
abbrev pub last_moment : ℕ
last_moment = 9000000000000000000

-- how many entries are accepted at the most
abbrev pub most_entries : ℕ
most_entries = 4000000000
