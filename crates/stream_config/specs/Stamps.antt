-- Words of public clauses: the stamps of the service, which are seconds and rise strictly.
use Rattle.std.specs.Prelude.{ℕ, ◌+◌, ◌/◌, max}

-- the stamp of a second behind the last stamp: that second, or the last stamp plus one second if that is later
abbrev pub stamp_after : (last second : ℕ) → ℕ
stamp_after last second = max (last + 1) second

-- the stamp of a time in nanoseconds behind the last stamp
abbrev pub next_stamp : ℕ → ℕ → ℕ
next_stamp last time = stamp_after last (time / 1000000000)
