-- Words of public clauses: the history of what was accepted.
use Rattle.std.specs.Prelude.{ℕ, List, []}
use Rattle.calls.specs.declared.entry.Entry.{Entry}

-- the entries that were pushed, the newest first, and for how many more there is room
pub record Pushed : Type 0 where
  pub entries : List Entry
  pub spare : ℕ

-- nothing was pushed, and there is no room yet
abbrev pub empty_history : Pushed
empty_history = record { entries = []; spare = 0 }
