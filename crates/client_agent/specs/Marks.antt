-- Words of bodies alone: the marks of streams that were told last.
use Rattle.std.specs.Prelude.{ℕ, List}
use Rattle.cluster_facts.specs.Types.{Mark, StreamName}

pub record Marks : Type 0 where
  -- one of a name, by the order in which the names were told first
  pub told : List (StreamName × Mark)
  -- for how many names more there is room
  pub spare : ℕ
