-- Words of public clauses: what a contract sees of the sources and sinks of this crate.
use Rattle.std.specs.Prelude.{ℕ, List, Option}
use Rattle.io_edge.specs.Plans.{Plan}

-- a source in memory: the bytes that are left to read, and which of its reading calls fail
pub record MemInput : Type 0 where
  pub left : List ℕ
  pub plan : Plan

-- a sink in memory: the bytes that were written, and which of its writing calls fail
pub record MemOutput : Type 0 where
  pub written : List ℕ
  pub plan : Plan

-- a stream of std: the bytes that it tells, and how often it failed
pub record Stream : Type 0 where
  pub bytes : Option (List ℕ)
  pub faults : ℕ
