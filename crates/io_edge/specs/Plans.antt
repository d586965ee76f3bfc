-- Words of public clauses: which calls of an object in memory fail.
use Rattle.std.specs.Prelude.{ℕ, List, Contains}
use Rattle.ais_values.specs.Causes.{one_more}

-- the numbers of the calls that fail, counted from 1; how many calls were made, and how many of them failed
pub record Plan : Type 0 where
  pub failing : List ℕ
  pub calls : ℕ
  pub faults : ℕ

-- before the first call
abbrev pub first_plan : List ℕ → Plan
first_plan failing = record { failing = failing; calls = 0; faults = 0 }

-- the next call is one of those that fail
abbrev pub FailsNext : Plan → Type 0
FailsNext plan = Contains plan.failing (one_more plan.calls)

-- after a call that did not fail
abbrev pub after_call : Plan → Plan
after_call plan = record { failing = plan.failing; calls = one_more plan.calls; faults = plan.faults }

-- after a call that failed
abbrev pub after_fault : Plan → Plan
after_fault plan = record { failing = plan.failing; calls = one_more plan.calls; faults = one_more plan.faults }
