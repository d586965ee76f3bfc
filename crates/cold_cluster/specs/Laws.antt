-- Words of public clauses: what an event keeps and says.
use Rattle.cluster_facts.specs.Service.{Plain}
use Rattle.cluster_events.specs.Outcomes.{Outcome}
use Rattle.cluster_events.specs.Saying.{Says}
use Rattle.cluster_events.specs.Servers.{State}
use Rattle.cluster_events.specs.Serving.{IsSteady}
use Rattle.cold_cluster.specs.Cold.{Alone, IsCold}

-- the facts hold behind it, and its lines say what happened
abbrev pub Keeps : Plain → State Alone → Outcome (State Alone) → Type 0
Keeps plain state outcome = IsSteady plain IsCold outcome.state × Says plain state.world outcome.state.world outcome.told
