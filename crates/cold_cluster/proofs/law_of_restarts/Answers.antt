use Rattle.cluster_events.specs.Saying.{Says}
use Rattle.group_cluster.proofs.Saying.{says-borne}
use Rattle.cold_cluster.proofs.Coming.{arms-keep, fall-keeps, restart-keeps, start-steady}
use Rattle.cold_cluster.proofs.law_of_restarts.Goals as goal

pub returns : goal.returns
returns c = record {
  starts = start-steady;
  falls = λ plain is_plain state steady. fall-keeps plain is_plain (Says plain) (says-borne plain) state steady;
  restarts = λ plain is_plain state outcome steady restarts. restart-keeps plain is_plain (Says plain) (says-borne plain) state outcome steady restarts;
  arms = λ plain is_plain armed beside state steady. arms-keep plain is_plain (Says plain) (says-borne plain) armed beside state steady;
}
