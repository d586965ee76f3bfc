use Rattle.cluster_events.specs.Measure.{Spends}
use Rattle.cluster_events.specs.Saying.{Says}
use Rattle.group_cluster.proofs.Saying.{group-says, group-spends, says-borne}
use Rattle.group_cluster.proofs.Serving.{group-stepped}
use Rattle.cold_cluster.specs.Cold.{calm}
use Rattle.cold_cluster.proofs.Doing.{cold-carries, cold-serves, cold-stepped}
use Rattle.cold_cluster.proofs.law_of_cold.Goals as goal

pub returns : goal.returns
returns c = record {
  serves = λ shown plain device is_plain. cold-serves shown plain is_plain device;
  spends = λ shown plain device is_plain. cold-carries shown plain is_plain device Spends (group-spends 2 plain (calm device) is_plain);
  says = λ shown plain device is_plain. cold-carries shown plain is_plain device (Says plain) (group-says 2 plain (calm device) is_plain);
  stepped = λ shown plain device is_plain.
      cold-stepped shown plain is_plain device (Says plain) (group-stepped 2 plain is_plain (calm device) (Says plain) (says-borne plain));
}
