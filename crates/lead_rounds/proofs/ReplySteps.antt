-- The reply of an entry: posted whole, or where the post breaks off posted or not.
use Rattle.std.proofs.Common.{◌≡◌, ◌⊎◌, inl, ℕ, List, ◌++◌}
use Rattle.plain_service.specs.Setups.{Setup}
use Rattle.service_laws.specs.PlainOf.{plain_of}
use Rattle.service_laws.proofs.ServiceLaws.{is_plain}
use Rattle.cluster_facts.specs.Types.{Entry, Called, Receipted, Answer}
use Rattle.cluster_facts.specs.Messages.{Posting}
use Rattle.event_text.specs.Texts.{printed}
use Rattle.group_cluster.specs.Answering.{net_answering, lines_answering}
use Rattle.mirror.specs.Replicas.{replies_owed}
use Rattle.cluster_clients.specs.Posted.{PostsAll, PostsSome}
use Rattle.cluster_clients.specs.Spelled.{AreSpelled}
use Rattle.lead_rounds.proofs.HearBroken.{posts-none, posts-one}

pub answer-posts : (setup : Setup) (past : List Entry) (entry : Entry) (net : List Posting) (old new before after : List (List ℕ)) → PostsAll (replies_owed setup past entry) old new before after → AreSpelled net old → AreSpelled (net_answering (plain_of setup) past entry net) new × (after ≡ before ++ printed (lines_answering (plain_of setup) past entry net))
answer-posts setup past (Called client number time call) net old new before after posts spelled = posts (plain_of setup) net (is_plain setup) spelled
answer-posts setup past (Receipted client key through time) net old new before after posts spelled = posts (plain_of setup) net (is_plain setup) spelled

pub answer-breaks : (setup : Setup) (past : List Entry) (entry : Entry) (net : List Posting) (old new : List (List ℕ)) → PostsSome (replies_owed setup past entry) old new → AreSpelled net old → AreSpelled net new ⊎ AreSpelled (net_answering (plain_of setup) past entry net) new
answer-breaks setup past (Called client number time call) net old new posts spelled =
    posts-one setup (Answer client number ((plain_of setup).reply past client number time call)) net old new posts spelled
answer-breaks setup past (Receipted client key through time) net old new posts spelled = inl (posts-none setup net old new posts spelled)
