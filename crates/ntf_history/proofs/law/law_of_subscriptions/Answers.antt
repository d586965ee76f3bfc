use Rattle.ntf_history.proofs.KeyLaws.{subs-rising}
use Rattle.ntf_history.proofs.GrowthLaws.{subs-after}
use Rattle.ntf_history.proofs.FitLaws.{length-subs, subs-users, subs-ids, queues-sound}
use Rattle.ntf_history.proofs.law.law_of_subscriptions.Goals as goal

pub returns : goal.returns
returns c = record {
  after = subs-after;
  order = subs-rising;
  few = length-subs;
  clients = subs-users;
  ids = subs-ids;
  queues = λ capacity past sub. queues-sound capacity past sub.client sub.key;
}
