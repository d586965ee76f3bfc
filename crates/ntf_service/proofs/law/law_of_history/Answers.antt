use Rattle.ntf_service.proofs.HistoryLaws.{begin-rows, end-rows, subscribe-rows, unsubscribe-rows, can_send-history, key-history}
use Rattle.ntf_service.proofs.law.law_of_history.Goals as goal

pub returns : goal.returns
returns c = record {
  begin = begin-rows;
  end = end-rows;
  subscribe = subscribe-rows;
  unsubscribe = unsubscribe-rows;
  sends = can_send-history;
  keys = key-history;
}
