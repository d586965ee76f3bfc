use Rattle.log_history.proofs.KeptLaws.{begin-status, end-status, open-status, making-in, write-status, filter-status, close-status, store-status}
use Rattle.log_history.proofs.TableLaws.{table-after}
use Rattle.log_service.proofs.law.law_of_history.Goals as goal

pub returns : goal.returns
returns c = record {
  begin = begin-status;
  end = end-status;
  opening = open-status;
  making = making-in;
  write = write-status;
  filter = filter-status;
  close = close-status;
  store = store-status;
  after = table-after;
}
