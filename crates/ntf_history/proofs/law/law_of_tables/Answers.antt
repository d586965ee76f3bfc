use Rattle.std.proofs.Common.{refl}
use Rattle.ntf_history.proofs.FitLaws.{has-users}
use Rattle.ntf_history.proofs.AnswerLaws.{has_id-kept, length-kept, is_new-kept, table_of-sound}
use Rattle.ntf_history.proofs.law.law_of_tables.Goals as goal

pub returns : goal.returns
returns c = record {
  users = λ capacity. has-users;
  ids = has_id-kept;
  count = length-kept;
  receipts = is_new-kept;
  sound = table_of-sound;
  empty = λ capacity. refl;
}
