use Rattle.std.proofs.Common.{sym, ◌∙◌}
use Rattle.log_history.specs.Chronicle.{chronicle}
use Rattle.log_history.proofs.StampedLaws.{stamped}
use Rattle.log_history.proofs.NamedLaws.{names-once}
use Rattle.log_history.proofs.FoundLaws.{found-tells, file-at}
use Rattle.log_history.proofs.law.law_of_names.Goals as goal

pub returns : goal.returns
returns c = record {
  stamps = λ setup past. (stamped setup past).once;
  last = λ setup past stamp. (stamped setup past).upto stamp;
  names = names-once;
  files = λ setup past name bytes found. found-tells (chronicle setup past).streams name bytes (sym (file-at setup past name) ∙ found);
}
