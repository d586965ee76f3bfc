use Rattle.ntf_filters.proofs.Meaning.{is_fit-decides, matches-decides}
use Rattle.ntf_filters.proofs.law.law_of_tests.Goals as goal

pub returns : goal.returns
returns c = record {
  fit = is_fit-decides;
  matching = matches-decides;
}
