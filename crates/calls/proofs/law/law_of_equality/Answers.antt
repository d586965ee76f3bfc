use Rattle.calls.proofs.Equality.{reply_eq-decides, entry_eq-decides}
use Rattle.calls.proofs.SavedEquality.{saved_eq-decides}
use Rattle.calls.proofs.law.law_of_equality.Goals as goal

pub returns-clause-replies : goal.returns-clause-replies
returns-clause-replies c = reply_eq-decides

pub returns-clause-entries : goal.returns-clause-entries
returns-clause-entries c = entry_eq-decides

pub returns-clause-saved : goal.returns-clause-saved
returns-clause-saved c = saved_eq-decides
