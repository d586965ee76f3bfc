use Rattle.sub_queue.proofs.Accounts.{marks_told-account_of}
use Rattle.sub_queue.proofs.law.law_of_marks.Goals as goal

pub returns : goal.returns
returns c = record { marks = marks_told-account_of }
