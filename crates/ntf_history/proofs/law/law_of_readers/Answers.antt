use Rattle.ntf_history.proofs.ReaderLaws.{readers-rising, find-reader}
use Rattle.ntf_history.proofs.law.law_of_readers.Goals as goal

pub returns : goal.returns
returns c = record { order = readers-rising; reader = find-reader }
