use Rattle.journal_found.proofs.Chains.{journal-broken, journal-done, journal-made, staged-finds}
use Rattle.journal_found.proofs.law_of_found.Goals as goal

pub returns-clause-made : goal.returns-clause-made
returns-clause-made c = journal-made

pub returns-clause-done : goal.returns-clause-done
returns-clause-done c = journal-done

pub returns-clause-broken : goal.returns-clause-broken
returns-clause-broken c = journal-broken

pub returns-clause-finds : goal.returns-clause-finds
returns-clause-finds c = staged-finds
