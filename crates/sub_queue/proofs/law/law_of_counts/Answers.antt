use Rattle.sub_queue.specs.History.{account_of}
use Rattle.sub_queue.proofs.Accounts.{account_of-possible, held-places, next_number-made, queue_for-sound}
use Rattle.sub_queue.proofs.law.law_of_counts.Goals as goal

pub returns-clause-receipts : goal.returns-clause-receipts
returns-clause-receipts c = λ capacity past. (account_of-possible capacity past).receipts

pub returns-clause-places : goal.returns-clause-places
returns-clause-places c =
    λ capacity past. held-places capacity (account_of capacity past) (account_of-possible capacity past)

pub returns-clause-numbers : goal.returns-clause-numbers
returns-clause-numbers c =
    λ capacity past. next_number-made capacity (account_of capacity past) (account_of-possible capacity past)

pub returns-clause-sound : goal.returns-clause-sound
returns-clause-sound c =
    λ capacity past. queue_for-sound capacity (account_of capacity past) (account_of-possible capacity past)
