use Rattle.sub_queue.specs.History.{account_of}
use Rattle.sub_queue.proofs.Accounts.{account_of-possible, is_new_receipt-decides, offered-queue_for, received-queue_for, numbered-held}
use Rattle.sub_queue.proofs.law.law_of_calls.Goals as goal

pub returns-clause-offer : goal.returns-clause-offer
returns-clause-offer c =
    λ capacity past notification. offered-queue_for capacity notification (account_of capacity past) (account_of-possible capacity past)

pub returns-clause-receipt : goal.returns-clause-receipt
returns-clause-receipt c =
    λ capacity past through. received-queue_for capacity through (account_of capacity past)

pub returns-clause-newness : goal.returns-clause-newness
returns-clause-newness c =
    λ capacity past through. is_new_receipt-decides capacity through (account_of capacity past)

pub returns-clause-items : goal.returns-clause-items
returns-clause-items c =
    λ capacity past. numbered-held (account_of capacity past).through (account_of capacity past).made
