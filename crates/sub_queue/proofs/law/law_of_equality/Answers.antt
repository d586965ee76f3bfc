use Rattle.sub_queue.proofs.Equality.{content_eq-decides, item_eq-decides}
use Rattle.sub_queue.proofs.law.law_of_equality.Goals as goal

pub returns-clause-contents : goal.returns-clause-contents
returns-clause-contents c = content_eq-decides

pub returns-clause-items : goal.returns-clause-items
returns-clause-items c = item_eq-decides
