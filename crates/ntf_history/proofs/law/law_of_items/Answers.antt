use Rattle.ntf_history.proofs.GrowthLaws.{made-grows, length-made, through-begins, through-moves, through-received}
use Rattle.ntf_history.proofs.law.law_of_items.Goals as goal

pub returns : goal.returns
returns c = record {
  grows = made-grows;
  few = length-made;
  begins = through-begins;
  moves = through-moves;
  received = through-received;
}
