use Rattle.plain_service.specs.Items.{items_of, IsHeldItem}
use Rattle.plain_service.proofs.ItemLaws.{items-grow, items-held, made-held, items-stay, through-starts, through-steps, through-new}
use Rattle.plain_service.proofs.ListLaws.{standing-each}
use Rattle.plain_service.proofs.law.law_of_items.Goals as goal

pub returns : goal.returns
returns c = record {
  grows = items-grow;
  held = λ setup past held. (
    λ stands. standing-each (IsHeldItem setup past) held (items_of setup past) (items-held setup past) stands,
    λ is. made-held setup past held is,
  );
  stays = items-stay;
  begins = through-starts;
  moves = through-steps;
  received = through-new;
}
