-- The list is that of the event; those deeds carry the files on, and can be performed again.
use Rattle.std.proofs.Common.{subst, sym}
use Rattle.stream_layout.specs.Carrying.{CarryOn}
use Rattle.stream_layout.specs.Repeating.{RepeatSafely}
use Rattle.stream_layout.proofs.CarryLaws.{carry_on}
use Rattle.stream_layout.proofs.RepeatOn.{repeat_on}
use Rattle.stream_layout.proofs.listing.deeds.Goals as goal

pub returns-clause-carried : goal.returns-clause-carried
returns-clause-carried c = subst (CarryOn c.args.event.now) (sym c.in_ok-list.ensures) (carry_on c.args.event.now c.requires)

pub returns-clause-repeated : goal.returns-clause-repeated
returns-clause-repeated c = subst (RepeatSafely c.args.event.now) (sym c.in_ok-list.ensures) (repeat_on c.args.event.now c.requires)
