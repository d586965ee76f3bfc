use Rattle.std.proofs.Common.{List, sym, subst}
use Rattle.std.specs.List.{AllByRecursion}
use Rattle.wire.specs.declared.message.Message.{Message}
use Rattle.wire.specs.MessageSpelling.{MessageInRange}
use Rattle.lead_server.proofs.hearing.push.Goals as goal

pub post_all-requires : goal.post_all-requires
post_all-requires c =
    subst (λ (items : List Message). AllByRecursion MessageInRange items) (sym c.as_slice.ensures)
    (c.requires.range c.in_ok-items.items c.in_ok-items.ensures.history c.in_ok-items.ensures.value)
