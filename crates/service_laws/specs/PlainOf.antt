-- Words of public clauses: the plain service as a record of what it does after each history.
use Rattle.std.specs.Prelude.{map}
use Rattle.calls.specs.declared.entry.Held.{Held}
use Rattle.wire.specs.declared.message.Message.{Message}
use Rattle.wire.specs.declared.message.Message.TheVariants.{Item}
use Rattle.wire.specs.contracts.message.MessagePartialEq.TheImpl as message_impl
use Rattle.cluster_facts.specs.Service.{Plain}
use Rattle.plain_service.specs.Setups.{Setup}
use Rattle.plain_service.specs.Replies.{reply_of}
use Rattle.plain_service.specs.Items.{items_of, made_for, through_for, lasts_for}

-- an item that is held, as the message that brings it
abbrev pub item_message : Held → Message
item_message held = Item held.client held.key held.item

-- what the service of a setup does. No reply depends on the call's number; messages in range have one spelling exactly
-- where they are equal
abbrev pub plain_of : Setup → Plain
plain_of setup = record {
  reply = λ past client number now call. reply_of setup past client now call;
  made = made_for setup;
  through = through_for setup;
  lasts = lasts_for setup;
  held = λ past. map item_message (items_of setup past);
  same = (message_impl.ghosts).eq;
}
