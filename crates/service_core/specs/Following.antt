-- Words of public clauses: what an entry is answered, and what a value stands for after it.
use Rattle.std.specs.Prelude.{◌≡◌, List, ◌∷◌, Option, Some, None}
use Rattle.calls.specs.declared.entry.Entry.{Entry}
use Rattle.calls.specs.declared.entry.Entry.TheVariants.{Called, Receipted}
use Rattle.calls.specs.declared.reply.Reply.{Reply}
use Rattle.calls.specs.declared.saved.Saved.{Saved}
use Rattle.plain_service.specs.Setups.{Setup}
use Rattle.plain_service.specs.Replies.{reply_of}
use Rattle.plain_service.specs.Storing.{deeds_of}
use Rattle.plain_service.specs.Values.{StandsFor}
use Rattle.service_core.specs.declared.effect.Effect.{Effect}

-- the reply to an entry after a history: a receipt has none
abbrev pub reply_to_entry : Setup → List Entry → Entry → Option Reply
reply_to_entry setup past (Called client seq now call) = Some (reply_of setup past client now call)
reply_to_entry setup past (Receipted client key through now) = None

-- the value stands for the history with the entry at its head, and the effect is the entry's
pub record HasFollowed (setup : Setup) (past : List Entry) (entry : Entry) (new : Saved) (effect : Effect) : Type 0 where
  pub stands : StandsFor setup (entry ∷ past) new
  pub reply : effect.reply ≡ reply_to_entry setup past entry
  pub deeds : effect.deeds ≡ deeds_of setup past entry
