-- Words of public clauses: how messages are spelled, and which ones can be. Nothing here knows of reading.
use Rattle.std.specs.Prelude.{◌++◌, ◌∷◌, ℕ, List}
use Rattle.wire.specs.declared.message.Message.{Message}
use Rattle.wire.specs.declared.message.Message.TheVariants as message
use Rattle.wire_code.specs.Spelling.{number_text, IsNumber, IsClient, IsCount}
use Rattle.wire.specs.CallSpelling.{call_text, CallFits, reply_text, ReplyFits, item_text, ItemFits, ItemInRange, entry_text, EntryFits, EntryInRange}
use Rattle.wire.specs.SavedSpelling.{saved_text, SavedFits, SavedInRange}

-- a message
unfoldable pub message_text : Message → List ℕ
message_text (message.Request client seq call) = 1 ∷ (number_text 2 client ++ (number_text 4 seq ++ call_text call))
message_text (message.Reply client seq reply) = 2 ∷ (number_text 2 client ++ (number_text 4 seq ++ reply_text reply))
message_text (message.Item client key item) = 3 ∷ (number_text 2 client ++ (number_text 4 key ++ item_text item))
message_text (message.Receipt client key through) = 4 ∷ (number_text 2 client ++ (number_text 4 key ++ number_text 4 through))
message_text (message.Mirror number entry) = 5 ∷ (number_text 8 number ++ entry_text entry)
message_text (message.MirrorAck number) = 6 ∷ number_text 8 number
message_text (message.Snapshot saved) = 7 ∷ saved_text saved
message_text (message.JoinAck number) = 8 ∷ number_text 8 number

abbrev pub MessageFits : Message → Type 0
MessageFits (message.Request client seq call) = IsClient client × IsCount seq × CallFits call
MessageFits (message.Reply client seq reply) = IsClient client × IsCount seq × ReplyFits reply
MessageFits (message.Item client key item) = IsClient client × IsCount key × ItemFits item
MessageFits (message.Receipt client key through) = IsClient client × IsCount key × IsCount through
MessageFits (message.Mirror number entry) = IsNumber 8 number × EntryFits entry
MessageFits (message.MirrorAck number) = IsNumber 8 number
MessageFits (message.Snapshot saved) = SavedFits saved
MessageFits (message.JoinAck number) = IsNumber 8 number

-- the ranges that its types leave open
abbrev pub MessageInRange : Message → Type 0
MessageInRange (message.Request client seq call) = IsClient client × IsCount seq
MessageInRange (message.Reply client seq reply) = IsClient client × IsCount seq
MessageInRange (message.Item client key item) = IsClient client × IsCount key × ItemInRange item
MessageInRange (message.Receipt client key through) = IsClient client × IsCount key × IsCount through
MessageInRange (message.Mirror number entry) = EntryInRange entry
MessageInRange (message.MirrorAck number) = Unit {0}
MessageInRange (message.Snapshot saved) = SavedInRange saved
MessageInRange (message.JoinAck number) = Unit {0}
