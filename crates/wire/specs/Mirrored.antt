-- Words of public clauses: the entry that a message brings, and the value of a service.
use Rattle.std.specs.Prelude.{ℕ, Option, Some, None}
use Rattle.calls.specs.declared.entry.Entry.{Entry}
use Rattle.calls.specs.declared.saved.Saved.{Saved}
use Rattle.wire.specs.declared.message.Message.{Message}
use Rattle.wire.specs.declared.message.Message.TheVariants.{Mirror, Snapshot}

-- the number and the entry of a message that mirrors one
abbrev pub entry_in : Message → Option (ℕ × Entry)
entry_in (Mirror number entry) = Some (number, entry)
entry_in _ = None

-- the same, where there is a message
abbrev pub entry_brought : Option Message → Option (ℕ × Entry)
entry_brought None = None
entry_brought (Some message) = entry_in message

-- the value of the service, of a message that brings it
abbrev pub saved_in : Message → Option Saved
saved_in (Snapshot saved) = Some saved
saved_in _ = None
