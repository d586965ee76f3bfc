-- Words of public clauses: what the active server makes of the entry in hand once it works.
use Rattle.std.specs.Prelude.{Bool, List, [], Option, Some, None, length, not, ◌==◌}
use Rattle.stream_layout.specs.declared.deed.Deed.{Deed}
use Rattle.wire.specs.declared.message.Message.{Message}
use Rattle.mirror.specs.declared.heard.Outcome.TheVariants.{Worked}
use Rattle.mirror.specs.declared.heard.Heard.{Heard}
use Rattle.mirror.specs.declared.owed.Owed.{Owed}
use Rattle.mirror.specs.Replicas.{ReplicaState}

-- the deeds of the entry in hand
abbrev pub deeds_in : Option Owed → List Deed
deeds_in None = []
deeds_in (Some owed) = owed.deeds

-- its work makes calls of the disk
abbrev pub has_deeds : Option Owed → Bool
has_deeds owed = not (length (deeds_in owed) == 0)

-- the reply to it, where it has one
abbrev pub replies_in : Option Owed → List Message
replies_in None = []
replies_in (Some owed) = owed.to_net

-- the work is done, and the reply is posted, if there is one
abbrev pub worked : List Message → Heard
worked replies = record { to_net = replies; to_peer = []; committed = None; outcome = Worked }

-- the server once nothing is in hand any more
abbrev pub emptied : ReplicaState → ReplicaState
emptied server = record { role = server.role; service = server.service; owed = None }
