-- Words of public clauses: what is seen of a server, and what it is as the active server of a history, at rest and with an entry in hand.
use Rattle.std.specs.Prelude.{◌≡◌, ℕ, ◌<◌, ◌⊎◌, List, [], ◌∷◌, Option, Some, None, option_map}
use Rattle.ais_values.specs.Bounds.{most_entries}
use Rattle.calls.specs.declared.entry.Entry.{Entry}
use Rattle.calls.specs.declared.entry.Entry.TheVariants.{Called, Receipted}
use Rattle.calls.specs.declared.saved.Saved.{Saved}
use Rattle.wire.specs.declared.message.Message.{Message}
use Rattle.wire.specs.declared.message.Message.TheVariants.{Reply as Answer}
use Rattle.plain_service.specs.Setups.{Setup}
use Rattle.plain_service.specs.Replies.{reply_of}
use Rattle.plain_service.specs.Storing.{deeds_of}
use Rattle.plain_service.specs.Values.{saved_of}
use Rattle.mirror.specs.declared.heard.Role.{Role}
use Rattle.mirror.specs.declared.heard.Role.TheVariants.{Active, Standby, Down}
use Rattle.mirror.specs.declared.owed.Owed.{Owed}

-- a server's role, the value of its service, and what the entry in hand asks for
pub record ReplicaState : Type 0 where
  pub role : Role
  pub service : Option Saved
  pub owed : Option Owed

abbrev pub down : ReplicaState
down = record { role = Down; service = None; owed = None }

-- a server that begins with the value of a service
abbrev pub started : Role → Saved → ReplicaState
started role saved = record { role = role; service = Some saved; owed = None }

-- a role in which a server has the value of the service
abbrev pub HasService : Role → Type 0
HasService role = (role ≡ Active) ⊎ (role ≡ Standby)

-- a receipt has no reply
abbrev pub replies_owed : Setup → List Entry → Entry → List Message
replies_owed setup past (Called client number time call) = Answer client number (reply_of setup past client time call) ∷ []
replies_owed setup past (Receipted client key through time) = []

-- what an entry asks for: its deeds, and the reply that is posted once they are done
abbrev pub owed_of : Setup → List Entry → Entry → Owed
owed_of setup past entry = record { deeds = deeds_of setup past entry; to_net = replies_owed setup past entry }

-- the active server after a history, with nothing in hand
abbrev pub at_rest : Setup → List Entry → ReplicaState
at_rest setup past = record { role = Active; service = Some (saved_of setup past); owed = None }

-- the active server with an entry in hand that follows a history and is ready to work
abbrev pub at_work : Setup → List Entry → Entry → ReplicaState
at_work setup past entry =
    record { role = Active; service = Some (saved_of setup (entry ∷ past)); owed = Some (owed_of setup past entry) }

-- how many entries the service has applied
abbrev pub number_of : ReplicaState → Option ℕ
number_of server = option_map (λ (saved : Saved). saved.number) server.service

-- the number of the entry in hand, that is of the last one
abbrev pub number_in : Option Owed → Option ℕ → Option ℕ
number_in None number = None
number_in (Some owed) number = number

abbrev pub number_in_hand : ReplicaState → Option ℕ
number_in_hand server = number_in server.owed (number_of server)

-- the service can take a further entry: fewer than 4,000,000,000 were accepted
abbrev pub HasRoom : Option Saved → Type 0
HasRoom None = Unit {0}
HasRoom (Some saved) = saved.number < most_entries
