-- Words of public clauses: what an active server hears and pushes, on its parts.
use Rattle.std.specs.Prelude.{◌≡◌, ◌⊎◌, ℕ, ℤ, List}
use Rattle.std.specs.List.{AllByRecursion}
use Rattle.plain_service.specs.Setups.{Setup}
use Rattle.service_laws.specs.PlainOf.{plain_of}
use Rattle.wire.specs.declared.message.Message.{Message}
use Rattle.wire.specs.MessageSpelling.{MessageInRange}
use Rattle.cluster_facts.specs.Types.{Entry}
use Rattle.cluster_clients.specs.Posted.{PostsSome}
use Rattle.mirror.specs.declared.heard.Heard.{Heard}
use Rattle.mirror.specs.declared.state.NodeState.{NodeState as Node}
use Rattle.mirror.specs.ByValue.{items_pushed}
use Rattle.mirror.specs.Replicas.{ReplicaState, HasRoom, at_rest}
use Rattle.mirror.specs.Pairing.{IsHeard, IsReceived}
use Rattle.lead_server.specs.Told.{IsTold}

-- whatever it answers to this message can be spelled
abbrev pub AnswersInRange : Message → ℤ → Node → Type 0
AnswersInRange message now active =
    (heard : Heard) (new : Node) → IsHeard message now active heard new → AllByRecursion MessageInRange heard.to_net

-- a message was heard and told, where a further entry could be accepted, and this goes to the servers beside
pub record Hears (place : ℕ) (message : Message) (now : ℤ) (old new : Node) (old_net new_net : List (List ℕ)) (past entries : List Entry)
    (before after : List (List ℕ)) (mirrored : List Message) : Type 0 where
  pub room : HasRoom old.replica.service
  pub heard : Heard
  pub hears : IsHeard message now old heard new
  pub told : IsTold place heard old_net new_net past entries before after
  pub beside : mirrored ≡ heard.to_peer

-- memory was wanting: nothing was heard, or what was heard is told in part, where a further entry could be accepted. The history stands
pub record HearsPartly (message : Message) (now : ℤ) (old new : Node) (old_net new_net : List (List ℕ)) (past entries : List Entry) : Type 0 where
  pub history : entries ≡ past
  pub part :
      ((new ≡ old) × (new_net ≡ old_net))
      ⊎ ((heard : Heard) × IsHeard message now old heard new × PostsSome heard.to_net old_net new_net × HasRoom old.replica.service)

-- a message of a server beside was heard
pub record IsConfirmed (message : Message) (old new : Node) : Type 0 where
  pub moment : ℤ
  pub heard : Heard
  pub received : IsReceived old.replica.role message moment old heard new

-- the items without receipt, of a server with nothing in hand
abbrev pub IsHeldBy : ReplicaState → List Message → Type 0
IsHeldBy replica items =
    (setup : Setup) (past : List Entry) → replica ≡ at_rest setup past → items ≡ (plain_of setup).held past

-- whatever items it holds, by a history that it stands for and by the value of its service, can be spelled
abbrev pub HoldsInRange : ReplicaState → Type 0
HoldsInRange replica =
    (items : List Message) → IsHeldBy replica items → items ≡ items_pushed replica.service → AllByRecursion MessageInRange items

-- memory was wanting: some of them were posted, from the first on, or none
abbrev pub PushesPartly : ReplicaState → List (List ℕ) → List (List ℕ) → Type 0
PushesPartly replica old_net new_net =
    (new_net ≡ old_net)
    ⊎ ((items : List Message) × IsHeldBy replica items × PostsSome items old_net new_net × (items ≡ items_pushed replica.service))
