use Rattle.std.proofs.Common.{ℕ, ℤ, Option, Some, None}
use Rattle.calls.specs.declared.entry.Entry.{Entry}
use Rattle.calls.specs.declared.saved.Saved.{Saved}
use Rattle.wire.specs.declared.message.Message.{Message}
use Rattle.wire.specs.declared.message.Message.TheVariants.{Mirror, Snapshot}
use Rattle.mirror.specs.declared.state.NodeState.{NodeState}
use Rattle.mirror.specs.Pairing.{Admits, CanApplyIn, CanReceive, IsNextEntry}
use Rattle.cluster_tests.proofs.exchange_tests.receive_admitted.Goals as goal

-- what a server admits it can receive

applied : (number : ℕ) (entry : Entry) (service : Option Saved) → IsNextEntry number entry service → CanApplyIn entry service
applied number entry None next = tt
applied number entry (Some saved) next = next.1

admitted : (message : Message) (now : ℤ) (node : NodeState) → Admits message node → CanReceive message now node
admitted (Snapshot saved) now node admits = admits.1
admitted (Mirror number entry) now node admits = applied number entry node.replica.service admits.1
admitted _ now node admits = absurd admits

pub receive-requires : goal.receive-requires
receive-requires c = record { receive = admitted c.args.message.now _ c.args.node.now c.requires.admits; few = c.requires.few }
