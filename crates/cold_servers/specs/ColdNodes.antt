-- Words of public clauses: which server and journal the code has, and which messages on the way between them, at a state of the definitions.
use Rattle.std.specs.Prelude.{◌≡◌, suc, Bool, true, false, None, List, [], ◌∷◌, length}
use Rattle.wire.specs.declared.message.Message.{Message}
use Rattle.wire.specs.declared.message.Message.TheVariants as wire
use Rattle.plain_service.specs.Setups.{Setup}
use Rattle.cluster_facts.specs.Types.{Entry}
use Rattle.cluster_facts.specs.History.{Hand, Waiting, Applied, committed_by}
use Rattle.mirror.specs.declared.state.NodeState.{NodeState as Node}
use Rattle.mirror.specs.declared.node.Tie.TheVariants.{Linked}
use Rattle.mirror.specs.Replicas.{down}
use Rattle.mirror.specs.Pairing.{alone}
use Rattle.journal_frames.specs.Frames.{framed}
use Rattle.journal_found.specs.Found.{messages_of, texts_of}
use Rattle.journal_start.specs.declared.journal.Journal.{Journal}
use Rattle.lead_rounds.specs.Leading.{serving_by, waits_by}
use Rattle.cold_cluster.specs.Cold.{Alone}
use Rattle.cold_cluster.specs.Standing.{any_armed}
use Rattle.lone_server.specs.declared.lone.Lone.{Lone}
use Rattle.cold_servers.specs.declared.solo.Solo.{Solo}

-- While the server is up.

-- it is linked to its journal
abbrev pub active_by : Setup → List Entry → Hand → Node
active_by setup past hand =
    record { replica = serving_by setup past hand; waits = waits_by hand; tie = Linked; promised = []; kept = None }

-- an entry that waits is on the way to the journal, and that it joined is on the way back
abbrev pub link_by : List Entry → Hand → List Message
link_by past (Waiting entry) = wire.Mirror (suc (length past)) entry ∷ []
link_by past _ = []

abbrev pub back_by : List Entry → Hand → List Message
back_by past (Applied entry) = wire.MirrorAck (suc (length past)) ∷ []
back_by past _ = []

-- the place of the closed gate of a history's journal, and its entries
abbrev pub journal_by : Setup → List Entry → Journal
journal_by setup history =
    record { end = length (framed (texts_of (messages_of setup history))); number = length history }

abbrev pub up_by : Setup → List Entry → Hand → Alone → Lone
up_by setup past hand peers = record {
  node = active_by setup past hand;
  journal = journal_by setup (committed_by past hand);
  link = link_by past hand;
  back = back_by past hand;
  armed = any_armed peers;
}

-- While it is down: what the field of the journal holds is not spoken of.
pub record IsDown (servers : Lone) : Type 0 where
  pub node : servers.node ≡ alone down
  pub link : servers.link ≡ []
  pub back : servers.back ≡ []
  pub armed : servers.armed ≡ false

-- and neither disk is armed
pub record IsFallen (peers : Alone) (servers : Lone) : Type 0 where
  pub down : IsDown servers
  pub armed : peers.armed ≡ None
  pub beside : peers.beside ≡ None

abbrev pub OwnBy : Bool → Setup → List Entry → Hand → Alone → Lone → Type 0
OwnBy true setup past hand peers servers = servers ≡ up_by setup past hand peers
OwnBy false setup past hand peers servers = IsFallen peers servers

-- the server and journal of the code at what is kept
abbrev pub Own : Setup → List Entry → Hand → Alone → Solo → Type 0
Own setup past hand peers servers = OwnBy peers.up setup past hand peers servers.lone
