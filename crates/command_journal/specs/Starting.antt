-- Words of bodies alone: the steps of a start.
use Rattle.std.specs.Prelude.{◌≡◌, ℕ, ℤ, false, List, []}
use Rattle.calls.specs.History.{empty_history}
use Rattle.stream_layout.specs.declared.deed.Deed.{Deed}
use Rattle.wire.specs.declared.message.Message.{Message}
use Rattle.wire.specs.declared.message.Message.TheVariants.{Snapshot}
use Rattle.plain_service.specs.Setups.{Setup}
use Rattle.plain_service.specs.Storing.{opening_of}
use Rattle.plain_service.specs.Values.{saved_of}
use Rattle.mirror.specs.declared.state.NodeState.{NodeState as Node}
use Rattle.cluster_facts.specs.History.{Empty}
use Rattle.journal_start.specs.declared.journal.Journal.{Journal}
use Rattle.cold_servers.specs.ColdNodes.{active_by}
use Rattle.command_journal.specs.declared.beginning.Opening.{Opening}
use Rattle.command_journal.specs.declared.world.ColdWorld.{ColdWorld}
use Rattle.disk_model.specs.declared.answers.DiskAnswer.{DiskAnswer}
use Rattle.disk_model.specs.declared.answers.DiskAnswer.TheVariants as answers
use Rattle.command_journal.specs.declared.answer.EventAnswer.{EventAnswer}
use Rattle.command_journal.specs.declared.answer.EventAnswer.TheVariants.{Memory, DiskFault}

-- the message that brings the value of the empty history
abbrev pub first_message : Setup → Message
first_message setup = Snapshot (saved_of setup [])

-- the server at the start of a setup, linked to its journal; the value of its service; and the deeds of the start
pub record Starts (setup : Setup) (active : Node) (message : Message) (made : List Deed) : Type 0 where
  pub node : active ≡ active_by setup [] Empty
  pub snapshot : message ≡ first_message setup
  pub deeds : made ≡ opening_of setup

-- the same, with the time and the places that a cluster line tells
pub record Opens (setup : Setup) (places : ℕ) (opening : Opening) : Type 0 where
  pub starts : Starts setup opening.node opening.snapshot opening.deeds
  pub start : opening.start ≡ setup.start
  pub callbacks : opening.callbacks ≡ places

-- a world in which nothing was posted, with this server and journal
abbrev pub world_of : Node → Journal → ℤ → ℕ → ColdWorld
world_of node journal start callbacks = record {
  node = node;
  journal = journal;
  link = [];
  back = [];
  net = [];
  agents = [];
  history = empty_history;
  now = start;
  armed = false;
  callbacks = callbacks;
}

-- why the start was not done
abbrev pub broken_by : DiskAnswer → EventAnswer
broken_by answers.Memory = Memory
broken_by answers.Failed = DiskFault []
broken_by answers.Stopped = Memory
