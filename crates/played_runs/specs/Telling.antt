-- Words of public clauses: what callbacks promise of the sends that they tell.
use Rattle.std.specs.Prelude.{ℕ, List, ◌∷◌, Option}
use Rattle.disk_model.specs.Counts.{Counters}
use Rattle.disk_model.specs.Disk.{Files}
use Rattle.disk_model.specs.Seen.{DiskSeen}
use Rattle.plain_service.specs.Setups.{Setup}
use Rattle.cluster_facts.specs.Types.{Callback}
use Rattle.cluster_facts.specs.Messages.{receipts_of, messages_in}
use Rattle.cluster_facts.specs.Agents.{fed_of}
use Rattle.cluster_facts.specs.World.{World}
use Rattle.cluster_events.specs.Servers.{State}
use Rattle.service_laws.specs.Telling.{TellSends, callbacks_of}
use Rattle.played_runs.specs.Games.{Broken, Game}
use Rattle.played_runs.specs.Playing.{PlaysFront, seen_behind}
use Rattle.played_runs.specs.Promises.{Sentence}

-- the callbacks that a client got of its subscription of this key, handed out or not, the first one first; each of an item came
-- with its receipt, so none is left out
abbrev pub callbacks_got : World → (client key : ℕ) → List Callback
callbacks_got world client key = callbacks_of key (receipts_of client (messages_in world.net)) (fed_of (world.agents client))

-- of every subscription ever made, the callbacks that its client got tell of the first ok sends for which it asked while it lasted,
-- each once and in order, and tell as lost the first of those that were dropped
abbrev pub TellsEach : Setup → World → Type 0
TellsEach setup world =
    (client key : ℕ) → TellSends setup world.core.answered client key (callbacks_got world client key)

abbrev pub TellsOnce : {L : Type 0} → Setup → Sentence L
TellsOnce setup lines world told files = TellsEach setup world

module _ {P L S W : Type 0} (game : Game P L S W) where
  -- the same where an event broke off, by the marks of the items that clients were fed
  abbrev pub TellsBroken :
      (setup : Setup) (state : State P) (held left : DiskSeen) (world : W) → (Broken game) setup state held left world → Type 0
  TellsBroken setup state held left world broken =
      (client key : ℕ)
      → TellSends setup broken.rest.core.answered client key (callbacks_of key (broken.fed client).marks (fed_of (broken.rest.agents client)))

  -- so it is behind each front of a script that was played on a disk that told these files before, wherever want of memory in the
  -- next line left the world and the disk as they are now
  abbrev pub TellsAtWant : (held : Option Files) (left : DiskSeen) (world : W) → Type 0
  TellsAtWant held left world =
      (first : Counters) (script done rest : List L) (next : L) (text : List ℕ) (front : (PlaysFront game) held first script done (next ∷ rest) text)
      (broken : (Broken game) front.setup front.goes.state ((seen_behind game) front.goes) left world)
      → TellsBroken front.setup front.goes.state ((seen_behind game) front.goes) left world broken
