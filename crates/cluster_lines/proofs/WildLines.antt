-- Lines over clusters that may stand for no history.
use Rattle.std.proofs.Common.{ℤ, List, length, refl, sym, subst}
use Rattle.std.specs.Prelude.{Result, Ok, Err, OnOk}
use Rattle.disk_model.specs.Seen.{DiskSeen}
use Rattle.disk_model.specs.declared.answers.DiskAnswer.{DiskAnswer}
use Rattle.disk_model.specs.declared.answers.DiskAnswer.TheVariants.{Memory, Failed, Stopped}
use Rattle.wire.specs.declared.message.Message.{Message}
use Rattle.plain_service.specs.Setups.{IsMoment}
use Rattle.cluster_facts.specs.Messages.{messages_in}
use Rattle.cluster_facts.specs.World.{World}
use Rattle.cluster_rounds.specs.declared.cluster.Cluster.{Cluster}
use Rattle.cluster_rounds.specs.Kits.{IsKit, Kit}
use Rattle.cluster_rounds.specs.Seen.{IsRead}
use Rattle.cluster_rounds.specs.Wild.{GoesWild, IsWild, KeepsWild, PushesWild, WildOn, always}
use Rattle.cluster_rounds.proofs.WildSteps.{wild-same}
use Rattle.cluster_lines.specs.Answers.{EndsAs}

module _ {Peers Group : Type 0} (kit : Kit Peers Group) (laws : IsKit kit) where
  -- nothing of the cluster changed
  pub same-wild : (world : Cluster Group) → (KeepsWild kit) always world world
  same-wild world disks seen wild so = (wild-same kit) seen world disks wild

  -- another time is in force
  pub time-wild : (now : ℤ) (old : Cluster Group) → IsMoment now → (KeepsWild kit) always old (record old { now = now })
  time-wild now old moment disks seen wild so = record {
    now = record seen { now = now };
    wild = record {
      setup = wild.setup;
      clients = record { clients = wild.clients.clients; named = wild.clients.named; moment = moment };
      shows = record {
        net = wild.shows.net;
        agents = record { shown = wild.shows.agents.shown; rising = wild.shows.agents.rising; listed = wild.shows.agents.listed };
        now = refl;
        callbacks = wild.shows.callbacks;
      };
      servers = wild.servers;
    };
    net = λ message posted. posted;
  }

  -- items were posted
  pub pushed-wild : (items : List Message) (old new : Cluster Group) → (PushesWild kit) items old new → (KeepsWild kit) always old new
  pushed-wild items old new pushes disks seen wild so = (pushes disks seen wild).0

  -- a line that leaves the disks alone
  pub ends-wild : {T E : Type 0} (r : Result T E) (s : Result T DiskAnswer) (old new : Cluster Group) (held : kit.Seen) → EndsAs r s → OnOk r ((KeepsWild kit) always old new) → (GoesWild kit) {T = T} always s old new held held
  ends-wild (Ok x) (Ok y) old new held same keeps = keeps held
  ends-wild (Ok x) (Err f) old new held same keeps = elim same [ ]
  ends-wild (Err e) (Ok y) old new held same keeps = elim same [ ]
  ends-wild {T = T} (Err e) (Err f) old new held same keeps = subst (λ (answer : DiskAnswer). (GoesWild kit) {T = T} always (Err answer) old new held held) (sym same) tt

  -- files were shown, or were to be
  read-on : (seen : World) (world : Cluster Group) (one two beside : DiskSeen) → IsRead one two → (IsWild kit) seen world (kit.see one beside) → (WildOn kit) seen world (kit.see two beside)
  read-on seen world one two beside read wild = record {
    now = seen;
    wild = record {
      setup = wild.setup;
      clients = wild.clients;
      shows = wild.shows;
      servers = laws.read_wild world.servers (messages_in seen.net) (length world.history.entries) one two beside read wild.servers;
    };
    net = λ message posted. posted;
  }

  pub shown-wild : {T : Type 0} (r : Result T DiskAnswer) (world : Cluster Group) (one two beside : DiskSeen) → IsRead one two → (GoesWild kit) {T = T} always r world world (kit.see one beside) (kit.see two beside)
  shown-wild (Ok x) world one two beside read = λ seen wild so. read-on seen world one two beside read wild
  shown-wild (Err Stopped) world one two beside read = λ seen wild so. read-on seen world one two beside read wild
  shown-wild (Err Memory) world one two beside read = tt
  shown-wild (Err Failed) world one two beside read = tt
