-- Words of public clauses: what stands where a cluster may stand for no history, as behind servers that came back by what an outside disk
-- gave them. Nothing is said there of what servers answer; clients and the net are as the clients' own calls made them.
use Rattle.std.specs.Prelude.{◌≡◌, ◌⊎◌, ℕ, List, [], length, Result, Ok, Err}
use Rattle.std.specs.List.{AllByRecursion}
use Rattle.disk_model.specs.declared.answers.DiskAnswer.{DiskAnswer}
use Rattle.disk_model.specs.declared.answers.DiskAnswer.TheVariants.{Memory, Failed, Stopped}
use Rattle.plain_service.specs.Setups.{Setup, IsMoment}
use Rattle.cluster_facts.specs.Types.{Call, Message, Request, Answer, Delivery, Receipt}
use Rattle.cluster_facts.specs.Lists.{Stands}
use Rattle.cluster_facts.specs.Messages.{messages_in}
use Rattle.cluster_facts.specs.Facts.{IsClient, view_of}
use Rattle.cluster_facts.specs.World.{World}
use Rattle.cluster_events.specs.Servers.{State}
use Rattle.cluster_clients.specs.Clients.{ShowsAgents}
use Rattle.cluster_clients.specs.Spelled.{AreSpelled}
use Rattle.cluster_rounds.specs.declared.cluster.Cluster.{Cluster}
use Rattle.cluster_rounds.specs.Kits.{Kit}
use Rattle.cluster_rounds.specs.Worlds.{HasStateOf, HasStateOn}

-- what stands in the net is a request, a receipt, an item, or a reply that names a call which its client sent
abbrev pub NamesCall : List Message → Message → Type 0
NamesCall net (Request client number call) = Unit {0}
NamesCall net (Answer client number reply) = (call : Call) × Stands (Request client number call) net
NamesCall net (Delivery client key item) = Unit {0}
NamesCall net (Receipt client key through) = Unit {0}
NamesCall net _ = ⊥

-- what holds of clients and the net whatever servers answer: the requests of the net are the calls sent, each agent keeps its calls,
-- handles and subscriptions by these, and each reply names one of them
pub record AreClients (seen : World) : Type 0 where
  pub clients : (client : ℕ) → IsClient (view_of client (messages_in seen.net) []) (seen.agents client)
  pub named : AllByRecursion (NamesCall (messages_in seen.net)) (messages_in seen.net)
  pub moment : IsMoment seen.now

-- The cluster of the code stands for a world of clients and net; the history of that world is not read.
pub record ShowsClients {S : Type 0} (seen : World) (world : Cluster S) : Type 0 where
  pub net : AreSpelled seen.net world.net
  pub agents : ShowsAgents seen world.agents
  pub now : world.now ≡ seen.now
  pub callbacks : world.callbacks ≡ seen.places

-- the message, or each of them, stands in the net
abbrev pub Posted : Message → World → Type 0
Posted message seen = Stands message (messages_in seen.net)

abbrev pub AllPosted : List Message → World → Type 0
AllPosted messages seen = AllByRecursion (λ message. Posted message seen) messages

-- what stood in the net stands there
abbrev pub Grows : World → World → Type 0
Grows old new = (message : Message) → Posted message old → Posted message new

-- nothing more is asked
abbrev pub always : World → Type 0
always seen = Unit {0}

module _ {Peers Group : Type 0} (kit : Kit Peers Group) where
  -- the cluster can go on over these disks, though it may stand for no history
  pub record IsWild (seen : World) (world : Cluster Group) (disks : kit.Seen) : Type 0 where
    pub setup : Setup
    pub clients : AreClients seen
    pub shows : ShowsClients seen world
    pub servers : kit.Wild world.servers (messages_in seen.net) (length world.history.entries) disks

  -- and Q is so of clients and net
  pub record HasWild (Q : World → Type 0) (world : Cluster Group) (disks : kit.Seen) : Type 0 where
    pub seen : World
    pub wild : IsWild seen world disks
    pub so : Q seen

  -- the cluster stands for a good state of which P is so; or it may stand for none, and Q is so
  abbrev pub StandsOf : (State Peers → Type 0) → (World → Type 0) → Cluster Group → Type 0
  StandsOf P Q world = (HasStateOf kit) P world ⊎ ((disks : kit.Seen) × HasWild Q world disks)

  abbrev pub StandsOn : (State Peers → Type 0) → (World → Type 0) → Cluster Group → kit.Seen → Type 0
  StandsOn P Q world disks = (HasStateOn kit) P world disks ⊎ HasWild Q world disks

  -- it can still go on behind an event, and the net has what it had
  pub record WildOn (seen : World) (new : Cluster Group) (disks : kit.Seen) : Type 0 where
    pub now : World
    pub wild : IsWild now new disks
    pub net : Grows seen now

  -- behind an event that leaves the disk alone
  abbrev pub KeepsWild : (World → Type 0) → Cluster Group → Cluster Group → Type 0
  KeepsWild Q old new = (disks : kit.Seen) (seen : World) → IsWild seen old disks → Q seen → WildOn seen new disks

  -- the same of a push that answers with these items
  abbrev pub PushesWild : List Message → Cluster Group → Cluster Group → Type 0
  PushesWild items old new = (disks : kit.Seen) (seen : World) → IsWild seen old disks → (on : WildOn seen new disks) × AllPosted items on.now

  -- and behind one over a disk, by how it ended: where memory was wanting, or the disk had a fault, nothing goes on
  abbrev pub GoesWild : {T : Type 0} → (World → Type 0) → Result T DiskAnswer → Cluster Group → Cluster Group → kit.Seen → kit.Seen → Type 0
  GoesWild Q (Ok done) old new held left = (seen : World) → IsWild seen old held → Q seen → WildOn seen new left
  GoesWild Q (Err Stopped) old new held left = (seen : World) → IsWild seen old held → Q seen → WildOn seen new left
  GoesWild Q (Err Memory) old new held left = Unit {0}
  GoesWild Q (Err Failed) old new held left = Unit {0}
