-- Words of public clauses: a server that may stand for no history, as behind a cold start from a journal's disk that tells no files. Any
-- fit journal may be found there.
use Rattle.std.specs.Prelude.{◌≡◌, ◌⊎◌, ℕ, suc, ◌+◌, ◌*◌, ◌≤◌, ◌||◌, Option, Some, None, List, [], ◌∷◌}
use Rattle.std.specs.Option.{is_some}
use Rattle.std.specs.List.{AllByRecursion}
use Rattle.calls.specs.declared.saved.Saved.{Saved}
use Rattle.calls.specs.declared.saved.SavedSub.{SavedSub}
use Rattle.wire.specs.declared.message.Message.TheVariants as wire
use Rattle.plain_service.specs.Fitness.{IsFit}
use Rattle.cluster_facts.specs.Types.{Call, Entry, Message, Request, Answer}
use Rattle.cluster_facts.specs.Lists.{Stands}
use Rattle.cluster_facts.specs.Messages.{message_of}
use Rattle.cluster_facts.specs.History.{Hand, Empty, Waiting, Applied, Ready}
use Rattle.mirror.specs.declared.owed.Owed.{Owed}
use Rattle.mirror.specs.declared.state.NodeState.{NodeState as Node}
use Rattle.mirror.specs.declared.node.Tie.TheVariants.{Linked}
use Rattle.mirror.specs.ByValue.{serving}
use Rattle.lead_rounds.specs.Leading.{waits_by}
use Rattle.lone_server.specs.declared.lone.Lone.{Lone}
use Rattle.cold_servers.specs.declared.solo.Solo.{Solo}
use Rattle.cold_servers.specs.ColdNodes.{IsDown}
use Rattle.cold_servers.specs.ColdSeen.{ColdSeen}

-- the server is told to be armed exactly where either disk is
abbrev pub ArmedAs : Solo → ColdSeen → Type 0
ArmedAs servers seen = servers.lone.armed ≡ (is_some seen.disk.tally.armed || is_some seen.journal.tally.armed)

-- the message is the reply to a call that stands in the net
abbrev pub AnswersCall : List Message → Message → Type 0
AnswersCall net (Answer client number reply) = (call : Call) × Stands (Request client number call) net
AnswersCall net _ = ⊥

-- an entry is in hand, of a request or a receipt that stands in the net, and its reply is owed
pub record Owes (net : List Message) (entry : Entry) (owed : Option Owed) : Type 0 where
  pub asked : Stands (message_of entry) net
  pub held : Owed
  pub is : owed ≡ Some held
  pub answers : AllByRecursion (AnswersCall net) held.to_net

abbrev pub OwesBy : List Message → Hand → Option Owed → Type 0
OwesBy net Empty owed = owed ≡ None
OwesBy net (Waiting entry) owed = Owes net entry owed
OwesBy net (Applied entry) owed = Owes net entry owed
OwesBy net (Ready entry) owed = Owes net entry owed

-- By the number of the node's service: what is on the way to the journal, and back from it, and how many entries the journal has.

abbrev pub link_at : ℕ → Hand → List Message
link_at number (Waiting entry) = wire.Mirror number entry ∷ []
link_at number _ = []

abbrev pub back_at : ℕ → Hand → List Message
back_at number (Applied entry) = wire.MirrorAck number ∷ []
back_at number _ = []

abbrev pub HasJoined : ℕ → Hand → ℕ → Type 0
HasJoined number (Waiting entry) joined = number ≡ suc joined
HasJoined number _ joined = joined ≡ number

-- the active server of a value, which is linked to its journal
abbrev pub active_at : Saved → Option Owed → Hand → Node
active_at saved owed hand =
    record { replica = serving saved owed; waits = waits_by hand; tie = Linked; promised = []; kept = None }

-- a fit value; the keys of its subscriptions begin at 1, as those of each message do that can be spelled
abbrev pub HasKeys : Saved → Type 0
HasKeys saved = AllByRecursion (λ (sub : SavedSub). 1 ≤ sub.key) saved.subs

pub record IsGoodValue (saved : Saved) : Type 0 where
  pub fit : IsFit saved
  pub keys : HasKeys saved

-- it is up, by such a value of its service
pub record IsUpAt (net : List Message) (servers : Lone) : Type 0 where
  pub saved : Saved
  pub owed : Option Owed
  pub hand : Hand
  pub good : IsGoodValue saved
  pub owes : OwesBy net hand owed
  pub node : servers.node ≡ active_at saved owed hand
  pub link : servers.link ≡ link_at saved.number hand
  pub back : servers.back ≡ back_at saved.number hand
  pub joined : HasJoined saved.number hand servers.journal.number
  pub bound : servers.journal.end ≤ (servers.journal.number + 1) * 4294967299

-- it can go on over a journal's disk that tells no files
pub record IsSilent (servers : Solo) (net : List Message) (seen : ColdSeen) : Type 0 where
  pub untold : seen.journal.files ≡ None
  pub armed : ArmedAs servers seen
  pub stands : IsUpAt net servers.lone ⊎ IsDown servers.lone
