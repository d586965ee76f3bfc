-- The active server of a good state, and what is left where nothing but servers and lines changed.
use Rattle.std.proofs.Common.{◌≡◌, ℕ, Bool, List, refl, ap, sym, ◌∙◌, subst}
use Rattle.plain_service.specs.Setups.{Setup}
use Rattle.cluster_facts.specs.Types.{Entry}
use Rattle.cluster_facts.specs.History.{Hand, Empty, Waiting, Applied, Ready}
use Rattle.cluster_events.specs.Servers.{State}
use Rattle.mirror.specs.declared.heard.Role.TheVariants.{Active}
use Rattle.mirror.specs.declared.state.NodeState.{NodeState as Node}
use Rattle.mirror.specs.Replicas.{at_rest}
use Rattle.group_cluster.specs.Seats.{Peers, any_seat}
use Rattle.cluster_rounds.specs.declared.cluster.Cluster.{Cluster}
use Rattle.cluster_rounds.specs.Worlds.{IsGood, IsIdle, HasState, Shows}
use Rattle.disk_model.specs.Seen.{DiskSeen}
use Rattle.cluster_clients.specs.Spelled.{AreSpelled}
use Rattle.cluster_clients.specs.Clients.{ShowsAgents}
use Rattle.cluster_rounds.specs.Broken.{Broken, BreaksAlone}
use Rattle.cluster_rounds.proofs.BrokenClients.{same-breaks}
use Rattle.cluster_rounds.proofs.BrokenSteps.{armed-shown, nothing-broken}
use Rattle.lead_rounds.specs.Leading.{lead_by}
use Rattle.lead_rounds.proofs.PushSteps.{rests-in}
use Rattle.group_servers.specs.declared.group.Group.{Group}
use Rattle.group_servers.specs.GroupKit.{group_kit}
use Rattle.group_servers.specs.GroupLaws.{group_laws}
use Rattle.group_servers.specs.GroupNodes.{is_linked}

pub active-by : (setup : Setup) (past : List Entry) (hand : Hand) (linked : Bool) → (lead_by setup past hand linked).replica.role ≡ Active
active-by setup past Empty linked = refl
active-by setup past (Waiting entry) linked = refl
active-by setup past (Applied entry) linked = refl
active-by setup past (Ready entry) linked = refl

module _ (n : ℕ) where
  -- The active server leads, by whether entries go to others.

  pub lead-so : (setup : Setup) (state : State Peers) (old : Cluster (Group n)) → Shows (group_kit n) setup state old → old.servers.active ≡ lead_by setup state.world.core.answered state.world.core.hand (any_seat is_linked state.peers.seats)
  lead-so setup state old shows = ap (λ (servers : Group n). servers.active) shows.own

  pub is-active : (world : Cluster (Group n)) → HasState (group_kit n) world → world.servers.active.replica.role ≡ Active
  is-active world has =
      let core = has.state.world.core in
      ap (λ (node : Node). node.replica.role) (lead-so has.setup has.state world has.shows)
      ∙ active-by has.setup core.answered core.hand (any_seat is_linked has.state.peers.seats)

  -- with nothing in hand nothing is owed
  pub rests-so : (setup : Setup) (state : State Peers) (old : Cluster (Group n)) → Shows (group_kit n) setup state old → IsIdle state → old.servers.active.replica ≡ at_rest setup state.world.core.answered
  rests-so setup state old shows idle =
      rests-in setup state.world.core.answered state.world.core.hand (any_seat is_linked state.peers.seats) old.servers.active (lead-so setup state old shows) idle

  -- What is left where memory was wanting and nobody was told.

  -- **nothing but servers and lines changed, and room for an entry was taken**
  pub untold-breaks : (setup : Setup) (state : State Peers) (held : DiskSeen) (old new : Cluster (Group n)) → IsGood (group_kit n) setup state → Shows (group_kit n) setup state old → new.net ≡ old.net → new.agents ≡ old.agents → new.history.entries ≡ old.history.entries → new.now ≡ old.now → new.servers.armed ≡ old.servers.armed → (Broken (group_kit n)) setup state held held new
  untold-breaks setup state held old new good shows net agents history now armed =
      (nothing-broken (group_kit n) (group_laws n)) setup state held new good
      (subst (λ n. AreSpelled state.world.net n) (sym net) shows.net)
      (subst (λ a. ShowsAgents state.world a) (sym agents) shows.agents)
      (history ∙ shows.history) (now ∙ shows.now)
      (λ is. armed ∙ (armed-shown (group_kit n) (group_laws n)) setup state held old shows is)

  -- nothing changed
  pub same-untold : (old new : Cluster (Group n)) → new ≡ old → BreaksAlone (group_kit n) old new
  same-untold old new is =
      subst (λ (world : Cluster (Group n)). BreaksAlone (group_kit n) old world) (sym is) ((same-breaks (group_kit n) (group_laws n)) old)
