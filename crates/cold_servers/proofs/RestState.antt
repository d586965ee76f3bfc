-- Whether the server is up, by its role; and that nothing is left to do where nothing is on the way and the hand is not ready.
use Rattle.std.proofs.Common.{◌≡◌, ℕ, Bool, true, Option, None, List, [], refl, ap, sym, subst, ◌∙◌}
use Rattle.std.specs.Prelude.{IsSome}
use Rattle.plain_service.specs.Setups.{Setup}
use Rattle.cluster_facts.specs.Types.{Entry}
use Rattle.cluster_facts.specs.History.{Hand, Empty, Waiting, Applied, Ready}
use Rattle.cluster_facts.specs.World.{World}
use Rattle.cluster_events.specs.Servers.{State, advance}
use Rattle.mirror.specs.declared.state.NodeState.{NodeState}
use Rattle.cluster_rounds.specs.declared.cluster.Cluster.{Cluster}
use Rattle.cluster_rounds.specs.Kits.{servers_at}
use Rattle.cluster_rounds.specs.Worlds.{IsGood, Shows}
use Rattle.cold_cluster.specs.Cold.{Alone}
use Rattle.lone_server.specs.declared.lone.Lone.{Lone}
use Rattle.cold_servers.specs.declared.solo.Solo.{Solo}
use Rattle.cold_servers.specs.ColdKit.{cold_kit}
use Rattle.cold_servers.specs.ColdNodes.{OwnBy, active_by, back_by, link_by}
use Rattle.cold_servers.proofs.HearState.{idle_at, is-idle}

-- the hand is empty
empty-so : (setup : Setup) (past : List Entry) (hand : Hand) (node : NodeState) → link_by past hand ≡ [] → back_by past hand ≡ [] → node ≡ active_by setup past hand → (IsSome node.replica.owed → node.waits ≡ None → ⊥) → hand ≡ Empty
empty-so setup past Empty node link back is rests = refl
empty-so setup past (Waiting entry) node link back is rests = cc
empty-so setup past (Applied entry) node link back is rests = cc
empty-so setup past (Ready entry) node link back is rests =
    absurd (rests (subst (λ (n : NodeState). IsSome n.replica.owed) (sym is) refl) (ap (λ (n : NodeState). n.waits) is))

none-at : (setup : Setup) (fails : ℕ → ℕ) (world : World) (keeps : Bool) (armed beside : Option ℕ) → advance (servers_at cold_kit setup fails) (idle_at world keeps armed beside) ≡ None
none-at setup fails world keeps armed beside = refl

-- **no step is left**
pub none-so : (setup : Setup) (fails : ℕ → ℕ) (state : State Alone) (old : Cluster Solo) → IsGood cold_kit setup state → Shows cold_kit setup state old → state.peers.up ≡ true → old.servers.lone.link ≡ [] → old.servers.lone.back ≡ [] → (IsSome old.servers.lone.node.replica.owed → old.servers.lone.node.waits ≡ None → ⊥) → advance (servers_at cold_kit setup fails) state ≡ None
none-so setup fails state old good shows up link back rests =
    let core = state.world.core in
    let own = subst (λ (b : Bool). OwnBy b setup core.answered core.hand state.peers old.servers.lone) up shows.own in
    let empty = empty-so setup core.answered core.hand old.servers.lone.node (sym (ap (λ (s : Lone). s.link) own) ∙ link) (sym (ap (λ (s : Lone). s.back) own) ∙ back) (ap (λ (s : Lone). s.node) own) rests in
    let cold = good.steady.good in
    subst (λ (s : State Alone). advance (servers_at cold_kit setup fails) s ≡ None) (is-idle state cold up empty)
    (none-at setup fails state.world cold.1.keeps state.peers.armed state.peers.beside)
