-- What the server is called with, at a state in which it is up: what is on the way and what is posted can be spelled.
use Rattle.std.proofs.Common.{◌≡◌, ℕ, suc, Bool, true, None, List, length, refl, ap, sym, subst, ◌∙◌}
use Rattle.std.specs.Prelude.{IsSome}
use Rattle.std.specs.List.{AllByRecursion}
use Rattle.wire.specs.MessageSpelling.{MessageInRange}
use Rattle.wire.specs.declared.message.Message.TheVariants as wire
use Rattle.plain_service.specs.Setups.{Setup}
use Rattle.cluster_facts.specs.Types.{Entry, Called, Receipted, Message}
use Rattle.cluster_facts.specs.Lists.{Stands}
use Rattle.cluster_facts.specs.Messages.{message_of, messages_in}
use Rattle.cluster_facts.specs.History.{Hand, Empty, Waiting, Applied, Ready, accepted_by}
use Rattle.cluster_events.specs.Servers.{State}
use Rattle.mirror.specs.declared.state.NodeState.{NodeState}
use Rattle.mirror.specs.Replicas.{at_work}
use Rattle.mirror.specs.Working.{replies_in}
use Rattle.cluster_rounds.specs.declared.cluster.Cluster.{Cluster}
use Rattle.cluster_rounds.specs.Worlds.{IsGood, Shows}
use Rattle.cluster_rounds.proofs.ChainSteps.{standing-range}
use Rattle.cold_cluster.specs.Cold.{Alone}
use Rattle.lone_server.specs.declared.lone.Lone.{Lone}
use Rattle.cold_servers.specs.declared.solo.Solo.{Solo}
use Rattle.lone_server.specs.Working.{CanHearAll}
use Rattle.cold_servers.specs.ColdKit.{cold_kit}
use Rattle.cold_servers.specs.ColdLaws.{cold_laws}
use Rattle.cold_servers.specs.ColdNodes.{OwnBy, back_by, link_by, up_by}
use Rattle.cold_servers.proofs.WorkState.{ready-so}

-- an entry is spelled within the ranges of its message
pub mirror-range : (number : ℕ) (entry : Entry) → MessageInRange (message_of entry) → MessageInRange (wire.Mirror number entry)
mirror-range number (Called client seq time call) range = range
mirror-range number (Receipted client key through time) range = range

owed-range : (setup : Setup) (past : List Entry) (entry : Entry) → MessageInRange (message_of entry) → AllByRecursion MessageInRange (replies_in (at_work setup past entry).owed)
owed-range setup past (Called client seq time call) range = (range, tt)
owed-range setup past (Receipted client key through time) range = tt

back-heard : (node : NodeState) (past : List Entry) (hand : Hand) → CanHearAll node (back_by past hand)
back-heard node past Empty = tt
back-heard node past (Waiting entry) = tt
back-heard node past (Applied entry) = (λ moment. tt, tt)
back-heard node past (Ready entry) = tt

module _ (setup : Setup) (state : State Alone) (old : Cluster Solo) (good : IsGood cold_kit setup state) (shows : Shows cold_kit setup state old) (up : state.peers.up ≡ true) where
  own : old.servers.lone ≡ up_by setup state.world.core.answered state.world.core.hand state.peers
  own = subst (λ (b : Bool). OwnBy b setup state.world.core.answered state.world.core.hand state.peers old.servers.lone) up shows.own

  -- the message of each entry stands in the net
  heard-at : (hand : Hand) → state.world.core.hand ≡ hand → AllByRecursion (λ (entry : Entry). Stands (message_of entry) (messages_in state.world.net)) (accepted_by state.world.core.answered hand)
  heard-at hand is =
      subst (λ (h : Hand). AllByRecursion (λ (entry : Entry). Stands (message_of entry) (messages_in state.world.net)) (accepted_by state.world.core.answered h)) is good.steady.sound.facts.heard

  ranges : (entry : Entry) → Stands (message_of entry) (messages_in state.world.net) → MessageInRange (message_of entry)
  ranges entry stands = standing-range cold_kit cold_laws setup state old (message_of entry) good shows stands

  link-at : (hand : Hand) → state.world.core.hand ≡ hand → AllByRecursion MessageInRange (link_by state.world.core.answered hand)
  link-at Empty is = tt
  link-at (Waiting entry) is = (mirror-range (suc (length state.world.core.answered)) entry (ranges entry (heard-at (Waiting entry) is).0), tt)
  link-at (Applied entry) is = tt
  link-at (Ready entry) is = tt

  -- **what is on the way to the journal can be spelled**
  pub link-range : AllByRecursion MessageInRange old.servers.lone.link
  link-range = subst (λ (s : Lone). AllByRecursion MessageInRange s.link) (sym own) (link-at state.world.core.hand refl)

  -- **what is on the way back can be heard**
  pub back-range : CanHearAll old.servers.lone.node old.servers.lone.back
  back-range =
      subst (λ (messages : List Message). CanHearAll old.servers.lone.node messages) (sym (ap (λ (s : Lone). s.back) own))
      (back-heard old.servers.lone.node state.world.core.answered state.world.core.hand)

  -- **the reply that is posted can be spelled**
  pub replies-range : IsSome old.servers.lone.node.replica.owed → old.servers.lone.node.waits ≡ None → AllByRecursion MessageInRange (replies_in old.servers.lone.node.replica.owed)
  replies-range some none =
      let core = state.world.core in
      let ready = ready-so setup core.answered core.hand old.servers.lone.node (ap (λ (s : Lone). s.node) own) some none in
      let at : old.servers.lone ≡ up_by setup core.answered (Ready ready.0) state.peers = own ∙ ap (λ (h : Hand). up_by setup core.answered h state.peers) ready.1 in
      subst (λ (s : Lone). AllByRecursion MessageInRange (replies_in s.node.replica.owed)) (sym at)
      (owed-range setup core.answered ready.0 (ranges ready.0 (heard-at (Ready ready.0) ready.1).0))
