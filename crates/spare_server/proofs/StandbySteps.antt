-- What a good state says of each standby.
use Rattle.std.proofs.Common.{◌≡◌, Bool, true, false, ◌⊎◌, inl, inr, Option, List, [], ◌∷◌, refl, ap, sym, ◌∙◌, subst}
use Rattle.std.specs.Prelude.{IfSome}
use Rattle.std.specs.List.{AllByRecursion}
use Rattle.disk_model.specs.Disk.{Files}
use Rattle.script_lines.specs.declared.line.Server.{Server}
use Rattle.script_lines.specs.declared.line.Server.TheVariants.{A, B, C}
use Rattle.plain_service.specs.Setups.{Setup}
use Rattle.plain_service.specs.Storing.{files_of}
use Rattle.cluster_facts.specs.Types.{Entry}
use Rattle.cluster_facts.specs.History.{Hand, Empty, Waiting, Applied, Ready, committed_by}
use Rattle.cluster_events.specs.Servers.{State}
use Rattle.mirror.specs.declared.heard.Role.TheVariants.{Standby as StandsBy}
use Rattle.mirror.specs.declared.state.NodeState.{NodeState as Node}
use Rattle.mirror.specs.Pairing.{alone}
use Rattle.mirror.specs.Replicas.{down}
use Rattle.group_cluster.specs.Seats as defined
use Rattle.group_cluster.specs.Seats.{Clear, Sent, Took, Stance, Out, Owed, Linking, Standby, Peers, Agree}
use Rattle.cluster_rounds.specs.Seen.{TellsFiles}
use Rattle.group_servers.specs.declared.group.Group.{Group}
use Rattle.group_servers.specs.GroupNodes.{active_by, node_by, seats_by, standby_by}
use Rattle.spare_server.specs.declared.world.TrioWorld.{TrioWorld}
use Rattle.spare_server.specs.Parts.{is_active}
use Rattle.spare_server.specs.Standbys.{AllFollow, Follows, FollowsIn, StandbysFollow}
use Rattle.spare_server.specs.Worlds.{node_of, seats_of, with_node}
use Rattle.spare_server.proofs.ThreeSeats.{active-acts, first_node, second_node, third_node, three-good}

-- One standby, by whether it keeps deeds.

module _ (setup : Setup) (past : List Entry) (hand : Hand) (files : Option Files) (told : IfSome files (λ one. one ≡ files_of setup past)) where
  abbrev IsOn : List Entry → Type 0
  IsOn history = (history ≡ committed_by past hand) ⊎ ((entry : Entry) × (hand ≡ Waiting entry) × (history ≡ entry ∷ committed_by past hand))

  keeping : (history : List Entry) → IsOn history → Follows setup past hand files (standby_by setup history true)
  keeping history on = record { history = history; follows = on; stands = refl; keeps = λ is. refl; fresh = λ is. cc }

  fresh-one : (history : List Entry) → IsOn history → history ≡ past → Follows setup past hand files (standby_by setup history false)
  fresh-one history on same = record { history = history; follows = on; stands = refl; keeps = λ is. cc; fresh = λ is. (same, told) }

  either : (history : List Entry) (keeps : Bool) → IsOn history → history ≡ past → Follows setup past hand files (standby_by setup history keeps)
  either history true on same = keeping history on
  either history false on same = fresh-one history on same

-- by what it is beside the active server, and the entry in hand
follows-at : (setup : Setup) (past : List Entry) (hand : Hand) (files : Option Files) (stance : Stance) → IfSome files (λ one. one ≡ files_of setup past) → Agree hand stance → (node_by setup past hand stance).replica.role ≡ StandsBy → Follows setup past hand files (node_by setup past hand stance)
follows-at setup past hand files Out told agree stands = cc
follows-at setup past hand files Owed told agree stands = cc
follows-at setup past hand files (Linking sent) told agree stands = cc
follows-at setup past Empty files (Standby on_way Clear keeps) told agree stands = either setup past Empty files told past keeps (inl refl) refl
follows-at setup past Empty files (Standby on_way Sent keeps) told agree stands = elim agree [ ]
follows-at setup past Empty files (Standby on_way Took keeps) told agree stands = elim agree [ ]
follows-at setup past (Waiting entry) files (Standby on_way Sent keeps) told agree stands = either setup past (Waiting entry) files told past keeps (inl refl) refl
follows-at setup past (Waiting entry) files (Standby on_way Clear true) told agree stands = keeping setup past (Waiting entry) files told (entry ∷ past) (inr (entry, refl, refl))
follows-at setup past (Waiting entry) files (Standby on_way Clear false) told agree stands = elim agree [ ]
follows-at setup past (Waiting entry) files (Standby on_way Took true) told agree stands = keeping setup past (Waiting entry) files told (entry ∷ past) (inr (entry, refl, refl))
follows-at setup past (Waiting entry) files (Standby on_way Took false) told agree stands = elim agree [ ]
follows-at setup past (Applied entry) files (Standby on_way Sent keeps) told agree stands = elim agree [ ]
follows-at setup past (Applied entry) files (Standby on_way Clear true) told agree stands = keeping setup past (Applied entry) files told (entry ∷ past) (inl refl)
follows-at setup past (Applied entry) files (Standby on_way Clear false) told agree stands = elim agree [ ]
follows-at setup past (Applied entry) files (Standby on_way Took true) told agree stands = keeping setup past (Applied entry) files told (entry ∷ past) (inl refl)
follows-at setup past (Applied entry) files (Standby on_way Took false) told agree stands = elim agree [ ]
follows-at setup past (Ready entry) files (Standby on_way Clear true) told agree stands = keeping setup past (Ready entry) files told (entry ∷ past) (inl refl)
follows-at setup past (Ready entry) files (Standby on_way Clear false) told agree stands = elim agree [ ]
follows-at setup past (Ready entry) files (Standby on_way Sent keeps) told agree stands = elim agree [ ]
follows-at setup past (Ready entry) files (Standby on_way Took keeps) told agree stands = elim agree [ ]

-- Each server of a world.

seat-follows : (setup : Setup) (state : State Peers) (files : Option Files) (stance : Stance) (node : Node) → TellsFiles setup state files → Agree state.world.core.hand stance → node ≡ node_by setup state.world.core.answered state.world.core.hand stance → FollowsIn setup state files node
seat-follows setup state files stance node told agree is = λ stands.
    let past = state.world.core.answered in
    let hand = state.world.core.hand in
    let own = follows-at setup past hand files stance told agree (sym (ap (λ (n : Node). n.replica.role) is) ∙ stands) in
    subst (λ (n : Node). Follows setup past hand files n) (sym is) own

active-follows : (setup : Setup) (state : State Peers) (files : Option Files) (node : Node) → node ≡ active_by setup state.world.core.answered state.world.core.hand state.peers.seats → FollowsIn setup state files node
active-follows setup state files node is = λ stands.
    let acts = ap (λ (n : Node). is_active n.replica.role) is ∙ active-acts setup state.world.core.answered state.world.core.hand state.peers.seats in
    let never : true ≡ false = sym acts ∙ ap is_active stands in
    cc

three-follow : (acting : Server) (setup : Setup) (state : State Peers) (files : Option Files) (world : TrioWorld) (one other third : defined.Seat) → TellsFiles setup state files → Agree state.world.core.hand one.stance → Agree state.world.core.hand other.stance → Agree state.world.core.hand third.stance → node_of acting world ≡ active_by setup state.world.core.answered state.world.core.hand state.peers.seats → seats_of (with_node acting (alone down) world) ≡ seats_by setup state.world.core.answered state.world.core.hand (one ∷ other ∷ third ∷ []) → StandbysFollow setup state files world
three-follow A setup state files world one other third told first second last active seats = record {
  a = active-follows setup state files world.a active;
  b = seat-follows setup state files other.stance world.b told second (ap second_node seats);
  c = seat-follows setup state files third.stance world.c told last (ap third_node seats);
}
three-follow B setup state files world one other third told first second last active seats = record {
  a = seat-follows setup state files one.stance world.a told first (ap first_node seats);
  b = active-follows setup state files world.b active;
  c = seat-follows setup state files third.stance world.c told last (ap third_node seats);
}
three-follow C setup state files world one other third told first second last active seats = record {
  a = seat-follows setup state files one.stance world.a told first (ap first_node seats);
  b = seat-follows setup state files other.stance world.b told second (ap second_node seats);
  c = active-follows setup state files world.c active;
}

-- **each standby can take over**
pub all-follow : AllFollow
all-follow setup state files world good shows told =
    let core = state.world.core in
    let three = three-good state good.steady.good in
    let agree = subst (λ (owns : List defined.Seat). AllByRecursion (λ (seat : defined.Seat). Agree core.hand seat.stance) owns) three.is good.steady.good.agree in
    three-follow state.peers.acting setup state files world three.one three.other three.third told agree.0 agree.1.0 agree.1.1.0
    (ap (λ (servers : Group 3). servers.active) shows.own)
    (ap (λ (servers : Group 3). servers.seats) shows.own ∙ ap (seats_by setup core.answered core.hand) three.is)
