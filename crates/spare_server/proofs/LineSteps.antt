-- What a line does to the parts of a world.
use Rattle.std.proofs.Common.{◌≡◌, ℕ, List, inl, inr, refl, sym, subst}
use Rattle.std.specs.Prelude.{ℤ}
use Rattle.disk_model.specs.Seen.{DiskSeen}
use Rattle.script_lines.specs.declared.line.Line.{Line}
use Rattle.script_lines.specs.declared.line.Line.TheVariants as line
use Rattle.plain_service.specs.Setups.{Setup}
use Rattle.trio_lines.specs.declared.line.TrioLine.{TrioLine}
use Rattle.trio_lines.specs.declared.line.TrioLine.TheVariants.{Plain, Crash, Arm, Restart, Mirror, Ack}
use Rattle.trio_lines.specs.declared.line.TrioServer.{TrioServer}
use Rattle.script_grammar.specs.Grammar.{Known}
use Rattle.trio_lines.specs.Lines.{IsAckAt, IsArmC, IsMirrorAt, SpellsOwn, SpellsTrio}
use Rattle.cluster_events.specs.Servers.{State}
use Rattle.group_cluster.specs.Seats.{Peers}
use Rattle.cluster_rounds.specs.declared.cluster.Cluster.{Cluster}
use Rattle.cluster_lines.specs.Lines.{CanPlay, IsInRange}
use Rattle.cluster_lines.specs.Playing as playing
use Rattle.group_servers.specs.declared.group.Group.{Group}
use Rattle.group_servers.specs.GroupKit.{group_kit, group_script}
use Rattle.spare_server.specs.Happening.{group_line}
use Rattle.spare_server.specs.Lines.{IsThird}
use Rattle.spare_server.specs.Parts.{Played, Plays}
use Rattle.group_begin.specs.Lines.{IsEventLine}

-- a line of the group that two servers have, or one on the third server
abbrev pub IsGroups : TrioLine → Type 0
IsGroups (Mirror one) = ⊥
IsGroups (Ack one) = ⊥
IsGroups next = Unit {0}

-- **what it led the group to it led the world's parts to**
pub played-as : (next : TrioLine) → IsGroups next → (setup : Setup) (state : State Peers) (new : Cluster (Group 3)) (before after : List (List ℕ)) (held left : DiskSeen) → (playing.Played (group_kit 3) group_script) setup state (group_line next) new before after held left → Played setup state next new before after held left
played-as (Plain next) groups setup state new before after held left done =
    record { shelf = done.shelf; shelf_is = done.shelf_is; happened = done.happened; outcome = done.outcome; leads = done.leads; uses = done.uses; is = done.is; count = done.count; files = done.files }
played-as Crash groups setup state new before after held left done =
    record { shelf = done.shelf; shelf_is = done.shelf_is; happened = done.happened; outcome = done.outcome; leads = done.leads; uses = done.uses; is = done.is; count = done.count; files = done.files }
played-as (Arm k) groups setup state new before after held left done =
    record { shelf = done.shelf; shelf_is = done.shelf_is; happened = done.happened; outcome = done.outcome; leads = done.leads; uses = done.uses; is = done.is; count = done.count; files = done.files }
played-as Restart groups setup state new before after held left done =
    record { shelf = done.shelf; shelf_is = done.shelf_is; happened = done.happened; outcome = done.outcome; leads = done.leads; uses = done.uses; is = done.is; count = done.count; files = done.files }
played-as (Mirror one) groups setup state new before after held left done = elim groups [ ]
played-as (Ack one) groups setup state new before after held left done = elim groups [ ]

pub plays-as : (next : TrioLine) → IsGroups next → (old new : Cluster (Group 3)) (before after : List (List ℕ)) (held left : DiskSeen) → (playing.Plays (group_kit 3) group_script) (group_line next) old new before after held left → Plays next old new before after held left
plays-as next groups old new before after held left plays setup state good shows armed tells =
    played-as next groups setup state new before after held left (plays setup state good shows armed tells)

pub third-of : (next : TrioLine) → ((shared : Line) → next ≡ Plain shared → ⊥) → ((one : TrioServer) → next ≡ Mirror one → ⊥) → ((one : TrioServer) → next ≡ Ack one → ⊥) → IsThird next
third-of (Plain shared) not_plain not_mirror not_ack = absurd (not_plain shared refl)
third-of (Mirror one) not_plain not_mirror not_ack = absurd (not_mirror one refl)
third-of (Ack one) not_plain not_mirror not_ack = absurd (not_ack one refl)
third-of Crash not_plain not_mirror not_ack = tt
third-of (Arm k) not_plain not_mirror not_ack = tt
third-of Restart not_plain not_mirror not_ack = tt

pub third-groups : (next : TrioLine) → IsThird next → IsGroups next
third-groups Crash third = tt
third-groups (Arm k) third = tt
third-groups Restart third = tt
third-groups _ third = absurd third

-- An own line that is spelled is in range.

abbrev Ranges : (TrioLine → List ℕ → Type 0) → Type 0
Ranges S = (one : TrioLine) (text : List ℕ) → S one text → IsInRange (group_line one)

known : (made : TrioLine) → IsInRange (group_line made) → Ranges (Known made)
known made can one text is = subst (λ (next : TrioLine). IsInRange (group_line next)) (sym is.0) can

arm-range : Ranges IsArmC
unfolding IsArmC
arm-range one text (k, front, rest, is, count, spelled) = known (Arm k) count.0 one rest spelled

mirror-range : Ranges IsMirrorAt
unfolding IsMirrorAt
mirror-range one text (server, front, rest, is, own, spelled) = known (Mirror server) tt one rest spelled

ack-range : Ranges IsAckAt
unfolding IsAckAt
ack-range one text (server, front, rest, is, own, spelled) = known (Ack server) tt one rest spelled

own-range : Ranges SpellsOwn
unfolding SpellsOwn
own-range one text (inl (rest, is, spelled)) = known Crash tt one rest spelled
own-range one text (inr (inl (rest, is, spelled))) = arm-range one rest spelled
own-range one text (inr (inr (inl (rest, is, spelled)))) = known Restart tt one rest spelled
own-range one text (inr (inr (inr (inl (rest, is, spelled))))) = mirror-range one rest spelled
own-range one text (inr (inr (inr (inr (inl (rest, is, spelled)))))) = ack-range one rest spelled
own-range one text (inr (inr (inr (inr (inr none))))) = absurd none

-- one on the third server can be played, and its count is in range
pub third-can : (now : ℤ) (next : TrioLine) → IsThird next → CanPlay group_script now (group_line next)
third-can now Crash third = tt
third-can now (Arm k) third = tt
third-can now Restart third = tt
third-can now _ third = absurd third

pub third-range : (next : TrioLine) (raw : List ℕ) → SpellsTrio next raw → IsThird next → IsInRange (group_line next)
third-range Crash raw spelled third = tt
third-range (Arm k) raw spelled third = own-range (Arm k) raw spelled
third-range Restart raw spelled third = tt
third-range _ raw spelled third = absurd third

pub can-play : (now : ℤ) (next : Line) → IsEventLine now next → CanPlay group_script now next
can-play now (line.Cluster start queue callbacks alarm ntf sys) can = can
can-play now (line.Time later) can = can
can-play now _ can = tt
