-- What asks nothing of the disks leaves of servers whose standby is the journal.
use Rattle.std.specs.Prelude.{◌≡◌, Bool, List}
use Rattle.std.proofs.Common.{refl, ap, sym, subst, ◌∙◌}
use Rattle.plain_service.specs.Setups.{Setup}
use Rattle.service_laws.specs.PlainOf.{plain_of}
use Rattle.cluster_facts.specs.Types.{Entry}
use Rattle.cluster_facts.specs.History.{Core, Hand, Waiting, committed, committed_by}
use Rattle.cluster_events.specs.Servers.{State}
use Rattle.cluster_rounds.specs.Kits.{calm_servers, device_by}
use Rattle.cluster_rounds.specs.Resting.{Rests}
use Rattle.cluster_rounds.specs.Resting.Rests.{begun, moved, accepted}
use Rattle.group_cluster.specs.Falling.{looked_at}
use Rattle.group_cluster.specs.Group.{sent_to}
use Rattle.group_cluster.specs.Seats as defined
use Rattle.group_cluster.specs.Seats.{Peers, on_seats}
use Rattle.cold_cluster.specs.Cold.{Alone, IsBeside, paired, seats_with}
use Rattle.cold_cluster.proofs.Beside.{lasts-beside}
use Rattle.cold_servers.specs.ColdKit.{cold_kit}

-- An entry that is accepted waits for the journal.

sent-beside : (mark : defined.Mark) (keeps : Bool) (entry : Entry) → looked_at (on_seats sent_to (seats_with mark keeps)) (Waiting entry) ≡ Waiting entry
sent-beside mark keeps entry = refl

pub hand-accepted : (peers : Peers) (entry : Entry) → IsBeside peers → looked_at (on_seats sent_to peers.seats) (Waiting entry) ≡ Waiting entry
hand-accepted peers entry beside =
    subst (λ (seats : List defined.Seat). looked_at (on_seats sent_to seats) (Waiting entry) ≡ Waiting entry) (sym beside.seats)
    (sent-beside beside.mark beside.keeps entry)

-- What asks no disk answers and commits no entry.
pub record RestsSo (old new : State Alone) : Type 0 where
  pub answered : new.world.core.answered ≡ old.world.core.answered
  pub committed : committed new.world.core ≡ committed old.world.core
  pub up : new.peers.up ≡ old.peers.up
  pub beside : IsBeside new.peers.mirrored

pub rests-so : (setup : Setup) {state new : State Alone} → Rests (calm_servers cold_kit setup) state new → IsBeside state.peers.mirrored → RestsSo state new
rests-so setup begun beside = record { answered = refl; committed = refl; up = refl; beside = beside }
rests-so setup (moved rests new core peers) beside =
    let so = rests-so setup rests beside in
    record {
      answered = ap (λ (c : Core). c.answered) core ∙ so.answered;
      committed = ap (λ (c : Core). committed c) core ∙ so.committed;
      up = ap (λ (p : Alone). p.up) peers ∙ so.up;
      beside = subst (λ (p : Alone). IsBeside p.mirrored) (sym peers) so.beside;
    }
rests-so setup (accepted {now = now} rests entry empty) beside =
    let so = rests-so setup rests beside in
    let past = now.world.core.answered in
    record {
      answered = so.answered;
      committed =
          ap (λ (hand : Hand). committed_by past hand) (hand-accepted now.peers.mirrored entry so.beside)
          ∙ ap (λ (hand : Hand). committed_by past hand) (sym empty) ∙ so.committed;
      up = so.up;
      beside = (lasts-beside (plain_of setup) (device_by setup (λ number. 0))).accept entry (paired now) so.beside;
    }
