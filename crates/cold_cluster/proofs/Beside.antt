-- A group whose other server is a journal stays one, and never falls in a work.
use Rattle.std.proofs.Common.{◌≡◌, Bool, true, false, ◌&&◌, ◌||◌, nat_le, Option, Some, None, refl, sym, subst}
use Rattle.std.proofs.lemmas.Bool.{and_right}
use Rattle.script_lines.specs.declared.line.Server.TheVariants.{A}
use Rattle.cluster_facts.specs.Types.{Entry}
use Rattle.cluster_facts.specs.Service.{Plain}
use Rattle.cluster_facts.specs.History.{Hand, Empty, Waiting, Applied, Ready}
use Rattle.cluster_facts.specs.World.{World}
use Rattle.cluster_events.specs.Outcomes.{Outcome}
use Rattle.cluster_events.specs.Servers.{State}
use Rattle.cluster_events.specs.Devices.{Device}
use Rattle.group_cluster.specs.Seats.{Mark, Clear, Sent, Took, Peers}
use Rattle.group_cluster.specs.Group.{mirror_group, ack_group, fails_in, work_as, work_by, group}
use Rattle.group_cluster.proofs.Also.{IsLasting}
use Rattle.cold_cluster.specs.Cold.{IsBeside, calm, seats_with}

-- a world with such servers
abbrev beside_at : World → Mark → Bool → State Peers
beside_at world mark keeps = record { world = world; peers = record { acting = A; seats = seats_with mark keeps; armed = None } }

is-beside : (state : State Peers) (beside : IsBeside state.peers) → beside_at state.world beside.mark beside.keeps ≡ state
is-beside state beside = λ i. record {
  world = state.world;
  peers = record { acting = sym beside.acting i; seats = sym beside.seats i; armed = sym beside.unarmed i };
}

abbrev BesideIn : Option (Outcome (State Peers)) → Type 0
BesideIn None = Unit {0}
BesideIn (Some outcome) = IsBeside outcome.state.peers

mirror-beside : (world : World) (mark : Mark) (keeps : Bool) → BesideIn (mirror_group (beside_at world mark keeps))
mirror-beside world Clear keeps = tt
mirror-beside world Sent keeps = record { acting = refl; mark = Took; keeps = true; seats = refl; unarmed = refl }
mirror-beside world Took keeps = tt

ack-beside : (world : World) (mark : Mark) (keeps : Bool) → BesideIn (ack_group (beside_at world mark keeps))
ack-beside world Clear keeps = tt
ack-beside world Sent keeps = tt
ack-beside world Took keeps = record { acting = refl; mark = Clear; keeps = keeps; seats = refl; unarmed = refl }

never-falls : (fails : Bool) → fails ≡ false → (true && (fails || false)) ≡ false
never-falls true calm_is = cc
never-falls false calm_is = refl

module _ (plain : Plain) (device : Device) where
  work-beside : (world : World) (mark : Mark) (keeps : Bool) (hand : Hand) → BesideIn (work_by plain (calm device) hand (beside_at world mark keeps))
  work-beside world mark keeps Empty = tt
  work-beside world mark keeps (Waiting entry) = tt
  work-beside world mark keeps (Applied entry) = tt
  work-beside world mark keeps (Ready entry) =
      let past = world.core.answered in
      let none : fails_in (device.calls past entry) 0 ≡ false = and_right (nat_le 1 (device.calls past entry)) false refl in
      let S : Bool → Type 0 = λ fell. IsBeside (work_as plain (calm device) entry fell (beside_at world mark keeps)).state.peers in
      let done : S false = record { acting = refl; mark = mark; keeps = keeps; seats = refl; unarmed = refl } in
      subst S (sym (never-falls (fails_in (device.calls past entry) 0) none)) done

  by-step : (step : State Peers → Option (Outcome (State Peers))) → ((world : World) (mark : Mark) (keeps : Bool) → BesideIn (step (beside_at world mark keeps)))
      → (state : State Peers) (outcome : Outcome (State Peers)) → step state ≡ Some outcome → IsBeside state.peers → IsBeside outcome.state.peers
  by-step step each state outcome is beside =
      let made : BesideIn (step state) = subst (λ (s : State Peers). BesideIn (step s)) (is-beside state beside) (each state.world beside.mark beside.keeps) in
      subst BesideIn is made

  accept-beside : (entry : Entry) (state : State Peers) (beside : IsBeside state.peers) → IsBeside ((group plain (calm device)).accept entry state).state.peers
  accept-beside entry state beside =
      let servers = group plain (calm device) in
      let made : IsBeside (servers.accept entry (beside_at state.world beside.mark beside.keeps)).state.peers = record { acting = refl; mark = Sent; keeps = beside.keeps; seats = refl; unarmed = refl } in
      subst (λ (s : State Peers). IsBeside (servers.accept entry s).state.peers) (is-beside state beside) made

  pub lasts-beside : IsLasting (group plain (calm device)) IsBeside
  lasts-beside = record {
    accept = λ entry state beside. accept-beside entry state beside;
    mirror = λ state outcome is beside. by-step mirror_group mirror-beside state outcome is beside;
    ack = λ state outcome is beside. by-step ack_group ack-beside state outcome is beside;
    work = λ state outcome is beside.
        by-step (group plain (calm device)).work (λ world mark keeps. work-beside world mark keeps world.core.hand) state outcome is beside;
  }
