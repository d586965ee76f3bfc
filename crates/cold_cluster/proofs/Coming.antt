-- The start, falls, cold starts and arms keep the facts, and say what happened.
use Rattle.std.proofs.Common.{◌≡◌, ℕ, ℤ, suc, false, Option, List, [], ◌∷◌, length, refl, sym, subst}
use Rattle.script_lines.specs.declared.line.Server.TheVariants.{A}
use Rattle.cluster_facts.specs.Types.{Entry}
use Rattle.cluster_facts.specs.History.{Hand, Empty, Waiting, Applied, committed, committed_by}
use Rattle.cluster_facts.specs.Service.{Plain, IsPlain}
use Rattle.cluster_facts.specs.Facts.{IsSound}
use Rattle.cluster_facts.specs.World.{World}
use Rattle.cluster_facts.proofs.Keeping.{IsSound-start}
use Rattle.cluster_events.specs.Lines.{Told, Committed, Stood}
use Rattle.cluster_events.specs.declared.lines.ServerRole.TheVariants as role
use Rattle.cluster_events.specs.Outcomes.{Outcome}
use Rattle.cluster_events.specs.Cores.{with_core}
use Rattle.cluster_events.specs.Servers.{State}
use Rattle.cluster_events.specs.Serving.{IsSteady}
use Rattle.group_cluster.specs.Seats.{Clear, IsGroup}
use Rattle.group_cluster.proofs.Sounding.{sound-over}
use Rattle.group_cluster.proofs.Stepping.{Bears}
use Rattle.cold_cluster.specs.Cold.{Alone, IsCold, IsBeside, at_rest, paired, cold_begun}
use Rattle.cold_cluster.specs.Falling.{Restarts, armed_alone, back_with, fallen}
use Rattle.cold_cluster.specs.Falling.Restarts.{as_was, one_more}

-- other counts, and up or down
same-good : (state new : State Alone) → new.world ≡ state.world → new.peers.mirrored ≡ state.peers.mirrored → IsCold state → IsCold new
same-good state new world peers good =
    let G : State Alone → Type 0 = λ s. IsGroup 2 (paired s) × IsBeside s.peers.mirrored in
    (subst (IsGroup 2) (λ i. record { world = sym world i; peers = sym peers i }) good.0, subst IsBeside (sym peers) good.1)

rest-beside : IsBeside at_rest.mirrored
rest-beside = record { acting = refl; mark = Clear; keeps = false; seats = refl; unarmed = refl }

rest-good : (world : World) (past : List Entry) → IsCold (record { world = with_core past Empty world; peers = at_rest })
rest-good world past =
    (record { agree = (tt, (tt, tt)); waits = tt; armed = tt; apart = (λ same. refl, (λ same. cc, tt)); names = refl; acts = refl }, rest-beside)

pub start-steady : (plain : Plain) (now : ℤ) (places : ℕ) → IsSteady plain IsCold (cold_begun now places)
start-steady plain now places = record { sound = IsSound-start plain now places; good = rest-good (cold_begun now places).world [] }

module _ (plain : Plain) (is_plain : IsPlain plain) (R : World → World → List Told → Type 0) (bears : Bears plain R) where
  abbrev pub Kept : State Alone → Outcome (State Alone) → Type 0
  Kept state outcome = IsSteady plain IsCold outcome.state × R state.world outcome.state.world outcome.told

  pub fall-keeps : (state : State Alone) → IsSteady plain IsCold state → Kept state (fallen state)
  fall-keeps state steady =
      (record { sound = steady.sound; good = same-good state (fallen state).state refl refl steady.good }, bears.stood state.world A role.Down)

  was-keeps : (state : State Alone) → IsSteady plain IsCold state → Kept state (back_with (committed state.world.core) [] state)
  was-keeps state steady =
      let past = state.world.core.answered in
      let hand = state.world.core.hand in
      let found = with_core (committed_by past hand) Empty state.world in (
        record { sound = sound-over plain is_plain past hand state.world steady.sound; good = rest-good state.world (committed_by past hand) },
        bears.both state.world found found [] (Stood A role.Active ∷ []) (bears.over state.world past hand) (bears.stood found A role.Active),
      )

  -- the entry that waited was in the journal: that is as if the standby had applied it, and then taken over
  more-so : (state : State Alone) (entry : Entry) → IsSound plain (with_core state.world.core.answered (Waiting entry) state.world)
      → R (with_core state.world.core.answered (Waiting entry) state.world) (with_core (entry ∷ state.world.core.answered) Empty state.world) (Stood A role.Active ∷ Committed (suc (length state.world.core.answered)) entry ∷ [])
      × IsSound plain (with_core (entry ∷ state.world.core.answered) Empty state.world)
  more-so state entry sound =
      let past = state.world.core.answered in
      let waits = with_core past (Waiting entry) state.world in
      let applied = with_core past (Applied entry) state.world in
      let found = with_core (entry ∷ past) Empty state.world in
      let line = Committed (suc (length past)) entry ∷ [] in
      let held : IsSound plain applied = record { facts = sound.facts; listed = sound.listed } in
      let over = bears.both waits applied found line [] (bears.applied state.world past entry sound) (bears.over state.world past (Applied entry)) in
      (bears.both waits found found line (Stood A role.Active ∷ []) over (bears.stood found A role.Active), sound-over plain is_plain past (Applied entry) state.world held)

  more-keeps : (state : State Alone) (entry : Entry) → state.world.core.hand ≡ Waiting entry → IsSteady plain IsCold state
      → Kept state (back_with (entry ∷ state.world.core.answered) (Committed (suc (length state.world.core.answered)) entry ∷ []) state)
  more-keeps state entry is steady =
      let past = state.world.core.answered in
      let S : Hand → Type 0 = λ hand. IsSound plain (with_core past hand state.world) in
      let found = with_core (entry ∷ past) Empty state.world in
      let so = more-so state entry (subst S is steady.sound) in
      let Q : Hand → Type 0 = λ hand. R (with_core past hand state.world) found (Stood A role.Active ∷ Committed (suc (length past)) entry ∷ []) in
      (record { sound = so.1; good = rest-good state.world (entry ∷ past) }, subst Q (sym is) so.0)

  pub restart-keeps : (state : State Alone) (outcome : Outcome (State Alone)) → IsSteady plain IsCold state → Restarts state outcome → Kept state outcome
  restart-keeps state outcome steady as_was = was-keeps state steady
  restart-keeps state outcome steady (one_more entry is) = more-keeps state entry is steady

  pub arms-keep : (armed beside : Option ℕ) (state : State Alone) → IsSteady plain IsCold state → Kept state (armed_alone armed beside state)
  arms-keep armed beside state steady =
      (record { sound = steady.sound; good = same-good state (armed_alone armed beside state).state refl refl steady.good }, bears.same state.world)
