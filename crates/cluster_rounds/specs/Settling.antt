-- Words of public clauses: what `settle` is to the cluster of the code, over any servers.
use Rattle.std.specs.Prelude.{◌≡◌, ℕ, ◌≤◌, Bool, List, ◌++◌}
use Rattle.plain_service.specs.Setups.{Setup}
use Rattle.service_laws.specs.PlainOf.{plain_of}
use Rattle.cluster_events.specs.Lines.{Told}
use Rattle.cluster_events.specs.Outcomes.{Outcome}
use Rattle.cluster_events.specs.Servers.{State}
use Rattle.cluster_events.specs.Settling.{Settles, Rounds}
use Rattle.cluster_events.specs.Devices.{answered_in, AgreesIn}
use Rattle.cluster_rounds.specs.declared.cluster.Cluster.{Cluster}
use Rattle.cluster_clients.specs.Taken.{kept_lines}
use Rattle.cluster_rounds.specs.Kits.{Kit, servers_at}
use Rattle.cluster_rounds.specs.Worlds.{Happened, IsGood, Shows}

module _ {Peers Group : Type 0} (kit : Kit Peers Group) where
  -- `settle` came from a state to an outcome, by the works that failed
  pub record Settled (setup : Setup) (state : State Peers) (new : Cluster Group) (before after : List (List ℕ)) (held left : kit.Seen) : Type 0 where
    pub happened : ℕ → ℕ
    pub outcome : Outcome (State Peers)
    pub settles : Settles (plain_of setup) (servers_at kit setup happened) state outcome.state outcome.told
    pub uses : kit.Uses setup happened state outcome held left
    pub is : Happened kit setup outcome new before after
    pub count : kit.Armed outcome.state.peers left
    pub files : kit.Tells setup state held → kit.Leaves setup outcome.state held left

  -- rounds were played up to the first that was not loud, over each good state that the cluster stood for and that tells of the disks'
  -- armed counts
  abbrev pub DoesSettle : Cluster Group → Cluster Group → List (List ℕ) → List (List ℕ) → kit.Seen → kit.Seen → Type 0
  DoesSettle old new before after held left =
      (setup : Setup) (state : State Peers) → IsGood kit setup state → Shows kit setup state old → kit.Armed state.peers held
      → Settled setup state new before after held left

  -- Words of bodies alone: rounds were played from a start, over each device that agrees with what happened.
  pub record Settling (setup : Setup) (start : State Peers) (now : Cluster Group) (before after : List (List ℕ)) (loud : Bool)
      (held left : kit.Seen) : Type 0 where
    pub happened : ℕ → ℕ
    pub state : State Peers
    pub told : List Told
    pub later : answered_in start ≤ answered_in state
    pub rounds : (fails : ℕ → ℕ) → AgreesIn (answered_in start) (answered_in state) happened fails
        → Rounds (plain_of setup) (servers_at kit setup fails) start state told loud
    pub uses : kit.Uses setup happened start (record { state = state; told = told }) held left
    pub shows : Shows kit setup state now
    pub good : IsGood kit setup state
    pub count : kit.Armed state.peers left
    pub lines : after ≡ before ++ kept_lines told
    pub files : kit.Tells setup start held → kit.Leaves setup state held left

  abbrev pub SettlesSo : Cluster Group → Cluster Group → List (List ℕ) → List (List ℕ) → Bool → kit.Seen → kit.Seen → Type 0
  SettlesSo old now before after loud held left =
      (setup : Setup) (start : State Peers) → IsGood kit setup start → Shows kit setup start old → kit.Armed start.peers held
      → Settling setup start now before after loud held left
