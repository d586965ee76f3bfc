-- Whole runs of servers.
use Rattle.std.proofs.Common.{◌≡◌, ℕ, ℤ, List, [], ◌∷◌, refl, ap, sym, subst}
use Rattle.std.specs.List.{AllByRecursion}
use Rattle.script_lines.specs.declared.line.Line.{Line}
use Rattle.script_lines.specs.declared.line.Server.{Server}
use Rattle.script_lines.specs.declared.line.Server.TheVariants.{A}
use Rattle.cluster_facts.specs.Types.{Entry}
use Rattle.cluster_facts.specs.History.{Empty}
use Rattle.cluster_facts.specs.Lists.{without}
use Rattle.cluster_facts.specs.Service.{Plain, IsPlain}
use Rattle.cluster_facts.proofs.Keeping.{IsSound-start}
use Rattle.cluster_events.specs.Lines.{Told, is_ignored}
use Rattle.cluster_events.specs.Outcomes.{Outcome}
use Rattle.cluster_events.specs.Servers.{State}
use Rattle.cluster_events.specs.Devices.{Device}
use Rattle.cluster_events.specs.Saying.{Says}
use Rattle.cluster_events.specs.Serving.{IsSteady}
use Rattle.cluster_events.specs.Running.{Shelf, Happens}
use Rattle.cluster_events.specs.Runs.{RunBy}
use Rattle.cluster_events.proofs.Promised.{happens-kept}
use Rattle.cluster_events.proofs.Runs.{IsKept, any-says, any-keeps}
use Rattle.cluster_events.proofs.Ending as ending
use Rattle.group_cluster.specs.Seats.{Seat, Peers, Agree, IsApart, AreNames, names_of, IsGroup}
use Rattle.group_cluster.specs.Group.{group, others_at, group_start, CanStart}
use Rattle.group_cluster.specs.Running.{GroupHappens, GroupStepBy}
use Rattle.group_cluster.specs.Laws.{GroupDrainEnds, GroupKeepsPromises, GroupSettleEnds, GroupSettleSettles}
use Rattle.group_cluster.proofs.Seating.{by-names}
use Rattle.group_cluster.proofs.Serving.{group-stepped}
use Rattle.group_cluster.proofs.Saying.{says-borne, group-serves, group-says, group-spends}
use Rattle.group_cluster.proofs.Lines.{failures-keep}
use Rattle.group_cluster.proofs.Stepping.{group-ends}

others-agree : (others : List Server) → AllByRecursion (λ (seat : Seat). Agree Empty seat.stance) (others_at others)
others-agree [] = tt
others-agree (server ∷ others) = (tt, others-agree others)

others-named : (others : List Server) → names_of (others_at others) ≡ others
others-named [] = refl
others-named (server ∷ others) = ap (λ names. server ∷ names) (others-named others)

abbrev but_first : List Server → List Server
but_first [] = []
but_first (server ∷ servers) = servers

others-apart : (size : ℕ) (others : List Server) → CanStart size others → IsApart A (others_at others) × AreNames size (A ∷ names_of (others_at others))
others-apart size others can = (
  by-names (λ (names : List Server). IsApart A (others_at (but_first names))) (λ same. cc, tt) (λ same. cc, (λ same. cc, tt)) size (A ∷ others) can,
  subst (λ (names : List Server). AreNames size (A ∷ names)) (sym (others-named others)) can,
)

pub start-steady : (size : ℕ) (plain : Plain) (others : List Server) → CanStart size others → (now : ℤ) (places : ℕ) → IsSteady plain (IsGroup size) (group_start others now places)
start-steady size plain others can now places =
    let apart = others-apart size others can in
    record {
      sound = IsSound-start plain now places;
      good = record { agree = (tt, others-agree others); waits = tt; armed = tt; apart = (λ same. refl, apart.0); names = apart.1; acts = refl };
    }

module _ (size : ℕ) (plain : Plain) (is_plain : IsPlain plain) (shelf : Shelf) where
  others-kept : (device : Device) (next : Line) (state : State Peers) (outcome : Outcome (State Peers)) → IsSteady plain (IsGroup size) state → Happens plain shelf (group plain device) next state outcome → IsSteady plain (IsGroup size) outcome.state × Says plain state.world outcome.state.world outcome.told
  others-kept device next state outcome steady happens =
      happens-kept plain is_plain shelf (group plain device) (IsGroup size) (group-serves size plain device is_plain) (group-says size plain device is_plain) (group-stepped size plain is_plain device (Says plain) (says-borne plain)) next state outcome steady happens

  pub group-kept : (device : Device) (next : Line) (state : State Peers) (outcome : Outcome (State Peers)) → IsSteady plain (IsGroup size) state → GroupHappens plain shelf device next state outcome → IsSteady plain (IsGroup size) outcome.state × Says plain state.world outcome.state.world outcome.told
  group-kept device next state outcome steady happens =
      failures-keep size plain is_plain device (Says plain) (says-borne plain) shelf (others-kept device) next state outcome steady happens

  -- **every line keeps the facts of the pair, and says what it must**
  pub group-is-kept : (calls : List Entry → Entry → ℕ) → IsKept plain (IsGroup size) (GroupStepBy plain shelf calls)
  group-is-kept calls = record { kept = λ before next state outcome after steady step. group-kept (record { calls = calls; fails = step.fails }) next state outcome steady step.happens }

  run-steady : (calls : List Entry → Entry → ℕ) (others : List Server) → CanStart size others → (now : ℤ) (places first : ℕ) {lines : List Line} {state : State Peers} {told : List Told} {mark : ℕ} → RunBy (GroupStepBy plain shelf calls) (group_start others now places) first lines state told mark → IsSteady plain (IsGroup size) state
  run-steady calls others can now places first run =
      (any-says plain (IsGroup size) (GroupStepBy plain shelf calls) (group-is-kept calls) (group_start others now places) first (start-steady size plain others can now places) run).0

-- The laws.

pub keeps-promises : GroupKeepsPromises
keeps-promises size plain is_plain shelf calls others can now places first lines state told mark run =
    any-keeps plain (IsGroup size) (GroupStepBy plain shelf calls) (group-is-kept size plain is_plain shelf calls) (group_start others now places) first (start-steady size plain others can now places) now places refl run

pub settle-ends : GroupSettleEnds
settle-ends size plain is_plain shelf calls device others can now places first lines state told mark run =
    let steady = run-steady size plain is_plain shelf calls others can now places first run in
    let ends = ending.settle-ends plain is_plain (group plain device) (IsGroup size) (group-serves size plain device is_plain) (group-spends size plain device is_plain) state steady in
    record { new = ends.state; told = without is_ignored ends.told; settles = record { lines = ends.told; rounds = ends.rounds; printed = refl } }

pub settle-settles : GroupSettleSettles
settle-settles size plain is_plain shelf calls device others can now places first lines state new told printed mark run settles =
    let steady = run-steady size plain is_plain shelf calls others can now places first run in
    ending.settle-settles plain is_plain (group plain device) (IsGroup size) (group-serves size plain device is_plain) (group-spends size plain device is_plain) state new settles.lines steady settles.rounds

pub drain-ends : GroupDrainEnds
drain-ends size plain is_plain device state steady = group-ends size plain is_plain device (Says plain) (says-borne plain) state steady.good
