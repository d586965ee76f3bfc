-- Takeovers: what holds of the states behind them, and what they tell.
use Rattle.std.proofs.Common.{◌≡◌, ℕ, ◌≤◌, Bool, true, false, List, [], ◌∷◌, ◌++◌, refl, ap}
use Rattle.std.specs.List.{list_any}
use Rattle.std.proofs.lemmas.Bool.{or_right}
use Rattle.script_lines.specs.declared.line.Server.{Server}
use Rattle.plain_service.specs.Setups.{Setup}
use Rattle.service_laws.specs.PlainOf.{plain_of}
use Rattle.service_laws.proofs.ServiceLaws.{is_plain}
use Rattle.cluster_facts.specs.Types.{Entry}
use Rattle.cluster_facts.specs.Lists.{EndsIn}
use Rattle.cluster_facts.specs.History.{Hand, Empty, Waiting, Applied, Ready, accepted_by, committed_by}
use Rattle.cluster_facts.specs.Ranges.{AreInRange}
use Rattle.cluster_facts.proofs.Words.{EndsIn-same}
use Rattle.cluster_events.specs.Devices.{answered_in}
use Rattle.cluster_events.specs.Lines.{Told, Stood}
use Rattle.cluster_events.specs.declared.lines.ServerRole.{ServerRole}
use Rattle.cluster_events.specs.declared.lines.ServerRole.TheVariants as role
use Rattle.cluster_events.specs.Saying.{Says}
use Rattle.cluster_events.specs.Servers.{State}
use Rattle.event_text.specs.Texts.{printed, lines_of}
use Rattle.group_cluster.specs.Seats.{Peers, any_seat, is_standby}
use Rattle.group_cluster.specs.Falling.{catches, caught_seats, caught_hand, caught_lines, is_fresh, is_joining, takes, named, front_of, next_of, count_fallen, all_stood, taken_over}
use Rattle.group_cluster.specs.Ended.{ended}
use Rattle.group_cluster.proofs.Ended.{ended-tells}
use Rattle.group_cluster.proofs.Stepping.{over-good, over-goes, over-sound}
use Rattle.cluster_clients.specs.Taken.{kept_lines}
use Rattle.cluster_rounds.specs.Kits.{device_by}
use Rattle.cluster_rounds.specs.PartlyDone.{SaysUnasked}
use Rattle.cluster_rounds.specs.Worlds.{IsGood}
use Rattle.cluster_rounds.proofs.CameSteps.{ends-longer}
use Rattle.lead_rounds.proofs.GroupSteps.{unasked-borne}
use Rattle.group_servers.specs.GroupCounts.{is_down}
use Rattle.group_servers.specs.GroupKit.{group_kit}

-- What goes on is in range, and longer than what was answered.

pub left-range : (past : List Entry) (hand : Hand) (catching : Bool) → AreInRange (accepted_by past hand) → AreInRange (committed_by past (caught_hand catching hand))
left-range past Empty true range = range
left-range past Empty false range = range
left-range past (Waiting entry) true range = range
left-range past (Waiting entry) false range = range.1
left-range past (Applied entry) true range = range
left-range past (Applied entry) false range = range
left-range past (Ready entry) true range = range
left-range past (Ready entry) false range = range

left-ends : (past : List Entry) (hand : Hand) (catching : Bool) → EndsIn (committed_by past (caught_hand catching hand)) past
left-ends past Empty true = EndsIn-same past
left-ends past Empty false = EndsIn-same past
left-ends past (Waiting entry) true = (entry ∷ [], refl)
left-ends past (Waiting entry) false = EndsIn-same past
left-ends past (Applied entry) true = (entry ∷ [], refl)
left-ends past (Applied entry) false = (entry ∷ [], refl)
left-ends past (Ready entry) true = (entry ∷ [], refl)
left-ends past (Ready entry) false = (entry ∷ [], refl)

-- Lines of roles, behind some that tell of a server that is down.

all-down : (stands_as : ServerRole) (servers : List Server) (told : List Told) → list_any is_down told ≡ true → list_any is_down (all_stood stands_as servers told) ≡ true
all-down stands_as [] told is = is
all-down stands_as (server ∷ servers) told is =
    all-down stands_as servers (Stood server stands_as ∷ told) (or_right (is_down (Stood server stands_as)) (list_any is_down told) is)

all-kept : (stands_as : ServerRole) (servers : List Server) (told : List Told) → kept_lines told ≡ printed told → kept_lines (all_stood stands_as servers told) ≡ printed (all_stood stands_as servers told)
all-kept stands_as [] told is = is
all-kept stands_as (server ∷ servers) told is =
    all-kept stands_as servers (Stood server stands_as ∷ told) (ap (λ lines. lines ++ lines_of (Stood server stands_as)) is)

caught-kept : (catching : Bool) (past : List Entry) (hand : Hand) → kept_lines (caught_lines catching past hand) ≡ printed (caught_lines catching past hand)
caught-kept true past Empty = refl
caught-kept true past (Waiting entry) = refl
caught-kept true past (Applied entry) = refl
caught-kept true past (Ready entry) = refl
caught-kept false past hand = refl

module _ (setup : Setup) (state : State Peers) where
  abbrev past : List Entry
  past = state.world.core.answered

  abbrev catching : Bool
  catching = catches state.peers.seats state.world.core.hand

  abbrev caught_told : List Told
  caught_told = caught_lines catching past state.world.core.hand

  -- **the active server is down**, and so a takeover tells
  pub over-down : (counts : ℕ → ℕ) → list_any is_down (taken_over (device_by setup counts) state).told ≡ true
  over-down counts =
      let owns = caught_seats catching state.peers.seats in
      let hand = caught_hand catching state.world.core.hand in
      let fresh = any_seat is_fresh owns in
      let count = count_fallen (device_by setup counts) fresh (committed_by past hand) owns in
      let names = named (takes fresh) owns in
      let acting = next_of state.peers.acting count names in
      let fallen = all_stood role.Down (front_of count names) (Stood state.peers.acting role.Down ∷ caught_told) in
      all-down role.Standby (named is_joining owns) (Stood acting role.Active ∷ fallen) (all-down role.Down (front_of count names) (Stood state.peers.acting role.Down ∷ caught_told) refl)

  -- all lines of an end are printed
  pub ended-printed : kept_lines (ended state).told ≡ printed (ended state).told
  ended-printed =
      all-kept role.Down (named is_standby (caught_seats catching state.peers.seats)) (Stood state.peers.acting role.Down ∷ caught_told)
      (ap (λ lines. lines ++ lines_of (Stood state.peers.acting role.Down)) (caught-kept catching past state.world.core.hand))

  pub ended-later : answered_in state ≤ answered_in (ended state).state
  ended-later = ends-longer (ended state).state.world.core.answered past (left-ends past state.world.core.hand catching)

  module _ (n : ℕ) (good : IsGood (group_kit n) setup state) where
    -- **the state behind a takeover is good**
    pub over-state : (counts : ℕ → ℕ) → IsGood (group_kit n) setup (taken_over (device_by setup counts) state).state
    over-state counts =
        let plain = plain_of setup in
        let device = device_by setup counts in
        let hand = state.world.core.hand in
        let fresh = any_seat is_fresh (caught_seats catching state.peers.seats) in
        record {
          begins = good.begins;
          steady = record {
            sound = over-sound n plain (is_plain setup) device (SaysUnasked plain) (unasked-borne plain) state.world past catching hand good.steady.sound;
            good = over-good n plain (is_plain setup) device (SaysUnasked plain) (unasked-borne plain) state hand catching fresh good.steady.good.names good.steady.good.acts;
          };
          range = left-range past hand catching good.range;
          moment = good.moment;
        }

    pub over-says : (counts : ℕ → ℕ) → SaysUnasked (plain_of setup) state.world (taken_over (device_by setup counts) state).state.world (taken_over (device_by setup counts) state).told
    over-says counts =
        let plain = plain_of setup in
        let fresh = any_seat is_fresh (caught_seats catching state.peers.seats) in
        over-goes n plain (is_plain setup) (device_by setup counts) (SaysUnasked plain) (unasked-borne plain) state state.world.core.hand catching fresh good.steady.sound

    -- **and that of an end**
    pub ended-state : IsGood (group_kit n) setup (ended state).state
    ended-state = record {
      begins = good.begins;
      steady = (ended-tells n (plain_of setup) (is_plain setup) (device_by setup (λ number. 0)) state good.steady).0;
      range = left-range past state.world.core.hand catching good.range;
      moment = good.moment;
    }

    pub ended-says : Says (plain_of setup) state.world (ended state).state.world (ended state).told
    ended-says = (ended-tells n (plain_of setup) (is_plain setup) (device_by setup (λ number. 0)) state good.steady).1
