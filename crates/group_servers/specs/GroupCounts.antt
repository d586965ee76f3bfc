-- Words of public clauses: what the disk of servers counted in an event, by the works that failed.
use Rattle.std.specs.Prelude.{◌≡◌, ℕ, zero, suc, ◌+◌, ◌<◌, ◌≤◌, ◌⊎◌, Bool, true, false, ◌&&◌, nat_lt, if◌then◌else◌, Option, None, List, [], ◌∷◌, length}
use Rattle.std.specs.List.{AllByRecursion, list_any}
use Rattle.ais_values.specs.Causes.{Rose}
use Rattle.disk_model.specs.Counts.{Counters}
use Rattle.disk_model.specs.Disk.{Files}
use Rattle.disk_model.specs.Seen.{DiskSeen}
use Rattle.script_lines.specs.declared.line.Line.{Line}
use Rattle.script_lines.specs.declared.line.Line.TheVariants as line
use Rattle.script_lines.specs.declared.line.Server.{Server}
use Rattle.plain_service.specs.Setups.{Setup}
use Rattle.cluster_facts.specs.Types.{Entry}
use Rattle.cluster_facts.specs.Lists.{EndsIn}
use Rattle.cluster_facts.specs.History.{committed_by}
use Rattle.cluster_events.specs.declared.lines.ServerRole.TheVariants.{Down}
use Rattle.cluster_events.specs.Lines.{Told, Stood}
use Rattle.cluster_events.specs.Outcomes.{Outcome}
use Rattle.cluster_events.specs.Servers.{State}
use Rattle.cluster_events.specs.Devices.{Device, IsCaused}
use Rattle.group_cluster.specs.Seats.{Peers, any_seat, count_seats, is_standby, is_up, same_server}
use Rattle.group_cluster.specs.Falling.{catches, caught_hand, caught_seats, is_fresh}
use Rattle.mirror.specs.Replicas.{down}
use Rattle.mirror.specs.Pairing.{alone}
use Rattle.cluster_rounds.specs.Kits.{device_by}
use Rattle.cluster_lines.specs.Playing.{LooksBy}
use Rattle.group_servers.specs.declared.group.Group.{Group}
use Rattle.group_servers.specs.Deals.{AreSome, Dealt, Ending, LackedAt, Spent, downs_at, downs_in, fell_behind, last_calls, of_all, total}

-- whether the line tells that a server is down
abbrev pub is_down : Told → Bool
is_down (Stood server Down) = true
is_down _ = false

-- where the count of faults rose, the lines tell that a server is down
abbrev pub TellsDown : ℕ → ℕ → List Told → Type 0
TellsDown before now told = before < now → list_any is_down told ≡ true

-- the lines in which a fault can be outlived, by how many standbys there are: those that work entries; and a crash, behind which one
-- standby may fail as it takes over where another is left
abbrev pub outlives : ℕ → Line → Bool
outlives standbys line.Work = true
outlives standbys line.Settle = true
outlives standbys (line.Crash server) = nat_lt 1 standbys
outlives standbys _ = false

-- where the count of faults rose, the line is such a one, and it tells that a server is down
abbrev pub FellIn : ℕ → Line → ℕ → ℕ → List Told → Type 0
FellIn standbys next before now told = before < now → (outlives standbys next ≡ true) × (list_any is_down told ≡ true)

-- how many servers beside the active one are not down
abbrev pub count_up : State Peers → ℕ
count_up state = count_seats is_up state.peers.seats

-- each entry that was answered was worked once, and as many servers went down as fell in these works: where the active one did, another
-- one is active in its place, and where none fell the same one is
pub record WorkedAll (device : Device) (old new : State Peers) (before after : Counters) : Type 0 where
  pub dealt : Dealt device old.world.core.answered new.world.core.answered before after
  pub downs : count_up old ≡ of_all downs_in dealt.deals + count_up new
  pub stays : of_all downs_in dealt.deals ≡ 0 → new.peers.acting ≡ old.peers.acting

-- an event was done: a work failed only where the count of faults rose, and there the lines tell that a server is down
pub record UsesGroup (setup : Setup) (happened : ℕ → ℕ) (old new : State Peers) (told : List Told) (before after : Counters) : Type 0 where
  pub caused : IsCaused before.faults after.faults happened
  pub later : before.faults ≤ after.faults
  pub felled : TellsDown before.faults after.faults told
  pub worked : WorkedAll (device_by setup happened) old new before after

-- the works that were done up to a history, and the one in which the event ended: the active server fell, and each standby that was left
pub record EndedIn (device : Device) (old now : State Peers) (before after : Counters) : Type 0 where
  pub past : List Entry
  pub worked : Counters
  pub dealt : Dealt device old.world.core.answered past before worked
  pub ending : Ending device past now.world.core.answered worked after
  pub downs : count_up old ≡ of_all downs_in dealt.deals + (length ending.row + count_up now)

-- an event ended by a fault: the works that failed before it raised the count up to one between
pub record FaultsGroup (setup : Setup) (happened : ℕ → ℕ) (old now : State Peers) (before after : Counters) : Type 0 where
  pub between : ℕ
  pub before_it : before.faults ≤ between
  pub caused : IsCaused before.faults between happened
  pub behind_it : between ≤ after.faults
  pub rose : Rose between after.faults
  pub ended : EndedIn (device_by setup happened) old now before after

-- Behind a crash of the active server: the history that goes on, and the calls of the deeds that standbys keep, which is none where one of
-- them keeps none.

abbrev pub history_behind : State Peers → List Entry
history_behind state =
    let hand = state.world.core.hand in
    committed_by state.world.core.answered (caught_hand (catches state.peers.seats hand) hand)

abbrev pub kept_calls : Device → State Peers → ℕ
kept_calls device state =
    if any_seat is_fresh (caught_seats (catches state.peers.seats state.world.core.hand) state.peers.seats) then 0
    else last_calls device (history_behind state)

-- What want of memory leaves.

-- servers of the code where a takeover lacked memory that had made so many of its calls: none is armed, and this one, which was active, is
-- down and leads still, unless all calls were made, where the one that took over may be active
pub record HasFallen {n : ℕ} (acting : Server) (servers : Group n) (made calls : ℕ) : Type 0 where
  pub unarmed : servers.armed ≡ false
  pub out : ((servers.acting ≡ acting) × (servers.active ≡ alone down)) ⊎ (made ≡ calls)

-- so it is of the one that was active before an event where no server fell in it before; where one did, another had become active
abbrev pub HasFallenBehind : {n : ℕ} → ℕ → Server → Group n → (made calls : ℕ) → Type 0
HasFallenBehind zero acting servers made calls = HasFallen acting servers made calls
HasFallenBehind (suc fell) acting servers made calls = servers.armed ≡ false

-- memory was wanting behind the works that were done, in whichever works the disk failed, with this history and these servers left in the
-- code. No more servers fell than were up
pub record LacksGroup {n : ℕ} (setup : Setup) (old : State Peers) (entries : List Entry) (servers : Group n) (before after : Counters) : Type 0 where
  pub happened : ℕ → ℕ
  pub past : List Entry
  pub worked : Counters
  pub dealt : Dealt (device_by setup happened) old.world.core.answered past before worked
  pub lacked :
      LackedAt (device_by setup happened) entries past
      (λ made calls. HasFallenBehind (of_all downs_in dealt.deals) old.peers.acting servers made calls) worked after
  pub downs : of_all downs_in dealt.deals + downs_at lacked ≤ count_up old

-- In the line of a crash no entry is worked: the disk was asked for nothing; or the active server crashed, these standbys failed as they
-- took over, each in one of the calls of the deeds that it keeps, and memory was wanting as the next one did, behind so many of them.
pub data LacksCrash {n : ℕ} (setup : Setup) (old : State Peers) (entries : List Entry) (servers : Group n) (before after : Counters) : Type 0 where
  Unasked :
      EndsIn entries old.world.core.answered → Spent 0 0 0 before after → after.tally.armed ≡ before.tally.armed
      → LacksCrash setup old entries servers before after
  Taking :
      (row : List ℕ) (made : ℕ) → entries ≡ history_behind old → AllByRecursion (AreSome (kept_calls (device_by setup (λ number. 0)) old)) row
      → made ≤ kept_calls (device_by setup (λ number. 0)) old → Spent (total row + made) (length row) 0 before after
      → suc (length row) ≤ count_up old → HasFallen old.peers.acting servers made (kept_calls (device_by setup (λ number. 0)) old)
      → after.tally.armed ≡ None → LacksCrash setup old entries servers before after

-- by whether it was in the line of a crash
abbrev pub LacksBy : {n : ℕ} → Bool → Setup → State Peers → List Entry → Group n → Counters → Counters → Type 0
LacksBy true setup old entries servers before after = LacksCrash setup old entries servers before after
LacksBy false setup old entries servers before after = LacksGroup setup old entries servers before after

-- a standby took over, behind those that failed
pub record Crashed (device : Device) (state new : State Peers) (before after : Counters) : Type 0 where
  pub row : List ℕ
  pub downs : count_up state ≡ suc (length row) + count_up new
  pub fell : device.fails (length (history_behind state)) ≡ fell_behind row
  pub some : AllByRecursion (AreSome (kept_calls device state)) row
  pub spent : Spent (total row + kept_calls device state) (length row) 0 before after

-- where the crash takes the active server down
abbrev pub CountsCrash : Bool → Device → (state new : State Peers) → Counters → Counters → Type 0
CountsCrash true device state new before after = Crashed device state new before after
CountsCrash false device state new before after = Spent 0 0 0 before after

-- how many fell before the last one
abbrev pub fell_first : List ℕ → ℕ
fell_first [] = 0
fell_first (one ∷ row) = fell_behind row

-- or all of them failed
pub record CrashEnded (device : Device) (state new : State Peers) (before after : Counters) : Type 0 where
  pub row : List ℕ
  pub downs : count_up state ≡ length row + count_up new
  pub fell : device.fails (length (history_behind state)) ≡ fell_first row
  pub some : AllByRecursion (AreSome (kept_calls device state)) row
  pub spent : Spent (total row) (length row) 0 before after

-- files of the disk were shown
pub record CountsShown (next : Line) (held : Option Files) (before after : Counters) : Type 0 where
  pub looks : LooksBy next held true before.tally after.tally
  pub faults : after.faults ≡ before.faults
  pub stops : after.stops ≡ before.stops

-- what a line makes the disk count that tells these files: the calls that it asks for, and no others
abbrev pub CountsLine : Line → Device → Option Files → (old new : State Peers) → Counters → Counters → Type 0
CountsLine line.Work device held old new before after = WorkedAll device old new before after
CountsLine line.Settle device held old new before after = WorkedAll device old new before after
CountsLine (line.Crash server) device held old new before after =
    CountsCrash (same_server server old.peers.acting && any_seat is_standby old.peers.seats) device old new before after
CountsLine line.Files device held old new before after = CountsShown line.Files held before after
CountsLine (line.Cat name) device held old new before after = CountsShown (line.Cat name) held before after
CountsLine _ device held old new before after = Spent 0 0 0 before after

-- and where a fault ends it
abbrev pub CountsEnd : Line → Device → (old new : State Peers) → Counters → Counters → Type 0
CountsEnd (line.Crash server) device old new before after = CrashEnded device old new before after
CountsEnd _ device old new before after = EndedIn device old new before after

-- the same of a line
pub record UsesLine (setup : Setup) (next : Line) (happened : ℕ → ℕ) (state : State Peers) (outcome : Outcome (State Peers)) (held : Option Files)
    (before after : Counters) : Type 0 where
  pub caused : IsCaused before.faults after.faults happened
  pub later : before.faults ≤ after.faults
  pub felled : FellIn (count_seats is_standby state.peers.seats) next before.faults after.faults outcome.told
  pub counts : CountsLine next (device_by setup happened) held state outcome.state before after

pub record FaultsLine (setup : Setup) (next : Line) (happened : ℕ → ℕ) (old new : State Peers) (before after : Counters) : Type 0 where
  pub between : ℕ
  pub before_it : before.faults ≤ between
  pub caused : IsCaused before.faults between happened
  pub behind_it : between ≤ after.faults
  pub rose : Rose between after.faults
  pub ended : CountsEnd next (device_by setup happened) old new before after

-- the count of faults rose
pub record RisesGroup (held left : DiskSeen) : Type 0 where
  pub later : held.faults ≤ left.faults
  pub rose : Rose held.faults left.faults
