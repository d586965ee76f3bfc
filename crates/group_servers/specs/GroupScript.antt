-- The lines of a script over a group lead to what they lead to over any.
use Rattle.std.specs.Prelude.{ℕ, length, ◌≡◌, true, false, Option}
use Rattle.std.proofs.Common.{refl, arith}
use Rattle.disk_model.specs.Counts.{Counters}
use Rattle.disk_model.specs.Disk.{Files}
use Rattle.disk_model.specs.Seen.{DiskSeen}
use Rattle.disk_model.specs.declared.answers.DiskAnswer.TheVariants.{Stopped}
use Rattle.plain_service.specs.Setups.{Setup}
use Rattle.script_lines.specs.declared.line.Line.{Line}
use Rattle.script_lines.specs.declared.line.Line.TheVariants as line
use Rattle.cluster_facts.specs.Lists.{without}
use Rattle.cluster_facts.specs.Service.{Plain}
use Rattle.cluster_facts.specs.History.{Hand, Empty, Waiting, Applied, Ready}
use Rattle.cluster_events.specs.Lines.{is_ignored}
use Rattle.cluster_events.specs.Outcomes.{Outcome}
use Rattle.cluster_events.specs.Servers.{State}
use Rattle.cluster_events.specs.Devices.{Device}
use Rattle.cluster_events.specs.Running.{Shelf, Happens}
use Rattle.cluster_events.proofs.NeverEnds.{settle-never}
use Rattle.group_cluster.specs.Seats.{Peers, hand_number}
use Rattle.group_cluster.specs.Group.{group}
use Rattle.group_cluster.specs.Running.{GroupHappens}
use Rattle.cluster_rounds.specs.Kits.{device_by}
use Rattle.cluster_rounds.specs.Seen.{counters_of}
use Rattle.cluster_lines.specs.Following.{IsInHand, IsScript}
use Rattle.cluster_lines.specs.Lines.{is_own, shows_files}
use Rattle.cluster_lines.specs.Playing.{LooksBy}
use Rattle.group_servers.specs.GroupCounts.{CountsLine, UsesGroup, UsesLine, count_up}
use Rattle.group_servers.specs.GroupLaws.{rests-acting, rests-answered, rests-up}
use Rattle.group_servers.specs.GroupUses.{spent-none, stood-later, uses-printed, worked-same}
use Rattle.group_servers.specs.GroupKit.{group_ends, group_kit, group_script}

shares : (plain : Plain) (shelf : Shelf) (device : Device) (next : Line) (state : State Peers) (outcome : Outcome (State Peers))
    → Happens plain shelf (group plain device) next state outcome → GroupHappens plain shelf device next state outcome
shares plain shelf device (line.Crash server) state outcome happens = absurd happens
shares plain shelf device (line.Arm server count) state outcome happens = absurd happens
shares plain shelf device line.Disarm state outcome happens = absurd happens
shares plain shelf device (line.Restart server) state outcome happens = absurd happens
shares plain shelf device _ state outcome happens = happens

in-hand : (past : ℕ) (hand : Hand) → IsInHand (hand_number past hand) hand
in-hand past Empty = refl
in-hand past (Waiting entry) = λ none. cc
in-hand past (Applied entry) = λ none. cc
in-hand past (Ready entry) = λ none. cc

-- where the count of faults stood, what a line counted is what is asked
pub calm-uses : (setup : Setup) (next : Line) (state : State Peers) (outcome : Outcome (State Peers)) (held left : DiskSeen) → left.faults ≡ held.faults
    → CountsLine next (device_by setup (λ number. 0)) held.files state outcome.state (counters_of held) (counters_of left)
    → UsesLine setup next (λ number. 0) state outcome held.files (counters_of held) (counters_of left)
calm-uses setup next state outcome held left same counts = record {
  caused = λ never number. refl;
  later = stood-later (counters_of held) (counters_of left) same;
  felled = λ less. absurd (let is = same in omega arith);
  counts = counts;
}

-- a line that is not the servers' own asks nothing of the disk, unless it shows files
unasked-counts : (next : Line) (device : Device) (held : Option Files) (old new : State Peers) (seen : Counters) → is_own next ≡ false
    → shows_files next ≡ false → new.world.core.answered ≡ old.world.core.answered → count_up new ≡ count_up old
    → new.peers.acting ≡ old.peers.acting → CountsLine next device held old new seen seen
unasked-counts line.Work device held old new seen shared unshown same up leads = cc
unasked-counts (line.Crash server) device held old new seen shared unshown same up leads = cc
unasked-counts line.Settle device held old new seen shared unshown same up leads =
    worked-same device old new seen same up leads
unasked-counts line.Files device held old new seen shared unshown same up leads = cc
unasked-counts (line.Cat name) device held old new seen shared unshown same up leads = cc
unasked-counts _ device held old new seen shared unshown same up leads = spent-none seen

-- one that shows files reads them
shown-counts : (next : Line) (device : Device) (old new : State Peers) (one two : DiskSeen) → LooksBy next one.files true one.tally two.tally
    → shows_files next ≡ true → two.faults ≡ one.faults → two.stops ≡ one.stops
    → CountsLine next device one.files old new (counters_of one) (counters_of two)
shown-counts line.Files device old new one two looks shown faults stops = record { looks = looks; faults = faults; stops = stops }
shown-counts (line.Cat name) device old new one two looks shown faults stops = record { looks = looks; faults = faults; stops = stops }
shown-counts _ device old new one two looks shown faults stops = cc

-- what `settle` counted is what its line counted
settled-uses : (setup : Setup) (happened : ℕ → ℕ) (state : State Peers) (outcome : Outcome (State Peers)) (held left : DiskSeen)
    → UsesGroup setup happened state outcome.state outcome.told (counters_of held) (counters_of left)
    → UsesLine setup line.Settle happened state outcome held.files (counters_of held) (counters_of left)
settled-uses setup happened state outcome held left uses = record {
  caused = uses.caused;
  later = uses.later;
  felled = λ less. (refl, uses.felled less);
  counts = uses.worked;
}

pub group_follows : (n : ℕ) → IsScript (group_kit n) group_script
group_follows n = record {
  shares = λ plain shelf device next state outcome seen shared stands armed happens. shares plain shelf device next state outcome happens;
  settles = λ plain device state whole stands ends. record { whole = whole; ends = ends; is = refl };
  halts = λ plain shelf device state whole stands ends.
      absurd (settle-never plain (group plain device) (group_ends Stopped plain device) (λ now last stops. stops) state whole ends);
  in_hand = λ plain device state stands. in-hand (length state.world.core.answered) state.world.core.hand;
  told = λ setup next state seen shows stands tells. tells;
  settled = λ setup happened state outcome held left uses. settled-uses setup happened state outcome held left uses;
  settle_halts = λ setup happened state end held left halts.
      settled-uses setup happened state (record { state = end.state; told = without is_ignored end.told }) held left
      (uses-printed setup happened state end.state end.told (counters_of held) (counters_of left) halts);
  settle_faults = λ setup happened state end held left faults. record {
    between = faults.between;
    before_it = faults.before_it;
    caused = faults.caused;
    behind_it = faults.behind_it;
    rose = faults.rose;
    ended = faults.ended;
  };
  unused = λ next setup state outcome seen shared unshown rests.
      calm-uses setup next state outcome seen seen refl
      (unasked-counts next (device_by setup (λ number. 0)) seen.files state outcome.state (counters_of seen) shared unshown (rests-answered n setup rests)
      (rests-up n setup rests) (rests-acting n setup rests));
  read = λ next setup state outcome one two beside looks shared shown read faults rests.
      calm-uses setup next state outcome one two faults
      (shown-counts next (device_by setup (λ number. 0)) state outcome.state one two looks shown faults read.stops);
}
