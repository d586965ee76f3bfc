-- The lines of a script over one server and its journal lead to what they lead to over any servers, where they are shared.
use Rattle.std.specs.Prelude.{◌≡◌, ℕ, Bool, true, false, IfSome, length}
use Rattle.std.proofs.Common.{refl, subst, sym, inl, inr}
use Rattle.script_lines.specs.declared.line.Line.{Line}
use Rattle.script_lines.specs.declared.line.Line.TheVariants as line
use Rattle.disk_model.specs.Seen.{DiskSeen}
use Rattle.plain_service.specs.Setups.{Setup}
use Rattle.cluster_facts.specs.Lists.{without}
use Rattle.cluster_facts.specs.Service.{Plain}
use Rattle.cluster_facts.specs.History.{Hand, Empty, Waiting, Applied, Ready}
use Rattle.cluster_events.specs.Lines.{is_ignored}
use Rattle.cluster_events.specs.Outcomes.{Outcome}
use Rattle.cluster_events.specs.Servers.{State}
use Rattle.cluster_events.specs.Devices.{Device}
use Rattle.cluster_events.specs.Running.{Shelf, Happens}
use Rattle.cluster_rounds.specs.Kits.{calm_servers}
use Rattle.cluster_rounds.specs.Resting.{Rests}
use Rattle.cluster_rounds.specs.Seen.{IsRead, TellsFiles}
use Rattle.cluster_lines.specs.Lines.{is_own, shows_files}
use Rattle.cluster_lines.specs.Following.{IsInHand, IsScript}
use Rattle.cluster_lines.specs.Playing.{LooksBy}
use Rattle.group_cluster.specs.Seats.{hand_number}
use Rattle.cold_cluster.specs.Cold.{Alone, IsBeside}
use Rattle.cold_cluster.specs.Lines.{AreLeft, HappensBy, HappensDown, HappensUp, alone}
use Rattle.cold_cluster.specs.Ended.{EndsBy}
use Rattle.cold_cluster.specs.Standing.{shown_up}
use Rattle.cold_servers.specs.ColdKit.{SharesCold, cold_kit, cold_script}
use Rattle.cold_servers.specs.ColdCounts.{CountsLine}
use Rattle.cold_servers.specs.ColdSeen.{ColdSeen, HoldsFiles, TellsBoth}
use Rattle.cold_servers.specs.CountLaws.{done-none, idle-same}
use Rattle.cold_servers.specs.RestLaws.{rests-so}

-- whether it is up or down
by-both : (up : Bool) (plain : Plain) (shelf : Shelf) (device : Device) (next : Line) (state : State Alone) (outcome : Outcome (State Alone))
    → HappensUp plain shelf device next state outcome → HappensDown plain shelf device next state outcome
    → HappensBy up plain shelf device next state outcome
by-both true plain shelf device next state outcome one other = one
by-both false plain shelf device next state outcome one other = other

module _ (plain : Plain) (shelf : Shelf) (device : Device) (state : State Alone) (outcome : Outcome (State Alone)) where
  pub while-up : (next : Line) → state.peers.up ≡ true → HappensUp plain shelf device next state outcome
      → HappensBy state.peers.up plain shelf device next state outcome
  while-up next up happens =
      subst (λ (b : Bool). HappensBy b plain shelf device next state outcome) (sym up) happens

  shares : (next : Line) → is_own next ≡ false → SharesCold next state → AreLeft outcome.state.peers
      → Happens plain shelf (alone plain device) next state outcome → HappensBy state.peers.up plain shelf device next state outcome
  shares (line.Time now) own shared left happens = by-both state.peers.up plain shelf device (line.Time now) state outcome happens happens
  shares (line.Log client asked) own shared left happens = by-both state.peers.up plain shelf device (line.Log client asked) state outcome happens happens
  shares (line.Ntf client asked) own shared left happens = by-both state.peers.up plain shelf device (line.Ntf client asked) state outcome happens happens
  shares (line.Inject bytes) own shared left happens = by-both state.peers.up plain shelf device (line.Inject bytes) state outcome happens happens
  shares (line.DispatchOne client) own shared left happens = by-both state.peers.up plain shelf device (line.DispatchOne client) state outcome happens happens
  shares (line.DispatchAll client workers) own shared left happens =
      by-both state.peers.up plain shelf device (line.DispatchAll client workers) state outcome happens happens
  shares line.Servers own shared left happens = by-both state.peers.up plain shelf device line.Servers state outcome happens happens
  shares (line.Deliver place) own shared left happens = while-up (line.Deliver place) shared happens
  shares (line.Resend client) own shared left happens = while-up (line.Resend client) shared happens
  shares line.Push own shared left happens = while-up line.Push shared happens
  shares line.Settle own shared left happens = while-up line.Settle shared (inl (happens, left))
  shares line.Files own shared left happens = while-up line.Files shared happens
  shares (line.Cat name) own shared left happens = while-up (line.Cat name) shared happens
  shares line.Mirror own shared left happens = cc
  shares line.Ack own shared left happens = cc
  shares line.Work own shared left happens = cc
  shares (line.Crash server) own shared left happens = cc
  shares (line.Arm server count) own shared left happens = cc
  shares line.Disarm own shared left happens = cc
  shares (line.Restart server) own shared left happens = cc
  shares _ own shared left happens = absurd happens

in-hand : (past : ℕ) (hand : Hand) → IsInHand (hand_number past hand) hand
in-hand past Empty = refl
in-hand past (Waiting entry) = λ none. cc
in-hand past (Applied entry) = λ none. cc
in-hand past (Ready entry) = λ none. cc

told : (setup : Setup) (next : Line) (state : State Alone) (seen : ColdSeen) → shows_files next ≡ true → SharesCold next state
    → TellsBoth setup state seen → TellsFiles setup state seen.disk.files
told setup line.Files state seen shows up tells =
    subst (λ (b : Bool). IfSome seen.disk.files (HoldsFiles b setup state.world.core.answered state.world.core.hand)) up tells.disk
told setup (line.Cat name) state seen shows up tells =
    subst (λ (b : Bool). IfSome seen.disk.files (HoldsFiles b setup state.world.core.answered state.world.core.hand)) up tells.disk
told setup _ state seen shows up tells = cc

-- a line that is not the servers' own asks nothing of the disks, unless it shows files
unasked-counts : (next : Line) (setup : Setup) (old new : State Alone) (seen : ColdSeen) → is_own next ≡ false → shows_files next ≡ false
    → Rests (calm_servers cold_kit setup) old new → IsBeside old.peers.mirrored → CountsLine next setup old new seen seen
unasked-counts line.Mirror setup old new seen shared unshown rests beside = cc
unasked-counts line.Work setup old new seen shared unshown rests beside = cc
unasked-counts (line.Restart server) setup old new seen shared unshown rests beside = cc
unasked-counts line.Settle setup old new seen shared unshown rests beside =
    let so = rests-so setup rests beside in
    inl (done-none setup old new seen so.answered so.committed so.up so.beside)
unasked-counts line.Files setup old new seen shared unshown rests beside = cc
unasked-counts (line.Cat name) setup old new seen shared unshown rests beside = cc
unasked-counts _ setup old new seen shared unshown rests beside = idle-same seen

-- one that shows files reads those of the record disk
shown-counts : (next : Line) (setup : Setup) (old new : State Alone) (one two journal : DiskSeen) → LooksBy next one.files true one.tally two.tally
    → shows_files next ≡ true → IsRead one two → two.faults ≡ one.faults
    → CountsLine next setup old new (record { disk = one; journal = journal }) (record { disk = two; journal = journal })
shown-counts line.Files setup old new one two journal looks shown read faults =
    record { looks = looks; disk = record { changing = read.changing; faults = faults; stops = read.stops }; journal = refl }
shown-counts (line.Cat name) setup old new one two journal looks shown read faults =
    record { looks = looks; disk = record { changing = read.changing; faults = faults; stops = read.stops }; journal = refl }
shown-counts _ setup old new one two journal looks shown read faults = cc

pub cold_follows : IsScript cold_kit cold_script
cold_follows = record {
  shares = λ plain shelf device next state outcome seen own shared armed happens. shares plain shelf device state outcome next own shared armed.left happens;
  settles = λ plain device state whole up ends.
      subst (λ (b : Bool). EndsBy b plain device line.Settle state (record { state = whole.state; told = without is_ignored whole.told })) (sym up)
      (record { whole = whole; ends = ends; is = refl });
  halts = λ plain shelf device state whole up ends.
      while-up plain shelf device state (record { state = whole.state; told = without is_ignored whole.told }) line.Settle up
      (inr (record { whole = whole; ends = ends; is = refl }));
  in_hand = λ plain device state up.
      subst (λ (b : Bool). IsInHand (shown_up b state).in_hand state.world.core.hand) (sym up)
      (in-hand (length state.world.core.answered) state.world.core.hand);
  told = told;
  settled = λ setup happened state outcome held left uses. record { never = uses.never; counts = λ beside. inl (uses.done beside) };
  settle_halts = λ setup happened state end held left halts. record { never = halts.never; counts = λ beside. inr (halts.broke beside) };
  settle_faults = λ setup happened state end held left faults. record { never = faults.never; counts = λ beside. faults.broke beside };
  unused = λ next setup state outcome seen shared unshown rests. record {
    never = λ number. refl;
    counts = λ beside. unasked-counts next setup state outcome.state seen shared unshown rests beside;
  };
  read = λ next setup state outcome one two beside looks shared shown read faults rests. record {
    never = λ number. refl;
    counts = λ besides. shown-counts next setup state outcome.state one two beside looks shown read faults;
  };
}
