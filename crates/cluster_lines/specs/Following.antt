-- Words of laws: what is asked of the lines of a script over servers.
use Rattle.std.specs.Prelude.{◌≡◌, ℕ, true, false, Option, Some, None}
use Rattle.disk_model.specs.Seen.{DiskSeen}
use Rattle.disk_model.specs.declared.answers.DiskAnswer.TheVariants.{Failed, Stopped}
use Rattle.script_lines.specs.declared.line.Line.{Line}
use Rattle.script_lines.specs.declared.line.Line.TheVariants.{Push, Settle}
use Rattle.plain_service.specs.Setups.{Setup}
use Rattle.cluster_facts.specs.Lists.{without}
use Rattle.cluster_facts.specs.Service.{Plain}
use Rattle.cluster_facts.specs.History.{Hand, Empty}
use Rattle.cluster_events.specs.Lines.{is_ignored}
use Rattle.cluster_events.specs.Outcomes.{Outcome}
use Rattle.cluster_events.specs.Servers.{State}
use Rattle.cluster_events.specs.Devices.{Device}
use Rattle.cluster_events.specs.Ending.{SettleEnds}
use Rattle.cluster_events.specs.Running.{Shelf, Happens}
use Rattle.cluster_rounds.specs.Kits.{Kit, calm_servers}
use Rattle.cluster_rounds.specs.Resting.{Rests}
use Rattle.cluster_rounds.specs.Scripts.{Script}
use Rattle.cluster_rounds.specs.Seen.{IsRead, TellsFiles}
use Rattle.cluster_lines.specs.Lines.{is_own, shows_files}
use Rattle.cluster_lines.specs.Playing.{LooksBy}

-- an entry has a number in hand exactly where one is in hand
abbrev pub IsInHand : Option ℕ → Hand → Type 0
IsInHand None hand = hand ≡ Empty
IsInHand (Some number) hand = (hand ≡ Empty) → ⊥

-- What is asked of them, in the states in which a line is shared: one that is not the servers' own leads to what happens over any, where
-- what is kept tells of the disks' armed counts; `settle` ends by a fault in one of its rounds, and tells no line on a message without
-- effect; behind a stop that no server takes over its line is done; how the servers stand tells whether an entry is in hand; and files
-- that are shown are those of the history
pub record IsScript {P S : Type 0} (kit : Kit P S) (script : Script P kit.Seen) : Type 0 where
  pub shares : (plain : Plain) (shelf : Shelf) (device : Device) (next : Line) (state : State P) (outcome : Outcome (State P)) (seen : kit.Seen)
      → is_own next ≡ false → script.Shares next state → kit.Armed outcome.state.peers seen
      → Happens plain shelf (kit.servers plain device) next state outcome → script.Leads plain shelf device next state outcome
  pub settles : (plain : Plain) (device : Device) (state : State P) (whole : Outcome (State P)) → script.Shares Settle state
      → SettleEnds plain (kit.servers plain device) (kit.EndsAt Failed plain device) state whole
      → script.Ends plain device Settle state (record { state = whole.state; told = without is_ignored whole.told })
  pub halts : (plain : Plain) (shelf : Shelf) (device : Device) (state : State P) (whole : Outcome (State P)) → script.Shares Settle state
      → SettleEnds plain (kit.servers plain device) (kit.EndsAt Stopped plain device) state whole
      → script.Leads plain shelf device Settle state (record { state = whole.state; told = without is_ignored whole.told })
  pub in_hand : (plain : Plain) (device : Device) (state : State P) → script.Shares Push state
      → IsInHand ((kit.servers plain device).standing state).in_hand state.world.core.hand
  pub told : (setup : Setup) (next : Line) (state : State P) (seen : kit.Seen) → shows_files next ≡ true → script.Shares next state
      → kit.Tells setup state seen → TellsFiles setup state (kit.files seen)
  -- what `settle` counted is what its line counted, where a stop or a fault ends it too; a line that is not the servers' own asks nothing
  -- of the disks, or shows files of the first
  pub settled : (setup : Setup) (happened : ℕ → ℕ) (state : State P) (outcome : Outcome (State P)) (held left : kit.Seen)
      → kit.Uses setup happened state outcome held left → script.Uses Settle setup happened state outcome held left
  pub settle_halts : (setup : Setup) (happened : ℕ → ℕ) (state : State P) (end : Outcome (State P)) (held left : kit.Seen)
      → kit.Halts setup happened state end held left
      → script.Uses Settle setup happened state (record { state = end.state; told = without is_ignored end.told }) held left
  pub settle_faults : (setup : Setup) (happened : ℕ → ℕ) (state : State P) (end : Outcome (State P)) (held left : kit.Seen)
      → kit.Faults setup happened state end held left
      → script.Faults Settle setup happened state (record { state = end.state; told = without is_ignored end.told }) held left
  pub unused : (next : Line) (setup : Setup) (state : State P) (outcome : Outcome (State P)) (seen : kit.Seen) → is_own next ≡ false
      → shows_files next ≡ false → Rests (calm_servers kit setup) state outcome.state → script.Uses next setup (λ number. 0) state outcome seen seen
  pub read : (next : Line) (setup : Setup) (state : State P) (outcome : Outcome (State P)) (one two beside : DiskSeen)
      → LooksBy next one.files true one.tally two.tally → is_own next ≡ false → shows_files next ≡ true → IsRead one two → two.faults ≡ one.faults
      → Rests (calm_servers kit setup) state outcome.state → script.Uses next setup (λ number. 0) state outcome (kit.see one beside) (kit.see two beside)
