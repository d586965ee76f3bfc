-- Words of public clauses: what each line of a script does to a cluster, over any servers, and what it leaves where it breaks off.
use Rattle.std.specs.Prelude.{◌≡◌, ℕ, Bool, false, Option, IfSome, List}
use Rattle.disk_model.specs.Disk.{Files}
use Rattle.disk_model.specs.Seen.{DiskSeen}
use Rattle.disk_model.specs.declared.answers.DiskAnswer.{DiskAnswer}
use Rattle.disk_model.specs.declared.answers.DiskAnswer.TheVariants.{Memory, Failed, Stopped}
use Rattle.disk_model.specs.declared.tally.Tally.{Tally}
use Rattle.script_lines.specs.declared.line.Line.{Line}
use Rattle.script_lines.specs.declared.line.Line.TheVariants as line
use Rattle.plain_service.specs.Setups.{Setup}
use Rattle.service_laws.specs.PlainOf.{plain_of}
use Rattle.cluster_events.specs.Outcomes.{Outcome}
use Rattle.cluster_events.specs.Servers.{State}
use Rattle.cluster_events.specs.Devices.{EndBy}
use Rattle.cluster_events.specs.Ending.{is_crash}
use Rattle.cluster_events.specs.Running.{Shelf}
use Rattle.event_text.specs.Texts.{printed}
use Rattle.cluster_clients.specs.Looks.{FileCalls, ListCalls, Looks}
use Rattle.cluster_rounds.specs.declared.cluster.Cluster.{Cluster}
use Rattle.cluster_rounds.specs.Kits.{Kit, device_by}
use Rattle.cluster_rounds.specs.Scripts.{Script}
use Rattle.cluster_rounds.specs.Worlds.{Happened, IsGood, Shows}
use Rattle.cluster_rounds.specs.Broken.{Broken}
use Rattle.cluster_rounds.specs.Came.{EndedBy}
use Rattle.cluster_rounds.specs.Seen.{IsRead}
use Rattle.cluster_lines.specs.Lines.{is_own}
use Rattle.cluster_lines.specs.Shelves.{shelf_of}

-- which reading calls of the disk a line makes: those of the listing or of the file that it shows, all where it is done. One that is not
-- the servers' own, and not `settle`, makes no call else
abbrev pub LooksBy : Line → Option Files → Bool → Tally → Tally → Type 0
LooksBy line.Files held done old new = Looks (ListCalls held) done old new
LooksBy (line.Cat name) held done old new = Looks (FileCalls name held) done old new
LooksBy line.Settle held done old new = Unit {0}
LooksBy next held done old new = is_own next ≡ false → new ≡ old

module _ {Peers Group : Type 0} (kit : Kit Peers Group) (script : Script Peers kit.Seen) where
  -- what a line led to: it is what the line leads to, by the works that failed, for some shelf, which is that of the disk's files where
  -- the disk tells them
  pub record Played (setup : Setup) (state : State Peers) (next : Line) (new : Cluster Group) (before after : List (List ℕ))
      (held left : kit.Seen) : Type 0 where
    pub shelf : Shelf
    pub shelf_is : IfSome (kit.files held) (λ _. shelf ≡ shelf_of setup)
    pub happened : ℕ → ℕ
    pub outcome : Outcome (State Peers)
    pub leads : script.Leads (plain_of setup) shelf (device_by setup happened) next state outcome
    pub uses : script.Uses next setup happened state outcome held left
    pub is : Happened kit setup outcome new before after
    pub count : kit.Armed outcome.state.peers left
    pub files : kit.Leaves setup outcome.state held left

  -- so it did over each good state that the cluster stood for, that tells of the disk's armed count, and whose files the disk held, where
  -- it tells them
  abbrev pub Plays : Line → Cluster Group → Cluster Group → List (List ℕ) → List (List ℕ) → kit.Seen → kit.Seen → Type 0
  Plays next old new before after held left =
      (setup : Setup) (state : State Peers) → IsGood kit setup state → Shows kit setup state old → kit.Armed state.peers held
      → kit.Tells setup state held → Played setup state next new before after held left

  -- the line is shared in each good state that the cluster stands for
  abbrev pub SharesIn : Line → Cluster Group → Type 0
  SharesIn next world = (setup : Setup) (state : State Peers) → IsGood kit setup state → Shows kit setup state world → script.Shares next state

  -- where the event of a line ends, by the works that fail
  abbrev pub EndsLine : Line → Setup → EndBy Peers
  EndsLine next setup fails state end = script.Ends (plain_of setup) (device_by setup fails) next state end

  -- the line ended by a fault of the disk, by the works that failed
  abbrev pub LineEnded :
      Setup → State Peers → Line → Cluster Group → List (List ℕ) → List (List ℕ) → kit.Seen → kit.Seen → Type 0
  LineEnded setup state next new before after held left =
      EndedBy kit setup state (λ happened end. EndsLine next setup happened state end)
      (λ happened end. script.Faults next setup happened state end held left) printed new before after held left

  -- the first disk had a fault as its files were to be shown: it was only read
  pub record ShowFails (held left : kit.Seen) : Type 0 where
    pub one : DiskSeen
    pub two : DiskSeen
    pub beside : DiskSeen
    pub held_is : held ≡ kit.see one beside
    pub left_is : left ≡ kit.see two beside
    pub read : IsRead one two

  -- a line that shows files leaves all as it was where the disk has a fault; any other ends at the entry that was worked then
  abbrev pub FaultLeaves : Line → Cluster Group → Cluster Group → List (List ℕ) → List (List ℕ) → kit.Seen → kit.Seen → Type 0
  FaultLeaves line.Files old new before after held left = (new ≡ old) × (after ≡ before) × ShowFails held left
  FaultLeaves (line.Cat name) old new before after held left =
      (new ≡ old) × (after ≡ before) × ShowFails held left
  FaultLeaves next old new before after held left =
      (setup : Setup) (state : State Peers) → IsGood kit setup state → Shows kit setup state old → kit.Armed state.peers held
      → LineEnded setup state next new before after held left

  -- what a line left that was not done, by the answer with which it broke off: over a state none ends as a disk stops
  abbrev pub BreaksOff : DiskAnswer → Line → Cluster Group → Cluster Group → List (List ℕ) → List (List ℕ) → kit.Seen → kit.Seen → Type 0
  BreaksOff Memory next old new before after held left =
      (setup : Setup) (state : State Peers) → IsGood kit setup state → Shows kit setup state old → kit.Armed state.peers held
      → Broken kit setup state held left new × kit.Lacks (is_crash next) setup state new.history.entries new.servers held left
  BreaksOff Failed next old new before after held left = FaultLeaves next old new before after held left
  BreaksOff Stopped next old new before after held left =
      (setup : Setup) (state : State Peers) → IsGood kit setup state → Shows kit setup state old → kit.Armed state.peers held → ⊥
