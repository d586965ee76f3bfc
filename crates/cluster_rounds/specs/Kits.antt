-- Words of public clauses: what the cluster's code is told of servers, and what is asked of them.
use Rattle.std.specs.Prelude.{◌≡◌, ℕ, ◌≤◌, Bool, false, Option, List, length}
use Rattle.ais_values.specs.Causes.{Rose}
use Rattle.disk_model.specs.Disk.{Files}
use Rattle.disk_model.specs.Seen.{DiskSeen}
use Rattle.disk_model.specs.declared.answers.DiskAnswer.{DiskAnswer}
use Rattle.stream_layout.specs.Deeds.{calls_of_all}
use Rattle.plain_service.specs.Setups.{Setup, CanBegin}
use Rattle.plain_service.specs.Storing.{deeds_of}
use Rattle.service_laws.specs.PlainOf.{plain_of}
use Rattle.cluster_facts.specs.Types.{Entry, Message}
use Rattle.cluster_facts.specs.Lists.{EndsIn, Stands, without}
use Rattle.cluster_facts.specs.Service.{Plain, IsPlain}
use Rattle.cluster_facts.specs.History.{Hand, Empty, accepted, committed}
use Rattle.cluster_facts.specs.Ranges.{AreInRange}
use Rattle.cluster_events.specs.Lines.{is_ignored}
use Rattle.cluster_events.specs.Outcomes.{Outcome, behind}
use Rattle.cluster_events.specs.Servers.{State, Servers}
use Rattle.cluster_events.specs.Serving.{IsServing, IsSteady, IsCarried, AreStepped}
use Rattle.cluster_events.specs.Devices.{Device, answered_in, spliced}
use Rattle.cluster_events.specs.Ending.{EndAt}
use Rattle.cluster_rounds.specs.Measured.{IsMeasured}
use Rattle.cluster_rounds.specs.Resting.{Rests}
use Rattle.cluster_rounds.specs.Seen.{IsRead}
use Rattle.cluster_rounds.specs.PartlyDone.{SaysUnasked}

-- servers that keep P beside the world of the definitions, and that are S in the code
pub record Kit (P S : Type 0) : Type 1 where
  pub servers : Plain → Device → Servers P
  -- so many steps are a drain
  pub steps : ℕ
  -- what holds of a state at all times
  pub Good : State P → Type 0
  -- servers of the code stand for what is kept, by the setup, the answered history and the hand
  pub Own : Setup → List Entry → Hand → P → S → Type 0
  -- what is seen of the disk that servers work on, and of the one beside it
  pub Seen : Type 0
  pub see : DiskSeen → DiskSeen → Seen
  -- the files that lines show
  pub files : Seen → Option Files
  -- what is kept tells of the disks' armed counts
  pub Armed : P → Seen → Type 0
  -- servers of the code are armed as the disks' counts are
  pub ArmedAs : S → Seen → Type 0
  -- the disks tell what they hold of a state; behind an event they tell what they hold then, where they told before; or, where an event
  -- broke off, something between
  pub Tells : Setup → State P → Seen → Type 0
  pub Leaves : Setup → State P → Seen → Seen → Type 0
  pub Between : Setup → List Entry → Seen → Seen → Type 0
  -- where a step of servers ends by the disks, by the answer and the device: by a fault that no server survives, or by a stop behind
  -- which none goes on. What servers of the code and the disks are behind such a fault
  pub EndsAt : DiskAnswer → Plain → Device → EndAt P
  pub Fell : Setup → State P → S → Seen → Type 0
  -- what the disks counted as an event came from a state to an outcome, by the works that failed; as it ended there by a stop, or by a
  -- fault; and as memory was wanting, by whether it was as a server crashed, with the history and the servers of the code as they are then
  pub Uses : Setup → (ℕ → ℕ) → State P → Outcome (State P) → Seen → Seen → Type 0
  pub Halts : Setup → (ℕ → ℕ) → State P → Outcome (State P) → Seen → Seen → Type 0
  pub Faults : Setup → (ℕ → ℕ) → State P → Outcome (State P) → Seen → Seen → Type 0
  pub Lacks : Bool → Setup → State P → List Entry → S → Seen → Seen → Type 0
  -- how the disks' counts may go on any disks where an event is done, and where one ends by a fault
  pub Outlives : Seen → Seen → Type 0
  pub Rises : Seen → Seen → Type 0
  -- servers of the code that may stand for no history can go on, by the messages of the net, the length of the list of entries and
  -- what is seen of the disks
  pub Wild : S → List Message → ℕ → Seen → Type 0

-- the device of a setup whose disk fails in these works
abbrev pub device_by : Setup → (ℕ → ℕ) → Device
device_by setup fails = record { calls = λ past entry. length (calls_of_all (deeds_of setup past entry)); fails = fails }

-- what is asked of them
pub record IsKit {P S : Type 0} (kit : Kit P S) : Type 0 where
  pub serves : (plain : Plain) (device : Device) → IsPlain plain → IsServing plain (kit.servers plain device) kit.Good
  pub unasked : (plain : Plain) (device : Device) → IsPlain plain → IsCarried plain (kit.servers plain device) kit.Good (SaysUnasked plain)
  pub steps : (plain : Plain) (device : Device) → (kit.servers plain device).steps ≡ kit.steps
  -- each step of theirs keeps what holds, and says what happened
  pub stepped : (plain : Plain) (device : Device) → IsPlain plain → AreStepped plain (kit.servers plain device) kit.Good (SaysUnasked plain)
  -- they accept alike whatever the device, leave what was answered, the armed count, by which the servers of the code are armed, and
  -- what the disks hold, and their lines tell what grew
  pub alike : (plain : Plain) (one other : Device) → (kit.servers plain one).accept ≡ (kit.servers plain other).accept
  pub keeps : (plain : Plain) (device : Device) (entry : Entry) (state : State P)
      → ((kit.servers plain device).accept entry state).state.world.core.answered ≡ state.world.core.answered
  pub armed : (plain : Plain) (device : Device) (entry : Entry) (state : State P) (seen : kit.Seen)
      → kit.Armed state.peers seen → kit.Armed ((kit.servers plain device).accept entry state).state.peers seen
  pub armed_as : (setup : Setup) (past : List Entry) (hand : Hand) (peers : P) (servers : S) (seen : kit.Seen)
      → kit.Own setup past hand peers servers → kit.Armed peers seen → kit.ArmedAs servers seen
  pub accepts : (setup : Setup) (fails : ℕ → ℕ) (entry : Entry) (state : State P) (seen : kit.Seen) → state.world.core.hand ≡ Empty
      → kit.Tells setup state seen → kit.Tells setup ((kit.servers (plain_of setup) (device_by setup fails)).accept entry state).state seen
  pub measured : (plain : Plain) (device : Device) (entry : Entry) (state : State P) → state.world.core.hand ≡ Empty → kit.Good state
      → IsMeasured state.world ((kit.servers plain device).accept entry state)
  -- what the disks hold rests on history, hand and servers; it is told on, from one event to the next
  pub moves : (setup : Setup) (old new : State P) (seen : kit.Seen) → new.world.core ≡ old.world.core → new.peers ≡ old.peers
      → kit.Tells setup old seen → kit.Tells setup new seen
  pub left_same : (setup : Setup) (state : State P) (seen : kit.Seen) → kit.Tells setup state seen → kit.Leaves setup state seen seen
  pub left_told : (setup : Setup) (state : State P) (held left : kit.Seen) → kit.Leaves setup state held left → kit.Tells setup state left
  pub left_both : (setup : Setup) (middle state : State P) (held told left : kit.Seen)
      → kit.Leaves setup middle held told → kit.Leaves setup state told left → kit.Leaves setup state held left
  pub left_between : (setup : Setup) (state : State P) (held left : kit.Seen) → CanBegin setup → IsSteady (plain_of setup) kit.Good state
      → AreInRange (accepted state.world.core) → kit.Leaves setup state held left → kit.Between setup (committed state.world.core) held left
  pub between_behind : (setup : Setup) (middle : State P) (past : List Entry) (held told left : kit.Seen)
      → kit.Leaves setup middle held told → kit.Between setup past told left → kit.Between setup past held left
  -- the files that lines show are those of the first disk
  pub shown : (one beside : DiskSeen) → kit.files (kit.see one beside) ≡ one.files
  -- a first disk that was only read
  pub read_armed : (peers : P) (one two beside : DiskSeen) → IsRead one two → kit.Armed peers (kit.see one beside) → kit.Armed peers (kit.see two beside)
  pub read_left : (setup : Setup) (state : State P) (one two beside : DiskSeen) → IsRead one two
      → kit.Tells setup state (kit.see one beside) → kit.Leaves setup state (kit.see one beside) (kit.see two beside)
  pub read_lacks : (setup : Setup) (state : State P) (entries : List Entry) (servers : S) (one two beside : DiskSeen)
      → EndsIn entries state.world.core.answered → IsRead one two → two.faults ≡ one.faults
      → kit.Lacks false setup state entries servers (kit.see one beside) (kit.see two beside)
  pub read_outlives : (one two beside : DiskSeen) → IsRead one two → two.faults ≡ one.faults → kit.Outlives (kit.see one beside) (kit.see two beside)
  pub read_rises : (one two beside : DiskSeen) → IsRead one two → one.faults ≤ two.faults → Rose one.faults two.faults
      → kit.Rises (kit.see one beside) (kit.see two beside)
  -- what they counted: nothing, where they were not asked; one event behind another; and the lines on messages
  -- without effect are none of it
  pub unused : (setup : Setup) (state : State P) (outcome : Outcome (State P)) (seen : kit.Seen)
      → Rests (kit.servers (plain_of setup) (device_by setup (λ number. 0))) state outcome.state
      → kit.Uses setup (λ number. 0) state outcome seen seen
  pub used_both : (setup : Setup) (one two : ℕ → ℕ) (state : State P) (first second : Outcome (State P)) (held told left : kit.Seen)
      → kit.Uses setup one state first held told → kit.Uses setup two first.state second told left
      → kit.Uses setup (spliced (answered_in first.state) one two) state (behind first second) held left
  pub used_printed : (setup : Setup) (happened : ℕ → ℕ) (state : State P) (outcome : Outcome (State P)) (held left : kit.Seen)
      → kit.Uses setup happened state outcome held left
      → kit.Uses setup happened state (record { state = outcome.state; told = without is_ignored outcome.told }) held left
  pub halts_behind : (setup : Setup) (one two : ℕ → ℕ) (state : State P) (first end : Outcome (State P)) (held told left : kit.Seen)
      → kit.Uses setup one state first held told → kit.Halts setup two first.state end told left
      → kit.Halts setup (spliced (answered_in first.state) one two) state (behind first end) held left
  pub faults_behind : (setup : Setup) (one two : ℕ → ℕ) (state : State P) (first end : Outcome (State P)) (held told left : kit.Seen)
      → kit.Uses setup one state first held told → kit.Faults setup two first.state end told left
      → kit.Faults setup (spliced (answered_in first.state) one two) state (behind first end) held left
  pub lacks_same : (crash : Bool) (setup : Setup) (state : State P) (entries : List Entry) (servers : S) (seen : kit.Seen)
      → EndsIn entries state.world.core.answered → kit.Lacks crash setup state entries servers seen seen
  pub lacks_behind : (setup : Setup) (happened : ℕ → ℕ) (state : State P) (first : Outcome (State P)) (entries : List Entry) (servers : S)
      (held told left : kit.Seen)
      → kit.Uses setup happened state first held told → kit.Lacks false setup first.state entries servers told left
      → kit.Lacks false setup state entries servers held left
  -- on any disks the counts may stand, and go on
  pub stands : (seen : kit.Seen) → kit.Outlives seen seen
  pub further : (one two three : kit.Seen) → kit.Outlives one two → kit.Outlives two three → kit.Outlives one three
  pub rises : (one two three : kit.Seen) → kit.Outlives one two → kit.Rises two three → kit.Rises one three
  -- and they can go on by a net with more in it, and behind a first disk that was only read
  pub wild : (servers : S) (old new : List Message) (entries : ℕ) (seen : kit.Seen) → ((message : Message) → Stands message old → Stands message new)
      → kit.Wild servers old entries seen → kit.Wild servers new entries seen
  pub read_wild : (servers : S) (net : List Message) (entries : ℕ) (one two beside : DiskSeen) → IsRead one two
      → kit.Wild servers net entries (kit.see one beside) → kit.Wild servers net entries (kit.see two beside)

-- the servers of a setup whose disk fails in these works, and in none
abbrev pub servers_at : {P S : Type 0} → Kit P S → Setup → (ℕ → ℕ) → Servers P
servers_at kit setup fails = kit.servers (plain_of setup) (device_by setup fails)

abbrev pub calm_servers : {P S : Type 0} → Kit P S → Setup → Servers P
calm_servers kit setup = servers_at kit setup (λ number. 0)
