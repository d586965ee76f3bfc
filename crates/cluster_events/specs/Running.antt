-- Words of public clauses: what the lines of a script do where no server fails.
use Rattle.std.specs.Prelude.{◌≡◌, ℕ, ◌≤ℤ◌, ◌⊎◌, Option, Some, None, List, [], ◌∷◌}
use Rattle.script_lines.specs.declared.line.Line.{Line}
use Rattle.script_lines.specs.declared.line.Line.TheVariants as line
use Rattle.wire.specs.Messages.{Spells, IsRefusedAt}
use Rattle.cluster_facts.specs.Types.{Entry, Message, WireWhy}
use Rattle.cluster_facts.specs.Service.{Plain}
use Rattle.cluster_events.specs.Lines.{Told, Listed, Shown}
use Rattle.cluster_events.specs.Outcomes.{Outcome}
use Rattle.cluster_events.specs.Servers.{State, Servers, in_world}
use Rattle.cluster_events.specs.ClientEvents.{ask, dispatch_one, dispatch_all, set_time, inject}
use Rattle.cluster_events.specs.Events.{deliver, resend, mirror_next, ack_next, work_next, push, list_servers, refuse}
use Rattle.cluster_events.specs.Settling.{Settles}

-- what is shown of the files that stand after a history: their names with their lengths, and the lines of a file
pub record Shelf : Type 0 where
  pub listing : List Entry → List (List ℕ × ℕ)
  pub text : List ℕ → List Entry → Option (List (List ℕ))

-- the lines of files, the last in front
abbrev pub listed : List (List ℕ × ℕ) → List Told → List Told
listed [] told = told
listed (file ∷ files) told = listed files (Listed file.0 file.1 ∷ told)

abbrev pub shown : List (List ℕ) → List Told → List Told
shown [] told = told
shown (text ∷ texts) told = shown texts (Shown text ∷ told)

abbrev pub list_files : {P : Type 0} → Shelf → State P → Outcome (State P)
list_files shelf state = record { state = state; told = listed (shelf.listing state.world.core.answered) [] }

abbrev pub show_by : {P : Type 0} → Servers P → List ℕ → Option (List (List ℕ)) → State P → Outcome (State P)
show_by servers name None state = refuse servers (line.Cat name) state
show_by servers name (Some texts) state = record { state = state; told = shown texts [] }

abbrev pub show_file : {P : Type 0} → Shelf → Servers P → List ℕ → State P → Outcome (State P)
show_file shelf servers name state = show_by servers name (shelf.text name state.world.core.answered) state

-- bytes that a message spells are refused
pub record RefusesSpelling {P : Type 0} (servers : Servers P) (bytes : List ℕ) (state : State P) (outcome : Outcome (State P)) : Type 0 where
  pub message : Message
  pub spells : Spells message bytes
  pub is : outcome ≡ refuse servers (line.Inject bytes) state

-- bytes that no message spells are injected
pub record InjectsRaw {P : Type 0} (bytes : List ℕ) (state : State P) (outcome : Outcome (State P)) : Type 0 where
  pub front : ℕ
  pub why : WireWhy
  pub refused : IsRefusedAt bytes front why
  pub is : outcome ≡ in_world (inject bytes front why) state

-- what a line leads to and prints. Lines on failing servers have no place here, nor has the line that begins a script
abbrev pub Happens : {P : Type 0} → Plain → Shelf → Servers P → Line → State P → Outcome (State P) → Type 0
Happens plain shelf servers (line.Time now) state outcome = (state.world.now ≤ℤ now) × (outcome ≡ in_world (set_time now) state)
Happens plain shelf servers (line.Log client asked) state outcome = outcome ≡ in_world (ask plain client asked) state
Happens plain shelf servers (line.Ntf client asked) state outcome = outcome ≡ in_world (ask plain client asked) state
Happens plain shelf servers (line.Deliver place) state outcome = outcome ≡ deliver plain servers place state
Happens plain shelf servers (line.Resend client) state outcome = outcome ≡ resend plain servers client state
Happens plain shelf servers line.Mirror state outcome = outcome ≡ mirror_next servers state
Happens plain shelf servers line.Ack state outcome = outcome ≡ ack_next servers state
Happens plain shelf servers line.Work state outcome = outcome ≡ work_next servers state
Happens plain shelf servers line.Push state outcome = outcome ≡ push plain servers state
Happens plain shelf servers (line.Inject bytes) state outcome = RefusesSpelling servers bytes state outcome ⊎ InjectsRaw bytes state outcome
Happens plain shelf servers line.Settle state outcome = Settles plain servers state outcome.state outcome.told
Happens plain shelf servers (line.DispatchOne client) state outcome = outcome ≡ in_world (dispatch_one client) state
Happens plain shelf servers (line.DispatchAll client workers) state outcome = outcome ≡ in_world (dispatch_all client) state
Happens plain shelf servers line.Servers state outcome = outcome ≡ list_servers servers state
Happens plain shelf servers line.Files state outcome = outcome ≡ list_files shelf state
Happens plain shelf servers (line.Cat name) state outcome = outcome ≡ show_file shelf servers name state
Happens plain shelf servers _ state outcome = ⊥
