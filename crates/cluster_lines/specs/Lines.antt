-- Words of public clauses: which lines of a script can be played over servers, and which of them are the servers' own.
use Rattle.std.specs.Prelude.{ℤ, ◌≤◌, ◌≤ℤ◌, Bool, true, false}
use Rattle.script_lines.specs.declared.line.Line.{Line}
use Rattle.script_lines.specs.declared.line.Line.TheVariants as line
use Rattle.plain_service.specs.Setups.{IsMoment}
use Rattle.client_agent.specs.declared.answers.How.TheVariants.{All}
use Rattle.client_agent.specs.Steps.{HasWorkers}
use Rattle.cluster_rounds.specs.Delivered.{IsCaller}
use Rattle.cluster_rounds.specs.Scripts.{Script}

-- the client of a line is 1 to 4,096, its time a moment, its workers are 1 to 8, and it arms a server for a call from the first on
abbrev pub IsInRange : Line → Type 0
IsInRange (line.Time now) = IsMoment now
IsInRange (line.Log client asked) = IsCaller client
IsInRange (line.Ntf client asked) = IsCaller client
IsInRange (line.DispatchAll client workers) = HasWorkers (All workers)
IsInRange (line.Arm server count) = 1 ≤ count
IsInRange _ = Unit {0}

-- what is asked of the servers alone: a step of theirs, or that one fails, is armed or comes back
abbrev pub is_own : Line → Bool
is_own line.Mirror = true
is_own line.Ack = true
is_own line.Work = true
is_own (line.Crash server) = true
is_own (line.Arm server count) = true
is_own line.Disarm = true
is_own (line.Restart server) = true
is_own _ = false

-- the lines that show files of the disk
abbrev pub shows_files : Line → Bool
shows_files line.Files = true
shows_files (line.Cat name) = true
shows_files _ = false

abbrev pub IsOwn : {P V : Type 0} → Script P V → Line → Type 0
IsOwn script line.Mirror = Unit {0}
IsOwn script line.Ack = Unit {0}
IsOwn script line.Work = Unit {0}
IsOwn script (line.Crash server) = script.Allows (line.Crash server)
IsOwn script (line.Arm server count) = script.Allows (line.Arm server count)
IsOwn script line.Disarm = script.Allows line.Disarm
IsOwn script (line.Restart server) = script.Allows (line.Restart server)
IsOwn script _ = ⊥

-- a line that can be played: no cluster line, no time below that in force, and of the lines on failing servers those that are allowed
abbrev pub CanPlay : {P V : Type 0} → Script P V → ℤ → Line → Type 0
CanPlay script now (line.Cluster start queue callbacks alarm ntf sys) = ⊥
CanPlay script now (line.Time later) = now ≤ℤ later
CanPlay script now (line.Crash server) = script.Allows (line.Crash server)
CanPlay script now (line.Arm server count) = script.Allows (line.Arm server count)
CanPlay script now line.Disarm = script.Allows line.Disarm
CanPlay script now (line.Restart server) = script.Allows (line.Restart server)
CanPlay script now _ = Unit {0}
