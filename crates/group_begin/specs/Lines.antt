-- Words of public clauses: the lines that can be played, and the device calls of an entry.
use Rattle.std.specs.Prelude.{ℕ, ℤ, ◌≤ℤ◌, List}
use Rattle.script_lines.specs.declared.line.Line.{Line}
use Rattle.script_lines.specs.declared.line.Line.TheVariants as line
use Rattle.plain_service.specs.Setups.{Setup}
use Rattle.cluster_facts.specs.Types.{Entry}
use Rattle.cluster_rounds.specs.Kits.{device_by}

-- a line that can be played behind the first one: no cluster line, and no time below that in force
abbrev pub IsEventLine : ℤ → Line → Type 0
IsEventLine now (line.Cluster start queue callbacks alarm ntf sys) = ⊥
IsEventLine now (line.Time later) = now ≤ℤ later
IsEventLine now _ = Unit {0}

-- the changing device calls that the deeds of an entry behind a history are
abbrev pub calls_by : Setup → List Entry → Entry → ℕ
calls_by setup = (device_by setup (λ number. 0)).calls
