-- Words of public clauses: what is asked of a world whose script of a large run is played, and of what makes the line that tells where it led.
use Rattle.std.specs.Prelude.{◌≡◌, ℕ, ℤ, Bool, true, false, List, Result, IfOk, string_bytes}
use Rattle.std.specs.declared.string.String.{String}
use Rattle.std.specs.Fn.{Shared}
use Rattle.std.specs.Result.{is_ok}
use denote.Ref.{Bor, MutBor}
use Rattle.ais_values.specs.Causes.{RoseExactlyOn}
use Rattle.disk_model.specs.Seen.{DiskSeen}
use Rattle.script_lines.specs.declared.line.Line.{Line}
use Rattle.script_lines.specs.declared.line.Line.TheVariants as line
use Rattle.script_language.specs.Lines.{Spells}
use Rattle.load_lines.specs.Lines.{opening_line}
use Rattle.plain_service.specs.Setups.{Setup}
use Rattle.cluster_events.specs.Servers.{State}
use Rattle.played_runs.specs.declared.passing.Halt.{Halt}
use Rattle.played_runs.specs.declared.passing.Halt.TheVariants as halt
use Rattle.played_runs.specs.Games.{Game, Shows}
use Rattle.load_runs.specs.Loading.{FilesCounted, LineOf, TellsLoad}

-- a line that neither begins a cluster nor sets the time
abbrev pub is_untimed : Line → Bool
is_untimed (line.Cluster start queue callbacks alarm ntf sys) = false
is_untimed (line.Time now) = false
is_untimed _ = true

-- a world that plays lines as they are shared: what spells one spells it to this world, one that neither begins a cluster nor sets the time
-- can be played at any time, and the first line of a large run begins a cluster
pub record PlaysLoads {P S W : Type 0} (game : Game P Line S W) : Type 0 where
  pub spelled : (next : Line) (raw : List ℕ) → Spells next raw → game.Spells next raw
  pub follows : (now : ℤ) (next : Line) → is_untimed next ≡ true → game.Follows now next
  pub begins : (setup : Setup) × (places : ℕ) × game.Begins opening_line setup places

-- a call with a disk, which may change, and a world, which gives a line of text
abbrev pub TellCalls : (T D W Z : Type 0) → Type 1
TellCalls T D W Z = Shared T (MutBor D × (Bor W × Unit {0})) (Result (String Z) Halt × (MutBor D × Unit {0}))

-- it can be called with any
abbrev pub CanTell : {T D W Z : Type 0} → TellCalls T D W Z → T → Type 0
CanTell {D = D} {W = W} calls tell = (disk : MutBor D) (world : Bor W) → calls.pre tell (disk, (world, tt))

module _ {P S W D Z : Type 0} (game : Game P Line S W) (seen : D → DiskSeen) (line_of : LineOf game) where
  -- the line tells of each state that the world stands for, or the disk failed as its files were counted, or memory was wanting
  pub record ToldBy (held left : D) (world : W) (result : Result (String Z) Halt) : Type 0 where
    pub told : IfOk result (λ text. (setup : Setup) (state : State P) → (Shows game) setup state world
        → TellsLoad game line_of state (seen held).files (string_bytes text))
    pub counted : FilesCounted (is_ok result) (seen held) (seen left)
    pub cause : RoseExactlyOn (seen held).faults (seen left).faults result halt.DiskFault

  -- what is handed in tells so of each disk and world
  pub record TellsStates {T : Type 0} (calls : TellCalls T D W Z) (tell : T) : Type 0 where
    pub does : (disk : MutBor D) (world : Bor W) (result : Result (String Z) Halt) (left : MutBor D)
        → calls.post tell (disk, (world, tt)) (result, (left, tt)) → ToldBy disk.now left.now world.now result
