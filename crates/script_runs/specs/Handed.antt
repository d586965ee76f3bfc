-- Words of public clauses: what is asked of a world whose scripts are read and played, and of what plays them.
use Rattle.std.specs.Prelude.{◌≡◌, ℕ, ℤ, List, Option, Some, None}
use Rattle.std.specs.Fn.{Shared}
use denote.Ref.{MutBor}
use Rattle.disk_model.specs.Seen.{DiskSeen}
use Rattle.script_lines.specs.declared.line.Line.{Line}
use Rattle.script_language.specs.Lines.{Spells}
use Rattle.script_language.specs.Scripts.{misplaced, time_after}
use Rattle.plain_service.specs.Setups.{Setup}
use Rattle.played_runs.specs.declared.ending.Status8.{Status8}
use Rattle.played_runs.specs.Edges.{edge, stage}
use Rattle.played_runs.specs.Games.{Game}
use Rattle.played_runs.specs.Steps.{IsPlayable, PlayedOn, time_behind}

-- a world that plays the lines of scripts as they are shared: what spells one spells it to this world, one that can stand at its place can be
-- played there, and the time behind it is that of the script; the first one begins a cluster at its time
pub record PlaysScriptLines {P G W : Type 0} (game : Game P Line G W) : Type 0 where
  pub spelled : (next : Line) (raw : List ℕ) → Spells next raw → game.Spells next raw
  pub follows : (now : ℤ) (next : Line) → misplaced (Some now) next ≡ None → game.Follows now next
  pub times : (now : ℤ) (next : Line) → misplaced (Some now) next ≡ None → time_after (Some now) next ≡ Some (time_behind now (game.shared next))
  pub begins : (opening : Line) → misplaced None opening ≡ None → (setup : Setup) × (places : ℕ) × game.Begins opening setup places
  pub starts : (opening : Line) (setup : Setup) (places : ℕ) → game.Begins opening setup places → time_after None opening ≡ Some setup.start

-- a call with lines, a sink, a disk and a world, which gives a status
abbrev pub PlayCalls : (C K D W : Type 0) → Type 1
PlayCalls C K D W =
    Shared C (List Line × (MutBor K × (MutBor D × (MutBor W × Unit {0})))) (Status8 × (MutBor K × (MutBor D × (MutBor W × Unit {0}))))

-- what is handed in plays each script that can be played, over an empty world and a disk that is not armed
pub record PlaysScripts {P G W K D C : Type 0} (game : Game P Line G W) (written : K → Option (List ℕ)) (sink_faults : K → ℕ)
    (seen : D → DiskSeen) (calls : PlayCalls C K D W) (play : C) : Type 0 where
  pub can : (lines : List Line) (out : MutBor K) (disk : MutBor D) (world : MutBor W) → (IsPlayable game) lines → world.now ≡ game.empty
      → (seen disk.now).tally.armed ≡ None → calls.pre play (lines, (out, (disk, (world, tt))))
  pub does : (lines : List Line) (out : MutBor K) (disk : MutBor D) (world : MutBor W) (status : Status8) (out_after : MutBor K) (left : MutBor D)
      (after : MutBor W) → calls.post play (lines, (out, (disk, (world, tt)))) (status, (out_after, (left, (after, tt))))
      → (PlayedOn game) lines (stage (edge written sink_faults out.now out_after.now) seen disk.now left.now world.now after.now) status
