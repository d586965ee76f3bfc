-- Words of bodies alone: what the parts of a run give.
use Rattle.std.specs.Prelude.{◌≡◌, ◌⊎◌, ℕ, List, [], Some}
use Rattle.trio_lines.specs.declared.line.TrioLine.{TrioLine}
use Rattle.trio_lines.specs.Scripts.{IsTrioOf}
use Rattle.played_runs.specs.declared.ending.Status8.TheVariants.{ScriptRefused, ReadFault, TooLong}
use Rattle.played_runs.specs.Edges.{Edge, Stage, LeavesAll}
use Rattle.played_runs.specs.Ends.{PlayEnds, PlayLacks}
use Rattle.played_runs.specs.Writing.{Reaching}
use Rattle.script_inputs.specs.Inputs.{ReadsWhole, SourceFailed, InputTooLong}
use Rattle.spare_server.specs.declared.world.TrioWorld.{TrioWorld}
use Rattle.spare_server.specs.Game.{trio_game}
use Rattle.trio_runs.specs.Endings.{TrioFails}

-- how the bytes of an input end on a stage
abbrev pub BytesEnd : {K D : Type 0} → List ℕ → Stage TrioWorld K D → Reaching
BytesEnd bytes scene (Some ScriptRefused) text = LeavesAll scene × TrioFails bytes text
BytesEnd bytes scene reached text = (lines : List TrioLine) × IsTrioOf lines bytes × PlayEnds trio_game lines scene reached text

-- memory was wanting before the lines were known, or as they were played
abbrev pub BytesLack : {K D : Type 0} → List ℕ → Stage TrioWorld K D → List ℕ → Type 0
BytesLack bytes scene text =
    ((text ≡ []) × LeavesAll scene) ⊎ ((lines : List TrioLine) × IsTrioOf lines bytes × PlayLacks trio_game lines scene text)

-- how the reading and playing of a script ends
abbrev pub InputEnds : {S K D : Type 0} → Edge S (List ℕ) → Stage TrioWorld K D → Reaching
InputEnds source scene (Some ReadFault) text = LeavesAll scene × SourceFailed source text
InputEnds source scene (Some TooLong) text = LeavesAll scene × InputTooLong source text
InputEnds source scene reached text = (bytes : List ℕ) × ReadsWhole source bytes × BytesEnd bytes scene reached text

-- memory was wanting before the input was read, or behind that
abbrev pub InputLacks : {S K D : Type 0} → Edge S (List ℕ) → Stage TrioWorld K D → List ℕ → Type 0
InputLacks source scene text =
    ((text ≡ []) × LeavesAll scene) ⊎ ((bytes : List ℕ) × ReadsWhole source bytes × BytesLack bytes scene text)
