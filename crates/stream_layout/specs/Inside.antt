-- Words of bodies alone: the files that deeds name.
use Rattle.std.specs.Prelude.{ℤ, pos, List, [], ◌∷◌}
use Rattle.std.specs.Option.{ForSome}
use Rattle.stream_config.specs.declared.state.LogFile.{LogFile}
use Rattle.stream_config.specs.Events.{open_file, file_closed}
use Rattle.stream_layout.specs.Carrying.{IsStamp}

-- a name can show the stamps of a file
pub record HasStamps (file : LogFile) : Type 0 where
  pub created : IsStamp file.created
  pub closed : ForSome file.closed IsStamp

-- the oldest of files of which the last one is closed
abbrev pub oldest_closed : ℤ → List LogFile → LogFile
oldest_closed closed [] = open_file (pos 0)
oldest_closed closed (file ∷ []) = file_closed closed file
oldest_closed closed (file ∷ next ∷ files) = file
