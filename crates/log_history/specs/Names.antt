-- Words of public clauses: which streams are an application's.
use Rattle.std.specs.Prelude.{Bool, true, false}
use Rattle.stream_config.specs.declared.attrs.StreamName.{StreamName}
use Rattle.stream_config.specs.declared.attrs.StreamName.TheVariants.{App}

abbrev pub is_application : StreamName → Bool
is_application (App name) = true
is_application _ = false
