-- Words of bodies alone: the rules of a stream's files that hold in some cases alone.
use Rattle.std.specs.Prelude.{◌≡◌, ◌≢◌, ◌<◌, length}
use Rattle.stream_config.specs.declared.attrs.FullAction.TheVariants.{Rotate}
use Rattle.stream_config.specs.declared.state.StreamState.{StreamState}
use Rattle.stream_config.specs.Fit.{next_first, AreEven}

-- a stream that does not rotate has one file
abbrev pub IsAlone : StreamState → Type 0
IsAlone state = state.attrs.action ≢ Rotate → state.opened ≡ 1

-- where all files stand that were made, they begin with the first record of all
abbrev pub HasStart : StreamState → Type 0
HasStart state = length state.files ≡ state.opened → next_first state.files 0 ≡ 0

-- where files rotate and their records have one size
abbrev pub AreEvenIfAlike : StreamState → Type 0
AreEvenIfAlike state = state.attrs.action ≡ Rotate → 0 < state.attrs.record_size → AreEven state
