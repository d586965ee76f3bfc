-- Of files that are filled each one is.
use Rattle.std.proofs.Common.{ℕ, ◌<◌, zero, suc, List, [], ◌∷◌, length, drop, get_or, arith}
use Rattle.stream_config.specs.declared.attrs.StreamAttrs.{StreamAttrs}
use Rattle.stream_config.specs.declared.state.LogFile.{LogFile}
use Rattle.stream_config.specs.Fit.{next_first, IsFilled, AreFilled}

pub filled-at : (attrs : StreamAttrs) (taken : ℕ) (files : List LogFile) (i : ℕ) (none : LogFile) → i < length files → AreFilled attrs taken files → IsFilled attrs taken (next_first (drop (suc i) files) taken) (get_or files i none)
filled-at attrs taken [] i none within filled = absurd (omega (arith, within))
filled-at attrs taken (file ∷ files) zero none within filled = filled.0
filled-at attrs taken (file ∷ files) (suc i) none within filled = filled-at attrs taken files i none (omega (arith, within)) filled.1
