use Rattle.std.proofs.Common.{◌≡◌, drop}
use Rattle.std.specs.Prelude.{None}
use Rattle.saved_fit.specs.Files.{files_rise}
use Rattle.saved_fit.proofs.files.files_rise.Given as goal

abbrev pub invariant-loop-file : goal.invariant-loop-file
invariant-loop-file l = files_rise l.last (drop l.file-index l.files) ≡ files_rise None l.files
