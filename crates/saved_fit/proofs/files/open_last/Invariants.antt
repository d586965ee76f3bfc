use Rattle.std.proofs.Common.{◌≡◌, drop, false}
use Rattle.saved_fit.specs.Files.{open_last}
use Rattle.saved_fit.proofs.files.open_last.Given as goal

abbrev pub invariant-loop-file : goal.invariant-loop-file
invariant-loop-file l = open_last l.unclosed (drop l.file-index l.files) ≡ open_last false l.files
