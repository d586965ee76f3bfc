use Rattle.std.proofs.Common.{◌∙◌}
use Rattle.std.specs.Prelude.{None}
use Rattle.saved_fit.proofs.FileLaws.{rise-same}
use Rattle.saved_fit.proofs.files.stamps_rise.Goals as goal

pub returns : goal.returns
returns c = c.files_rise.ensures ∙ rise-same None c.args.files.now
