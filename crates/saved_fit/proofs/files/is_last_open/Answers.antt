use Rattle.std.proofs.Common.{◌∙◌}
use Rattle.saved_fit.proofs.FileLaws.{open-same}
use Rattle.saved_fit.proofs.files.is_last_open.Goals as goal

pub returns : goal.returns
returns c = c.open_last.ensures ∙ open-same c.args.files.now
