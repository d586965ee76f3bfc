use Rattle.std.proofs.Common.{◌∙◌}
use Rattle.ntf_history.specs.Tables.{is_kept_under}
use Rattle.ntf_service.specs.Told.{told}
use Rattle.ntf_service.proofs.Telling.{any-read}
use Rattle.ntf_service.proofs.searching.has_id.Goals as goal

pub returns : goal.returns
returns c = c.is_any_under.ensures ∙ any-read told (is_kept_under c.args.client c.args.id) c.args.subs.now
