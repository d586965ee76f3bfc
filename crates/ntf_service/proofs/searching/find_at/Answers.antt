use Rattle.std.proofs.Common.{ap, ◌∙◌}
use Rattle.std.specs.Prelude.{option_map}
use Rattle.ntf_history.specs.Tables.{is_kept_at}
use Rattle.ntf_service.specs.Told.{told}
use Rattle.ntf_service.proofs.Telling.{find-read}
use Rattle.ntf_service.proofs.searching.find_at.Goals as goal

pub returns : goal.returns
returns c =
    ap (option_map told) c.find_kept.ensures ∙ find-read told (is_kept_at c.args.client c.args.key) c.args.subs.now
