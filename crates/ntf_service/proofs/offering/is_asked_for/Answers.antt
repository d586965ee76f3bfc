use Rattle.std.proofs.Common.{ap, ◌∙◌}
use Rattle.ntf_filters.specs.Matching.{matches}
use Rattle.ntf_filters.proofs.Meaning.{matches-value}
use Rattle.ntf_service.proofs.offering.is_asked_for.Goals as goal

pub returns : goal.returns
returns c = matches-value c.args.filters.now c.get.result.now c.matches.result c.matches.ensures ∙ ap (matches c.args.filters.now) c.get.ensures
