use Rattle.std.proofs.Common.{◌∙◌}
use Rattle.std.proofs.lemmas.Bool.Decides.{same_from_decides}
use Rattle.stream_config.proofs.AttributeLaws.{decides_attrs}
use Rattle.log_service.proofs.state.passes_attrs.Goals as goal

pub returns : goal.returns
returns c =
    c.is_ok.ensures.value ∙ same_from_decides _ _ c.check_attrs.ensures.accepted (decides_attrs c.args.kind c.args.attrs.now)
