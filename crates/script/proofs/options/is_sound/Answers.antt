use Rattle.std.proofs.Common.{◌∙◌, ap}
use Rattle.std.proofs.lemmas.Bool.Decides.{same_from_decides}
use Rattle.stream_config.specs.AttributeTests.{passes_attrs}
use Rattle.stream_config.proofs.AttributeLaws.{decides_attrs}
use Rattle.script.proofs.options.is_sound.Goals as goal

pub returns : goal.returns
returns c =
    c.is_ok.ensures.value ∙ same_from_decides _ _ c.check_attrs.ensures.accepted (decides_attrs c.args.kind c.in_ok-attrs.attrs) ∙ ap (passes_attrs c.args.kind) c.in_ok-attrs.ensures
