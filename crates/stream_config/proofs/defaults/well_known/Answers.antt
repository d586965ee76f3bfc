-- The attributes are those that pass.
use Rattle.std.proofs.Common.{◌≡◌, rules, sym, subst}
use Rattle.stream_config.specs.declared.attrs.FullAction.TheVariants.{Rotate}
use Rattle.stream_config.specs.declared.attrs.StreamAttrs.{StreamAttrs}
use Rattle.stream_config.specs.Attributes.{PassesAttrs}
use Rattle.stream_config.specs.WellKnown.{default_attrs}
use Rattle.stream_config.proofs.AttributeLaws.{default_attrs-pass}
use Rattle.stream_config.proofs.defaults.well_known.Goals as goal

pub returns-clause-passes : goal.returns-clause-passes
returns-clause-passes c =
    let made : StreamAttrs = record {
      file = c.from_vec-file.result;
      path = c.from_vec-path.result;
      max_file = 262144;
      record_size = 256;
      ha = 0;
      action = Rotate;
      rotated = 4;
      expr = c.from_vec-expr.result;
    } in
    let same : made ≡ default_attrs c.args.kind = search rules in
    subst (PassesAttrs c.args.kind) (sym same) (default_attrs-pass c.args.kind c.requires)
