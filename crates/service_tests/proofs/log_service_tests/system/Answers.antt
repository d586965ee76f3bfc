use Rattle.std.proofs.Common.{inl, ap, arith}
use Rattle.stream_config.specs.declared.attrs.StreamAttrs.{StreamAttrs}
use Rattle.service_tests.proofs.log_service_tests.system.Goals as goal

pub returns-clause-file : goal.returns-clause-file
returns-clause-file c = ap (λ (attrs : StreamAttrs). attrs.file) c.in_ok-given.ensures.attrs

pub returns-clause-passes : goal.returns-clause-passes
returns-clause-passes c =
    let given = c.in_ok-given.ensures.passes in
    let least = c.requires.least in
    let most = c.requires.most in
    record {
      file = given.file;
      path = given.path;
      sizes = record {
        records = inl (record { least_record = omega arith; greatest_record = omega arith; least_file = least });
        greatest_file = omega arith;
      };
      ha = given.ha;
      some_rotated = omega arith;
      few_rotated = omega arith;
      format = given.format;
    }
