use Rattle.stream_config.proofs.AttributeLaws.{decides_attrs, decides_place}
use Rattle.stream_config.proofs.Equalities.{decides_name, decides_attributes}
use Rattle.stream_config.proofs.law.law_of_tests.Goals as goal

pub returns : goal.returns
returns c = record {
  passing = decides_attrs;
  places = decides_place;
  names = decides_name;
  attributes = decides_attributes;
}
