use Rattle.stream_config.proofs.Equality.{name_eq-decides, attrs_eq-decides, mark_eq-decides, state_eq-decides, event_eq-decides}
use Rattle.stream_config.proofs.law.law_of_equality.Goals as goal

pub returns : goal.returns
returns c = record {
  names = name_eq-decides;
  attributes = attrs_eq-decides;
  marks = mark_eq-decides;
  states = state_eq-decides;
  events = event_eq-decides;
}
