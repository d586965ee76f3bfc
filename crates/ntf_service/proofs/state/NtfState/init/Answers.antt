use Rattle.ntf_service.specs.Inside.{table_inside}
use Rattle.ntf_service.proofs.Kept.{sound-begun}
use Rattle.ntf_service.proofs.state.NtfState.init.Goals as goal

pub invariant_of-self-2 : goal.invariant_of-self-2
invariant_of-self-2 c = record {
  table = sound-begun (table_inside c.self.inside) c.args.client _ c.self.invariant.table c.in_ok-insert.ensures.ok;
  places = c.self.invariant.places;
  rooms = c.self.invariant.rooms;
}
