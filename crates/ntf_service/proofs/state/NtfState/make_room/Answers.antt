use Rattle.std.proofs.Common.{List, ap, sym, subst}
use Rattle.ntf_history.specs.Kept.{Subscription}
use Rattle.ntf_history.specs.Tables.{table_with, IsSoundTable}
use Rattle.ntf_service.specs.ByKind.{IsByKind, filters_of}
use Rattle.ntf_service.specs.Rooms.{HaveRoomsBut}
use Rattle.ntf_service.specs.Told.{all_told}
use Rattle.ntf_service.proofs.Lacking.{rooms-full}
use Rattle.ntf_service.proofs.Telling.{filters_in, kept-filters}
use Rattle.ntf_service.proofs.state.NtfState.make_room.Goals as goal
use Rattle.ntf_service.proofs.state.NtfState.make_room.Goals.{After-make_room}

-- the queues are as they were

table : (c : After-make_room) → IsSoundTable (table_with c.self.inside.capacity c.self.inside.users c.self.inside.last_id (all_told c.make_room.new.subs.items))
table c =
    subst (λ (subs : List Subscription). IsSoundTable (table_with c.self.inside.capacity c.self.inside.users c.self.inside.last_id subs)) (sym c.make_room.ensures.told) c.self.invariant.table

places : (c : After-make_room) → IsByKind c.self.inside.by_kind (filters_of c.make_room.new.subs.items)
places c =
    let filters = kept-filters c.make_room.new.subs.items c.self.inside.subs.items (ap filters_in c.make_room.ensures.told) in
    subst (IsByKind c.self.inside.by_kind) (sym filters) c.self.invariant.places

pub invariant_of-self : goal.invariant_of-self
invariant_of-self c =
    let at = (goal.at.invariant_of-self c).After-make_room in
    record {
      table = table at;
      places = places at;
      rooms = subst (λ lacking. HaveRoomsBut lacking c.make_room.new.subs.items) c.as_slice.ensures.value c.make_room.ensures.beside;
    }

pub invariant_of-self-2 : goal.invariant_of-self-2
invariant_of-self-2 c =
    let at = (goal.at.invariant_of-self-2 c).After-make_room in
    record {
      table = table at;
      places = places at;
      rooms = rooms-full _ c.make_room.new.subs.items c.in_ok-make_room.ensures.room;
    }
