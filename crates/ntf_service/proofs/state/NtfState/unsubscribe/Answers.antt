use Rattle.std.proofs.lemmas.List.{length-map}
use Rattle.ntf_service.specs.Told.{told}
use Rattle.std.proofs.Common.{length, ap, subst, arith}
use Rattle.ntf_history.specs.Tables.{is_kept_under}
use Rattle.ntf_service.specs.Inside.{table_inside}
use Rattle.ntf_service.specs.ByKind.{IsByKind, filters_of}
use Rattle.ntf_service.specs.Rooms.{HaveRoomsBut}
use Rattle.ntf_service.proofs.Kept.{sound-with, kept-without, kept-table}
use Rattle.ntf_service.proofs.state.NtfState.unsubscribe.Goals as goal

pub of-self-inside-requires : goal.of-self-inside-requires
of-self-inside-requires c =
    let table = table_inside c.self.inside in
    let few = (kept-without table.capacity (is_kept_under c.args.client c.args.id) table.subs (kept-table table c.self.invariant.table)).few in
    let now = c.remove_under.new.subs.items in
    omega (arith, ap length c.as_slice-2.ensures.value, length-map now told, ap length c.remove_under.ensures, few)

pub all_places-self-inside-requires : goal.all_places-self-inside-requires
all_places-self-inside-requires c =
    let table = table_inside c.self.inside in
    let few = (kept-without table.capacity (is_kept_under c.args.client c.args.id) table.subs (kept-table table c.self.invariant.table)).few in
    let now = c.remove_under.new.subs.items in
    omega (arith, ap length c.as_slice-3.ensures.value, length-map now told, ap length c.remove_under.ensures, few)

pub invariant_of-self : goal.invariant_of-self
invariant_of-self c =
    let table = table_inside c.self.inside in
    record {
      table = sound-with table _ _ _ c.self.invariant.table (kept-without table.capacity (is_kept_under c.args.client c.args.id) table.subs (kept-table table c.self.invariant.table)) c.remove_under.ensures;
      places = subst (λ subs. IsByKind c.of-self-inside.result (filters_of subs)) c.as_slice-2.ensures.value c.of-self-inside.ensures;
      rooms = subst (HaveRoomsBut c.all_places-self-inside.result.items) c.as_slice-3.ensures.value c.all_places-self-inside.ensures;
    }
