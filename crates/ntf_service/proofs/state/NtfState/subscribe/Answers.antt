use Rattle.std.proofs.Common.{◌≡◌, length, ap, subst, rules, arith}
use Rattle.ais_values.specs.declared.status.Status.TheVariants as status
use Rattle.client_set.specs.Rising.{put}
use Rattle.ntf_history.specs.Kept.{Subscription}
use Rattle.ntf_history.specs.Tables.{kept_first}
use Rattle.ntf_service.specs.Inside.{table_inside}
use Rattle.ntf_service.specs.ByKind.{IsByKind, filters_of}
use Rattle.ntf_service.specs.Rooms.{HaveRoomsBut}
use Rattle.std.proofs.lemmas.List.{length-map}
use Rattle.ntf_service.specs.Told.{told}
use Rattle.ntf_service.proofs.Telling.{same_table}
use Rattle.ntf_service.proofs.Kept.{AreKept, sound-with, kept-new}
use Rattle.ntf_service.proofs.state.NtfState.subscribe.Goals as goal
use Rattle.ntf_service.proofs.state.NtfState.subscribe.Goals.{After-as_slice}

-- the subscriptions with the new one
kept : (c : After-as_slice) → AreKept c.self.inside.capacity (put kept_first (told c.in_ok-kept.kept) (table_inside c.self.inside).subs)
kept c =
    let answered : c.subscribe_status-status.result ≡ status.Ok = search rules in
    let queue = ap (λ (kept : Subscription). kept.queue) c.in_ok-kept.ensures in
    kept-new (table_inside c.self.inside) c.args.self.now.table c.args.client c.args.id c.args.filters.now c.subscribe_status-status.result (told c.in_ok-kept.kept) (same_table c.self.view_is) c.self.invariant.table c.subscribe_status-status.ensures answered queue

pub of-self-inside-requires : goal.of-self-inside-requires
of-self-inside-requires c =
    let few = (kept (goal.at.of-self-inside-requires c).After-as_slice).few in
    let now = c.add.new.subs.items in
    omega (arith, ap length c.as_slice.ensures.value, length-map now told, ap length c.in_ok-add.ensures.ok, few)

pub all_places-self-inside-requires : goal.all_places-self-inside-requires
all_places-self-inside-requires c =
    let few = (kept (goal.at.all_places-self-inside-requires c).After-as_slice).few in
    let now = c.add.new.subs.items in
    omega (arith, ap length c.as_slice-2.ensures.value, length-map now told, ap length c.in_ok-add.ensures.ok, few)

pub invariant_of-self-2 : goal.invariant_of-self-2
invariant_of-self-2 c = record {
  table = sound-with (table_inside c.self.inside) _ _ _ c.self.invariant.table (kept (goal.at.invariant_of-self-2 c).After-as_slice) c.in_ok-add.ensures.ok;
  places = subst (λ subs. IsByKind c.of-self-inside.result (filters_of subs)) c.as_slice.ensures.value c.of-self-inside.ensures;
  rooms = subst (HaveRoomsBut c.all_places-self-inside.result.items) c.as_slice-2.ensures.value c.all_places-self-inside.ensures;
}
