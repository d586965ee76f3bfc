-- Words of bodies alone: how queues, feeders and takers are seen by their passes.
use Rattle.std.specs.Prelude.{◌≡◌, ◌<◌, true, [], length}
use Rattle.crossbeam_queue.specs.Passes.{view, ruled_capacity}
use Rattle.callback_dispatch.specs.declared.queue.CallbackQueue.TheInside.{Inside as QueueInside}
use Rattle.callback_dispatch.specs.declared.queue.Feeder.TheInside.{Inside as FeederInside}
use Rattle.callback_dispatch.specs.declared.queue.Taker.TheInside.{Inside as TakerInside}
use Rattle.callback_dispatch.specs.Seen.{QueueSeen, FeederSeen, TakerSeen}

abbrev pub queue_seen : QueueInside → QueueSeen
queue_seen inside = record { name = inside.ring.table.shared.table_id; capacity = ruled_capacity inside.ring }

abbrev pub feeder_seen : FeederInside → FeederSeen
feeder_seen inside = record {
  queue = inside.pass.table_id;
  list = (view inside.pass).fed;
  count = (view inside.pass).count;
}

abbrev pub IsFeeder : FeederInside → Type 0
IsFeeder inside =
    (inside.pass.me.1 ≡ []) × ((view inside.pass).feeds ≡ true) × (inside.fed ≡ length (view inside.pass).fed)

abbrev pub taker_seen : TakerInside → TakerSeen
taker_seen inside = record {
  queue = inside.pass.table_id;
  list = (view inside.pass).taken;
  share = (view inside.pass).share;
  known = (view inside.pass).known;
}

abbrev pub IsTaker : TakerInside → Type 0
IsTaker inside = (inside.pass.me.1 ≡ []) × (0 < (view inside.pass).share)
