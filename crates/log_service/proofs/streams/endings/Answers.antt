use Rattle.std.proofs.Common.{w64, arith, to_z}
use Rattle.std.proofs.lemmas.Int.{to_z-of_z}
use Rattle.log_service.specs.Moments.{IsTimeOfCall}
use Rattle.log_service.proofs.EndLemmas.{AreEndings-none, AreEndings-more, AreEndings-all, ending-fits}
use Rattle.log_service.proofs.streams.endings.Goals as goal

pub loop-stream-init : goal.loop-stream-init
loop-stream-init c =
    let last_fits = c.ranges.last in
    let now_fits = c.ranges.now in
    simp to_z-of_z (AreEndings-none c.args.last c.args.now c.args.client c.args.streams.now c.new-events.result c.requires.moment c.new-events.ensures)

pub loop-stream-preserved : goal.loop-stream-preserved
loop-stream-preserved c =
    let last_fits = c.ranges.last in
    let now_fits = c.ranges.now in
    let time : IsTimeOfCall c.args.now = record { from = c.requires.moment.from; to = c.requires.moment.to } in
    let before = simp to_z-of_z at c.loop-stream.invariant in
    let stamped_is = simp to_z-of_z at c.in_ok-stamped.ensures.stamp in
    let more_is = simp to_z-of_z at c.in_ok-stamped.ensures.events in
    let stamped_fits = ending-fits (to_z w64 c.loop-stream.stamped-bits) c.args.now c.args.client c.stream-item.result c.loop-stream.stream-index c.in_ok-stamped.stamped time before.to (omega arith) stamped_is in
    simp to_z-of_z (AreEndings-more c.args.last c.args.now c.args.client c.args.streams.now c.loop-stream.stream-index c.stream-item.result (to_z w64 c.loop-stream.stamped-bits) c.in_ok-stamped.stamped c.loop-stream.events c.add_end.new.events time c.loop-stream-test.true c.stream-item.is before stamped_is more_is)

pub returns-clause-stamp : goal.returns-clause-stamp
returns-clause-stamp c =
    let last_fits = c.ranges.last in
    let now_fits = c.ranges.now in
    (AreEndings-all c.args.last c.args.now c.args.client c.args.streams.now c.loop-stream.stream-index _ c.loop-stream.events c.loop-stream-test.false (simp to_z-of_z at c.loop-stream.invariant)).0

pub returns-clause-events : goal.returns-clause-events
returns-clause-events c =
    let last_fits = c.ranges.last in
    let now_fits = c.ranges.now in
    (AreEndings-all c.args.last c.args.now c.args.client c.args.streams.now c.loop-stream.stream-index _ c.loop-stream.events c.loop-stream-test.false (simp to_z-of_z at c.loop-stream.invariant)).1
