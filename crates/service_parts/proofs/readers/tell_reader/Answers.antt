use Rattle.std.proofs.Common.{◌≡◌, suc, ◌+◌, ◌<◌, length, ap, ◌∙◌, arith}
use Rattle.service_table.specs.Steps.{told_alarm}
use Rattle.service_parts.proofs.Fronts.{length-changed_front, changed_front-all}
use Rattle.service_parts.proofs.ReaderLists.{told-next}
use Rattle.service_parts.proofs.readers.tell_reader.Goals as goal

pub loop-place-preserved : goal.loop-place-preserved
loop-place-preserved c =
    let xs = c.args.readers.now.items in
    let readers = c.loop-place.readers in
    let places = c.args.readers.now.ok.0 in
    let long = ap length c.loop-place.invariant ∙ length-changed_front (told_alarm c.args.client c.args.alarm.now) c.loop-place.place xs in
    let within : c.loop-place.place < length readers.items = omega (arith, places, long, c.loop-place-test.true, c.len-place-end.ensures) in
    let next : c.loop-place.place + 1 ≡ suc c.loop-place.place = omega arith in
    told-next c.args.client c.args.alarm.now c.loop-place.place xs readers.items c.index_mut-reader.result.now within c.index_mut-reader.ensures.value c.loop-place.invariant c.tell.new.reader c.tell.ensures (c.loop-place.place + 1) next

pub returns : goal.returns
returns c =
    let xs = c.args.readers.now.items in
    let places = c.args.readers.now.ok.0 in
    let all : c.loop-place.place ≡ length xs = omega (arith, places, c.loop-place-test.false, c.len-place-end.ensures, c.loop-place.auto) in
    c.loop-place.invariant ∙ changed_front-all (told_alarm c.args.client c.args.alarm.now) c.loop-place.place xs all
