use Rattle.std.proofs.Common.{◌≡◌, ◌≤◌, ◌+◌, List, ◌++◌, sym, ◌∙◌, ap, Some, None, w64, unsigned_abs, arith}
use Rattle.std.specs.Option.{option_copied}
use Rattle.std.specs.List.{find}
use Rattle.std.proofs.lemmas.Int.{to_z-of_z}
use Rattle.stream_config.specs.declared.event.StreamEvent.{StreamEvent}
use Rattle.log_history.specs.Table.{is_named}
use Rattle.log_service.specs.Moments.{IsTimeOfCall}
use Rattle.log_service.specs.Changing.{end_of}
use Rattle.log_service.proofs.EndLemmas.{abs-bound, ending-fits}
use Rattle.log_service.proofs.CloseLemmas.{closes-nowhere, closes-found}
use Rattle.log_service.proofs.streams.closing.Goals as goal

pub returns-in_default : goal.returns-in_default
returns-in_default c =
    let none : find (is_named c.args.name.now) c.args.streams.now ≡ None = sym c.stream_of.ensures ∙ ap option_copied c.in_default.is in
    closes-nowhere c.args.last c.args.now c.args.client c.args.name.now c.args.streams.now _ _ c.requires.moment.last_from (to_z-of_z w64 c.args.last c.ranges.last) c.new-events.ensures c.requires.busy none

pub returns : goal.returns
returns c =
    let last_fits = c.ranges.last in
    let now_fits = c.ranges.now in
    let found : find (is_named c.args.name.now) c.args.streams.now ≡ Some c.in-Some.stream.now = sym c.in-Some.ensures in
    let stamp_is = simp to_z-of_z at c.in_ok-stamped.ensures.stamp in
    let events_are = simp to_z-of_z at c.in_ok-stamped.ensures.events in
    let time : IsTimeOfCall c.args.now = record { from = c.requires.moment.from; to = c.requires.moment.to } in
    let low = abs-bound c.args.last 19999999000 c.requires.moment.last_from c.requires.moment.last_to in
    let least : unsigned_abs c.args.last ≤ 19999999000 + 0 = omega arith in
    let fits = ending-fits c.args.last c.args.now c.args.client c.in-Some.stream.now 0 c.in_ok-stamped.stamped time least (omega arith) stamp_is in
    closes-found c.args.last c.args.now c.args.client c.args.name.now c.args.streams.now c.in-Some.stream.now _ _ c.requires.busy found
    (to_z-of_z w64 c.in_ok-stamped.stamped fits ∙ stamp_is)
    (events_are ∙ ap (λ (front : List StreamEvent). front ++ end_of c.args.last c.args.now c.args.client c.in-Some.stream.now) c.new-events.ensures)
