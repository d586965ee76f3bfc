use Rattle.std.proofs.Common.{◌<◌, ◌+◌, sym, ap, ◌∙◌, arith}
use Rattle.std.proofs.lemmas.Int.{to_z-of_z}
use Rattle.stream_config.specs.declared.state.StreamState.{StreamState}
use Rattle.std.specs.Option.{option_map_or}
use Rattle.std.specs.Prelude.{false}
use Rattle.stream_config.specs.Events.{current_file}
use Rattle.log_history.specs.Answers.{lacks_room}
use Rattle.log_history.specs.KeptAnswers.{lacks_room_in}
use Rattle.log_history.specs.Table.{OpenStream, is_named}
use Rattle.log_service.proofs.EndLemmas.{due-fits}
use Rattle.log_service.proofs.PlaceLemmas.{first-is, nowhere-is, found-at}
use Rattle.log_service.proofs.StreamPlans.{stores-nowhere, stores-at}
use Rattle.log_service.proofs.streams.storing_plan.Goals as goal

pub returns-in_default : goal.returns-in_default
returns-in_default c =
    let last_fits = c.ranges.last in
    stores-nowhere c.args.last c.args.now c.args.name.now c.args.rec.now c.args.streams.now c.new.result c.accepted.result c.requires.moment.last_from c.new.ensures (nowhere-is (is_named c.args.name.now) c.args.streams.now (sym c.place_of.ensures ∙ c.in_default.is)) (simp to_z-of_z at c.accepted.ensures)

pub overflow_add-taken : goal.overflow_add-taken
overflow_add-taken c =
    let named = is_named c.args.name.now in
    let items = c.args.streams.now in
    let read = c.index-streams-place.result in
    let below : read.state.taken < 4294967294 = c.requires.numbers read (found-at named items c.in-Some.place read (first-is named items c.in-Some.place (sym c.place_of.ensures ∙ c.in-Some.is)) c.index-streams-place.is) in
    record { fits = omega (arith, ap (λ (state : StreamState). state.taken) c.state.ensures) }

pub storing-requires-clause-numbers : goal.storing-requires-clause-numbers
storing-requires-clause-numbers c =
    let named = is_named c.args.name.now in
    let items = c.args.streams.now in
    let read = c.index-streams-place.result in
    c.requires.numbers read (found-at named items c.in-Some.place read (first-is named items c.in-Some.place (sym c.place_of.ensures ∙ c.in-Some.is)) c.index-streams-place.is)

pub filing-requires-clause-numbers : goal.filing-requires-clause-numbers
filing-requires-clause-numbers c =
    let named = is_named c.args.name.now in
    let items = c.args.streams.now in
    let read = c.index-streams-place.result in
    c.requires.numbers read (found-at named items c.in-Some.place read (first-is named items c.in-Some.place (sym c.place_of.ensures ∙ c.in-Some.is)) c.index-streams-place.is)

pub length_of-len-requires-clause-numbers : goal.length_of-len-requires-clause-numbers
length_of-len-requires-clause-numbers c =
    let named = is_named c.args.name.now in
    let items = c.args.streams.now in
    let read = c.index-streams-place.result in
    c.requires.numbers read (found-at named items c.in-Some.place read (first-is named items c.in-Some.place (sym c.place_of.ensures ∙ c.in-Some.is)) c.index-streams-place.is)

pub filing-requires-clause-room : goal.filing-requires-clause-room
filing-requires-clause-room c =
    let named = is_named c.args.name.now in
    let items = c.args.streams.now in
    let read = c.index-streams-place.result in
    let found = found-at named items c.in-Some.place read (first-is named items c.in-Some.place (sym c.place_of.ensures ∙ c.in-Some.is)) c.index-streams-place.is in
    ap (lacks_room read.state.attrs (current_file read.state.files).bytes) c.length_of-len.ensures.length
    ∙ sym (ap (λ one. option_map_or (λ (stream : OpenStream). lacks_room_in stream.state c.args.rec.now) one false) found) ∙ c.requires.room

pub returns : goal.returns
returns c =
    let last_fits = c.ranges.last in
    let now_fits = c.ranges.now in
    let items = c.args.streams.now in
    let read = c.index-streams-place.result in
    let filing = simp to_z-of_z at (c.in_ok-stamped.ensures.filing c.args.rec.now c.length_of-len.ensures.length) in
    let stamped_fits = due-fits c.args.last c.args.now c.args.rec.now read.state c.in_ok-stamped.stamped c.requires.moment filing.stamp_is in
    stores-at c.args.last c.args.now c.args.name.now c.args.rec.now items c.in-Some.place read (c.state.result.now.taken + 1) c.in_ok-stamped.stamped c.in_ok-stamped.opened c.in_ok-stamped.filed c.in_ok-event.event c.in_ok-events.events c.accepted-2.result
    (first-is (is_named c.args.name.now) items c.in-Some.place (sym c.place_of.ensures ∙ c.in-Some.is)) c.index-streams-place.is
    (ap (λ (state : StreamState). state.taken + 1) c.state.ensures) (omega (arith, c.in_ok-stamped.ensures.few, ap (λ (state : StreamState). state.taken) c.state.ensures)) filing (simp to_z-of_z at c.in_ok-event.ensures) c.in_ok-events.ensures (simp to_z-of_z at c.accepted-2.ensures)
