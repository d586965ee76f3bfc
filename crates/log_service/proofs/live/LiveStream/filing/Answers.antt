use Rattle.std.proofs.Common.{◌≡◌, false, ap, sym, ◌∙◌, w64, arith}
use Rattle.std.proofs.lemmas.Int.{to_z-of_z}
use Rattle.log_history.specs.Table.{OpenStream, length_in}
use Rattle.stream_config.specs.Events.{current_file}
use Rattle.log_history.specs.Answers.{lacks_room}
use Rattle.log_service.specs.Planning.{files_after}
use Rattle.log_service.proofs.StreamLemmas.{filing-is, room-fits}
use Rattle.log_service.proofs.live.LiveStream.filing.Goals as goal

pub returns-clause-filing : goal.returns-clause-filing
returns-clause-filing c = λ rec len_is.
    let last_fits = c.ranges.last in
    let now_fits = c.ranges.now in
    let inner : c.args.len ≡ length_in c.self.inside.state rec = len_is ∙ ap (λ (stream : OpenStream). length_in stream.state rec) (sym c.self.view_is) in
    filing-is c.self.inside c.args.self.now c.args.last c.args.now rec c.args.len c.due_stamps-stamps.result _ _ _
    c.self.view_is c.requires.moment.last_from inner
    (simp to_z-of_z at (c.due_stamps-stamps.ensures.due rec inner))
    (ap (λ (stream : OpenStream). files_after c.in_ok-filed.filed stream.state.files) (sym c.self.view_is) ∙ c.in_ok-filed.ensures)
    (c.opened_after-opened.ensures)
    (to_z-of_z w64 c.last_after.result (record { sfits = c.last_after.type_inv }) ∙ (simp to_z-of_z at c.last_after.ensures))

pub files_stored-requires-clause-room : goal.files_stored-requires-clause-room
files_stored-requires-clause-room c = λ none.
    let state = c.self.inside.state in
    let room : lacks_room state.attrs (current_file state.files).bytes c.args.len ≡ false =
    ap (λ (stream : OpenStream). lacks_room stream.state.attrs (current_file stream.state.files).bytes c.args.len) c.self.view_is ∙ c.requires.room in
    let fits = room-fits state c.args.len c.self.invariant.passes.sizes c.requires.length room (c.due_stamps-stamps.ensures.none none) in
    omega (arith, fits)
