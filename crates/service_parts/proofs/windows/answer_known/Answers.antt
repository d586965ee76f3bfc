use Rattle.std.proofs.Common.{◌≡◌, [], length, ap, ◌∙◌, arith}
use Rattle.client_window.specs.Windows.{Kept, window_of, more_places}
use Rattle.calls.specs.declared.reply.Reply.{Reply}
use Rattle.service_table.specs.declared.caller.ClientWindow.{ClientWindow}
use Rattle.service_table.specs.Tables.{client_window}
use Rattle.service_parts.proofs.ClientPlaces.{place_in}
use Rattle.service_parts.proofs.Lookups.{known-within, known-window, known-answered}
use Rattle.service_parts.proofs.windows.answer_known.Goals as goal

pub index_mut-caller-requires : goal.index_mut-caller-requires
index_mut-caller-requires c =
    let xs = c.args.callers.now.items in
    let places = c.args.callers.now.ok.0 in
    let place : c.place_of-place.result ≡ place_in (λ (w : ClientWindow). w.client) c.args.client xs = c.place_of-place.ensures ∙ ap (place_in (λ (w : ClientWindow). w.client) c.args.client) c.as_slice.ensures.value in
    let within = known-within c.args.client c.args.reply xs c.place_of-place.result (client_window 0 (window_of [])) place c.requires.order c.requires.known in
    omega (arith, places, within)

pub take_reply-requires-clause-next : goal.take_reply-requires-clause-next
take_reply-requires-clause-next c =
    let xs = c.args.callers.now.items in
    let place : c.place_of-place.result ≡ place_in (λ (w : ClientWindow). w.client) c.args.client xs = c.place_of-place.ensures ∙ ap (place_in (λ (w : ClientWindow). w.client) c.args.client) c.as_slice.ensures.value in
    let window = known-window c.args.client c.args.reply xs c.place_of-place.result c.index_mut-caller.result.now place c.requires.order c.requires.known c.index_mut-caller.ensures.value in
    let next = ap (λ (w : Kept Reply). w.next) window in
    omega (arith, next, c.requires.next)

pub take_reply-requires-clause-room : goal.take_reply-requires-clause-room
take_reply-requires-clause-room c =
    let xs = c.args.callers.now.items in
    let place : c.place_of-place.result ≡ place_in (λ (w : ClientWindow). w.client) c.args.client xs = c.place_of-place.ensures ∙ ap (place_in (λ (w : ClientWindow). w.client) c.args.client) c.as_slice.ensures.value in
    let window = known-window c.args.client c.args.reply xs c.place_of-place.result c.index_mut-caller.result.now place c.requires.order c.requires.known c.index_mut-caller.ensures.value in
    c.requires.room ∙ ap (λ (w : Kept Reply). more_places (length w.replies)) window

pub returns : goal.returns
returns c =
    let xs = c.args.callers.now.items in
    let place : c.place_of-place.result ≡ place_in (λ (w : ClientWindow). w.client) c.args.client xs = c.place_of-place.ensures ∙ ap (place_in (λ (w : ClientWindow). w.client) c.args.client) c.as_slice.ensures.value in
    known-answered c.args.client c.args.reply xs c.place_of-place.result c.index_mut-caller.result.now place c.requires.order c.requires.known c.index_mut-caller.ensures.value c.take_reply.new.window c.take_reply.ensures
