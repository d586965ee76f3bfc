use Rattle.std.proofs.Common.{◌≡◌, length, ap, sym, ◌∙◌, arith}
use Rattle.client_window.specs.Windows.{Kept, more_places}
use Rattle.calls.specs.declared.reply.Reply.{Reply}
use Rattle.service_table.specs.declared.caller.ClientWindow.{ClientWindow}
use Rattle.service_parts.proofs.ClientPlaces.{place_in, within-place}
use Rattle.service_parts.proofs.Lookups.{first-answered}
use Rattle.service_parts.proofs.windows.answer_first.Goals as goal

pub put_at-requires-clause-within : goal.put_at-requires-clause-within
put_at-requires-clause-within c =
    let within = within-place (λ (w : ClientWindow). w.client) c.args.client c.as_slice.result.now in
    omega (arith, within, c.place_of-place.ensures, c.as_slice.ensures.len)

pub returns : goal.returns
returns c =
    let xs = c.args.callers.now.items in
    let place : c.place_of-place.result ≡ place_in (λ (w : ClientWindow). w.client) c.args.client xs = c.place_of-place.ensures ∙ ap (place_in (λ (w : ClientWindow). w.client) c.args.client) c.as_slice.ensures.value in
    c.put_at.ensures ∙ first-answered c.args.client c.args.reply xs c.place_of-place.result c.args.window c.take_reply.new.window place c.requires.room.absent c.requires.room.new c.take_reply.ensures

pub take_reply-requires-clause-room : goal.take_reply-requires-clause-room
take_reply-requires-clause-room c = sym (ap (λ (w : Kept Reply). more_places (length w.replies)) c.requires.room.new)
