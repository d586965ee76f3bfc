use Rattle.std.proofs.Common.{◌+◌, ap, sym, ◌∙◌}
use Rattle.std.proofs.lemmas.Int.{to_z-of_z}
use Rattle.record_print.specs.Printing.{printed_record}
use Rattle.stream_config.specs.declared.attrs.StreamAttrs.{StreamAttrs}
use Rattle.stream_config.specs.declared.state.StreamState.{StreamState}
use Rattle.stream_config.specs.declared.event.StreamEvent.TheVariants as event
use Rattle.log_history.specs.Table.{OpenStream, length_in}
use Rattle.log_service.proofs.StreamLemmas.{storing-is}
use Rattle.log_service.proofs.live.LiveStream.storing.Goals as goal

pub returns : goal.returns
returns c =
    let last_fits = c.ranges.last in
    let now_fits = c.ranges.now in
    storing-is c.self.inside c.args.self.now c.args.last c.args.now c.args.rec.now c.due_stamps-stamps.result c.in_ok-bytes.bytes _
    c.self.view_is c.self.invariant
    (simp to_z-of_z at (c.due_stamps-stamps.ensures.due c.args.rec.now (c.requires.length ∙ ap (λ (stream : OpenStream). length_in stream.state c.args.rec.now) (sym c.self.view_is))))
    (c.in_ok-bytes.ensures.text ∙ ap (λ (attrs : StreamAttrs). printed_record c.self.inside.expr.pieces (c.self.inside.state.taken + 1) c.args.rec.now attrs.record_size) c.get.ensures)
    (ap (λ (before : StreamState). event.Stored before c.in_ok-bytes.bytes c.due_stamps-stamps.result) c.in_ok-before.ensures)
