use Rattle.std.proofs.Common.{ap, ◌∙◌}
use Rattle.ntf_types.specs.EventRows.{has_row}
use Rattle.ntf_types.proofs.EventTypes.{has_row-decides}
use Rattle.ntf_types.proofs.check.has_event_type.Goals as goal

pub returns : goal.returns
returns c =
    let n = c.args.notification.now in
    has_row-decides c.args.rows.now c.requires n.body n.event_type c.has_row.result (c.has_row.ensures ∙ ap (λ kind. has_row kind n.event_type c.args.rows.now) c.kind_of.ensures)
