use Rattle.std.proofs.Common.{List, ap, length, ◌==◌, ◌∙◌}
use Rattle.wire.specs.declared.message.Message.{Message}
use Rattle.lone_server.proofs.JoinSteps.{clear-is}
use Rattle.lone_server.proofs.joining.is_clear.Goals as goal

pub returns : goal.returns
returns c = clear-is c.args.messages.now c.is_empty.result (c.is_empty.ensures ∙ ap (λ (list : List Message). length list == 0) c.as_slice.ensures)
