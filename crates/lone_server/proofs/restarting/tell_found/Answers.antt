use Rattle.std.proofs.Common.{◌∷◌, [], ◌++◌, ap, ◌∙◌}
use Rattle.script_lines.specs.declared.line.Server.TheVariants.{A}
use Rattle.cluster_events.specs.declared.lines.ServerRole.TheVariants.{Active}
use Rattle.event_text.specs.Texts.{server_line}
use Rattle.lone_server.proofs.restarting.tell_found.Goals as goal

pub returns-in-Ok-put_server : goal.returns-in-Ok-put_server
returns-in-Ok-put_server c = record {
  history = c.in-Ok.ensures.history;
  lines = c.in-Ok-put_server.ensures.ok ∙ ap (λ front. front ++ server_line A Active ∷ []) c.in-Ok.ensures.lines;
}
