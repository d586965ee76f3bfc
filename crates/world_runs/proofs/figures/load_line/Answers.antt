use Rattle.std.proofs.Common.{◌++◌, ◌∙◌, ap, sym, subst}
use Rattle.mirror.specs.declared.heard.Role.{Role}
use Rattle.cluster_clients.specs.Clients.{ShowsAgents}
use Rattle.event_text.specs.Texts.{role_text}
use Rattle.lead_server.specs.Roles.{role_shown}
use Rattle.world_runs.proofs.FigureLaws.{line-joined, line-told}
use Rattle.world_runs.proofs.figures.load_line.Goals as goal

pub returns : goal.returns
returns c setup state shows =
    let world = c.args.world.now in
    let held = c.args.held.now in
    let asked = c.in_ok-requests.ensures state.world.net shows.net in
    let again = c.in_ok-again.ensures state.world (subst (ShowsAgents state.world) (sym c.as_slice.ensures) shows.agents) in
    let a = c.role_word-a.ensures ∙ ap (λ (role : Role). role_text (role_shown world.armed role)) c.role.ensures in
    let b = c.role_word-b.ensures ∙ ap (λ (role : Role). role_text (role_shown world.armed role)) c.role-2.ensures in
    c.in_ok-line.ensures
    ∙ (λ i. c.in_ok-front.ensures i ++ c.in_ok-files.ensures i ++ c.in_ok-roles.ensures i)
    ∙ line-joined c.len-entries.result c.saturating_sub-replies.result c.len-net.result held.files held.bytes c.role_word-a.result.now c.role_word-b.result.now
    ∙ line-told setup state world held.files held.bytes c.in_ok-requests.requests c.in_ok-again.again c.len-entries.result c.saturating_sub-replies.result c.len-net.result c.role_word-a.result.now c.role_word-b.result.now shows asked again c.len-entries.ensures c.saturating_sub-replies.ensures c.len-net.ensures a b
