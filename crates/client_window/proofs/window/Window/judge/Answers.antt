use Rattle.std.proofs.Common.{◌≡◌, ◌-◌, ◌<◌, length, reverse, get_or, sym, ap, ◌∙◌, arith}
use Rattle.std.proofs.lemmas.List.{length-reverse, get_or-reverse}
use Rattle.client_window.proofs.Keeping.{taken_under_kept}
use Rattle.client_window.proofs.window.Window.judge.Goals as goal

pub returns-in-Some : goal.returns-in-Some
returns-in-Some g c =
    let items = c.self.inside.replies.items in
    let reply = c.in-Some.reply.now in
    let newer = c.self.inside.next - c.args.seq - 1 in
    let count = length-reverse items in
    let within : newer < length items = omega (arith, c.self.inside.replies.ok.0) in
    let place : c.len-2.result - 1 - newer ≡ length items - 1 - newer = omega (arith, c.self.inside.replies.ok.0) in
    let found : reply ≡ get_or (reverse items) newer reply = c.in-Some.ensures.lookup ∙ ap (λ n. get_or items n reply) place ∙ sym (get_or-reverse items newer reply within) in
    λ all is. taken_under_kept c.self.inside.next c.args.seq all (reverse items) reply (c.self.view_is ∙ is) (omega arith) (omega arith) found
