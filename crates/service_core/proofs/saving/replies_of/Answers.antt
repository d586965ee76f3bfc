use Rattle.std.proofs.Common.{List, ◌++◌, ap, ◌∙◌}
use Rattle.calls.specs.declared.reply.Reply.{Reply}
use Rattle.service_core.proofs.saving.replies_of.Goals as goal

pub returns : goal.returns
returns c =
    let front = c.replies.result.0.now in
    let behind = c.replies.result.1.now in
    c.from_vec.ensures
    ∙ c.in_ok-add_copies-2.ensures.items
    ∙ ap (λ (all : List Reply). all ++ behind) (c.in_ok-add_copies.ensures.items ∙ ap (λ (all : List Reply). all ++ front) c.in_ok-replies.ensures.items)
    ∙ c.replies.ensures
