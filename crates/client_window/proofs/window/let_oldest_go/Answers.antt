use Rattle.std.proofs.Common.{reverse, ap, ◌∙◌, arith}
use Rattle.client_window.proofs.Keeping.{newest, all_kept}
use Rattle.client_window.proofs.window.let_oldest_go.Goals as goal

pub returns-then-len-eq-MAX_REPLIES-clause-items : goal.returns-then-len-eq-MAX_REPLIES-clause-items
returns-then-len-eq-MAX_REPLIES-clause-items g c =
    ap reverse c.pop_front.ensures.rest ∙ newest c.args.replies.now.items (omega arith)

pub returns-else-len-eq-MAX_REPLIES-clause-items : goal.returns-else-len-eq-MAX_REPLIES-clause-items
returns-else-len-eq-MAX_REPLIES-clause-items g c = all_kept c.args.replies.now.items (omega arith)
