use Rattle.std.proofs.Common.{sym, ◌∙◌}
use Rattle.std.proofs.lemmas.Result.{on_ok_weaker}
use Rattle.trio_lines.proofs.Masking.{puts-own, puts-other}
use Rattle.trio_lines.proofs.reading.put_masked.Goals as goal

pub returns-then-is_own : goal.returns-then-is_own
returns-then-is_own c =
    on_ok_weaker c.put.result (λ is. puts-own c.args.raw.now c.args.out.now.items c.put.new.out.items (sym c.is_own.ensures ∙ c.if-is_own.true) is) c.put.ensures

pub returns-in_ok-put : goal.returns-in_ok-put
returns-in_ok-put c =
    on_ok_weaker c.put-else-is_own-2.result (λ is. puts-other c.args.raw.now c.args.out.now.items c.put-else-is_own.new.out.items c.put-else-is_own-2.new.out.items (sym c.is_own.ensures ∙ c.if-is_own.false) c.in_ok-put.ensures is) c.put-else-is_own-2.ensures
