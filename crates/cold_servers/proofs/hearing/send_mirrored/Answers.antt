use Rattle.std.proofs.Common.{refl, ap, sym, ◌++◌, ◌∙◌, append-nil}
use Rattle.cold_servers.proofs.hearing.send_mirrored.Goals as goal

pub returns-then-is_clear-clause-ok : goal.returns-then-is_clear-clause-ok
returns-then-is_clear-clause-ok c =
    let link = c.args.link.now in
    sym (append-nil link) ∙ ap (λ more. link ++ more) (sym (c.if-is_clear.ensures.0 refl))
