use Rattle.std.proofs.Common.{inl}
use Rattle.std.proofs.lemmas.Result.{on_err_weaker, on_ok_weaker}
use Rattle.lone_server.proofs.BackSteps.{linked-is, linked-or}
use Rattle.lone_server.proofs.restarting.link_journal.Goals as goal

pub confirm-requires : goal.confirm-requires
confirm-requires c = λ moment. tt

pub returns-in-Err-clause-err : goal.returns-in-Err-clause-err
returns-in-Err-clause-err c = inl c.in-Err.ensures.err

pub returns-clause-ok : goal.returns-clause-ok
returns-clause-ok c =
    on_ok_weaker c.confirm.result
    (λ confirmed. linked-is c.args.number c.args.node.now c.begin_join.new.self c.confirm.new.active c.in-Ok.heard c.requires.role c.requires.idle c.in-Ok.ensures.ok confirmed)
    c.confirm.ensures.ok

pub returns-clause-err : goal.returns-clause-err
returns-clause-err c =
    on_err_weaker c.confirm.result
    (λ same. linked-or c.args.node.now c.begin_join.new.self c.confirm.new.active c.in-Ok.heard c.requires.idle c.in-Ok.ensures.ok same)
    c.confirm.ensures.err
