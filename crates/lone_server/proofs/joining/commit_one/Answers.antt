use Rattle.std.proofs.Common.{inl, inr, ap, ◌∷◌, ◌∙◌, List}
use Rattle.std.proofs.lemmas.Result.{on_ok_weaker}
use Rattle.calls.specs.History.{Pushed}
use Rattle.calls.specs.declared.entry.Entry.{Entry}
use Rattle.cluster_clients.proofs.DispatchSteps.{on-err}
use Rattle.lone_server.proofs.JoinSteps.{commits-one}
use Rattle.lone_server.proofs.joining.commit_one.Goals as goal

pub returns-in-Err-clause-err : goal.returns-in-Err-clause-err
returns-in-Err-clause-err c = inl (ap (λ (history : Pushed). history.entries) c.in-Err.ensures.err)

pub returns-in-Ok-commit-clause-ok : goal.returns-in-Ok-commit-clause-ok
returns-in-Ok-commit-clause-ok c =
    on_ok_weaker c.put_back.result
    (λ is. commits-one c.args.number c.args.entry c.args.servers.now c.put_back.new.servers c.args.history.now.entries c.reserve.new.self.entries c.commit.new.history.entries c.args.lines.now.items c.commit.new.lines.items c.in-Ok.ensures.entries c.in-Ok-commit.ensures.ok is)
    c.put_back.ensures.ok

-- it is committed
pub returns-in-Ok-commit-clause-err : goal.returns-in-Ok-commit-clause-err
returns-in-Ok-commit-clause-err c =
    on-err c.put_back.result
    (inr (c.in-Ok-commit.ensures.ok.0 ∙ ap (λ (past : List Entry). c.args.entry ∷ past) c.in-Ok.ensures.entries))

pub returns-in-Err-commit-clause-err : goal.returns-in-Err-commit-clause-err
returns-in-Err-commit-clause-err c =
    inl (ap (λ (history : Pushed). history.entries) c.in-Err-commit.ensures.err ∙ c.in-Ok.ensures.entries)

pub returns-in-Ok-commit-clause-servers : goal.returns-in-Ok-commit-clause-servers
returns-in-Ok-commit-clause-servers c = c.put_back.ensures.err
