use Rattle.std.proofs.Common.{ℕ, Option, OnErr, OnOk, refl, subst}
use Rattle.calls.specs.declared.entry.Entry.{Entry}
use Rattle.lone_server.specs.Joining.{CommitsJoined, CommitsOrNot}
use Rattle.lone_server.proofs.joining.commit_joined.Goals as goal

pub returns-in-Some-clause-ok : goal.returns-in-Some-clause-ok
returns-in-Some-clause-ok c =
    let C : Option (ℕ × Entry) → Type 0 = λ found. OnOk c.commit_one.result (CommitsJoined found c.args.servers.now c.commit_one.new.servers c.args.history.now.entries c.commit_one.new.history.entries c.args.lines.now.items c.commit_one.new.lines.items) in
    subst C c.in-Some.ensures c.commit_one.ensures.ok

pub returns-in-Some-clause-err : goal.returns-in-Some-clause-err
returns-in-Some-clause-err c =
    let C : Option (ℕ × Entry) → Type 0 = λ found. OnErr c.commit_one.result (CommitsOrNot found c.args.history.now.entries c.commit_one.new.history.entries) in
    subst C c.in-Some.ensures c.commit_one.ensures.err

pub returns-in-None-clause-ok : goal.returns-in-None-clause-ok
returns-in-None-clause-ok c =
    let C : Option (ℕ × Entry) → Type 0 = λ found. CommitsJoined found c.args.servers.now c.args.servers.now c.args.history.now.entries c.args.history.now.entries c.args.lines.now.items c.args.lines.now.items in
    subst C c.in-None.ensures (refl, refl, refl)
