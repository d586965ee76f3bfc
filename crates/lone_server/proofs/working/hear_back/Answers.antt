use Rattle.std.proofs.Common.{List, refl, ap, subst, sym, ◌∙◌}
use Rattle.wire.specs.declared.message.Message.{Message}
use Rattle.mirror.specs.declared.state.NodeState.{NodeState}
use Rattle.lone_server.specs.Working.{CanHearAll}
use Rattle.lone_server.proofs.working.hear_back.Goals as goal

pub confirm-requires : goal.confirm-requires
confirm-requires c = (subst (λ (messages : List Message). CanHearAll c.args.servers.now.node messages) c.in-Some.ensures c.requires).0

pub returns-in-None-clause-ok : goal.returns-in-None-clause-ok
returns-in-None-clause-ok c =
    let none = c.in-None.ensures in
    (none.0, ap (λ (back : List Message). record c.args.servers.now { back = back }) (none.1 ∙ sym none.0))

pub returns-in-Ok-clause-ok : goal.returns-in-Ok-clause-ok
returns-in-Ok-clause-ok c = record {
  message = c.in-Some.message;
  rest = c.take_first.new.list;
  first = c.in-Some.ensures;
  back = refl;
  link = refl;
  journal = refl;
  armed = refl;
  confirmed = c.in-Ok.ensures.ok;
}

pub returns-in-Err-clause-err : goal.returns-in-Err-clause-err
returns-in-Err-clause-err c = record {
  message = c.in-Some.message;
  rest = c.take_first.new.list;
  first = c.in-Some.ensures;
  is = ap (λ (node : NodeState). record c.args.servers.now { node = node; back = c.take_first.new.list }) c.in-Err.ensures.err;
}
