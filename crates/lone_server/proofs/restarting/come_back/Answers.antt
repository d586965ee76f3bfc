use Rattle.std.proofs.Common.{inl, inr, ap}
use Rattle.mirror.specs.declared.state.NodeState.{NodeState}
use Rattle.journal_start.specs.declared.cold.ColdAnswer.TheVariants.{Failed, Stopped}
use Rattle.lone_server.proofs.BackSteps.{arms-as, arms-done, either-as, either-done}
use Rattle.lone_server.proofs.restarting.come_back.Goals as goal

pub install-requires : goal.install-requires
install-requires g c = record {
  role = ap (λ (node : NodeState). node.replica.role) c.in-Ok.ensures.found.node;
  idle = ap (λ (node : NodeState). node.replica.owed) c.in-Ok.ensures.found.node;
}

pub returns-in-Ok-install-clause-found : goal.returns-in-Ok-install-clause-found
returns-in-Ok-install-clause-found g c = record { cold = c.in-Ok.cold; started = c.in-Ok.ensures.found; installs = c.in-Ok-install.ensures.ok }

pub returns-in-Ok-install-clause-arms : goal.returns-in-Ok-install-clause-arms
returns-in-Ok-install-clause-arms g c = arms-done _ _ _ _ c.in-Ok.cold _ (λ is. cc) c.in-Ok.ensures.arms

pub returns-in-Ok-install-clause-cause : goal.returns-in-Ok-install-clause-cause
returns-in-Ok-install-clause-cause g c = either-done _ _ _ _ c.in-Ok.cold _ Failed (λ is. cc) c.in-Ok.ensures.cause

pub returns-in-Ok-install-clause-stop : goal.returns-in-Ok-install-clause-stop
returns-in-Ok-install-clause-stop g c = either-done _ _ _ _ c.in-Ok.cold _ Stopped (λ is. cc) c.in-Ok.ensures.stop

pub returns-in-Err-install-clause-untouched : goal.returns-in-Err-install-clause-untouched
returns-in-Err-install-clause-untouched g c = inl tt

pub returns-in-Err-install-clause-broken : goal.returns-in-Err-install-clause-broken
returns-in-Err-install-clause-broken g c =
    let started = c.in-Ok.ensures.found in
    inr (started.bytes, started.past, started.follower, started.read, started.found, started.deeds)

pub returns-in-Err-install-clause-arms : goal.returns-in-Err-install-clause-arms
returns-in-Err-install-clause-arms g c = arms-done _ _ _ _ c.in-Ok.cold _ (λ is. cc) c.in-Ok.ensures.arms

pub returns-in-Err-install-clause-cause : goal.returns-in-Err-install-clause-cause
returns-in-Err-install-clause-cause g c = either-done _ _ _ _ c.in-Ok.cold _ Failed (λ is. cc) c.in-Ok.ensures.cause

pub returns-in-Err-install-clause-stop : goal.returns-in-Err-install-clause-stop
returns-in-Err-install-clause-stop g c = either-done _ _ _ _ c.in-Ok.cold _ Stopped (λ is. cc) c.in-Ok.ensures.stop

pub returns-in-Err-clause-broken : goal.returns-in-Err-clause-broken
returns-in-Err-clause-broken g c = inl c.in-Err.ensures.broken

pub returns-in-Err-clause-arms : goal.returns-in-Err-clause-arms
returns-in-Err-clause-arms g c = arms-as _ _ _ _ c.in-Err.answer c.in-Err.ensures.arms

pub returns-in-Err-clause-cause : goal.returns-in-Err-clause-cause
returns-in-Err-clause-cause g c = either-as _ _ _ _ c.in-Err.answer Failed c.in-Err.ensures.cause

pub returns-in-Err-clause-stop : goal.returns-in-Err-clause-stop
returns-in-Err-clause-stop g c = either-as _ _ _ _ c.in-Err.answer Stopped c.in-Err.ensures.stop
