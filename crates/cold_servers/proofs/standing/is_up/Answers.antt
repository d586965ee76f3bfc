use Rattle.std.proofs.Common.{ap, sym, ◌∙◌}
use Rattle.cold_servers.specs.Steps.{is_active}
use Rattle.cold_servers.proofs.StandingSteps.{role-down, role-rests, role-up}
use Rattle.cold_servers.proofs.standing.is_up.Goals as goal

pub returns-in-Active : goal.returns-in-Active
returns-in-Active c =
    let is = sym c.role.ensures ∙ c.in-Active.is in
    record { role = ap is_active is; states = role-up c.args.world.now is }

pub returns-in_default : goal.returns-in_default
returns-in_default c = record {
  role = role-rests c.args.world.now.servers.lone.node.replica.role (λ is. let no = c.in_default.not-Active in no (c.role.ensures ∙ is));
  states = role-down c.args.world.now (λ is. let no = c.in_default.not-Active in no (c.role.ensures ∙ is));
}
