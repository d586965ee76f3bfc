-- Words of public clauses: the roles of servers, and how lines tell them.
use Rattle.std.specs.Prelude.{Bool, true, false}
use Rattle.mirror.specs.declared.heard.Role.{Role}
use Rattle.mirror.specs.declared.heard.Role.TheVariants as role
use Rattle.cluster_events.specs.declared.lines.ServerRole.{ServerRole}
use Rattle.cluster_events.specs.declared.lines.ServerRole.TheVariants.{Active, Armed, Standby, Joining, Down}

abbrev pub stands_by : Role → Bool
stands_by role.Standby = true
stands_by _ = false

abbrev pub stays_down : Role → Bool
stays_down role.Down = true
stays_down _ = false

-- how a line tells a role: the active server may be armed
abbrev pub role_shown : Bool → Role → ServerRole
role_shown true role.Active = Armed
role_shown false role.Active = Active
role_shown armed role.Standby = Standby
role_shown armed role.Joining = Joining
role_shown armed role.Down = Down
