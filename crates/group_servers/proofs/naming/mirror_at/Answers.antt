use Rattle.std.proofs.Common.{Bool, Option, None, List, refl, ap, subst}
use Rattle.cluster_facts.specs.Types.{Entry}
use Rattle.group_cluster.specs.Seats.{same_server}
use Rattle.group_servers.specs.declared.group.Seat.{Seat}
use Rattle.lead_server.specs.Told.{Commits}
use Rattle.group_servers.specs.Delivered.{FirstComes, committed_now}
use Rattle.group_servers.proofs.DeliverSteps.{comes-stays}
use Rattle.group_servers.proofs.GoodSteps.{untold-breaks}
use Rattle.group_servers.proofs.MirrorSteps.{can-take-all, mirror-happens, mirrors-none}
use Rattle.group_servers.proofs.naming.mirror_at.Goals as goal

pub deliver_named-requires : goal.deliver_named-requires
deliver_named-requires g c = can-take-all g.row.N c.args.world.now c.requires.state

pub returns-in-Ok-clause-ok : goal.returns-in-Ok-clause-ok
returns-in-Ok-clause-ok g c = λ setup state good shows.
    let F : Option (Option Entry) → Type 0 = λ found. FirstComes (same_server c.args.server) found c.args.world.now.servers.seats c.deliver_named.new.seats c.args.lines.now.items c.deliver_named.new.lines.items in
    let comes = subst F c.in-Ok-Some.field-0-is c.in-Ok-Some.ensures in
    let C : Bool → Type 0 = λ goes. Commits (committed_now goes c.in-Ok-Some.committed) c.args.world.now.history.entries c.commit_applied.new.history.entries c.deliver_named.new.lines.items c.commit_applied.new.lines.items in
    let commits = subst C c.any_goes-goes.ensures c.in-Ok.ensures.ok in
    let done = mirror-happens g.row.N (same_server c.args.server) setup state c.args.world.now c.deliver_named.new.seats c.commit_applied.new.history c.in-Ok-Some.committed c.args.lines.now.items c.deliver_named.new.lines.items c.commit_applied.new.lines.items good shows comes commits in
    (done.outcome, done.is, done.happened)

-- nothing is on the way
pub returns-in-Ok-None-clause-ok : goal.returns-in-Ok-None-clause-ok
returns-in-Ok-None-clause-ok g c =
    let old = c.args.world.now in
    let F : Option (Option Entry) → Type 0 = λ found. FirstComes (same_server c.args.server) found old.servers.seats c.deliver_named.new.seats c.args.lines.now.items c.deliver_named.new.lines.items in
    let comes = subst F c.in-Ok-None.field-0-is c.in-Ok-None.ensures in
    let stays = comes-stays (same_server c.args.server) None old.servers.seats c.deliver_named.new.seats c.args.lines.now.items c.deliver_named.new.lines.items comes in (
      ap (λ (seats : List Seat). record old { servers = record old.servers { seats = seats } }) stays.0,
      stays.1,
      λ setup state good shows. (mirrors-none g.row.N (same_server c.args.server) setup state old c.deliver_named.new.seats c.args.lines.now.items c.deliver_named.new.lines.items good shows comes).0,
    )

-- memory ran out
pub returns-in-Err-clause-err : goal.returns-in-Err-clause-err
returns-in-Err-clause-err g c = λ held setup state good shows. untold-breaks g.row.N setup state held c.args.world.now _ good shows refl refl refl refl refl

pub returns-in-Err-commit_applied-clause-err : goal.returns-in-Err-commit_applied-clause-err
returns-in-Err-commit_applied-clause-err g c = λ held setup state good shows.
    untold-breaks g.row.N setup state held c.args.world.now _ good shows refl refl c.in-Err-commit_applied.ensures.err refl refl
