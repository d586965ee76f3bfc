use Rattle.cluster_lines.proofs.LineBroken.{ends-counts}
use Rattle.cluster_lines.proofs.WildLines.{ends-wild, same-wild}
use Rattle.cluster_rounds.proofs.WildSteps.{on-ok}
use Rattle.cold_servers.specs.ColdKit.{cold_kit}
use Rattle.cold_servers.specs.ColdLaws.{cold_laws}
use Rattle.cold_servers.specs.ColdSeen.{ColdSeen}
use Rattle.cold_servers.proofs.OwnLines.{refused-line}
use Rattle.cold_servers.proofs.lines.refuse_line.Goals as goal

pub returns : goal.returns
returns g c =
    let old = c.args.world.now in
    let held : ColdSeen = cold_kit.see (g.D.SharedDisk.seen c.args.disk.now) (g.J.SharedDisk.seen c.args.beside.now) in
    record {
      states = λ has. refused-line c.refuse.result c.as_answer.result c.args.line.now old c.args.lines.now.items c.refuse.new.lines.items held c.requires.shown c.as_answer.ensures has c.requires.up.states c.requires.refused c.refuse.ensures.ok;
      wild = (ends-wild cold_kit cold_laws) c.refuse.result c.as_answer.result old old held c.as_answer.ensures (on-ok c.refuse.result ((same-wild cold_kit cold_laws) old));
      counts = (ends-counts cold_kit cold_laws) c.refuse.result c.as_answer.result held c.as_answer.ensures;
    }
