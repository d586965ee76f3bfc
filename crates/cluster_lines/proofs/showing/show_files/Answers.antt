use Rattle.cluster_lines.proofs.ShowSteps.{files-shown}
use Rattle.cluster_lines.proofs.showing.show_files.Goals as goal

pub returns-in-Ok-append-clause-ok : goal.returns-in-Ok-append-clause-ok
returns-in-Ok-append-clause-ok g c =
    (files-shown g.S.Serving.kit) c.args.world.now c.args.lines.now.items c.append.new.self.items c.in-Ok.listed.items (g.D.SharedDisk.seen c.args.disk.now).files c.in-Ok.ensures.listed c.in-Ok-append.ensures.items
