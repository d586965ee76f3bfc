use Rattle.world_runs.proofs.FigureLaws.{file-none, file-some}
use Rattle.world_runs.proofs.figures.with_file.Goals as goal

pub returns-in-Ok-None-clause-counted : goal.returns-in-Ok-None-clause-counted
returns-in-Ok-None-clause-counted g c =
    file-none (g.D.SharedDisk.seen c.args.disk.now).files c.args.name.now c.in-Ok-None.field-0 c.args.held c.in-Ok-None.field-0-is c.in-Ok-None.ensures.told

pub returns-in-Some-clause-counted : goal.returns-in-Some-clause-counted
returns-in-Some-clause-counted g c =
    file-some (g.D.SharedDisk.seen c.args.disk.now).files c.args.name.now c.in-Ok-Some.field-0 c.in-Ok-Some.length c.args.held c.in-Some.more c.in-Ok-Some.field-0-is c.in-Ok-Some.ensures.told c.in-Some.ensures.0 c.in-Some.ensures.1
