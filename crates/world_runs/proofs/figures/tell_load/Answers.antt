use Rattle.world_runs.proofs.FigureLaws.{counts-all, looks-some}
use Rattle.world_runs.proofs.figures.tell_load.Goals as goal

pub returns-in-Ok-load_line-clause-told : goal.returns-in-Ok-load_line-clause-told
returns-in-Ok-load_line-clause-told g c setup state shows =
    let held = c.in-Ok.held in
    record {
      files = held.files;
      bytes = held.bytes;
      counted = counts-all (g.D.SharedDisk.seen c.args.disk.now).files held c.in-Ok.ensures.counted;
      printed = c.in-Ok-load_line.ensures setup state shows;
    }

pub returns-in-Err-load_line-clause-looks : goal.returns-in-Err-load_line-clause-looks
returns-in-Err-load_line-clause-looks g c =
    looks-some (g.D.SharedDisk.seen c.args.disk.now).files (g.D.SharedDisk.seen c.args.disk.now).tally (g.D.SharedDisk.seen c.count_files.new.disk).tally c.in-Ok.ensures.looks
