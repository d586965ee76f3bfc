use Rattle.std.proofs.Common.{◌≡◌, length, Option, option_map, sym, subst}
use Rattle.disk_model.specs.Counts.{CountsDone}
use Rattle.disk_model.specs.DeviceCalls.{all_applied}
use Rattle.disk_model.proofs.Breaking.{none_applied}
use Rattle.disk_model.proofs.Counting.{counts-none}
use Rattle.stream_layout.specs.Deeds.{calls_of_all}
use Rattle.mirror.specs.declared.owed.Owed.{Owed}
use Rattle.mirror.specs.Working.{deeds_in}
use Rattle.mirror.proofs.parts.do_deeds.Goals as goal

pub returns-in-None-clause-performs : goal.returns-in-None-clause-performs
returns-in-None-clause-performs g c =
    let files = (g.D.SharedDisk.seen c.args.disk.now).files in
    let tally = (g.D.SharedDisk.seen c.args.disk.now).tally in
    subst (λ (owed : Option Owed). (files ≡ option_map (all_applied (calls_of_all (deeds_in owed))) files)
    × CountsDone (length (calls_of_all (deeds_in owed))) tally tally) (sym c.in-None.is) (none_applied files, counts-none tally)
