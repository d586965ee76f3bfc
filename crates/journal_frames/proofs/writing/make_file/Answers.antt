use Rattle.std.proofs.Common.{List, ◌≡◌, [], ◌∷◌, ◌++◌, option_map}
use Rattle.disk_model.specs.DeviceCalls.{DeviceCall, CallCreate, CallWrite, CallSync, all_applied, Breaks}
use Rattle.disk_model.proofs.Breaking.{performs_after, breaks_one, breaks_within, none_applied}
use Rattle.disk_model.proofs.Counting.{counts-one, counts-none}
use Rattle.journal_frames.specs.Frames.{journal_name, calls_behind}
use Rattle.journal_frames.proofs.writing.make_file.Goals as goal

abbrev first : List DeviceCall
first = CallCreate journal_name ∷ []

abbrev second : List DeviceCall
second = CallWrite journal_name 0 (0 ∷ []) ∷ CallSync journal_name ∷ []

pub returns-in-Ok-write_through-clause-performs : goal.returns-in-Ok-write_through-clause-performs
returns-in-Ok-write_through-clause-performs g c =
    let made : (g.J.SharedDisk.seen c.create.new.self).files ≡ option_map (all_applied first) (g.J.SharedDisk.seen c.args.disk.now).files = c.in-Ok.ensures.done in
    let rest = performs_after second (calls_behind 0 c.args.behind.now) c.append_text.result _ _ _ _ _ _ c.in-Ok-write_through.ensures.performs.0 c.in-Ok-write_through.ensures.performs.1 c.append_text.ensures.performs in
    performs_after first (second ++ calls_behind 0 c.args.behind.now) c.append_text.result _ _ _ _ _ _ made (counts-one (tt {0}) _ _ c.in-Ok.ensures.counted) rest

pub returns-in-Err-clause-performs : goal.returns-in-Err-clause-performs
returns-in-Err-clause-performs g c =
    let broke : Breaks c.in-Err.answer first
    (g.J.SharedDisk.seen c.args.disk.now).files (g.J.SharedDisk.seen c.create.new.self).files
    (g.J.SharedDisk.seen c.args.disk.now).tally (g.J.SharedDisk.seen c.create.new.self).tally =
    breaks_one (CallCreate _) c.in-Err.answer _ _ _ _ c.in-Err.ensures.memory c.in-Err.ensures.failed c.in-Err.ensures.stopped c.in-Err.ensures.counted in
    breaks_within [] first (second ++ calls_behind 0 c.args.behind.now) c.in-Err.answer _ _ _ _ _ _ (none_applied _) (counts-none _) broke

pub returns-in-Err-write_through-clause-performs : goal.returns-in-Err-write_through-clause-performs
returns-in-Err-write_through-clause-performs g c =
    let made : (g.J.SharedDisk.seen c.create.new.self).files ≡ option_map (all_applied first) (g.J.SharedDisk.seen c.args.disk.now).files = c.in-Ok.ensures.done in
    breaks_within first second (calls_behind 0 c.args.behind.now) c.in-Err-write_through.answer _ _ _ _ _ _ made (counts-one (tt {0}) _ _ c.in-Ok.ensures.counted) c.in-Err-write_through.ensures.performs
