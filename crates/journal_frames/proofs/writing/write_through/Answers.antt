use Rattle.std.proofs.Common.{◌≡◌, [], ◌∷◌, option_map}
use Rattle.disk_model.specs.DeviceCalls.{CallWrite, CallSync, all_applied, Breaks, Performs}
use Rattle.disk_model.proofs.Breaking.{performs_one, performs_after, breaks_one, breaks_within, none_applied}
use Rattle.disk_model.proofs.Counting.{counts-one, counts-none}
use Rattle.journal_frames.specs.Frames.{journal_name}
use Rattle.journal_frames.proofs.writing.write_through.Goals as goal

pub returns-in-Ok-clause-performs : goal.returns-in-Ok-clause-performs
returns-in-Ok-clause-performs g c =
    let last : Performs (CallSync journal_name ∷ []) c.sync.result
    (g.J.SharedDisk.seen c.write_at.new.self).files (g.J.SharedDisk.seen c.sync.new.self).files
    (g.J.SharedDisk.seen c.write_at.new.self).tally (g.J.SharedDisk.seen c.sync.new.self).tally =
    performs_one (CallSync _) c.sync.result _ _ _ _ c.sync.ensures.done c.sync.ensures.memory c.sync.ensures.failed c.sync.ensures.stopped c.sync.ensures.counted in
    let done : (g.J.SharedDisk.seen c.write_at.new.self).files
    ≡ option_map (all_applied (CallWrite journal_name c.args.at c.args.bytes.now ∷ [])) (g.J.SharedDisk.seen c.args.disk.now).files =
    c.in-Ok.ensures.done in
    performs_after (CallWrite journal_name c.args.at c.args.bytes.now ∷ []) (CallSync journal_name ∷ []) c.sync.result _ _ _ _ _ _ done
    (counts-one (tt {0}) _ _ c.in-Ok.ensures.counted) last

pub returns-in-Err-clause-performs : goal.returns-in-Err-clause-performs
returns-in-Err-clause-performs g c =
    let first : Breaks c.in-Err.answer (CallWrite journal_name c.args.at c.args.bytes.now ∷ [])
    (g.J.SharedDisk.seen c.args.disk.now).files (g.J.SharedDisk.seen c.write_at.new.self).files
    (g.J.SharedDisk.seen c.args.disk.now).tally (g.J.SharedDisk.seen c.write_at.new.self).tally =
    breaks_one (CallWrite _ _ _) c.in-Err.answer _ _ _ _ c.in-Err.ensures.memory c.in-Err.ensures.failed c.in-Err.ensures.stopped c.in-Err.ensures.counted in
    breaks_within [] (CallWrite journal_name c.args.at c.args.bytes.now ∷ []) (CallSync journal_name ∷ []) c.in-Err.answer _ _ _ _ _ _
    (none_applied _) (counts-none _) first
