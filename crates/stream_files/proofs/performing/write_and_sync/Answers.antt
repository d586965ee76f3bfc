use Rattle.std.proofs.Common.{◌≡◌, [], ◌∷◌, option_map}
use Rattle.disk_model.specs.DeviceCalls.{CallWrite, CallSync, all_applied, Breaks, Performs}
use Rattle.disk_model.proofs.Breaking.{performs_one, performs_after, breaks_one, breaks_within, none_applied}
use Rattle.disk_model.proofs.Counting.{counts-one, counts-none}
use Rattle.stream_files.proofs.performing.write_and_sync.Goals as goal

pub returns-in-Ok-clause-performs : goal.returns-in-Ok-clause-performs
returns-in-Ok-clause-performs g c =
    let last : Performs (CallSync c.args.name.now ∷ []) c.sync.result
    (g.D.SharedDisk.seen c.write_at.new.self).files (g.D.SharedDisk.seen c.sync.new.self).files
    (g.D.SharedDisk.seen c.write_at.new.self).tally (g.D.SharedDisk.seen c.sync.new.self).tally =
    rw (← c.as_slice-in-Ok.ensures.bytes)
    (performs_one (CallSync _) c.sync.result _ _ _ _ c.sync.ensures.done c.sync.ensures.memory c.sync.ensures.failed c.sync.ensures.stopped c.sync.ensures.counted) in
    let done : (g.D.SharedDisk.seen c.write_at.new.self).files
    ≡ option_map (all_applied (CallWrite c.args.name.now c.args.at c.args.bytes.now ∷ [])) (g.D.SharedDisk.seen c.args.disk.now).files =
    rw (← c.as_slice.ensures.bytes, ← c.as_slice-2.ensures.bytes) c.in-Ok.ensures.done in
    performs_after (CallWrite c.args.name.now c.args.at c.args.bytes.now ∷ []) (CallSync c.args.name.now ∷ []) c.sync.result _ _ _ _ _ _ done
    (counts-one (tt {0}) _ _ c.in-Ok.ensures.counted) last

pub returns-in-Err-clause-performs : goal.returns-in-Err-clause-performs
returns-in-Err-clause-performs g c =
    let first : Breaks c.in-Err.answer (CallWrite c.args.name.now c.args.at c.args.bytes.now ∷ [])
    (g.D.SharedDisk.seen c.args.disk.now).files (g.D.SharedDisk.seen c.write_at.new.self).files
    (g.D.SharedDisk.seen c.args.disk.now).tally (g.D.SharedDisk.seen c.write_at.new.self).tally =
    rw (← c.as_slice.ensures.bytes, ← c.as_slice-2.ensures.bytes)
    (breaks_one (CallWrite _ _ _) c.in-Err.answer _ _ _ _ c.in-Err.ensures.memory c.in-Err.ensures.failed c.in-Err.ensures.stopped c.in-Err.ensures.counted) in
    breaks_within [] (CallWrite c.args.name.now c.args.at c.args.bytes.now ∷ []) (CallSync c.args.name.now ∷ []) c.in-Err.answer _ _ _ _ _ _
    (none_applied _) (counts-none _) first
