use Rattle.std.proofs.Common.{◌≡◌, [], ◌∷◌, option_map}
use Rattle.disk_model.specs.DeviceCalls.{CallCreate, CallWrite, CallSync, all_applied, Breaks}
use Rattle.disk_model.proofs.Breaking.{performs_after, breaks_one, breaks_within, none_applied}
use Rattle.disk_model.proofs.Counting.{counts-one, counts-none}
use Rattle.stream_files.proofs.performing.put.Goals as goal

pub returns-in-Ok-clause-performs : goal.returns-in-Ok-clause-performs
returns-in-Ok-clause-performs g c =
    let done : (g.D.SharedDisk.seen c.create.new.self).files
    ≡ option_map (all_applied (CallCreate c.args.name.now ∷ [])) (g.D.SharedDisk.seen c.args.disk.now).files =
    rw (← c.as_slice.ensures.bytes) c.in-Ok.ensures.done in
    performs_after (CallCreate c.args.name.now ∷ []) (CallWrite c.args.name.now 0 c.args.bytes.now ∷ CallSync c.args.name.now ∷ [])
    c.write_and_sync.result _ _ _ _ _ _ done (counts-one (tt {0}) _ _ c.in-Ok.ensures.counted) c.write_and_sync.ensures.performs

pub returns-in-Err-clause-performs : goal.returns-in-Err-clause-performs
returns-in-Err-clause-performs g c =
    let first : Breaks c.in-Err.answer (CallCreate c.args.name.now ∷ [])
    (g.D.SharedDisk.seen c.args.disk.now).files (g.D.SharedDisk.seen c.create.new.self).files
    (g.D.SharedDisk.seen c.args.disk.now).tally (g.D.SharedDisk.seen c.create.new.self).tally =
    rw (← c.as_slice.ensures.bytes)
    (breaks_one (CallCreate _) c.in-Err.answer _ _ _ _ c.in-Err.ensures.memory c.in-Err.ensures.failed c.in-Err.ensures.stopped c.in-Err.ensures.counted) in
    breaks_within [] (CallCreate c.args.name.now ∷ []) (CallWrite c.args.name.now 0 c.args.bytes.now ∷ CallSync c.args.name.now ∷ [])
    c.in-Err.answer _ _ _ _ _ _ (none_applied _) (counts-none _) first
