-- Names can show the stamps of the file that the record goes to.
use Rattle.std.proofs.Common.{subst, sym, ap, ◌∙◌}
use Rattle.stream_layout.specs.Deeds.{file_written_to}
use Rattle.stream_layout.specs.Inside.{HasStamps}
use Rattle.stream_layout.proofs.DeedLaws.{some_files, written_stamps}
use Rattle.stream_layout.proofs.listing.stored.Goals as goal

pub name_of-requires-clause-stamps : goal.name_of-requires-clause-stamps
name_of-requires-clause-stamps c =
    let files = c.args.before.now.files in
    let fit = c.requires.stream in
    subst HasStamps (sym (c.written_to-file.ensures ∙ ap (λ fs. file_written_to fs c.args.stamps) c.as_slice.ensures))
    (written_stamps files c.args.stamps fit.stamps (some_files files fit.standing.last_open) c.requires.new_stamps)
