-- Names can show the stamps of the current file.
use Rattle.std.proofs.Common.{subst, sym, ap, ◌∙◌}
use Rattle.stream_layout.specs.Deeds.{current_file}
use Rattle.stream_layout.specs.Inside.{HasStamps}
use Rattle.stream_layout.proofs.DeedLaws.{some_files, current_stamps}
use Rattle.stream_layout.proofs.listing.made.Goals as goal

pub name_of-requires-clause-stamps : goal.name_of-requires-clause-stamps
name_of-requires-clause-stamps c =
    let files = c.args.state.now.files in
    let fit = c.requires.stream in
    subst HasStamps (sym (c.current_of-current.ensures ∙ ap current_file c.as_slice.ensures))
    (current_stamps files fit.stamps (some_files files fit.standing.last_open))
