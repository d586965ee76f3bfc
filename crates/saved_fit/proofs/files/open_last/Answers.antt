use Rattle.std.proofs.Common.{◌+◌, get_or, drop, not, ◌&&◌, ap, sym, ◌∙◌}
use Rattle.std.specs.Prelude.{pos, None, is_none}
use Rattle.std.proofs.lemmas.List.{at_drop_more}
use Rattle.stream_config.specs.declared.state.LogFile.{LogFile}
use Rattle.saved_fit.specs.Files.{open_last}
use Rattle.saved_fit.proofs.files.open_last.Goals as goal

pub returns-then-unclosed : goal.returns-then-unclosed
returns-then-unclosed c =
    let files = c.args.files.now in
    let i = c.loop-file.file-index in
    let none : LogFile = record { created = pos 0; closed = None; first = 0; bytes = 0 } in
    sym (ap (λ before. not before && open_last (is_none (get_or files i none).closed) (drop (i + 1) files)) c.if-unclosed.true)
    ∙ sym (at_drop_more (open_last c.loop-file.unclosed) files i none c.loop-file-test.true)
    ∙ c.loop-file.invariant
