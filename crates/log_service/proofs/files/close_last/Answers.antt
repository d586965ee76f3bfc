use Rattle.std.proofs.Common.{◌≡◌, ℤ, ◌-◌, ap, ◌∙◌, length, get_or, set, w64, arith}
use Rattle.std.proofs.lemmas.Int.{to_z-of_z}
use Rattle.stream_config.specs.declared.state.LogFile.{LogFile}
use Rattle.stream_config.specs.Events.{file_closed}
use Rattle.log_service.proofs.StreamLemmas.{set-last_closed}
use Rattle.log_service.proofs.files.close_last.Goals as goal

pub returns-then-count-gt0 : goal.returns-then-count-gt0
returns-then-count-gt0 c =
    let files = c.args.files.now.items in
    let read = c.index_mut.result.now in
    let shut : ℤ → LogFile = λ closed. file_closed closed read in
    let counted : c.len-count.result ≡ length files = omega (arith, c.args.files.now.ok.0) in
    ap (λ closed. set files (c.len-count.result - 1) (shut closed)) (to_z-of_z w64 c.args.closed c.ranges.closed)
    ∙ ap (λ count. set files (count - 1) (shut c.args.closed)) counted
    ∙ set-last_closed c.args.closed files read (omega arith) (c.index_mut.ensures.value ∙ ap (λ count. get_or files (count - 1) read) counted)
