use Rattle.std.proofs.Common.{◌≡◌, ℕ, ◌-◌, ◌+◌, ◌<◌, max, ap, sym, ◌∙◌, length, get_or, set, arith}
use Rattle.std.proofs.lemmas.List.{get_or_default}
use Rattle.stream_config.specs.declared.state.LogFile.{LogFile}
use Rattle.stream_config.specs.Events.{file_with}
use Rattle.log_service.proofs.StreamLemmas.{set-last_with}
use Rattle.log_service.proofs.files.grow_last.Goals as goal

pub returns-then-count-gt0 : goal.returns-then-count-gt0
returns-then-count-gt0 c =
    let files = c.args.files.now.items in
    let read = c.index_mut.result.now in
    let other = c.index.result.now in
    let end = c.args.end in
    let with : ℕ → LogFile = λ bytes. record { created = read.created; closed = read.closed; first = read.first; bytes = bytes } in
    let counted : c.len-count.result ≡ length files = omega (arith, c.args.files.now.ok.0) in
    let some : 0 < length files = omega (arith, counted) in
    let one : read ≡ get_or files (length files - 1) read = c.index_mut.ensures.value ∙ ap (λ count. get_or files (count - 1) read) counted in
    let two : other ≡ get_or files (length files - 1) other = c.index.ensures ∙ ap (λ count. get_or files (count - 1) other) counted in
    let same : other ≡ read = two ∙ get_or_default files (length files - 1) other read (omega arith) ∙ sym one in
    let from_0 : end ≡ 0 + end = omega arith in
    let bytes : c.max-bytes.result ≡ max read.bytes (0 + end) = c.max-bytes.ensures ∙ ap (λ (file : LogFile). max file.bytes end) same ∙ ap (λ e. max read.bytes e) from_0 in
    ap (λ b. set files (c.len-count.result - 1) (with b)) bytes
    ∙ ap (λ count. set files (count - 1) (file_with 0 end read)) counted
    ∙ set-last_with 0 end files read some one
