use Rattle.std.proofs.Common.{ℕ, ◌+◌, ap, ◌∙◌}
use Rattle.stream_config.specs.Events.{last_with, next_offset}
use Rattle.log_service.proofs.StreamLemmas.{ends-same}
use Rattle.log_service.proofs.files.grown.Goals as goal

pub returns : goal.returns
returns c =
    let state = c.args.state.now in
    let ends : ℕ → ℕ → ℕ = λ at len. at + len in
    ap (λ at. last_with 0 (ends at c.from.result) state.files) c.next_offset.ensures
    ∙ ap (λ len. last_with 0 (ends (next_offset state) len) state.files) c.from.ensures
    ∙ ends-same (next_offset state) c.args.len state.files
