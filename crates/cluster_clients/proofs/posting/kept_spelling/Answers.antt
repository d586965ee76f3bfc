use Rattle.std.proofs.Common.{ℕ, List, sym, ◌∙◌, subst}
use Rattle.wire.specs.Messages.{Spells}
use Rattle.cluster_clients.proofs.posting.kept_spelling.Goals as goal

pub returns : goal.returns
returns c =
    subst (λ (bytes : List ℕ). Spells c.args.message.now bytes) (sym (c.in_ok-bytes.ensures.items ∙ c.as_slice.ensures.value)) c.in_ok-spelled.ensures
