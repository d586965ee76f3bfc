use Rattle.std.proofs.Common.{◌≡◌, ◌-◌, List, ℕ, length, take, drop, sym, ap, ◌∙◌, subst, arith}
use Rattle.std.proofs.lemmas.Grind.{common_steps}
use Rattle.io_edge.specs.Streams.{MemInput}
use Rattle.io_edge.proofs.Pieces.{rest_by_piece, none_behind}
use Rattle.io_edge.proofs.memory.MemSourceSource.read.Goals as goal

pub returns-clause-bytes : goal.returns-clause-bytes
returns-clause-bytes c =
    let at = c.self.inside.at in
    let n = c.copy_front-count.result in
    let to = c.copy_front-count.new.to in
    let copied = subst (λ (xs : List ℕ). take n to ≡ take n (take (length xs - at) (drop at xs))) c.deref.ensures.value c.copy_front-count.ensures.bytes in (
      sym (ap (λ (input : MemInput). input.left) c.self.view_is) ∙ rest_by_piece c.self.inside.bytes.items to at n copied,
      none_behind c.self.inside.bytes.items at n (length to) (grind (arith, common_steps)),
    )
