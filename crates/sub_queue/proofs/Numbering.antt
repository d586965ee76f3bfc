-- Giving contents their numbers, one after another.
use Rattle.std.proofs.Common.{◌≡◌, ℕ, ◌+◌, ◌<◌, List, [], ◌∷◌, ◌++◌, length, ap, sym, ◌∙◌, arith, append_assoc, length-append}
use Rattle.std.proofs.lemmas.List.{append-nil}
use Rattle.sub_queue.specs.declared.item.Content.{Content}
use Rattle.sub_queue.specs.declared.item.Item.{Item}
use Rattle.sub_queue.specs.Items.{numbered}
use Rattle.sub_queue.proofs.Keeping.{joined, length-numbered}

-- the contents that came so far have their numbers, and the others are still to come
pub record IsNumberedSoFar (first : ℕ) (all came rest : List Content) (left number : ℕ) (items : List Item) : Type 0 where
  pub parts : came ++ rest ≡ all
  pub count : left ≡ length rest
  pub next : number ≡ first + length came
  pub numbers : items ≡ numbered first came

-- one content more
pub IsNumberedSoFar-more : (first : ℕ) (all came rest : List Content) (left number : ℕ) (items : List Item) → IsNumberedSoFar first all came rest left number items → (content : Content) (others : List Content) (fewer : ℕ) → rest ≡ content ∷ others → fewer + 1 ≡ left → (pushed : List Item) → pushed ≡ items ++ record { number = number; content = content } ∷ [] → IsNumberedSoFar first all (came ++ content ∷ []) others fewer (number + 1) pushed
IsNumberedSoFar-more first all came rest left number items so_far content others fewer is less pushed more =
    let long = ap length is in
    let longer = length-append came (content ∷ []) in
    let count = so_far.count in
    let next = so_far.next in
    record {
      parts = append_assoc came (content ∷ []) others ∙ ap (λ r. came ++ r) (sym is) ∙ so_far.parts;
      count = omega arith;
      next = omega arith;
      numbers = more ∙ joined first number items came (content ∷ []) so_far.numbers so_far.next;
    }

-- while something is to come, fewer items were made than there are contents
pub IsNumberedSoFar-fewer : (first : ℕ) (all came rest : List Content) (left number : ℕ) (items : List Item) → IsNumberedSoFar first all came rest left number items → (content : Content) (others : List Content) → rest ≡ content ∷ others → (length items < length all) × (number < first + length all)
IsNumberedSoFar-fewer first all came rest left number items so_far content others is =
    let long = ap length so_far.parts in
    let longer = length-append came rest in
    let rests = ap length is in
    let made = ap length so_far.numbers in
    let numbers = length-numbered first came in
    let next = so_far.next in
    (omega arith, omega arith)

-- where nothing is to come, all contents have their numbers
pub IsNumberedSoFar-end : (first : ℕ) (all came rest : List Content) (left number : ℕ) (items : List Item) → IsNumberedSoFar first all came rest left number items → left ≡ 0 → items ≡ numbered first all
IsNumberedSoFar-end first all came [] left number items so_far none =
    so_far.numbers ∙ ap (numbered first) (sym (append-nil came) ∙ so_far.parts)
IsNumberedSoFar-end first all came (content ∷ rest) left number items so_far none =
    let count = so_far.count in
    absurd (omega arith)
