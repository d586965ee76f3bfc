-- Items keep their numbers, and a queue stays sound.
use Rattle.std.proofs.Common.{◌≡◌, ℕ, ◌+◌, ◌-◌, ◌<◌, ◌≤◌, inl, inr, suc, zero, List, [], ◌∷◌, ◌++◌, length, drop, refl, ap, sym, ◌∙◌, add-zero, arith, length-append, length-drop}
use Rattle.sub_queue.specs.declared.item.Lost.{Lost}
use Rattle.sub_queue.specs.declared.item.Content.{Content}
use Rattle.sub_queue.specs.declared.item.Item.{Item}
use Rattle.sub_queue.specs.Items.{discarded, numbered}
use Rattle.sub_queue.specs.Queue.{Queue, queue_of_parts, HasNumberLeft, IsNew, IsSound, received}
use Rattle.sub_queue.specs.Inside.{contents_of, IsKeptAs}

-- numbers do not change what is held
pub contents_of-numbered : (number : ℕ) (contents : List Content) → contents_of (numbered number contents) ≡ contents
contents_of-numbered number [] = refl
contents_of-numbered number (content ∷ contents) = ap (λ rest. content ∷ rest) (contents_of-numbered (number + 1) contents)

pub length-numbered : (number : ℕ) (contents : List Content) → length (numbered number contents) ≡ length contents
length-numbered number [] = refl
length-numbered number (content ∷ contents) = ap suc (length-numbered (number + 1) contents)

-- what comes behind goes on with the numbers
pub numbered-append : (number : ℕ) (front back : List Content) → numbered number (front ++ back) ≡ numbered number front ++ numbered (number + length front) back
numbered-append number [] back = ap (λ n. numbered n back) (sym (add-zero number))
numbered-append number (content ∷ front) back =
    let moved : number + 1 + length front ≡ number + length (content ∷ front) = omega arith in
    ap (λ rest. record { number = number; content = content } ∷ rest) (numbered-append (number + 1) front back ∙ ap (λ n. numbered (number + 1) front ++ numbered n back) moved)

-- what is left behind the first k keeps its numbers
pub drop-numbered : (k number : ℕ) (contents : List Content) → drop k (numbered number contents) ≡ numbered (number + k) (drop k contents)
drop-numbered zero number contents = ap (λ n. numbered n contents) (sym (add-zero number))
drop-numbered (suc k) number [] = refl
drop-numbered (suc k) number (content ∷ contents) =
    let moved : number + 1 + k ≡ number + suc k = omega arith in
    drop-numbered k (number + 1) contents ∙ ap (λ n. numbered n (drop k contents)) moved

pub length-contents_of : (items : List Item) → length (contents_of items) ≡ length items
length-contents_of [] = refl
length-contents_of (item ∷ items) = ap suc (length-contents_of items)

-- contents that come behind items are numbered on
pub joined : (number next : ℕ) (items : List Item) (held more : List Content) → items ≡ numbered number held → next ≡ number + length held → items ++ numbered next more ≡ numbered number (held ++ more)
joined number next items held more is goes_on =
    ap (λ front. front ++ numbered next more) is ∙ ap (λ n. numbered number held ++ numbered n more) goes_on ∙ sym (numbered-append number held more)

-- the items behind a receipt, and the one that holds what was lost
pub received_items : (through first count next : ℕ) (held : List Content) (lost : List Lost) (items front : List Item) → first ≤ through → count ≡ through + 1 - first → items ≡ numbered first held → front ≡ drop count items → next ≡ through + 1 + length front → front ++ numbered next (discarded lost) ≡ numbered (through + 1) (drop (through + 1 - first) held ++ discarded lost)
received_items through first count next held lost items front from counts is rest goes_on =
    let moved : first + count ≡ through + 1 = omega arith in
    let kept_front : front ≡ numbered (through + 1) (drop count held) = rest ∙ ap (drop count) is ∙ drop-numbered count first held ∙ ap (λ n. numbered n (drop count held)) moved in
    let long : length front ≡ length (drop count held) = ap length kept_front ∙ length-numbered (through + 1) (drop count held) in
    joined (through + 1) next front (drop count held) (discarded lost) kept_front (goes_on ∙ ap (λ n. through + 1 + n) long) ∙ ap (λ k. numbered (through + 1) (drop k held ++ discarded lost)) counts

-- items that are kept with their numbers are what their contents say
pub kept : (capacity first : ℕ) (held : List Content) (lost : List Lost) (items : List Item) → IsSound (queue_of_parts capacity first held lost) → items ≡ numbered first held → IsKeptAs (queue_of_parts capacity first (contents_of items) lost) items
kept capacity first held lost items sound numbers =
    let same : contents_of items ≡ held = ap contents_of numbers ∙ contents_of-numbered first held in
    rw same (record { sound = sound; numbers = numbers })

-- one item more keeps a queue sound
pub IsSound-more : (queue : Queue) (content : Content) → IsSound queue → HasNumberLeft queue → length queue.held < queue.capacity → IsSound (queue_of_parts queue.capacity queue.first (queue.held ++ content ∷ []) queue.lost)
IsSound-more queue content sound left place =
    let more = length-append queue.held (content ∷ []) in
    record {
      capacity = sound.capacity;
      first = sound.first;
      numbers = omega arith;
      places = omega arith;
      lost = elim sound.lost [ inl none ↦ inl none | inr full ↦ absurd (omega arith) ];
    }

-- a notification that is lost keeps a queue sound
pub IsSound-lost : (queue : Queue) (lost : List Lost) → IsSound queue → queue.capacity ≤ length queue.held → IsSound (queue_of_parts queue.capacity queue.first queue.held lost)
IsSound-lost queue lost sound full =
    let places = sound.places in
    record { capacity = sound.capacity; first = sound.first; numbers = sound.numbers; places = places; lost = inr (omega arith) }

-- at most one item holds what was lost
pub length-discarded : (lost : List Lost) → length (discarded lost) ≤ 1
length-discarded [] = omega arith
length-discarded (first ∷ others) = omega arith

-- a new receipt keeps a queue sound
pub IsSound-received : (through : ℕ) (queue : Queue) → IsSound queue → IsNew through queue → HasNumberLeft queue → IsSound (received through queue)
IsSound-received through queue sound new left =
    let fewer = length-drop (through + 1 - queue.first) queue.held in
    let more = length-append (drop (through + 1 - queue.first) queue.held) (discarded queue.lost) in
    let one = length-discarded queue.lost in
    record {
      capacity = sound.capacity;
      first = omega arith;
      numbers = omega arith;
      places = omega arith;
      lost = inl refl;
    }
