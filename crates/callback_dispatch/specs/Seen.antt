-- Words of public clauses: callbacks with their numbers, and what is seen of a queue, a feeder and a taker.
use Rattle.std.specs.Prelude.{◌≡◌, ℕ, suc, ◌<◌, if◌then◌else◌, nat_lt, All, List, [], ◌∷◌, length, take}
use Rattle.atomic_table.specs.Seated.{TableId}
use Rattle.calls.specs.declared.reply.Callback.{Callback}
use Rattle.callback_dispatch.specs.declared.numbered.Numbered.{Numbered}

abbrev pub element : ℕ → Callback → Numbered
element number callback = record { number = number; callback = callback }

-- the callbacks under their numbers, of which the first is this one
abbrev pub numbered : ℕ → List Callback → List Numbered
numbered number [] = []
numbered number (callback ∷ callbacks) = element number callback ∷ numbered (suc number) callbacks

-- each has a number below this one
abbrev pub AllBelow : ℕ → List Numbered → Type 0
AllBelow number elements = All (λ x. x.number < number) elements

-- the element stands behind those of lower numbers
abbrev pub put_by_number : Numbered → List Numbered → List Numbered
put_by_number x [] = x ∷ []
put_by_number x (y ∷ ys) = if nat_lt y.number x.number then y ∷ put_by_number x ys else x ∷ y ∷ ys

-- the elements of two lists, by number
abbrev pub union : List Numbered → List Numbered → List Numbered
union [] two = two
union (x ∷ one) two = put_by_number x (union one two)

abbrev pub longer_of : List Callback → List Callback → List Callback
longer_of one two = if nat_lt (length one) (length two) then two else one

-- the elements are those of the first callbacks, in order
abbrev pub IsBeginningOf : List Callback → List Numbered → Type 0
IsBeginningOf callbacks elements = elements ≡ numbered 1 (take (length elements) callbacks)

-- A queue has a name, which its feeder and its takers know.
pub record QueueSeen : Type 0 where
  pub name : TableId
  pub capacity : ℕ

-- what was fed, and of how many elements the feeder knows that they were taken
pub record FeederSeen : Type 0 where
  pub queue : TableId
  pub list : List Callback
  pub count : ℕ

-- what was taken, the share of the right to take, and the callbacks of which the taker knows that they were fed
pub record TakerSeen : Type 0 where
  pub queue : TableId
  pub list : List Numbered
  pub share : ℕ
  pub known : List Callback

-- a queue of this capacity, to which nothing was fed and from which nothing was taken
pub record IsMade (capacity : ℕ) (queue : QueueSeen) (feeder : FeederSeen) (taker : TakerSeen) : Type 0 where
  pub size : queue.capacity ≡ capacity
  pub fed_here : feeder.queue ≡ queue.name
  pub taken_here : taker.queue ≡ queue.name
  pub nothing_fed : (feeder.list ≡ []) × (feeder.count ≡ 0)
  pub nothing_taken : (taker.list ≡ []) × (taker.known ≡ [])
  pub whole : taker.share ≡ 8
