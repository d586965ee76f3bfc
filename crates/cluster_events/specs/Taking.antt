-- Words of public clauses: what a client took of one subscription.
use Rattle.std.specs.Prelude.{◌≡◌, ℕ, ◌==◌, if◌then◌else◌, List, [], ◌∷◌, ◌++◌, map}
use Rattle.cluster_facts.specs.Types.{Call, Entry, Callback, Written, MaskSet}
use Rattle.cluster_facts.specs.Lists.{Stands}
use Rattle.cluster_facts.specs.Service.{Plain, asked_for}
use Rattle.cluster_facts.specs.Agents.{callback_of}

-- the callbacks of items among those that a client got
abbrev pub of_item : Callback → List Callback
of_item (Written invocation status) = []
of_item (MaskSet name mask written) = []
of_item callback = callback ∷ []

abbrev pub items_in : List Callback → List Callback
items_in [] = []
items_in (callback ∷ callbacks) = of_item callback ++ items_in callbacks

-- those of one subscription: with each of them its client posted a receipt, and the receipts name their subscriptions
abbrev pub taken_of : ℕ → List (ℕ × ℕ) → List Callback → List Callback
taken_of key [] items = []
taken_of key (receipt ∷ receipts) [] = []
taken_of key (receipt ∷ receipts) (callback ∷ items) =
    if receipt.0 == key then callback ∷ taken_of key receipts items else taken_of key receipts items

-- a list whose newest element comes first, the oldest first
abbrev pub in_order : {X : Type 0} → List X → List X
in_order [] = []
in_order (x ∷ xs) = in_order xs ++ x ∷ []

-- these callbacks of a subscription are those of the first items made for it, in order, each once, under the id of its call
abbrev pub AreFirstItems : Plain → List Entry → List (ℕ × Call) → ℕ → ℕ → List Callback → Type 0
AreFirstItems plain past sent client key [] = Unit {0}
AreFirstItems plain past sent client key (last ∷ taken) =
    (id : ℕ) × Stands (key, id) (asked_for sent)
    × ((later : List Callback) × (map (callback_of id) (plain.made past client key) ≡ in_order (last ∷ taken) ++ later))
