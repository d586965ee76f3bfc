-- Words of bodies alone: the buffers into which workers put what they take.
use Rattle.std.specs.Prelude.{◌≡◌, ℕ, ◌≤◌, All, List, [], ◌++◌, vec_capacity}
use Rattle.std.specs.List.{flat_map}
use Rattle.std.specs.Global.{Vec}
use Rattle.callback_dispatch.specs.declared.numbered.Numbered.{Numbered}

abbrev pub Buffer : Type 0
Buffer = Vec Numbered

abbrev pub gathered : List Buffer → List Numbered
gathered buffers = flat_map (λ buffer. buffer.items) buffers

abbrev pub IsFree : ℕ → Buffer → Type 0
IsFree places buffer = (buffer.items ≡ []) × (places ≤ vec_capacity buffer)

abbrev pub AreFree : ℕ → List Buffer → Type 0
AreFree places buffers = All (IsFree places) buffers

-- the same elements come to both lists
abbrev pub TookMore : List Numbered → List Numbered → List Numbered → List Numbered → Type 0
TookMore list answer new_list new_answer =
    (more : List Numbered) × (new_list ≡ list ++ more) × (new_answer ≡ answer ++ more)
