-- Words of bodies alone: where a number stands in a rising list, or belongs.
use Rattle.std.specs.Prelude.{◌≡◌, ℕ, ◌<◌, ◌≤◌, ◌==◌, nat_lt, true, false, List, length, insert, remove}
use Rattle.client_set.specs.Members.{has}
use Rattle.client_set.specs.Rising.{put, without}

-- the number stands at this place, and at no other
pub record IsPlaceOf (numbers : List ℕ) (number place : ℕ) : Type 0 where
  pub within : place < length numbers
  pub stands : has number numbers ≡ true
  pub put : put nat_lt number numbers ≡ numbers
  pub taken : without (λ other. other == number) numbers ≡ remove numbers place

-- the number stands nowhere, and belongs at this place
pub record IsPlaceFor (numbers : List ℕ) (number place : ℕ) : Type 0 where
  pub within : place ≤ length numbers
  pub absent : has number numbers ≡ false
  pub put : put nat_lt number numbers ≡ insert numbers place number
  pub taken : without (λ other. other == number) numbers ≡ numbers
