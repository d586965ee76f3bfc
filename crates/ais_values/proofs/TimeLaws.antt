-- The test of times decides what a time is.
use Rattle.std.proofs.Common.{◌≡◌, ℕ, Bool, true, false, not, nat_lt, ℤ, pos, negsuc, ◌≤ℤ◌, refl, arith}
use Rattle.std.specs.Bool.{Decides}
use Rattle.std.specs.Int.{is_negative}
use Rattle.std.proofs.lemmas.Bool.{ltb-true}
use Rattle.std.proofs.lemmas.Bool.Decides.{Decides-int_eq, Decides-or}
use Rattle.std.proofs.lemmas.Int.{ints}
use Rattle.ais_values.specs.Times.{unknown_time, IsTime}
use Rattle.ais_values.specs.TimeTests.{is_time}

-- no number is below 0
below_zero : (n : ℕ) (b : Bool) → nat_lt n 0 ≡ b → not b ≡ true
below_zero n true is = let below = ltb-true n 0 is in absurd (omega arith)
below_zero n false is = refl

not_negative : (time : ℤ) → Decides (not (is_negative time)) (pos 0 ≤ℤ time)
not_negative (pos n) = (λ _. omega (arith, ints), λ _. below_zero n (nat_lt n 0) refl)
not_negative (negsuc n) = (λ e. absurd (cc), λ h. absurd (omega (arith, ints, h)))

pub is_time-decides : (time : ℤ) → Decides (is_time time) (IsTime time)
is_time-decides time = Decides-or _ _ (not_negative time) (Decides-int_eq time unknown_time)
