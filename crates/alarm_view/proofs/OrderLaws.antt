-- The order of alarms is one: of two places with different ids exactly one is older, and what is older than an older one is older.
use Rattle.std.proofs.Common.{◌≡◌, true, false, arith}
use Rattle.std.proofs.lemmas.Int.{ints}
use Rattle.std.proofs.lemmas.Bool.Decides.{nat_tests}
use Rattle.alarm_view.specs.declared.mode.Direction.{Direction}
use Rattle.alarm_view.specs.declared.mode.Direction.TheVariants.{Older, Younger}
use Rattle.alarm_view.specs.Order.{Point, is_older, comes_before}

pub is_older-not_between : (one other last : Point) → is_older one other ≡ false → is_older other last ≡ false → is_older one last ≡ false
is_older-not_between one other last first second = grind (arith, ints, nat_tests)

is_older-self : (one : Point) → is_older one one ≡ false
is_older-self one = grind (arith, ints, nat_tests)

pub is_older-one_way : (one other : Point) → is_older one other ≡ true → is_older other one ≡ false
is_older-one_way one other older = grind (arith, ints, nat_tests)

is_older-onward : (one other last : Point) → is_older one other ≡ true → is_older other last ≡ true → is_older one last ≡ true
is_older-onward one other last first second = grind (arith, ints, nat_tests)

is_older-same_id : (one other : Point) → is_older one other ≡ false → is_older other one ≡ false → one.id ≡ other.id
is_older-same_id one other first second = grind (arith, ints, nat_tests)

pub comes_before-self : (way : Direction) (one : Point) → comes_before way one one ≡ false
comes_before-self Younger one = is_older-self one
comes_before-self Older one = is_older-self one

pub comes_before-one_way : (way : Direction) (one other : Point) → comes_before way one other ≡ true → comes_before way other one ≡ false
comes_before-one_way Younger one other before = is_older-one_way one other before
comes_before-one_way Older one other before = is_older-one_way other one before

pub comes_before-onward : (way : Direction) (one other last : Point) → comes_before way one other ≡ true → comes_before way other last ≡ true → comes_before way one last ≡ true
comes_before-onward Younger one other last first second = is_older-onward one other last first second
comes_before-onward Older one other last first second = is_older-onward last other one second first

pub comes_before-not_between : (way : Direction) (one other last : Point) → comes_before way one other ≡ false → comes_before way other last ≡ false → comes_before way one last ≡ false
comes_before-not_between Younger one other last first second = is_older-not_between one other last first second
comes_before-not_between Older one other last first second = is_older-not_between last other one second first

-- of two places of which neither is met first the ids are the same
pub comes_before-total : (way : Direction) (one other : Point) → comes_before way one other ≡ false → comes_before way other one ≡ false → one.id ≡ other.id
comes_before-total Younger one other first second = is_older-same_id one other first second
comes_before-total Older one other first second = is_older-same_id one other second first
