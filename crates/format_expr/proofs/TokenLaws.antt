-- Two letters for each part, and one part for these letters.
use Rattle.std.proofs.Common.{◌≡◌, ℕ, ◌∷◌, [], List, true, false, ◌&&◌, nat_eq, Option, Some, None, is_some, slice_index, refl, sym, ap, ◌∙◌}
use Rattle.std.proofs.lemmas.Bool.{cond_both, and_parts, eqb-true}
use Rattle.format_expr.specs.declared.token.Moment.TheVariants.{Record, Event}
use Rattle.format_expr.specs.declared.token.TimePart.TheVariants.{Nanoseconds, Hour, Minute, Second, HalfDay, Month, MonthName, Day, DayName, ShortYear, Year}
use Rattle.format_expr.specs.declared.token.Part.{Part}
use Rattle.format_expr.specs.declared.token.Part.TheVariants.{Number, Time, ClassId, Cut, Body, BodyBytes, NotificationId, EventType, Object, Notifier, User, Severity}
use Rattle.format_expr.specs.Tokens.{letters, shown_parts, first_with, part_with}
use Rattle.format_expr.specs.Language.{is_class}

-- the letters of a part, which no other part has, and of which the field's is not `@`
pub record IsRow (part : Part) (class field : ℕ) : Type 0 where
  pub written : letters part ≡ class ∷ field ∷ []
  pub found : part_with class field ≡ Some part
  pub class_is : is_class class ≡ true
  pub field_is : nat_eq field 64 ≡ false

row : (part : Part) (class field : ℕ) → letters part ≡ class ∷ field ∷ [] → part_with class field ≡ Some part → is_class class ≡ true → nat_eq field 64 ≡ false → IsRow part class field
row part class field w f c n = record { written = w; found = f; class_is = c; field_is = n }

-- each part has two letters
abbrev AreTwo : List Part → Type 0
AreTwo [] = Unit {0}
AreTwo (part ∷ parts) = (letters part ≡ slice_index (letters part) 0 ∷ slice_index (letters part) 1 ∷ []) × AreTwo parts

-- each part has a row
pub row_of : (part : Part) → (class : ℕ) × (field : ℕ) × IsRow part class field
unfolding part_with shown_parts
row_of Number = (67, 114, row Number 67 114 refl refl refl refl)
row_of (Time Record Nanoseconds) = (67, 116, row (Time Record Nanoseconds) 67 116 refl refl refl refl)
row_of (Time Record Hour) = (67, 104, row (Time Record Hour) 67 104 refl refl refl refl)
row_of (Time Record Minute) = (67, 110, row (Time Record Minute) 67 110 refl refl refl refl)
row_of (Time Record Second) = (67, 115, row (Time Record Second) 67 115 refl refl refl refl)
row_of (Time Record HalfDay) = (67, 97, row (Time Record HalfDay) 67 97 refl refl refl refl)
row_of (Time Record Month) = (67, 109, row (Time Record Month) 67 109 refl refl refl refl)
row_of (Time Record MonthName) = (67, 77, row (Time Record MonthName) 67 77 refl refl refl refl)
row_of (Time Record Day) = (67, 100, row (Time Record Day) 67 100 refl refl refl refl)
row_of (Time Record DayName) = (67, 68, row (Time Record DayName) 67 68 refl refl refl refl)
row_of (Time Record ShortYear) = (67, 121, row (Time Record ShortYear) 67 121 refl refl refl refl)
row_of (Time Record Year) = (67, 89, row (Time Record Year) 67 89 refl refl refl refl)
row_of ClassId = (67, 99, row ClassId 67 99 refl refl refl refl)
row_of Cut = (67, 120, row Cut 67 120 refl refl refl refl)
row_of Body = (67, 98, row Body 67 98 refl refl refl refl)
row_of BodyBytes = (67, 105, row BodyBytes 67 105 refl refl refl refl)
row_of (Time Event Nanoseconds) = (78, 116, row (Time Event Nanoseconds) 78 116 refl refl refl refl)
row_of (Time Event Hour) = (78, 104, row (Time Event Hour) 78 104 refl refl refl refl)
row_of (Time Event Minute) = (78, 110, row (Time Event Minute) 78 110 refl refl refl refl)
row_of (Time Event Second) = (78, 115, row (Time Event Second) 78 115 refl refl refl refl)
row_of (Time Event HalfDay) = (78, 97, row (Time Event HalfDay) 78 97 refl refl refl refl)
row_of (Time Event Month) = (78, 109, row (Time Event Month) 78 109 refl refl refl refl)
row_of (Time Event MonthName) = (78, 77, row (Time Event MonthName) 78 77 refl refl refl refl)
row_of (Time Event Day) = (78, 100, row (Time Event Day) 78 100 refl refl refl refl)
row_of (Time Event DayName) = (78, 68, row (Time Event DayName) 78 68 refl refl refl refl)
row_of (Time Event ShortYear) = (78, 121, row (Time Event ShortYear) 78 121 refl refl refl refl)
row_of (Time Event Year) = (78, 89, row (Time Event Year) 78 89 refl refl refl refl)
row_of NotificationId = (78, 105, row NotificationId 78 105 refl refl refl refl)
row_of EventType = (78, 101, row EventType 78 101 refl refl refl refl)
row_of Object = (78, 111, row Object 78 111 refl refl refl refl)
row_of Notifier = (78, 103, row Notifier 78 103 refl refl refl refl)
row_of User = (83, 108, row User 83 108 refl refl refl refl)
row_of Severity = (83, 118, row Severity 83 118 refl refl refl refl)

two_letters : (part : Part) → letters part ≡ slice_index (letters part) 0 ∷ slice_index (letters part) 1 ∷ []
two_letters part =
    let found = row_of part in
    let written = found.2.written in
    written ∙ ap (λ ls. slice_index ls 0 ∷ slice_index ls 1 ∷ []) (sym written)

all_two : (parts : List Part) → AreTwo parts
all_two [] = tt
all_two (part ∷ parts) = (two_letters part, all_two parts)

-- what is found for two letters has these letters
found_letters : (parts : List Part) (class field : ℕ) (part : Part) → AreTwo parts → first_with parts class field ≡ Some part → letters part ≡ class ∷ field ∷ []
found_letters [] class field part two = λ found. absurd cc
found_letters (other ∷ parts) class field part two =
    cond_both (nat_eq (slice_index (letters other) 0) class && nat_eq (slice_index (letters other) 1) field) (Some other) (first_with parts class field)
    (λ answer. answer ≡ Some part → letters part ≡ class ∷ field ∷ [])
    (λ same found. let both = and_parts _ _ same in
    let is : other ≡ part = cc in
    ap letters (sym is) ∙ two.0 ∙ ap (λ c. c ∷ slice_index (letters other) 1 ∷ []) (eqb-true _ _ both.0) ∙ ap (λ f. class ∷ f ∷ []) (eqb-true _ _ both.1))
    (λ differ found. found_letters parts class field part two.1 found)

pub part_with-letters : (class field : ℕ) (part : Part) → part_with class field ≡ Some part → letters part ≡ class ∷ field ∷ []
unfolding part_with shown_parts
part_with-letters class field part = found_letters shown_parts class field part (all_two shown_parts)

-- the letters of a part find it
pub part_with-told : (part : Part) (class field : ℕ) → letters part ≡ class ∷ field ∷ [] → part_with class field ≡ Some part
part_with-told part class field is =
    let found = row_of part in
    let written : found.0 ∷ found.1 ∷ [] ≡ class ∷ field ∷ [] = sym found.2.written ∙ is in
    let one : found.0 ≡ class = cc in
    let two : found.1 ≡ field = cc in
    ap (λ c. part_with c field) (sym one) ∙ ap (part_with found.0) (sym two) ∙ found.2.found

-- where none is found, no token has these letters, and the other way round
pub no_field : (class field : ℕ) → is_some (part_with class field) ≡ false → (part : Part) → letters part ≡ class ∷ field ∷ [] → ⊥
no_field class field none part is =
    let some = ap is_some (part_with-told part class field is) in
    cc

pub none_found : (class field : ℕ) → ((part : Part) → letters part ≡ class ∷ field ∷ [] → ⊥) → is_some (part_with class field) ≡ false
none_found class field none = by_found (part_with class field) refl where
  by_found : (found : Option Part) → part_with class field ≡ found → is_some found ≡ false
  by_found None is = refl
  by_found (Some part) is = absurd (none part (part_with-letters class field part is))
