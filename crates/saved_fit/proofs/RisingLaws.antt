-- A list rises exactly where each element comes before the next.
use Rattle.std.proofs.Common.{◌≡◌, ℕ, nat_lt, Bool, true, ◌&&◌, List, [], ◌∷◌, map, refl, ap, sym, ◌∙◌}
use Rattle.std.specs.Prelude.{Option, Some, None, ⊤, IsTrue, ◌↔◌}
use Rattle.std.proofs.lemmas.Bool.{and_parts, and_from}
use Rattle.calls.specs.declared.saved.SavedAlarm.{SavedAlarm}
use Rattle.client_set.specs.Rising.{ComesFirst, IsRising}
use Rattle.client_set.proofs.RisingLaws.{IsOrder-nat_lt}
use Rattle.plain_service.specs.Fitness.{is_id_before}
use Rattle.saved_fit.specs.Rising.{by_number, follows, rises_behind, is_above, rises_by_id}

-- the last element, if there is one, comes before all of these
abbrev Behind : {X : Type 0} → (X → X → Bool) → Option X → List X → Type 0
Behind before None items = ⊤
Behind before (Some last) items = ComesFirst before last items

module _ {X : Type 0} (before : X → X → Bool) (onward : (x y z : X) → before x y ≡ true → before y z ≡ true → before x z ≡ true) where
  first-onward : (last item : X) (items : List X) → before last item ≡ true → ComesFirst before item items → ComesFirst before last items
  first-onward last item [] less first = tt
  first-onward last item (next ∷ items) less first =
      (onward last item next less first.0, first-onward last item items less first.1)

  nothing-behind : (last : Option X) → Behind before last []
  nothing-behind None = tt
  nothing-behind (Some last) = tt

  more-behind : (last : Option X) (item : X) (items : List X) → follows before last item ≡ true → ComesFirst before item items → Behind before last (item ∷ items)
  more-behind None item items less first = tt
  more-behind (Some last) item items less first = (less, first-onward last item items less first)

  to-rising : (last : Option X) (items : List X) → rises_behind before last items ≡ true → IsRising before items × Behind before last items
  to-rising last [] rises = (tt, nothing-behind last)
  to-rising last (item ∷ items) rises =
      let parts = and_parts (follows before last item) (rises_behind before (Some item) items) rises in
      let rest = to-rising (Some item) items parts.1 in
      ((rest.1, rest.0), more-behind last item items parts.0 rest.1)

  first-follows : (last : Option X) (item : X) (items : List X) → Behind before last (item ∷ items) → follows before last item ≡ true
  first-follows None item items behind = refl
  first-follows (Some last) item items behind = behind.0

  from-rising : (last : Option X) (items : List X) → IsRising before items → Behind before last items → rises_behind before last items ≡ true
  from-rising last [] rising behind = refl
  from-rising last (item ∷ items) rising behind =
      and_from (follows before last item) (rises_behind before (Some item) items) (first-follows last item items behind)
      (from-rising (Some item) items rising.1 rising.0)

  pub rising-decided : (items : List X) (result : Bool) → result ≡ rises_behind before None items → IsTrue result ↔ IsRising before items
  rising-decided items result is = (λ yes. (to-rising None items (sym is ∙ yes)).0, λ rising. is ∙ from-rising None items rising tt)

-- elements by a number
pub number-onward : {X : Type 0} (number : X → ℕ) (x y z : X) → by_number number x y ≡ true → by_number number y z ≡ true → by_number number x z ≡ true
number-onward number x y z one two = IsOrder-nat_lt.onward (number x) (number y) (number z) one two

first-mapped : {X : Type 0} (number : X → ℕ) (x : X) (xs : List X) → ComesFirst (by_number number) x xs → ComesFirst nat_lt (number x) (map number xs)
first-mapped number x [] first = tt
first-mapped number x (y ∷ xs) first = (first.0, first-mapped number x xs first.1)

mapped-first : {X : Type 0} (number : X → ℕ) (x : X) (xs : List X) → ComesFirst nat_lt (number x) (map number xs) → ComesFirst (by_number number) x xs
mapped-first number x [] first = tt
mapped-first number x (y ∷ xs) first = (first.0, mapped-first number x xs first.1)

rising-mapped : {X : Type 0} (number : X → ℕ) (xs : List X) → IsRising (by_number number) xs → IsRising nat_lt (map number xs)
rising-mapped number [] rising = tt
rising-mapped number (x ∷ xs) rising = (first-mapped number x xs rising.0, rising-mapped number xs rising.1)

mapped-rising : {X : Type 0} (number : X → ℕ) (xs : List X) → IsRising nat_lt (map number xs) → IsRising (by_number number) xs
mapped-rising number [] rising = tt
mapped-rising number (x ∷ xs) rising = (mapped-first number x xs rising.0, mapped-rising number xs rising.1)

pub numbers-decided : {X : Type 0} (number : X → ℕ) (items : List X) (result : Bool) → result ≡ rises_behind (by_number number) None items → IsTrue result ↔ IsRising nat_lt (map number items)
numbers-decided number items result is =
    let both = rising-decided (by_number number) (number-onward number) items result is in
    (λ yes. rising-mapped number items (both.0 yes), λ rising. both.1 (mapped-rising number items rising))

-- ids of alarms
abbrev id_of : Option SavedAlarm → Option ℕ
id_of None = None
id_of (Some alarm) = Some alarm.notification.id

above-follows : (last : Option SavedAlarm) (alarm : SavedAlarm) → is_above (id_of last) alarm.notification.id ≡ follows is_id_before last alarm
above-follows None alarm = refl
above-follows (Some last) alarm = refl

ids-same : (last : Option SavedAlarm) (alarms : List SavedAlarm) → rises_by_id (id_of last) alarms ≡ rises_behind is_id_before last alarms
ids-same last [] = refl
ids-same last (alarm ∷ alarms) =
    ap (λ b. b && rises_by_id (Some alarm.notification.id) alarms) (above-follows last alarm)
    ∙ ap (λ b. follows is_id_before last alarm && b) (ids-same (Some alarm) alarms)

pub ids-decided : (alarms : List SavedAlarm) (result : Bool) → result ≡ rises_by_id None alarms → IsTrue result ↔ IsRising is_id_before alarms
ids-decided alarms result is =
    rising-decided is_id_before (number-onward (λ (alarm : SavedAlarm). alarm.notification.id)) alarms result (is ∙ ids-same None alarms)
