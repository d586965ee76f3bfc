-- Words of bodies alone: lists that rise, element by element.
use Rattle.std.specs.Prelude.{ℕ, nat_lt, Bool, true, ◌&&◌, List, [], ◌∷◌, Option, Some, None}
use Rattle.calls.specs.declared.saved.SavedAlarm.{SavedAlarm}

-- elements by a number of theirs
abbrev pub by_number : {X : Type 0} → (X → ℕ) → X → X → Bool
by_number number one other = nat_lt (number one) (number other)

-- an element may follow the last one, if there is one
abbrev pub follows : {X : Type 0} → (X → X → Bool) → Option X → X → Bool
follows before None item = true
follows before (Some last) item = before last item

-- each element comes before the next
abbrev pub rises_behind : {X : Type 0} → (X → X → Bool) → Option X → List X → Bool
rises_behind before last [] = true
rises_behind before last (item ∷ items) = follows before last item && rises_behind before (Some item) items

-- the same of the ids of alarms
abbrev pub is_above : Option ℕ → ℕ → Bool
is_above None id = true
is_above (Some last) id = nat_lt last id

abbrev pub rises_by_id : Option ℕ → List SavedAlarm → Bool
rises_by_id last [] = true
rises_by_id last (alarm ∷ alarms) =
    is_above last alarm.notification.id && rises_by_id (Some alarm.notification.id) alarms
