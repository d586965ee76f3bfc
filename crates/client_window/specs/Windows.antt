-- Words of public clauses: what is kept of the calls of one client, by all replies that were ever taken, the newest first. The first call has number 1.
use Rattle.std.specs.Prelude.{◌≡◌, ℕ, ◌+◌, ◌-◌, ◌≤◌, ◌==◌, nat_le, if◌then◌else◌}
use Rattle.std.specs.Prelude.{min, List, length, take, reverse, Option, Some, None}

-- the number of the next call, and the last replies, the newest first
pub record Kept (R : Type 0) : Type 0 where
  pub next : ℕ
  pub replies : List R

-- the window after all these replies: the last 32 are kept
abbrev pub window_of : {R : Type 0} → List R → Kept R
window_of all = record { next = length all + 1; replies = take 32 all }

-- the window with this number of the next call, and these replies, the oldest first
abbrev pub window_of_parts : {R : Type 0} → ℕ → List R → Kept R
window_of_parts next replies = record { next = next; replies = reverse replies }

-- so many replies are kept before the next call: one for each call before it, or 32, whichever is less
pub record HasRepliesBefore (next count : ℕ) : Type 0 where
  pub first : 1 ≤ next
  pub kept : count ≡ min (next - 1) 32

-- so many places a window has at least that keeps so many replies: 4 at first, which double up to 32
abbrev pub places_for : ℕ → ℕ
places_for kept = if nat_le kept 4 then 4 else (if nat_le kept 8 then 8 else (if nat_le kept 16 then 16 else 32))

-- the places that the next reply wants where so many are kept, if it wants more
abbrev pub more_places : ℕ → Option ℕ
more_places kept = if kept == 4 then Some 8 else (if kept == 8 then Some 16 else (if kept == 16 then Some 32 else None))
