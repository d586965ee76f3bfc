-- Words of bodies alone: how a window is stored, its replies from the oldest on, in a queue with room for as many as it keeps, or for some more.
use Rattle.std.specs.Prelude.{◌≤◌, length, reverse}
use Rattle.std.specs.VecDeque.{deque_capacity}
use Rattle.client_window.specs.declared.window.Window.TheInside.{Inside}
use Rattle.client_window.specs.Windows.{Kept, HasRepliesBefore, places_for}

abbrev pub kept_of : {R : Type 0} → Inside R → Kept R
kept_of inside = record { next = inside.next; replies = reverse inside.replies.items }

-- the replies are those before the next call, and they have their places
pub record IsKept {R : Type 0} (inside : Inside R) : Type 0 where
  pub replies : HasRepliesBefore inside.next (length inside.replies.items)
  pub room : places_for (length inside.replies.items) ≤ deque_capacity inside.replies
