-- Words of public clauses of the crate above: room for one reply more.
use Rattle.std.specs.Prelude.{◌≡◌, ℕ, ◌<◌, true, List, [], length, Option, None, find, is_some}
use Rattle.client_window.specs.Windows.{Kept, window_of, more_places}
use Rattle.calls.specs.declared.reply.Reply.{Reply}
use Rattle.service_table.specs.declared.caller.ClientWindow.{ClientWindow}
use Rattle.service_table.specs.Tables.{is_window_for}
use Rattle.service_table.specs.Steps.{window_for}
use Rattle.service_parts.specs.declared.windows.ReplyRoom.{ReplyRoom}
use Rattle.service_parts.specs.declared.windows.ReplyRoom.TheVariants.{Known, First}

-- a window that is new, and a place for it
pub record IsFresh (client : ℕ) (callers : List ClientWindow) (count places : ℕ) (window : Kept Reply) : Type 0 where
  pub new : window ≡ window_of []
  pub absent : find (is_window_for client) callers ≡ None
  pub place : count < places

-- a client has a window, and so many places more for its replies, if it wants them
pub record IsKnown (client : ℕ) (callers : List ClientWindow) (more : Option ℕ) : Type 0 where
  pub known : is_some (find (is_window_for client) callers) ≡ true
  pub room : more ≡ more_places (length (window_for client callers).replies)

-- a client has a window, or else a new one is there and a place for it
abbrev pub HasRoom : ℕ → List ClientWindow → (count places : ℕ) → ReplyRoom → Type 0
HasRoom client callers count places (Known more) = IsKnown client callers more
HasRoom client callers count places (First window) = IsFresh client callers count places window
