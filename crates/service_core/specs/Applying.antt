-- Words of public clauses: which entries can be applied to a value, and what a call's number must be.
use Rattle.std.specs.Prelude.{◌≡◌, ℕ, ◌<◌, ℤ, ◌==◌, ◌&&◌, nat_le, nat_lt, ◌+◌, Bool, true, false, length, Option, Some, None, find}
use Rattle.std.specs.Option.{option_map_or}
use Rattle.ais_values.specs.Bounds.{most_entries}
use Rattle.calls.specs.declared.entry.Entry.{Entry}
use Rattle.calls.specs.declared.entry.Entry.TheVariants.{Called, Receipted}
use Rattle.calls.specs.declared.saved.Saved.{Saved}
use Rattle.calls.specs.declared.saved.SavedWindow.{SavedWindow}
use Rattle.calls.specs.declared.saved.SavedSub.{SavedSub}
use Rattle.plain_service.specs.Setups.{IsMoment}
use Rattle.plain_service.specs.Legal.{IsClient}

-- the number of a client's next call: that of its window, or 1
abbrev pub next_in : Saved → (client : ℕ) → ℕ
next_in saved client =
    option_map_or (λ (window : SavedWindow). window.next) (find (λ (window : SavedWindow). window.client == client) saved.windows) 1

-- a subscription holds an item of this number
abbrev pub holds_item : (through : ℕ) → Option SavedSub → Bool
holds_item through None = false
holds_item through (Some sub) = nat_le sub.first through && nat_lt through (sub.first + length sub.held)

-- a receipt is new where the subscription of its client and key lasts and holds an item of its number
abbrev pub is_new_in : Saved → (client key through : ℕ) → Bool
is_new_in saved client key through =
    holds_item through (find (λ (sub : SavedSub). sub.client == client && sub.key == key) saved.subs)

-- an entry of a client can be accepted at a moment: fewer than 4,000,000,000 were accepted
pub record CanAcceptIn (saved : Saved) (client : ℕ) (now : ℤ) : Type 0 where
  pub caller : IsClient client
  pub time : IsMoment now
  pub few : saved.number < most_entries

-- a call has the number of its client's next one, and a receipt is new
abbrev pub CanApply : Entry → Saved → Type 0
CanApply (Called client seq now call) saved = CanAcceptIn saved client now × (seq ≡ next_in saved client)
CanApply (Receipted client key through now) saved = CanAcceptIn saved client now × (is_new_in saved client key through ≡ true)
