-- Words of public clauses: what the calls of the Notification Service that were answered ok, and the new receipts, changed, newest first; who uses the
-- service, and which ids were given.
use Rattle.std.specs.Prelude.{ℕ, ◌+◌, ◌==◌, nat_lt, Bool, false, not, ◌&&◌, ◌||◌, List, [], ◌∷◌}
use Rattle.ntf_types.specs.declared.notification.Notification.{Notification}
use Rattle.ntf_filters.specs.declared.filter.FilterSet.{FilterSet}
use Rattle.client_set.specs.Rising.{put, without}

-- a subscription: its client, its key, which is the number of the client's call that made it, the id that the client gave it, and what it asks for
pub record Sub : Type 0 where
  pub client : ℕ
  pub key : ℕ
  pub id : ℕ
  pub filters : FilterSet

-- what a call or a receipt changed: a client began or ended its use, a subscription was made or taken back, a notification was sent, with its id and
-- event time, as the record of this number of its stream, or a receipt came
pub data NtfChange : Type 0 where
  Began : (client : ℕ) → NtfChange
  Ended : (client : ℕ) → NtfChange
  Subscribed : (sub : Sub) → NtfChange
  Unsubscribed : (client id : ℕ) → NtfChange
  Sent : (notification : Notification) (record_number : ℕ) → NtfChange
  Receipted : (client key through : ℕ) → NtfChange

-- whether a client uses the service: it began, and has not ended its use since
abbrev pub is_using : List NtfChange → ℕ → Bool
is_using [] client = false
is_using (Began other ∷ past) client = other == client || is_using past client
is_using (Ended other ∷ past) client = not (other == client) && is_using past client
is_using (_ ∷ past) client = is_using past client

-- the clients that use the service, rising
abbrev pub users : List NtfChange → List ℕ
users [] = []
users (Began client ∷ past) = put nat_lt client (users past)
users (Ended client ∷ past) = without (λ other. other == client) (users past)
users (_ ∷ past) = users past

-- the last id that was given: ids are 1, 2, 3 and so on
abbrev pub last_id : List NtfChange → ℕ
last_id [] = 0
last_id (Sent notification record_number ∷ past) = last_id past + 1
last_id (_ ∷ past) = last_id past
