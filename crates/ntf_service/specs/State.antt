-- Words of public clauses: what a call of the service must be, and what it answers, by what is
-- kept.
use Rattle.std.specs.Prelude.{◌≡◌, ℕ, ◌<◌, nat_le, List, length}
use Rattle.std.specs.List.{list_any, AllByRecursion}
use Rattle.ais_values.specs.declared.status.Status.{Status}
use Rattle.ntf_filters.specs.declared.filter.FilterSet.{FilterSet}
use Rattle.ntf_filters.specs.FitTests.{is_fit}
use Rattle.sub_queue.specs.Queue.{HasNumberLeft}
use Rattle.client_set.specs.Members.{has}
use Rattle.ntf_history.specs.Kept.{Subscription}
use Rattle.ntf_history.specs.Changes.{Sub}
use Rattle.ntf_history.specs.Tables.{NtfTable, is_kept_under}
use Rattle.ntf_history.specs.Rows.{answer, begin_by, end_by, subscribe_by, unsubscribe_by}

-- a subscription of a client
abbrev pub sub_of : ℕ → ℕ → ℕ → FilterSet → Sub
sub_of client key id filters = record { client = client; key = key; id = id; filters = filters }

-- the answer to each call

abbrev pub begin_answer : ℕ → NtfTable → Status
begin_answer client table = answer (begin_by (has client table.users))

abbrev pub end_answer : ℕ → NtfTable → Status
end_answer client table = answer (end_by (has client table.users))

abbrev pub subscribe_answer : ℕ → ℕ → FilterSet → NtfTable → Status
subscribe_answer client id filters table =
    answer (subscribe_by (has client table.users) (is_fit filters)
    (list_any (is_kept_under client id) table.subs) (nat_le 64 (length table.subs)))

abbrev pub unsubscribe_answer : ℕ → ℕ → NtfTable → Status
unsubscribe_answer client id table =
    answer (unsubscribe_by (has client table.users) (list_any (is_kept_under client id) table.subs))

-- each queue has a number left for its next item
abbrev pub HaveNumbersLeft : List Subscription → Type 0
HaveNumbersLeft kept = AllByRecursion (λ (sub : Subscription). HasNumberLeft sub.queue) kept

-- fewer than 4,294,967,294 ids were given, and as many items made for each subscription that lasts
pub record CanSendMore (table : NtfTable) : Type 0 where
  pub ids : table.last_id < 4294967294
  pub items : HaveNumbersLeft table.subs

-- a key is above those of all subscriptions of the client
abbrev pub IsKeyAbove : ℕ → ℕ → List Subscription → Type 0
IsKeyAbove client key kept =
    AllByRecursion (λ (sub : Subscription). sub.client ≡ client → sub.key < key) kept
