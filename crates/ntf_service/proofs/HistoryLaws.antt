-- A state that stands for all that changed answers by the rows of the history.
use Rattle.std.proofs.Common.{◌≡◌, ℕ, ◌<◌, nat_le, inl, inr, List, [], ◌∷◌, length, map, refl, ap, ◌∙◌, arith}
use Rattle.std.specs.List.{list_any}
use Rattle.ntf_filters.specs.declared.filter.FilterSet.{FilterSet}
use Rattle.ntf_filters.specs.FitTests.{is_fit}
use Rattle.sub_queue.specs.History.{account_of}
use Rattle.sub_queue.proofs.Accounts.{account_of-possible, next_number-made}
use Rattle.client_set.specs.Members.{Stands}
use Rattle.ntf_history.specs.Changes.{Sub, NtfChange, is_using}
use Rattle.ntf_history.specs.Subscriptions.{has_id, subs, happened}
use Rattle.ntf_history.specs.Tables.{is_kept_under, kept_of, table_of}
use Rattle.ntf_history.specs.Rows.{answer, begin_by, end_by, subscribe_by, unsubscribe_by, begin_rows, end_rows, subscribe_rows, unsubscribe_rows}
use Rattle.ntf_history.proofs.GrowthLaws.{length-made}
use Rattle.ntf_history.proofs.FitLaws.{has-users, last_id-bound}
use Rattle.ntf_history.proofs.AnswerLaws.{has_id-kept, length-kept}
use Rattle.ntf_service.specs.State.{begin_answer, end_answer, subscribe_answer, unsubscribe_answer, HaveNumbersLeft, CanSendMore, IsKeyAbove}

module _ (capacity : ℕ) (past : List NtfChange) where
  pub begin-rows : (client : ℕ) → begin_answer client (table_of capacity past) ≡ answer (begin_rows past client)
  begin-rows client = ap (λ b. answer (begin_by b)) (has-users past client)

  pub end-rows : (client : ℕ) → end_answer client (table_of capacity past) ≡ answer (end_rows past client)
  end-rows client = ap (λ b. answer (end_by b)) (has-users past client)

  pub subscribe-rows : (client id : ℕ) (filters : FilterSet) → subscribe_answer client id filters (table_of capacity past) ≡ answer (subscribe_rows past client id filters)
  subscribe-rows client id filters =
      let table = table_of capacity past in
      ap (λ b. answer (subscribe_by b (is_fit filters) (list_any (is_kept_under client id) table.subs) (nat_le 64 (length table.subs)))) (has-users past client) ∙ ap (λ b. answer (subscribe_by (is_using past client) (is_fit filters) b (nat_le 64 (length table.subs)))) (has_id-kept capacity past client id) ∙ ap (λ n. answer (subscribe_by (is_using past client) (is_fit filters) (list_any (has_id client id) (subs past)) (nat_le 64 n))) (length-kept capacity past)

  pub unsubscribe-rows : (client id : ℕ) → unsubscribe_answer client id (table_of capacity past) ≡ answer (unsubscribe_rows past client id)
  unsubscribe-rows client id =
      ap (λ b. answer (unsubscribe_by b (list_any (is_kept_under client id) (table_of capacity past).subs))) (has-users past client) ∙ ap (λ b. answer (unsubscribe_by (is_using past client) b)) (has_id-kept capacity past client id)

  -- as long as there were few changes, each queue has a number left
  numbers-left : (xs : List Sub) → length past < 4294967294 → HaveNumbersLeft (map (kept_of capacity past) xs)
  numbers-left [] few = tt
  numbers-left (x ∷ xs) few =
      let before = happened past x.client x.key in
      let next = next_number-made capacity (account_of capacity before) (account_of-possible capacity before) in
      let made = length-made capacity past x.client x.key in
      (omega (arith, next, made, few), numbers-left xs few)

  pub can_send-history : length past < 4294967294 → CanSendMore (table_of capacity past)
  can_send-history few = record { ids = omega (arith, last_id-bound past, few); items = numbers-left (subs past) few }

  -- a key above those of the client's subscriptions that last
  above-map : (client key : ℕ) (xs : List Sub) → ((sub : Sub) → Stands sub xs → sub.client ≡ client → sub.key < key) → IsKeyAbove client key (map (kept_of capacity past) xs)
  above-map client key [] above = tt
  above-map client key (x ∷ xs) above = (above x (inl refl), above-map client key xs (λ sub there. above sub (inr there)))

  pub key-history : (client key : ℕ) → ((sub : Sub) → Stands sub (subs past) → sub.client ≡ client → sub.key < key) → IsKeyAbove client key (table_of capacity past).subs
  key-history client key above = above-map client key (subs past) above
