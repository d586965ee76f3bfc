-- What the answers and the receipts ask of the history, the kept table tells.
use Rattle.std.proofs.Common.{◌≡◌, ℕ, ◌<◌, Bool, true, false, ◌&&◌, ◌||◌, cond, List, [], ◌∷◌, map, length, refl, ap, ◌∙◌, arith}
use Rattle.std.specs.Prelude.{Option, Some, None, find, option_map, is_some}
use Rattle.std.specs.List.{list_any}
use Rattle.std.proofs.lemmas.List.{length-map}
use Rattle.sub_queue.specs.Queue.{IsCapacity}
use Rattle.sub_queue.specs.History.{is_new_receipt}
use Rattle.ntf_history.specs.Changes.{Sub, NtfChange}
use Rattle.ntf_history.specs.Subscriptions.{has_key, has_id, subs, sub_at, account, is_new}
use Rattle.ntf_history.specs.Possible.{ArePossible}
use Rattle.ntf_history.specs.Tables.{HaveQueues, IsSoundTable, is_kept_at, is_kept_under, is_new_for, is_new_in, kept_of, table_of}
use Rattle.ntf_history.proofs.KeyLaws.{has_key-is, sub_at-stands}
use Rattle.ntf_history.proofs.TableLaws.{has_item-queue_for}
use Rattle.ntf_history.proofs.FitLaws.{users-rising, kept-rising, length-subs, queues-sound}

-- whether a client has a subscription of an id
list_any-kept : (capacity : ℕ) (past : List NtfChange) (client id : ℕ) (xs : List Sub) → list_any (is_kept_under client id) (map (kept_of capacity past) xs) ≡ list_any (has_id client id) xs
list_any-kept capacity past client id [] = refl
list_any-kept capacity past client id (x ∷ xs) =
    ap (λ b. has_id client id x || b) (list_any-kept capacity past client id xs)

pub has_id-kept : (capacity : ℕ) (past : List NtfChange) (client id : ℕ) → list_any (is_kept_under client id) (table_of capacity past).subs ≡ list_any (has_id client id) (subs past)
has_id-kept capacity past client id = list_any-kept capacity past client id (subs past)

-- how many subscriptions last
pub length-kept : (capacity : ℕ) (past : List NtfChange) → length (table_of capacity past).subs ≡ length (subs past)
length-kept capacity past = length-map (subs past) (kept_of capacity past)

-- the subscription of a client and key
find-map : (capacity : ℕ) (past : List NtfChange) (client key : ℕ) (xs : List Sub) → find (is_kept_at client key) (map (kept_of capacity past) xs) ≡ option_map (kept_of capacity past) (find (has_key client key) xs)
find-map capacity past client key [] = refl
find-map capacity past client key (x ∷ xs) =
    ap (λ o. cond (has_key client key x) (Some (kept_of capacity past x)) o) (find-map capacity past client key xs) ∙ either (has_key client key x) where
      either : (b : Bool) → cond b (Some (kept_of capacity past x)) (option_map (kept_of capacity past) (find (has_key client key) xs)) ≡ option_map (kept_of capacity past) (cond b (Some x) (find (has_key client key) xs))
      either true = refl
      either false = refl

-- whether a receipt is new
pub is_new-kept : (capacity : ℕ) (past : List NtfChange) (client key through : ℕ) → is_new_in (table_of capacity past) client key through ≡ is_new capacity past client key through
is_new-kept capacity past client key through =
    ap (λ o. is_new_for o through) (find-map capacity past client key (subs past)) ∙ told (sub_at past client key) refl where
      told : (o : Option Sub) → sub_at past client key ≡ o → is_new_for (option_map (kept_of capacity past) o) through ≡ (is_some o && is_new_receipt through (account capacity past client key))
      told None is = refl
      told (Some sub) is =
          let named = has_key-is client key sub (sub_at-stands past client key sub is).1 in
          has_item-queue_for capacity through (account capacity past sub.client sub.key) ∙ ap (λ c. is_new_receipt through (account capacity past c sub.key)) named.0 ∙ ap (λ k. is_new_receipt through (account capacity past client k)) named.1

HaveQueues-kept : (capacity : ℕ) (past : List NtfChange) (xs : List Sub) → IsCapacity capacity → length past < 4294967295 → HaveQueues capacity (map (kept_of capacity past) xs)
HaveQueues-kept capacity past [] fits few = tt
HaveQueues-kept capacity past (x ∷ xs) fits few =
    (refl, queues-sound capacity past x.client x.key fits few, HaveQueues-kept capacity past xs fits few)

-- the table of changes that could follow one another is sound
pub table_of-sound : (capacity : ℕ) (past : List NtfChange) → IsCapacity capacity → ArePossible past → length past < 4294967295 → IsSoundTable (table_of capacity past)
table_of-sound capacity past fits possible short = record {
  capacity = fits;
  users = users-rising past;
  order = kept-rising capacity past;
  queues = HaveQueues-kept capacity past (subs past) fits short;
  few = omega (arith, length-kept capacity past, length-subs past possible);
}
