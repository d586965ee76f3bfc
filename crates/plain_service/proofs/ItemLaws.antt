-- Items: those that were made stay, in order; a receipt alone takes them away; and what is held is what was made and has no receipt.
use Rattle.std.proofs.Common.{◌≡◌, ℕ, zero, suc, ◌+◌, ◌-◌, ◌<◌, nat_le, Bool, true, false, ◌⊎◌, inl, inr, List, [], ◌∷◌, ◌++◌, drop, map, refl, ap, sym, ◌∙◌, subst, arith}
use Rattle.std.specs.Prelude.{ℤ, Option, Some, None, is_some, slice_get}
use Rattle.std.specs.List.{AllByRecursion, cons_option, flat_map}
use Rattle.std.proofs.lemmas.Bool.{leb-true, leb-false}
use Rattle.sub_queue.specs.declared.item.Content.{Content}
use Rattle.sub_queue.specs.declared.item.Item.{Item}
use Rattle.sub_queue.specs.Items.{numbered}
use Rattle.calls.specs.declared.call.Call.{Call}
use Rattle.calls.specs.declared.call.Call.TheVariants.{NtfInit, NtfSend}
use Rattle.calls.specs.declared.entry.Entry.{Entry}
use Rattle.calls.specs.declared.entry.Entry.TheVariants.{Called, Receipted}
use Rattle.calls.specs.declared.entry.Held.{Held}
use Rattle.client_set.specs.Members.{Stands}
use Rattle.client_set.proofs.MemberLaws.{Stands-append_left, Stands-append_right}
use Rattle.ntf_history.specs.Changes.{Sub, NtfChange}
use Rattle.ntf_history.specs.Changes.{NtfChange as ntf}
use Rattle.ntf_history.specs.Subscriptions.{subs, sub_at, made, through_of, Extends}
use Rattle.ntf_history.proofs.KeyLaws.{sub_at-stands, sub_at-member, has_key-is}
use Rattle.ntf_history.proofs.GrowthLaws.{Extends-same, made-grows, through-moves, through-received}
use Rattle.plain_service.specs.Setups.{Setup, log_setup}
use Rattle.plain_service.specs.Pasts.{Past}
use Rattle.plain_service.specs.Answers.{status_of}
use Rattle.plain_service.specs.Alarms.{accepted_notification, taken_by, stream_for}
use Rattle.plain_service.specs.Changing.{past_of, ntf_change}
use Rattle.plain_service.specs.Items.{held_for, items_for, items_after, items_of, made_for, through_for, lasts_for, is_new_receipt, IsHeldItem, IsReceipt, Leaves}
use Rattle.plain_service.proofs.ListLaws.{standing-each, each-mapped}
use Rattle.plain_service.proofs.Possible.{past_after-by}
use Rattle.ais_values.proofs.Basics.{AllByRecursion-append}

grows-option : (capacity : ℕ) (change : Option NtfChange) (past : List NtfChange) (client key : ℕ) → Extends (made capacity past client key) (made capacity (cons_option change past) client key)
grows-option capacity None past client key = Extends-same (made capacity past client key)
grows-option capacity (Some change) past client key = made-grows capacity change past client key

-- **items that were made stay made: one more entry adds some behind them, or none**
pub items-grow : (setup : Setup) (entry : Entry) (past : List Entry) (client key : ℕ) → Extends (made_for setup past client key) (made_for setup (entry ∷ past) client key)
unfolding made_for
items-grow setup (Called caller seq now call) past client key =
    past_after-by (λ after. Extends (made setup.capacity (past_of setup past).ntf client key) (made setup.capacity after.ntf client key)) setup (past_of setup past) caller seq now call (status_of setup (past_of setup past) caller now call)
    (Extends-same (made setup.capacity (past_of setup past).ntf client key))
    (λ ok. grows-option setup.capacity (ntf_change setup (past_of setup past) caller seq now call) (past_of setup past).ntf client key)
items-grow setup (Receipted caller number through now) past client key =
    made-grows setup.capacity (ntf.Receipted caller number through) (past_of setup past).ntf client key

-- before any entry nothing has a receipt
pub through-starts : (setup : Setup) (client key : ℕ) → through_for setup [] client key ≡ 0
unfolding through_for
through-starts setup client key = refl

-- a change by a call moves no receipt
through-called : (capacity : ℕ) (setup : Setup) (past : Past) (caller seq : ℕ) (now : ℤ) (call : Call) (client key : ℕ) → through_of capacity (cons_option (ntf_change setup past caller seq now call) past.ntf) client key ≡ through_of capacity past.ntf client key
through-called capacity setup past caller seq now (NtfSend notification) client key = elim (through-moves capacity (ntf.Sent (accepted_notification past now notification) (taken_by (log_setup setup) past.log (stream_for notification.body))) past.ntf client key) [
  | inl same ↦ same
  | inr moved ↦ cc
]
through-called capacity setup past caller seq now _ client key = refl

-- the entry of a receipt's change
abbrev entry_for : ℤ → NtfChange → Entry
entry_for now (ntf.Receipted client key through) = Receipted client key through now
entry_for now _ = Called 0 0 now NtfInit

-- **the number of the last receipt moves by a receipt alone, which names it**
pub through-steps : (setup : Setup) (entry : Entry) (past : List Entry) (client key : ℕ) → (through_for setup (entry ∷ past) client key ≡ through_for setup past client key) ⊎ ((now : ℤ) × (entry ≡ Receipted client key (through_for setup (entry ∷ past) client key) now))
unfolding through_for
through-steps setup (Called caller seq now call) past client key =
    inl (past_after-by (λ after. through_of setup.capacity after.ntf client key ≡ through_of setup.capacity (past_of setup past).ntf client key) setup (past_of setup past) caller seq now call (status_of setup (past_of setup past) caller now call)
    refl (λ ok. through-called setup.capacity setup (past_of setup past) caller seq now call client key))
through-steps setup (Receipted caller number through now) past client key = elim (through-moves setup.capacity (ntf.Receipted caller number through) (past_of setup past).ntf client key) [
  | inl same ↦ inl same
  | inr moved ↦ inr (now, ap (entry_for now) moved)
]

-- **a new receipt counts**
pub through-new : (setup : Setup) (past : List Entry) (client key through : ℕ) (now : ℤ) → is_new_receipt setup past client key through ≡ true → through_for setup (Receipted client key through now ∷ past) client key ≡ through
unfolding through_for is_new_receipt
through-new setup past client key through now new =
    through-received setup.capacity (past_of setup past).ntf client key through new

-- what a list of items has

module _ {X Y : Type 0} (P : Y → Type 0) where
  each-flat_map : (f : X → List Y) (xs : List X) → ((x : X) → Stands x xs → AllByRecursion P (f x)) → AllByRecursion P (flat_map f xs)
  each-flat_map f [] each = tt
  each-flat_map f (x ∷ xs) each =
      AllByRecursion-append P (f x) (flat_map f xs) (each x (inl refl)) (each-flat_map f xs (λ y there. each y (inr there)))

Stands-flat_map : {X Y : Type 0} (f : X → List Y) (xs : List X) (x : X) (y : Y) → Stands x xs → Stands y (f x) → Stands y (flat_map f xs)
Stands-flat_map f [] x y stands is = absurd stands
Stands-flat_map f (z ∷ xs) x y (inl same) is =
    Stands-append_left y (f z) (flat_map f xs) (subst (λ w. Stands y (f w)) same is)
Stands-flat_map f (z ∷ xs) x y (inr there) is =
    Stands-append_right y (f z) (flat_map f xs) (Stands-flat_map f xs x y there is)

-- what holds of each content by its number holds of the numbered items
numbered-each : (P : ℕ → Content → Type 0) (first : ℕ) (contents : List Content) → ((i : ℕ) (content : Content) → slice_get contents i ≡ Some content → P (first + i) content) → AllByRecursion (λ (item : Item). P item.number item.content) (numbered first contents)
numbered-each P first [] each = tt
numbered-each P first (content ∷ contents) each = (
  subst (λ n. P n content) (omega arith) (each 0 content refl),
  numbered-each P (first + 1) contents (λ i later is. subst (λ n. P n later) (omega arith) (each (suc i) later is)),
)

get-drop : (t i : ℕ) (contents : List Content) → slice_get (drop t contents) i ≡ slice_get contents (t + i)
get-drop zero i contents = let e : i ≡ zero + i = omega arith in ap (slice_get contents) e
get-drop (suc t) i [] = refl
get-drop (suc t) i (content ∷ contents) =
    let e : suc (t + i) ≡ suc t + i = omega arith in get-drop t i contents ∙ ap (slice_get (content ∷ contents)) e

-- **what is held is what was made and has no receipt, under its number**
pub items-held : (setup : Setup) (past : List Entry) → AllByRecursion (IsHeldItem setup past) (items_of setup past)
unfolding items_of lasts_for through_for made_for
items-held setup past = each-flat_map (IsHeldItem setup past) (items_for setup.capacity (past_of setup past).ntf) (subs (past_of setup past).ntf) each where
  each : (sub : Sub) → Stands sub (subs (past_of setup past).ntf) → AllByRecursion (IsHeldItem setup past) (items_for setup.capacity (past_of setup past).ntf sub)
  each sub stands =
      let changes = (past_of setup past).ntf in
      let through = through_of setup.capacity changes sub.client sub.key in
      let contents = made setup.capacity changes sub.client sub.key in
      each-mapped (IsHeldItem setup past) (held_for sub.client sub.key) (numbered (through + 1) (drop through contents))
      (numbered-each (λ number content. IsHeldItem setup past (held_for sub.client sub.key (record { number = number; content = content }))) (through + 1) (drop through contents)
      (λ i content is. record {
        lasting = ap is_some (sub_at-member changes sub stands);
        above = omega arith;
        before = through + i;
        numbered = omega arith;
        made = sym (get-drop through i contents) ∙ is;
      }))

-- the items of the subscription of a client and key
abbrev items_at : (capacity : ℕ) → List NtfChange → (client key : ℕ) → List Held
items_at capacity past client key =
    map (held_for client key) (numbered (through_of capacity past client key + 1) (drop (through_of capacity past client key) (made capacity past client key)))

Stands-map : {X Y : Type 0} (f : X → Y) (x : X) (xs : List X) → Stands x xs → Stands (f x) (map f xs)
Stands-map f x [] stands = absurd stands
Stands-map f x (y ∷ ys) (inl same) = inl (ap f same)
Stands-map f x (y ∷ ys) (inr there) = inr (Stands-map f x ys there)

abbrev item_of : ℕ → Content → Item
item_of number content = record { number = number; content = content }

numbered-stands : (first i : ℕ) (contents : List Content) (content : Content) → slice_get contents i ≡ Some content → Stands (item_of (first + i) content) (numbered first contents)
numbered-stands first i [] content is = cc
numbered-stands first zero (next ∷ contents) content is =
    let same : content ≡ next = cc in
    let number : first + zero ≡ first = omega arith in
    inl (ap (λ n. item_of n content) number ∙ ap (item_of first) same)
numbered-stands first (suc i) (next ∷ contents) content is =
    subst (λ n. Stands (item_of n content) (numbered first (next ∷ contents))) (omega arith) (inr (numbered-stands (first + 1) i contents content is))

item-at : (capacity : ℕ) (past : List NtfChange) (client key before number : ℕ) (content : Content) → number ≡ suc before → through_of capacity past client key < number → slice_get (made capacity past client key) before ≡ Some content → Stands (held_for client key (item_of number content)) (items_at capacity past client key)
item-at capacity past client key before number content numbered_is above is =
    let through = through_of capacity past client key in
    let contents = made capacity past client key in
    let place : through + (before - through) ≡ before = omega arith in
    let there : slice_get (drop through contents) (before - through) ≡ Some content = get-drop through (before - through) contents ∙ ap (slice_get contents) place ∙ is in
    Stands-map (held_for client key) (item_of number content) (numbered (through + 1) (drop through contents))
    (subst (λ n. Stands (item_of n content) (numbered (through + 1) (drop through contents))) (omega arith) (numbered-stands (through + 1) (before - through) (drop through contents) content there))

-- **what was made for a subscription that lasts, and has no receipt, is held under its number**
pub made-held : (setup : Setup) (past : List Entry) (held : Held) → IsHeldItem setup past held → Stands held (items_of setup past)
unfolding items_of lasts_for through_for made_for
made-held setup past held is = by_case (sub_at (past_of setup past).ntf held.client held.key) refl is.lasting where
  by_case : (found : Option Sub) → sub_at (past_of setup past).ntf held.client held.key ≡ found → is_some found ≡ true → Stands held (items_after setup.capacity (past_of setup past).ntf)
  by_case None none no_sub = cc
  by_case (Some sub) found some =
      let changes = (past_of setup past).ntf in
      let stands = sub_at-stands changes held.client held.key sub found in
      let keys = has_key-is held.client held.key sub stands.1 in
      Stands-flat_map (items_for setup.capacity changes) (subs changes) sub held stands.0
      (subst (λ c. Stands held (items_at setup.capacity changes c sub.key)) (sym keys.0)
      (subst (λ k. Stands held (items_at setup.capacity changes held.client k)) (sym keys.1)
      (item-at setup.capacity changes held.client held.key is.before held.item.number held.item.content is.numbered is.above is.made)))

-- **the first item without receipt of a subscription that lasts is held**
pub first-held : (setup : Setup) (past : List Entry) (client key : ℕ) (content : Content) → lasts_for setup past client key ≡ true → slice_get (made_for setup past client key) (through_for setup past client key) ≡ Some content → Stands (held_for client key (record { number = suc (through_for setup past client key); content = content })) (items_of setup past)
first-held setup past client key content lasting is =
    made-held setup past (held_for client key (item_of (suc (through_for setup past client key)) content))
    (record { lasting = lasting; above = omega arith; before = through_for setup past client key; numbered = refl; made = is })

-- what is held stays, under its number, until it leaves

front-get : (i : ℕ) (contents more : List Content) (content : Content) → slice_get contents i ≡ Some content → slice_get (contents ++ more) i ≡ Some content
front-get i [] more content is = cc
front-get zero (next ∷ contents) more content is = is
front-get (suc i) (next ∷ contents) more content is = front-get i contents more content is

made-later : (setup : Setup) (entry : Entry) (past : List Entry) (client key i : ℕ) (content : Content) → slice_get (made_for setup past client key) i ≡ Some content → slice_get (made_for setup (entry ∷ past) client key) i ≡ Some content
made-later setup entry past client key i content is =
    let grown = items-grow setup entry past client key in
    ap (λ contents. slice_get contents i) grown.is ∙ front-get i (made_for setup past client key) grown.more content is

-- **an item that is held keeps its number and what it holds, and leaves by a receipt or an end alone**
pub items-stay : (setup : Setup) (entry : Entry) (past : List Entry) (held : Held) → Stands held (items_of setup past) → Stands held (items_of setup (entry ∷ past)) ⊎ Leaves setup entry past held
items-stay setup entry past held stands =
    by_case (standing-each (IsHeldItem setup past) held (items_of setup past) (items-held setup past) stands) (lasts_for setup (entry ∷ past) held.client held.key) refl where
      kept : IsHeldItem setup past held → lasts_for setup (entry ∷ past) held.client held.key ≡ true → through_for setup (entry ∷ past) held.client held.key < held.item.number → Stands held (items_of setup (entry ∷ past))
      kept is lasting above =
          made-held setup (entry ∷ past) held (record {
            lasting = lasting;
            above = above;
            before = is.before;
            numbered = is.numbered;
            made = made-later setup entry past held.client held.key is.before held.item.content is.made;
          })

      received : (now : ℤ) → IsHeldItem setup past held → lasts_for setup (entry ∷ past) held.client held.key ≡ true → entry ≡ Receipted held.client held.key (through_for setup (entry ∷ past) held.client held.key) now → (b : Bool) → nat_le held.item.number (through_for setup (entry ∷ past) held.client held.key) ≡ b → Stands held (items_of setup (entry ∷ past)) ⊎ Leaves setup entry past held
      received now is lasting moved true le =
          inr (inr (subst (λ e. IsReceipt e held) (sym moved) (refl, refl, leb-true held.item.number (through_for setup (entry ∷ past) held.client held.key) le)))
      received now is lasting moved false le =
          inl (kept is lasting (leb-false held.item.number (through_for setup (entry ∷ past) held.client held.key) le))

      by_case : IsHeldItem setup past held → (b : Bool) → lasts_for setup (entry ∷ past) held.client held.key ≡ b → Stands held (items_of setup (entry ∷ past)) ⊎ Leaves setup entry past held
      by_case is false ended = inr (inl ended)
      by_case is true lasting = elim (through-steps setup entry past held.client held.key) [
        | inl same ↦ inl (kept is lasting (omega (arith, same, is.above)))
        | inr moved ↦ received moved.0 is lasting moved.1 (nat_le held.item.number (through_for setup (entry ∷ past) held.client held.key)) refl
      ]
