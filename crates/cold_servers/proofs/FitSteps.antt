-- Fit values, whatever led to them: what an entry makes of one is fit, what is pushed by one can be spelled, and what a journal tells is one.
use Rattle.std.proofs.Common.{◌≡◌, ℕ, ℤ, suc, ◌+◌, ◌*◌, ◌<◌, ◌≤◌, ◌==◌, Bool, true, false, ◌||◌, cond, Option, None, Some, List, [], ◌∷◌, ◌++◌, length, map, refl, ap, sym, subst, ◌∙◌, arith}
use Rattle.std.specs.Prelude.{find, MatchOption}
use Rattle.std.specs.List.{AllByRecursion, list_any, flat_map}
use Rattle.std.proofs.lemmas.List.{length-append, map-append}
use Rattle.std.proofs.lemmas.List.Elements.{recursion_from_All}
use Rattle.std.proofs.lemmas.Bool.Decides.{nat_tests}
use Rattle.ais_values.specs.declared.status.Status.{Status}
use Rattle.ais_values.specs.declared.status.Status.TheVariants as status
use Rattle.calls.specs.declared.call.Call.{Call}
use Rattle.calls.specs.declared.call.Call.TheVariants.{NtfInit, NtfSend, NtfSubscribe, NtfUnsubscribe, NtfFini}
use Rattle.calls.specs.declared.entry.Entry.{Entry}
use Rattle.calls.specs.declared.entry.Entry.TheVariants.{Called, Receipted}
use Rattle.calls.specs.declared.saved.Saved.{Saved}
use Rattle.calls.specs.declared.saved.SavedSub.{SavedSub}
use Rattle.calls.specs.declared.saved.SavedWindow.{SavedWindow}
use Rattle.sub_queue.specs.declared.item.Content.{Content}
use Rattle.sub_queue.specs.Items.{numbered}
use Rattle.ntf_history.specs.Changes.{NtfChange}
use Rattle.ntf_history.specs.Changes.NtfChange.{Began, Ended, Subscribed, Unsubscribed, Sent, Receipted as Acked}
use Rattle.ntf_history.specs.Kept.{Subscription}
use Rattle.ntf_history.specs.Tables.{NtfTable, after_change, offered_sub, received_sub, is_kept_for, is_kept_under, kept_first, sub_with}
use Rattle.wire.specs.declared.message.Message.{Message}
use Rattle.wire.specs.declared.message.Message.TheVariants as message
use Rattle.wire.specs.MessageSpelling.{MessageFits, MessageInRange}
use Rattle.wire.specs.SavedSpelling.{SavedFits, SavedSubFits}
use Rattle.plain_service.specs.Changing.{if_ok}
use Rattle.plain_service.specs.Fitness.{IsFit, IsFitSub, IsFitWindow}
use Rattle.plain_service.specs.Items.{held_for}
use Rattle.plain_service.specs.Legal.{IsClient}
use Rattle.plain_service.proofs.ListLaws.{each-put, each-without}
use Rattle.service_table.specs.Answering.{status_in}
use Rattle.service_table.specs.Steps.{notified, ntf_change_in}
use Rattle.service_table.specs.Tables.{ServiceTable, kept_sub_of, saved_queue, table_of_saved}
use Rattle.service_fit.specs.Laws.{CanGoOn}
use Rattle.service_fit.proofs.FitSteps.{fit-call, fit-receipt}
use Rattle.service_fit.proofs.RestoredParts.{ntf-fit, value-back}
use Rattle.service_core.specs.Applying.{CanApply, next_in}
use Rattle.service_core.specs.Valuing.{items_of_sub, value_after}
use Rattle.service_core.proofs.FollowLaws.{next-is}
use Rattle.service_laws.specs.PlainOf.{item_message}
use Rattle.mirror.specs.ByValue.{items_pushed}
use Rattle.mirror.proofs.ByValueLaws.{next-in-is}
use Rattle.journal_frames.specs.Frames.{AreShort, body_of, framed}
use Rattle.journal_frames.proofs.Frames.{length-body}
use Rattle.journal_found.specs.Found.{AllFit, CanCome, Chain, Follower, Found, follower_after, texts_of}
use Rattle.journal_found.specs.Found.Chain.{starts, goes}
use Rattle.cold_servers.specs.Silent.{HasKeys, IsGoodValue}

-- The keys of subscriptions begin at 1.

abbrev Keyed : Subscription → Type 0
Keyed kept = 1 ≤ kept.key

abbrev AreKeyed : List Subscription → Type 0
AreKeyed subs = AllByRecursion Keyed subs

abbrev KeyFrom : NtfChange → Type 0
KeyFrom (Subscribed sub) = 1 ≤ sub.key
KeyFrom _ = Unit {0}

abbrev KeyOption : Option NtfChange → Type 0
KeyOption None = Unit {0}
KeyOption (Some change) = KeyFrom change

mapped-keys : (change : Subscription → Subscription) → ((kept : Subscription) → (change kept).key ≡ kept.key) → (subs : List Subscription) → AreKeyed subs → AreKeyed (map change subs)
mapped-keys change same [] keys = tt
mapped-keys change same (kept ∷ subs) keys =
    (subst (λ (key : ℕ). 1 ≤ key) (sym (same kept)) keys.0, mapped-keys change same subs keys.1)

change-keys : (change : NtfChange) (table : NtfTable) → KeyFrom change → AreKeyed table.subs → AreKeyed (after_change change table).subs
change-keys (Began client) table from keys = keys
change-keys (Ended client) table from keys = each-without Keyed (is_kept_for client) table.subs keys
change-keys (Subscribed sub) table from keys = each-put Keyed kept_first (sub_with sub _) table.subs from keys
change-keys (Unsubscribed client id) table from keys = each-without Keyed (is_kept_under client id) table.subs keys
change-keys (Sent notification number) table from keys = mapped-keys (offered_sub notification) (λ kept. refl) table.subs keys
change-keys (Acked client key through) table from keys = mapped-keys (received_sub client key through) (λ kept. refl) table.subs keys

notified-keys : (change : Option NtfChange) (table : NtfTable) → KeyOption change → AreKeyed table.subs → AreKeyed (notified change table).subs
notified-keys None table from keys = keys
notified-keys (Some change) table from keys = change-keys change table from keys

call-keys : (kept : ServiceTable) (client seq : ℕ) (now : ℤ) (call : Call) → 1 ≤ seq → KeyOption (ntf_change_in kept client seq now call)
call-keys kept client seq now NtfInit from = tt
call-keys kept client seq now (NtfSend notification) from = tt
call-keys kept client seq now (NtfSubscribe id filters) from = from
call-keys kept client seq now (NtfUnsubscribe id) from = tt
call-keys kept client seq now NtfFini from = tt
call-keys kept client seq now _ from = tt

ok-keys : (answered : Status) (change : Option NtfChange) → KeyOption change → KeyOption (if_ok answered change)
ok-keys status.Ok change from = from
ok-keys _ change from = tt

saved-keys : (subs : List Subscription) → AreKeyed subs → AllByRecursion (λ (sub : SavedSub). 1 ≤ sub.key) (map saved_queue subs)
saved-keys [] keys = tt
saved-keys (kept ∷ subs) keys = (keys.0, saved-keys subs keys.1)

kept-keys : (capacity : ℕ) (subs : List SavedSub) → AllByRecursion (λ (sub : SavedSub). 1 ≤ sub.key) subs → AreKeyed (map (kept_sub_of capacity) subs)
kept-keys capacity [] keys = tt
kept-keys capacity (sub ∷ subs) keys = (keys.0, kept-keys capacity subs keys.1)

keys-after : (entry : Entry) (saved : Saved) → IsFit saved → CanApply entry saved → HasKeys saved → HasKeys (value_after entry saved)
keys-after (Called client seq now call) saved fit can keys =
    let kept = table_of_saved saved in
    let from : 1 ≤ seq = omega (arith, can.1, next-in-is saved client fit) in
    let change = if_ok (status_in kept client now call) (ntf_change_in kept client seq now call) in
    saved-keys (notified change kept.ntf).subs
    (notified-keys change kept.ntf (ok-keys (status_in kept client now call) (ntf_change_in kept client seq now call) (call-keys kept client seq now call from))
    (kept-keys saved.capacity saved.subs keys))
keys-after (Receipted client key through now) saved fit can keys =
    let kept = table_of_saved saved in
    saved-keys (map (received_sub client key through) kept.ntf.subs)
    (mapped-keys (received_sub client key through) (λ sub. refl) kept.ntf.subs (kept-keys saved.capacity saved.subs keys))

-- **What an entry makes of a fit value is fit.**

goes-on : (saved : Saved) → IsFit saved → saved.number < 4000000000 → CanGoOn (table_of_saved saved)
goes-on saved fit few = record {
  queues = (ntf-fit saved fit).queues;
  fit = subst IsFit (sym (value-back saved fit)) fit;
  few = few;
}

fit-after : (entry : Entry) (saved : Saved) → IsFit saved → CanApply entry saved → IsFit (value_after entry saved)
fit-after (Called client seq now call) saved fit can =
    let kept = table_of_saved saved in
    fit-call kept client seq now call (record {
      table = goes-on saved fit can.0.few;
      caller = can.0.caller;
      moment = can.0.time;
      next = can.1 ∙ ap (λ (value : Saved). next_in value client) (sym (value-back saved fit)) ∙ next-is kept client;
    })
fit-after (Receipted client key through now) saved fit can =
    fit-receipt (table_of_saved saved) client key through (goes-on saved fit can.0.few)

pub good-after : (entry : Entry) (saved : Saved) → IsGoodValue saved → CanApply entry saved → IsGoodValue (value_after entry saved)
good-after entry saved good can =
    record { fit = fit-after entry saved good.fit can; keys = keys-after entry saved good.fit can good.keys }

pub number-after : (entry : Entry) (saved : Saved) → (value_after entry saved).number ≡ suc saved.number
number-after (Called client seq now call) saved = omega arith
number-after (Receipted client key through now) saved = omega arith

-- **What is pushed can be spelled.**

among-client : (client : ℕ) (users : List ℕ) → AllByRecursion IsClient users → list_any (λ (other : ℕ). other == client) users ≡ true → IsClient client
among-client client [] each is = cc
among-client client (user ∷ users) each is = by_case (user == client) refl (among-client client users each.1) is
  where
    by_case : (same : Bool) → (user == client) ≡ same → (list_any (λ (other : ℕ). other == client) users ≡ true → IsClient client) → (same || list_any (λ (other : ℕ). other == client) users) ≡ true → IsClient client
    by_case true equal rest found = let same : user ≡ client = grind (arith, nat_tests) in subst IsClient same each.0
    by_case false equal rest found = rest found

abbrev HasCalledBy : ℕ → Option SavedWindow → Type 0
HasCalledBy key found = MatchOption found ⊥ (λ (window : SavedWindow). key < window.next)

called-few : (number key client : ℕ) (windows : List SavedWindow) → AllByRecursion (IsFitWindow number) windows → HasCalledBy key (find (λ (window : SavedWindow). window.client == client) windows) → key ≤ number
called-few number key client [] each called = absurd called
called-few number key client (window ∷ windows) each called = by_case (window.client == client) (called-few number key client windows each.1) called
  where
    by_case : (same : Bool) → (HasCalledBy key (find (λ (it : SavedWindow). it.client == client) windows) → key ≤ number) → HasCalledBy key (cond same (Some window) (find (λ (it : SavedWindow). it.client == client) windows)) → key ≤ number
    by_case true rest found = omega (arith, found, each.0.next)
    by_case false rest found = rest found

items-range : (client key : ℕ) (number most : ℕ) (contents : List Content) → IsClient client → 1 ≤ key → key ≤ 4000000000 → 1 ≤ number → most ≤ 4000000000 → number + length contents ≤ most + 1 → AllByRecursion MessageInRange (map item_message (map (held_for client key) (numbered number contents)))
items-range client key number most [] own low high from few within = tt
items-range client key number most (content ∷ contents) own low high from few within = (
  (record { least = own.from; most = own.to }, record { least = low; most = omega arith }, record { number = record { least = from; most = omega arith } }),
  items-range client key (number + 1) most contents own low high (omega arith) few (omega (arith, within)),
)

sub-range : (saved : Saved) → IsFit saved → (sub : SavedSub) → IsFitSub saved sub → 1 ≤ sub.key → AllByRecursion MessageInRange (map item_message (items_of_sub sub))
sub-range saved fit sub is low =
    let own = among-client sub.client saved.ntf_users fit.subs.users.each is.user in
    let high = called-few saved.number sub.key sub.client saved.windows fit.windows.each is.key in
    items-range sub.client sub.key sub.first saved.number sub.held own low (omega (arith, high, fit.counts.entries)) is.first fit.counts.entries is.numbers

all-append : (front back : List Message) → AllByRecursion MessageInRange front → AllByRecursion MessageInRange back → AllByRecursion MessageInRange (front ++ back)
all-append [] back one other = other
all-append (first ∷ front) back one other = (one.0, all-append front back one.1 other)

subs-range : (saved : Saved) → IsFit saved → (subs : List SavedSub) → AllByRecursion (IsFitSub saved) subs → AllByRecursion (λ (sub : SavedSub). 1 ≤ sub.key) subs → AllByRecursion MessageInRange (map item_message (flat_map items_of_sub subs))
subs-range saved fit [] each keys = tt
subs-range saved fit (sub ∷ subs) each keys =
    subst (λ (messages : List Message). AllByRecursion MessageInRange messages) (sym (map-append item_message (items_of_sub sub) (flat_map items_of_sub subs)))
    (all-append (map item_message (items_of_sub sub)) (map item_message (flat_map items_of_sub subs)) (sub-range saved fit sub each.0 keys.0) (subs-range saved fit subs each.1 keys.1))

pub pushed-range : (saved : Saved) → IsGoodValue saved → AllByRecursion MessageInRange (items_pushed (Some saved))
pushed-range saved good = subs-range saved good.fit saved.subs good.fit.subs.each good.keys

-- **What a journal tells is a fit value, of at least as many entries as it has mirrors.**

subs-keyed : (subs : List SavedSub) → AllByRecursion SavedSubFits subs → AllByRecursion (λ (sub : SavedSub). 1 ≤ sub.key) subs
subs-keyed [] each = tt
subs-keyed (sub ∷ subs) each = (each.0.key.least, subs-keyed subs each.1)

spelled-keys : (saved : Saved) → SavedFits saved → HasKeys saved
spelled-keys saved fits = subs-keyed saved.subs (recursion_from_All SavedSubFits saved.subs fits.subs.1)

abbrev GoodSo : ℕ → Option Follower → Type 0
GoodSo count None = count ≡ 0
GoodSo count (Some follower) = IsGoodValue follower.saved × (count ≤ follower.saved.number + 1)

good-next : (next : Message) (count : ℕ) (follower : Option Follower) → CanCome next follower → MessageFits next → GoodSo count follower → GoodSo (count + 1) (follower_after next follower)
good-next (message.Snapshot saved) count None can fits good = (record { fit = can; keys = spelled-keys saved fits }, omega (arith, good))
good-next (message.Mirror number entry) count (Some follower) can fits good =
    (good-after entry follower.saved good.0 can.1, omega (arith, good.1, number-after entry follower.saved))
good-next (message.Snapshot saved) count (Some follower) can fits good = absurd can
good-next (message.Mirror number entry) count None can fits good = absurd can
good-next (message.Request client seq call) count follower can fits good = absurd can
good-next (message.Reply client seq reply) count follower can fits good = absurd can
good-next (message.Item client key item) count follower can fits good = absurd can
good-next (message.Receipt client key through) count follower can fits good = absurd can
good-next (message.MirrorAck number) count follower can fits good = absurd can
good-next (message.JoinAck number) count follower can fits good = absurd can

fit-front : (front : List Message) (last : Message) → AllFit (front ++ last ∷ []) → AllFit front × MessageFits last
fit-front [] last fits = (tt, fits.0)
fit-front (first ∷ front) last fits = let rest = fit-front front last fits.1 in ((fits.0, rest.0), rest.1)

chain-good : (all : List Message) (past : List Entry) (follower : Option Follower) → Chain all past follower → AllFit all → GoodSo (length all) follower
chain-good all past follower starts fits = refl
chain-good all past follower (goes {messages = messages} {past = early} {follower = before} next chain can) fits =
    let parts = fit-front messages next fits in
    let count : length messages + 1 ≡ length (messages ++ next ∷ []) = sym (length-append messages (next ∷ [])) in
    subst (λ (n : ℕ). GoodSo n (follower_after next before)) count
    (good-next next (length messages) before can parts.1 (chain-good messages early before chain parts.0))

-- the frames of so many texts are no longer than so many of the longest
frames-bound : (texts : List (List ℕ)) → AreShort texts → length (framed texts) ≤ length texts * 4294967299
frames-bound [] short = omega arith
frames-bound (text ∷ texts) short =
    let rest = frames-bound texts short.1 in
    let whole = length-append (body_of text) (framed texts) in
    omega (arith, rest, whole, length-body text, short.0)

texts-count : (messages : List Message) → length (texts_of messages) ≡ length messages
texts-count [] = refl
texts-count (next ∷ messages) = ap suc (texts-count messages)

pub record IsToldWell (saved : Saved) (end : ℕ) : Type 0 where
  pub good : IsGoodValue saved
  pub bound : end ≤ (saved.number + 1) * 4294967299

pub found-good : (bytes : List ℕ) (past : List Entry) (follower : Follower) → (found : Found bytes past follower) → IsToldWell follower.saved (length (framed (texts_of found.messages)))
found-good bytes past follower found =
    let told = chain-good found.messages past (Some follower) found.chain found.fits in
    record {
      good = told.0;
      bound = omega (arith, frames-bound (texts_of found.messages) found.holds.short, texts-count found.messages, told.1);
    }
