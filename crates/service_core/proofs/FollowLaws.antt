-- A service that stands for a history stands for the longer one after an entry.
use Rattle.std.proofs.Common.{◌≡◌, ℕ, ◌==◌, ◌&&◌, List, [], ◌∷◌, refl, ap, sym, ◌∙◌}
use Rattle.std.specs.Prelude.{Option, Some, None, ℤ, option_map, find}
use Rattle.std.specs.Option.{option_map_or}
use Rattle.calls.specs.declared.call.Call.{Call}
use Rattle.calls.specs.declared.reply.Reply.{Reply}
use Rattle.calls.specs.declared.entry.Entry.{Entry}
use Rattle.calls.specs.declared.entry.Entry.TheVariants.{Called, Receipted}
use Rattle.calls.specs.declared.saved.SavedSub.{SavedSub}
use Rattle.calls.specs.declared.saved.SavedWindow.{SavedWindow}
use Rattle.client_window.specs.Windows.{window_of}
use Rattle.log_history.specs.Deeds.{deeds_of_all}
use Rattle.log_history.proofs.FirstLaws.{find-map}
use Rattle.ntf_history.specs.Kept.{Subscription}
use Rattle.ntf_history.specs.Tables.{HaveQueues, is_kept_at, is_new_for, is_new_in}
use Rattle.ntf_history.proofs.AnswerLaws.{is_new-kept}
use Rattle.plain_service.specs.Setups.{Setup}
use Rattle.plain_service.specs.Changing.{past_of}
use Rattle.plain_service.specs.Items.{is_new_receipt}
use Rattle.plain_service.specs.Legal.{IsHistory, CanFollow}
use Rattle.plain_service.specs.Replies.{replies_to}
use Rattle.plain_service.specs.Storing.{deeds_of}
use Rattle.plain_service.specs.Values.{StandsFor}
use Rattle.service_table.specs.declared.caller.ClientWindow.{ClientWindow}
use Rattle.service_table.specs.Tables.{ServiceTable, saved_table, saved_window, saved_queue, is_window_for}
use Rattle.service_table.specs.Answering.{reply_in}
use Rattle.service_table.specs.Steps.{window_for, after_call, after_receipt_in, events_in}
use Rattle.service_table.specs.Histories.{service_of}
use Rattle.service_table.proofs.ServiceSteps.{reply-is, deeds-is, call-step, receipt-taken}
use Rattle.service_table.proofs.SavedLaws.{stands-table, table-stands}
use Rattle.service_table.proofs.WindowSteps.{window-kept}
use Rattle.service_core.specs.declared.effect.Effect.{Effect}
use Rattle.service_core.specs.Applying.{next_in, holds_item, is_new_in as is_new_saved}
use Rattle.service_core.specs.Following.{HasFollowed}
use Rattle.service_core.specs.Inside.{HasApplied}

-- what callers read of a value is what the table tells

next-mapped : (found : Option ClientWindow) → option_map_or (λ (window : SavedWindow). window.next) (option_map saved_window found) 1 ≡ (option_map_or (λ (caller : ClientWindow). caller.window) found (window_of [])).next
next-mapped None = refl
next-mapped (Some caller) = refl

pub next-is : (kept : ServiceTable) (client : ℕ) → next_in (saved_table kept) client ≡ (window_for client kept.windows).next
next-is kept client =
    ap (λ found. option_map_or (λ (window : SavedWindow). window.next) found 1) (find-map saved_window (is_window_for client) (λ (window : SavedWindow). window.client == client) (λ _. refl) kept.windows)
    ∙ next-mapped (find (is_window_for client) kept.windows)

new-mapped : (through : ℕ) (found : Option Subscription) → holds_item through (option_map saved_queue found) ≡ is_new_for found through
new-mapped through None = refl
new-mapped through (Some kept) = refl

pub new-is : (kept : ServiceTable) (client key through : ℕ) → is_new_saved (saved_table kept) client key through ≡ is_new_in kept.ntf client key through
new-is kept client key through =
    ap (holds_item through) (find-map saved_queue (is_kept_at client key) (λ (sub : SavedSub). sub.client == client && sub.key == key) (λ _. refl) kept.ntf.subs)
    ∙ new-mapped through (find (is_kept_at client key) kept.ntf.subs)

-- **a receipt is new for the table of a value exactly where it is for each history that the value stands for**
pub new-stands : (setup : Setup) (past : List Entry) (kept : ServiceTable) → HaveQueues kept.ntf.capacity kept.ntf.subs → StandsFor setup past (saved_table kept) → (client key through : ℕ) → is_new_in kept.ntf client key through ≡ is_new_receipt setup past client key through
unfolding service_of is_new_receipt
new-stands setup past kept queues stands client key through =
    ap (λ (table : ServiceTable). is_new_in table.ntf client key through) (stands-table setup past kept queues stands)
    ∙ is_new-kept setup.capacity (past_of setup past).ntf client key through

-- **a call**
pub followed-call : (setup : Setup) (past : List Entry) (client seq : ℕ) (now : ℤ) (call : Call) (kept later : ServiceTable) (effect : Effect) → HaveQueues kept.ntf.capacity kept.ntf.subs → IsHistory setup past → StandsFor setup past (saved_table kept) → CanFollow setup (Called client seq now call) past → HasApplied kept client seq now call later effect → HasFollowed setup past (Called client seq now call) (saved_table later) effect
followed-call setup past client seq now call kept later effect queues history stands can applied =
    let is : kept ≡ service_of setup past = stands-table setup past kept queues stands in
    let after : later ≡ service_of setup (Called client seq now call ∷ past) =
    applied.now ∙ ap (λ k. after_call k client seq now call) is ∙ sym (call-step setup client seq now call past (can, history)) in
    record {
      stands = table-stands setup (Called client seq now call ∷ past) later after;
      reply = applied.reply ∙ ap (λ (k : ServiceTable). Some (reply_in k client now call)) is ∙ ap (λ (r : Reply). Some r) (reply-is setup past history client now call);
      deeds = applied.deeds ∙ ap (λ k. deeds_of_all (events_in k client now call)) is ∙ deeds-is setup past history client seq now call;
    }

no-deeds : (setup : Setup) (past : List Entry) (client key through : ℕ) (now : ℤ) → [] ≡ deeds_of setup past (Receipted client key through now)
unfolding deeds_of
no-deeds setup past client key through now = refl

-- **a receipt**
pub followed-receipt : (setup : Setup) (past : List Entry) (client key through : ℕ) (now : ℤ) (kept later : ServiceTable) (effect : Effect) → HaveQueues kept.ntf.capacity kept.ntf.subs → IsHistory setup past → StandsFor setup past (saved_table kept) → CanFollow setup (Receipted client key through now) past → later ≡ after_receipt_in kept client key through → effect.reply ≡ None → effect.deeds ≡ [] → HasFollowed setup past (Receipted client key through now) (saved_table later) effect
followed-receipt setup past client key through now kept later effect queues history stands can is_later reply deeds =
    let is : kept ≡ service_of setup past = stands-table setup past kept queues stands in
    let after : later ≡ service_of setup (Receipted client key through now ∷ past) =
    is_later ∙ ap (λ k. after_receipt_in k client key through) is ∙ sym (receipt-taken setup client key through now past (can, history)) in
    record {
      stands = table-stands setup (Receipted client key through now ∷ past) later after;
      reply = reply;
      deeds = deeds ∙ no-deeds setup past client key through now;
    }

-- the window of a client holds the replies that it was ever given
pub window-is : (setup : Setup) (past : List Entry) (client : ℕ) (kept : ServiceTable) → kept ≡ service_of setup past → window_for client kept.windows ≡ window_of (replies_to setup client past)
unfolding service_of
window-is setup past client kept is = ap (λ (k : ServiceTable). window_for client k.windows) is ∙ window-kept setup client past
