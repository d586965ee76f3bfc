-- What a service answers, and what an entry makes of it, by its value alone.
use Rattle.std.proofs.Common.{◌≡◌, ℕ, ◌==◌, List, [], refl, ap, sym, ◌∙◌}
use Rattle.std.specs.Prelude.{Option, Some, None, ℤ, find, option_map}
use Rattle.std.specs.Option.{option_map_or}
use Rattle.std.proofs.lemmas.List.{reverse-reverse}
use Rattle.client_set.specs.Rising.{IsRising}
use Rattle.client_window.specs.Windows.{Kept, window_of, window_of_parts}
use Rattle.calls.specs.declared.call.Call.{Call}
use Rattle.calls.specs.declared.entry.Entry.TheVariants.{Called, Receipted}
use Rattle.calls.specs.declared.reply.Reply.{Reply}
use Rattle.calls.specs.declared.saved.SavedWindow.{SavedWindow}
use Rattle.log_history.specs.Deeds.{deeds_of_all}
use Rattle.log_history.proofs.FirstLaws.{find-map}
use Rattle.ntf_history.specs.Tables.{HaveQueues}
use Rattle.plain_service.specs.Fitness.{IsFit}
use Rattle.service_table.specs.declared.caller.ClientWindow.{ClientWindow}
use Rattle.service_table.specs.Tables.{ServiceTable, saved_window, saved_table, is_window_for, window_before}
use Rattle.service_table.specs.Answering.{reply_in}
use Rattle.service_table.specs.Steps.{window_for, after_call, after_receipt_in, events_in}
use Rattle.service_table.proofs.SavedLaws.{table-back}
use Rattle.service_fit.proofs.WindowsFit.{callers-of}
use Rattle.service_core.specs.declared.effect.Effect.{Effect}
use Rattle.service_core.specs.Inside.{HasApplied}
use Rattle.service_core.specs.Valuing.{window_in, Applies}

-- the windows of a fit value stand in order
pub windows-rise : (kept : ServiceTable) → IsFit (saved_table kept) → IsRising window_before kept.windows
windows-rise kept fit = (callers-of kept.number kept.windows fit.windows.clients fit.windows.each).order

-- the window of a client

window-mapped : (found : Option ClientWindow) → option_map_or (λ (window : SavedWindow). window_of_parts window.next window.replies) (option_map saved_window found) (window_of []) ≡ option_map_or (λ (caller : ClientWindow). caller.window) found (window_of [])
window-mapped None = refl
window-mapped (Some caller) =
    ap (λ (replies : List Reply). let window : Kept Reply = record { next = caller.window.next; replies = replies } in window) (reverse-reverse caller.window.replies)

pub window-saved : (kept : ServiceTable) (client : ℕ) → window_in (saved_table kept) client ≡ window_for client kept.windows
window-saved kept client =
    ap (λ found. option_map_or (λ (window : SavedWindow). window_of_parts window.next window.replies) found (window_of [])) (find-map saved_window (is_window_for client) (λ (window : SavedWindow). window.client == client) (λ _. refl) kept.windows)
    ∙ window-mapped (find (is_window_for client) kept.windows)

-- **a call**
pub call-applies : (client seq : ℕ) (now : ℤ) (call : Call) (kept later : ServiceTable) (effect : Effect) → HaveQueues kept.ntf.capacity kept.ntf.subs → HasApplied kept client seq now call later effect → Applies (Called client seq now call) (saved_table kept) (saved_table later) effect
call-applies client seq now call kept later effect queues applied =
    let back = sym (table-back kept queues) in
    record {
      value = ap saved_table applied.now ∙ ap (λ k. saved_table (after_call k client seq now call)) back;
      reply = applied.reply ∙ ap (λ (k : ServiceTable). Some (reply_in k client now call)) back;
      deeds = applied.deeds ∙ ap (λ k. deeds_of_all (events_in k client now call)) back;
    }

-- **a receipt**
pub receipt-applies : (client key through : ℕ) (now : ℤ) (kept later : ServiceTable) (effect : Effect) → HaveQueues kept.ntf.capacity kept.ntf.subs → later ≡ after_receipt_in kept client key through → effect.reply ≡ None → effect.deeds ≡ [] → Applies (Receipted client key through now) (saved_table kept) (saved_table later) effect
receipt-applies client key through now kept later effect queues is reply deeds = record {
  value = ap saved_table is ∙ ap (λ k. saved_table (after_receipt_in k client key through)) (sym (table-back kept queues));
  reply = reply;
  deeds = deeds;
}
