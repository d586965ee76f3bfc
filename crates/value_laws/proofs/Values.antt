-- What an entry makes of a history's value, and its deeds by that value.
use Rattle.std.proofs.Common.{◌≡◌, ℕ, List, [], ◌∷◌, refl, ap, sym, ◌∙◌, ℤ}
use Rattle.calls.specs.declared.entry.Entry.{Entry}
use Rattle.plain_service.specs.Setups.{Setup}
use Rattle.plain_service.specs.Values.{saved_of}
use Rattle.service_table.specs.Tables.{saved_table, table_of_saved}
use Rattle.service_table.specs.Histories.{service_of}
use Rattle.calls.specs.declared.entry.Entry.TheVariants.{Called, Receipted}
use Rattle.plain_service.specs.Legal.{IsHistory, CanFollow}
use Rattle.service_core.specs.Valuing.{value_after, deeds_by_value}
use Rattle.log_history.specs.Deeds.{deeds_of_all}
use Rattle.plain_service.specs.Storing.{deeds_of}
use Rattle.service_table.specs.Steps.{after_call, after_receipt_in, events_in}
use Rattle.service_table.proofs.ServiceSteps.{call-step, receipt-taken, deeds-is}
use Rattle.service_table.proofs.SavedLaws.{value-is, history-back}

table-is : (setup : Setup) (past : List Entry) → table_of_saved (saved_of setup past) ≡ service_of setup past
table-is setup past = ap table_of_saved (sym (value-is setup past)) ∙ history-back setup past

pub value-follows : (setup : Setup) (past : List Entry) (entry : Entry) → IsHistory setup past → CanFollow setup entry past → value_after entry (saved_of setup past) ≡ saved_of setup (entry ∷ past)
value-follows setup past (Called client seq now call) history can =
    ap (λ k. saved_table (after_call k client seq now call)) (table-is setup past)
    ∙ ap saved_table (sym (call-step setup client seq now call past (can, history)))
    ∙ value-is setup (Called client seq now call ∷ past)
value-follows setup past (Receipted client key through now) history can =
    ap (λ k. saved_table (after_receipt_in k client key through)) (table-is setup past)
    ∙ ap saved_table (sym (receipt-taken setup client key through now past (can, history)))
    ∙ value-is setup (Receipted client key through now ∷ past)

no-deeds : (setup : Setup) (past : List Entry) (client key through : ℕ) (now : ℤ) → [] ≡ deeds_of setup past (Receipted client key through now)
unfolding deeds_of
no-deeds setup past client key through now = refl

pub deeds-follow : (setup : Setup) (past : List Entry) (entry : Entry) → IsHistory setup past → deeds_by_value entry (saved_of setup past) ≡ deeds_of setup past entry
deeds-follow setup past (Called client seq now call) history =
    ap (λ k. deeds_of_all (events_in k client now call)) (table-is setup past) ∙ deeds-is setup past history client seq now call
deeds-follow setup past (Receipted client key through now) history = no-deeds setup past client key through now
