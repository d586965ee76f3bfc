-- What is kept after one more entry of a history is what the entry's change makes of what was kept before.
use Rattle.std.proofs.Common.{◌≡◌, ℕ, List, [], ◌∷◌, length, refl, arith}
use Rattle.std.specs.Prelude.{Option, Some, None, ℤ}
use Rattle.std.specs.Option.{option_map_or}
use Rattle.std.specs.List.{cons_option}
use Rattle.calls.specs.declared.call.Call.{Call}
use Rattle.calls.specs.declared.entry.Entry.{Entry}
use Rattle.calls.specs.declared.entry.Entry.TheVariants.{Called, Receipted}
use Rattle.log_history.specs.Changes.{LogChange}
use Rattle.log_history.specs.Chronicle.{LogSetup}
use Rattle.log_history.specs.Legal.{IsLogHistory}
use Rattle.log_history.specs.Table.{table, table_after}
use Rattle.log_history.proofs.TableLaws.{table-after}
use Rattle.ntf_history.specs.Changes.{NtfChange}
use Rattle.ntf_history.specs.Possible.{ArePossible}
use Rattle.ntf_history.specs.Tables.{table_of, after_change, after_receipt}
use Rattle.ntf_history.proofs.TableLaws.{table_of-step}
use Rattle.plain_service.specs.Setups.{Setup, log_setup}
use Rattle.plain_service.specs.Answers.{status_of}
use Rattle.plain_service.specs.Changing.{past_of, ntf_change, if_ok}
use Rattle.plain_service.specs.Legal.{IsHistory}
use Rattle.plain_service.specs.Storing.{log_change_by}
use Rattle.plain_service.proofs.Possible.{possible}

-- each entry is counted
pub count-is : (setup : Setup) (entries : List Entry) → (past_of setup entries).number ≡ length entries
count-is setup [] = refl
count-is setup (Called client seq now call ∷ entries) = omega (arith, count-is setup entries)
count-is setup (Receipted client key through now ∷ entries) = omega (arith, count-is setup entries)

log-option : (setup : LogSetup) (past : List LogChange) (change : Option LogChange) → IsLogHistory setup (cons_option change past) → table setup (cons_option change past) ≡ option_map_or (λ c. table_after c (table setup past)) change (table setup past)
log-option setup past None legal = refl
log-option setup past (Some change) legal = table-after setup change past legal

-- **what is kept of the Log Service**
pub log-step : (setup : Setup) (entry : Entry) (entries : List Entry) → IsHistory setup (entry ∷ entries) → table (log_setup setup) (past_of setup (entry ∷ entries)).log ≡ option_map_or (λ c. table_after c (table (log_setup setup) (past_of setup entries).log)) (log_change_by setup (past_of setup entries) entry) (table (log_setup setup) (past_of setup entries).log)
log-step setup (Called client seq now call) entries history =
    log-option (log_setup setup) (past_of setup entries).log (log_change_by setup (past_of setup entries) (Called client seq now call)) (possible setup (Called client seq now call ∷ entries) history).log
log-step setup (Receipted client key through now) entries history = refl

ntf-option : (capacity : ℕ) (past : List NtfChange) (change : Option NtfChange) → ArePossible (cons_option change past) → table_of capacity (cons_option change past) ≡ option_map_or (λ c. after_change c (table_of capacity past)) change (table_of capacity past)
ntf-option capacity past None possible_after = refl
ntf-option capacity past (Some change) possible_after = table_of-step capacity change past possible_after.0

-- **what is kept of the Notification Service, after a call and after a receipt**
pub ntf-step : (setup : Setup) (client seq : ℕ) (now : ℤ) (call : Call) (entries : List Entry) → IsHistory setup (Called client seq now call ∷ entries) → table_of setup.capacity (past_of setup (Called client seq now call ∷ entries)).ntf ≡ option_map_or (λ c. after_change c (table_of setup.capacity (past_of setup entries).ntf)) (if_ok (status_of setup (past_of setup entries) client now call) (ntf_change setup (past_of setup entries) client seq now call)) (table_of setup.capacity (past_of setup entries).ntf)
ntf-step setup client seq now call entries history =
    ntf-option setup.capacity (past_of setup entries).ntf (if_ok (status_of setup (past_of setup entries) client now call) (ntf_change setup (past_of setup entries) client seq now call)) (possible setup (Called client seq now call ∷ entries) history).ntf

pub receipt-step : (setup : Setup) (client key through : ℕ) (now : ℤ) (entries : List Entry) → IsHistory setup (Receipted client key through now ∷ entries) → table_of setup.capacity (past_of setup (Receipted client key through now ∷ entries)).ntf ≡ after_receipt client key through (table_of setup.capacity (past_of setup entries).ntf)
receipt-step setup client key through now entries history =
    table_of-step setup.capacity (NtfChange.Receipted client key through) (past_of setup entries).ntf (possible setup (Receipted client key through now ∷ entries) history).ntf.0
