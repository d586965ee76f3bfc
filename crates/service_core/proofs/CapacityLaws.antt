-- No entry changes how many items a subscription holds.
use Rattle.std.proofs.Common.{◌≡◌, ℕ, refl, ap, ◌∙◌}
use Rattle.std.specs.Prelude.{Option, None, Some, ℤ}
use Rattle.calls.specs.declared.call.Call.{Call}
use Rattle.ntf_history.specs.Changes.{NtfChange}
use Rattle.ntf_history.specs.Changes.NtfChange.{Began, Ended, Subscribed, Unsubscribed, Sent, Receipted}
use Rattle.ntf_history.specs.Tables.{NtfTable}
use Rattle.plain_service.specs.Changing.{if_ok}
use Rattle.service_table.specs.Tables.{ServiceTable}
use Rattle.service_table.specs.Answering.{status_in}
use Rattle.service_table.specs.Steps.{ntf_change_in, notified, changed}

notified-capacity : (change : Option NtfChange) (table : NtfTable) → (notified change table).capacity ≡ table.capacity
notified-capacity None table = refl
notified-capacity (Some (Began client)) table = refl
notified-capacity (Some (Ended client)) table = refl
notified-capacity (Some (Subscribed sub)) table = refl
notified-capacity (Some (Unsubscribed client id)) table = refl
notified-capacity (Some (Sent notification record_number)) table = refl
notified-capacity (Some (Receipted client key through)) table = refl

pub changed-capacity : (old new : ServiceTable) (client seq : ℕ) (moment : ℤ) (call : Call) → new ≡ changed old client seq moment call (status_in old client moment call) → new.ntf.capacity ≡ old.ntf.capacity
changed-capacity old new client seq moment call is =
    ap (λ (table : ServiceTable). table.ntf.capacity) is
    ∙ notified-capacity (if_ok (status_in old client moment call) (ntf_change_in old client seq moment call)) old.ntf
