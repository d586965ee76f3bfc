-- Words of bodies alone: how a service is kept, and what an entry makes of it.
use Rattle.std.specs.Prelude.{◌≡◌, ℕ, ℤ, Some}
use Rattle.calls.specs.declared.call.Call.{Call}
use Rattle.calls.specs.declared.saved.Saved.{Saved}
use Rattle.log_history.specs.Deeds.{deeds_of_all}
use Rattle.service_table.specs.Tables.{ServiceTable, saved_table}
use Rattle.service_table.specs.Answering.{reply_in}
use Rattle.service_table.specs.Steps.{after_call, events_in}
use Rattle.plain_service.specs.Fitness.{IsFit}
use Rattle.service_core.specs.declared.effect.Effect.{Effect}
use Rattle.service_core.specs.declared.kept.Kept.{Kept}
use Rattle.service_core.specs.declared.service.Service.TheInside.{Inside}
use Rattle.service_core.specs.Acting.{table_with_parts}

-- the table of what is kept
abbrev pub kept_table : Kept → ServiceTable
kept_table kept = table_with_parts kept.parts.number kept.parts kept.callers.items

abbrev pub saved_inside : Inside → Saved
saved_inside inside = saved_table (kept_table inside.whole.value.kept)

-- the value of what is kept is fit
abbrev pub HasFitValue : Kept → Type 0
HasFitValue kept = IsFit (saved_table (kept_table kept))

-- the value is fit, and the capacity is that of the queues
pub record IsKeptAs (kept : ServiceTable) (cap : ℕ) : Type 0 where
  pub fit : IsFit (saved_table kept)
  pub capacity : cap ≡ kept.ntf.capacity

abbrev pub IsKept : Inside → Type 0
IsKept inside = IsKeptAs (kept_table inside.whole.value.kept) inside.whole.value.cap

-- a call was applied
pub record HasApplied (old : ServiceTable) (client seq : ℕ) (moment : ℤ) (call : Call) (new : ServiceTable) (effect : Effect) : Type 0 where
  pub now : new ≡ after_call old client seq moment call
  pub reply : effect.reply ≡ Some (reply_in old client moment call)
  pub deeds : effect.deeds ≡ deeds_of_all (events_in old client moment call)
