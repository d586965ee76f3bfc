-- Words of public clauses of the crate above: a reply that is told twice, and a reader with its point.
use Rattle.std.specs.Prelude.{◌≡◌, ℕ}
use Rattle.ais_values.specs.declared.status.Status.{Status}
use Rattle.ntf_filters.specs.declared.filter.FilterSet.{FilterSet}
use Rattle.alarm_view.specs.declared.cursor.Cursor.{Cursor}
use Rattle.calls.specs.declared.reply.Reply.{Reply}
use Rattle.calls.specs.declared.saved.SavedReader.{SavedReader}
use Rattle.plain_service.specs.Replies.{reply_by}
use Rattle.service_parts.specs.declared.told.Told.{Told}

-- both are the reply of the status, which an ok call is told so
pub record IsTold (answered : Status) (told : Reply) (twice : Told) : Type 0 where
  pub reply : twice.reply ≡ reply_by answered told
  pub kept : twice.kept ≡ reply_by answered told

-- a reader with its point
abbrev pub reader_at : (client : ℕ) → FilterSet → Cursor → SavedReader
reader_at client filters cursor =
    record { client = client; filters = filters; time = cursor.time; id = cursor.id; fresh = cursor.fresh }
