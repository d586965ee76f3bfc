-- Words of bodies alone: what is kept as a service begins.
use Rattle.std.specs.Prelude.{◌≡◌, ℕ, List, []}
use Rattle.stream_layout.specs.declared.deed.Deed.{Deed}
use Rattle.log_history.specs.Table.{LogTable}
use Rattle.ntf_history.specs.Tables.{empty_table}
use Rattle.plain_service.specs.Setups.{Setup}
use Rattle.plain_service.specs.Storing.{opening_of}
use Rattle.service_table.specs.Tables.{ServiceTable}
use Rattle.service_table.specs.Histories.{service_of}
use Rattle.service_core.specs.declared.kept.Kept.{Kept}
use Rattle.service_core.specs.Inside.{kept_table}

-- the table of a service that nobody has used
abbrev pub unused_table : ℕ → LogTable → ServiceTable
unused_table cap log =
    record { number = 0; log = log; ntf = empty_table cap; alarms = []; readers = []; windows = [] }

-- what is kept is the table of the empty history
pub record HasOpened (setup : Setup) (kept : Kept) (deeds : List Deed) : Type 0 where
  pub now : kept_table kept ≡ service_of setup []
  pub done : deeds ≡ opening_of setup
