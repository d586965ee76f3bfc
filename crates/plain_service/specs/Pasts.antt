-- Words of public clauses: all that happened, by what it changed in each part of the service, the newest first.
use Rattle.std.specs.Prelude.{ℕ, ◌+◌, List, []}
use Rattle.log_history.specs.Changes.{LogChange}
use Rattle.ntf_history.specs.Changes.{NtfChange}
use Rattle.ntf_history.specs.Readers.{ReaderChange}

-- the changes of the Log Service, of the Notification Service, and of the readers of stored alarms; and how many entries were accepted
pub record Past : Type 0 where
  pub log : List LogChange
  pub ntf : List NtfChange
  pub readings : List ReaderChange
  pub number : ℕ

-- nothing happened yet
abbrev pub no_past : Past
no_past = record { log = []; ntf = []; readings = []; number = 0 }

-- one entry more, which changed nothing
abbrev pub counted : Past → Past
counted past = record { log = past.log; ntf = past.ntf; readings = past.readings; number = past.number + 1 }
