-- The deeds of an entry carry the files of a history on, and those of the start make its first files.
use Rattle.std.proofs.Common.{◌≡◌, ℕ, ◌≤◌, List, [], ◌∷◌, refl, arith}
use Rattle.std.specs.Prelude.{Option, Some, None}
use Rattle.std.specs.Option.{option_map_or}
use Rattle.std.specs.List.{cons_option}
use Rattle.disk_model.specs.Disk.{no_files}
use Rattle.disk_model.specs.DeviceCalls.{all_applied}
use Rattle.stream_layout.specs.Deeds.{calls_of_all}
use Rattle.calls.specs.declared.entry.Entry.{Entry}
use Rattle.calls.specs.declared.entry.Entry.TheVariants.{Called, Receipted}
use Rattle.log_history.specs.Changes.{LogChange}
use Rattle.log_history.specs.Chronicle.{LogSetup}
use Rattle.log_history.specs.Deeds.{deeds_of_all}
use Rattle.log_history.specs.Files.{disk_files}
use Rattle.log_history.specs.Legal.{IsLogHistory}
use Rattle.log_history.specs.Stamps.{second_in, CanStamp}
use Rattle.log_history.specs.Table.{table, events_of}
use Rattle.log_history.proofs.FilesLaws.{change-carries, start-carries}
use Rattle.log_history.proofs.StampLaws.{AreTimely}
use Rattle.plain_service.specs.Setups.{Setup, log_setup, CanBegin}
use Rattle.plain_service.specs.Changing.{past_of}
use Rattle.plain_service.specs.Legal.{IsHistory}
use Rattle.plain_service.specs.Storing.{files_of, log_change_by, deeds_of, opening_of}
use Rattle.plain_service.proofs.HistoryEvents.{timely, starts-early, can-stamp}
use Rattle.plain_service.proofs.Possible.{possible}

option-carries : (setup : LogSetup) (log : List LogChange) (change : Option LogChange) → IsLogHistory setup (cons_option change log) → AreTimely (cons_option change log) → ((second : ℕ) → second ≤ 9000000000 → CanStamp setup log second) → all_applied (calls_of_all (deeds_of_all (option_map_or (λ c. events_of c (table setup log)) change []))) (disk_files setup log) ≡ disk_files setup (cons_option change log)
option-carries setup log None legal early can = refl
option-carries setup log (Some change) legal early can = change-carries setup log change legal (can (second_in change) early.0)

-- **performing the deeds of an entry on the files of the history before it gives the files after it**
pub files-work : (setup : Setup) (entry : Entry) (entries : List Entry) → IsHistory setup (entry ∷ entries) → all_applied (calls_of_all (deeds_of setup entries entry)) (files_of setup entries) ≡ files_of setup (entry ∷ entries)
unfolding files_of deeds_of
files-work setup (Called client seq now call) entries history =
    let log = (past_of setup entries).log in
    option-carries (log_setup setup) log (log_change_by setup (past_of setup entries) (Called client seq now call))
    (possible setup (Called client seq now call ∷ entries) history).log
    (timely setup (Called client seq now call ∷ entries) history)
    (λ second early. can-stamp setup entries second history.1 history.0.0.few early)
files-work setup (Receipted client key through now) entries history = refl

-- **performing the deeds of the start on no files gives those of the empty history**
pub files-open : (setup : Setup) → CanBegin setup → all_applied (calls_of_all (opening_of setup)) no_files ≡ files_of setup []
unfolding files_of opening_of
files-open setup begins =
    let early = starts-early setup [] begins in
    start-carries (log_setup setup) begins.streams (omega (arith, early))
