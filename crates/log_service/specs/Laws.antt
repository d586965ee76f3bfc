-- Words of public clauses, those of the laws: what the kept table answers is what the rows of the history say.
use Rattle.std.specs.Prelude.{◌≡◌, ℕ, ℤ, List, Option}
use Rattle.stream_config.specs.declared.attrs.StreamName.{StreamName}
use Rattle.stream_config.specs.declared.attrs.StreamAttrs.{StreamAttrs}
use Rattle.record_print.specs.declared.record.Header.{Header}
use Rattle.log_history.specs.Changes.{LogChange}
use Rattle.log_history.specs.Chronicle.{LogSetup}
use Rattle.log_history.specs.Table.{table}
use Rattle.log_history.specs.Answers.{open_answer, write_answer, filter_answer}
use Rattle.log_history.specs.KeptAnswers.{open_status, write_status, filter_status}

abbrev pub OpensByRows : LogSetup → List LogChange → Type 0
OpensByRows setup past =
    (client : ℕ) (name : StreamName) (create : Option StreamAttrs) →
    open_status (table setup past) client name create ≡ open_answer setup past client name create

abbrev pub WritesByRows : LogSetup → List LogChange → Type 0
WritesByRows setup past =
    (client : ℕ) (name : StreamName) (flags : ℕ) (time : ℤ) (header : Header) (body : List ℕ) (now : ℤ) →
    write_status (table setup past) client name flags time header body now
    ≡ write_answer setup past client name flags time header body now

abbrev pub FiltersByRows : LogSetup → List LogChange → Type 0
FiltersByRows setup past =
    (client : ℕ) (name : StreamName) (mask : ℕ) →
    filter_status (table setup past) client name mask ≡ filter_answer setup past client name mask
