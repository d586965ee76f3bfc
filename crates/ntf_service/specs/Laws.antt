-- Words of public clauses, those of the laws: what the kept table answers is what the rows of the history say.
use Rattle.std.specs.Prelude.{◌≡◌, ℕ, List}
use Rattle.ntf_filters.specs.declared.filter.FilterSet.{FilterSet}
use Rattle.ntf_history.specs.Changes.{NtfChange}
use Rattle.ntf_history.specs.Tables.{table_of}
use Rattle.ntf_history.specs.Rows.{answer, subscribe_rows}
use Rattle.ntf_service.specs.State.{subscribe_answer}

abbrev pub SubscribesByRows : ℕ → List NtfChange → Type 0
SubscribesByRows capacity past =
    (client id : ℕ) (filters : FilterSet) →
    subscribe_answer client id filters (table_of capacity past) ≡ answer (subscribe_rows past client id filters)
