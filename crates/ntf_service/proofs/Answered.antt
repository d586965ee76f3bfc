-- What an answer tells.
use Rattle.std.proofs.Common.{◌≡◌, ℕ, ◌<◌, nat_le, Bool, true, false, refl, sym, length, arith}
use Rattle.std.specs.Prelude.{◌↔◌, Result, Ok, Err, is_ok, IsOk}
use Rattle.std.specs.List.{list_any}
use Rattle.std.proofs.lemmas.Bool.Decides.{nat_tests}
use Rattle.ais_values.specs.declared.status.Status.TheVariants as status
use Rattle.ntf_filters.specs.declared.filter.FilterSet.{FilterSet}
use Rattle.ntf_filters.specs.Fit.{IsFit}
use Rattle.ntf_filters.specs.FitTests.{is_fit}
use Rattle.ntf_filters.proofs.Meaning.{is_fit-decides}
use Rattle.client_set.specs.Members.{has}
use Rattle.ntf_history.specs.Rows.{answer, subscribe_by}
use Rattle.ntf_history.specs.Tables.{NtfTable, is_kept_under}
use Rattle.ntf_service.specs.State.{subscribe_answer}

-- a check of filters that tells whether they are fit tells the test
pub usable : {T E : Type 0} (filters : FilterSet) (r : Result T E) → IsOk r ↔ IsFit filters → is_ok r ≡ is_fit filters
usable filters (Ok value) tells = sym ((is_fit-decides filters).1 (tells.0 refl))
usable filters (Err error) tells = fails (is_fit filters) refl where
  fails : (b : Bool) → is_fit filters ≡ b → false ≡ is_fit filters
  fails true is =
      let accepted = tells.1 ((is_fit-decides filters).0 is) in
      cc
  fails false is = sym is

-- a subscription is made only while fewer than 64 last
made-room : (a b c d : Bool) → answer (subscribe_by a b c d) ≡ status.Ok → d ≡ false
made-room true true false false is = refl
made-room true true false true is = cc
made-room true true true d is = cc
made-room true false c d is = cc
made-room false b c d is = cc

pub room-left : (client id : ℕ) (filters : FilterSet) (table : NtfTable) → subscribe_answer client id filters table ≡ status.Ok → length table.subs < 64
room-left client id filters table is =
    let few = made-room (has client table.users) (is_fit filters) (list_any (is_kept_under client id) table.subs) (nat_le 64 (length table.subs)) is in
    grind (arith, nat_tests)
