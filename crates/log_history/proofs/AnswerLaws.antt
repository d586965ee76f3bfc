-- What an ok answer tells: no row of the table held.
use Rattle.std.proofs.Common.{◌≡◌, ℕ, Bool, true, false, not, List, [], ◌∷◌, refl, ap, sym, ◌∙◌}
use Rattle.std.specs.Prelude.{Some, None, option_map, is_some}
use Rattle.ais_values.specs.declared.status.Status.TheVariants as status
use Rattle.stream_config.specs.declared.attrs.StreamAttrs.{StreamAttrs}
use Rattle.stream_config.specs.declared.attrs.StreamName.{StreamName}
use Rattle.stream_config.specs.Attributes.{kind_of, PassesAttrs}
use Rattle.stream_config.specs.AttributeTests.{passes_attrs}
use Rattle.stream_config.proofs.AttributeLaws.{decides_attrs}
use Rattle.log_history.specs.Names.{is_application}
use Rattle.log_history.specs.Changes.{LogChange}
use Rattle.log_history.specs.Handles.{is_using}
use Rattle.log_history.specs.Chronicle.{LogSetup, Stream}
use Rattle.log_history.specs.Answers.{answer, open_rows, living_stream, is_place_taken, is_crowded, open_answer}
use Rattle.log_history.proofs.FirstLaws.{none_is}

-- what an ok open of a stream that did not live tells
pub record MakesStream (setup : LogSetup) (past : List LogChange) (client : ℕ) (name : StreamName) (attrs : StreamAttrs) : Type 0 where
  pub using : is_using past client ≡ true
  pub application : is_application name ≡ true
  pub passes : PassesAttrs (kind_of name) attrs
  pub free : is_place_taken setup past attrs ≡ false
  pub room : is_crowded setup past ≡ false

pub open-rows : (using application passes taken crowded : Bool) → answer ((not using, status.BadHandle) ∷ (not application, status.InvalidParam) ∷ (not passes, status.InvalidParam) ∷ (false, status.Ok) ∷ (false, status.Exist) ∷ (taken, status.Exist) ∷ (crowded, status.NoResources) ∷ []) ≡ status.Ok → (using ≡ true) × (application ≡ true) × (passes ≡ true) × (taken ≡ false) × (crowded ≡ false)
open-rows false application passes taken crowded ok = cc
open-rows true false passes taken crowded ok = cc
open-rows true true false taken crowded ok = cc
open-rows true true true true crowded ok = cc
open-rows true true true false true ok = cc
open-rows true true true false false ok = (refl, refl, refl, refl, refl)

pub makes-stream : (setup : LogSetup) (past : List LogChange) (client : ℕ) (name : StreamName) (attrs : StreamAttrs) → is_some (living_stream setup past name) ≡ false → open_answer setup past client name (Some attrs) ≡ status.Ok → MakesStream setup past client name attrs
makes-stream setup past client name attrs new ok =
    let none = none_is (living_stream setup past name) new in
    let rows = open_rows (is_using past client) None (is_place_taken setup past attrs) (is_crowded setup past) name (Some attrs) in
    let answered : answer rows ≡ status.Ok =
    ap (λ living. answer (open_rows (is_using past client) (option_map (λ (stream : Stream). stream.attrs) living) (is_place_taken setup past attrs) (is_crowded setup past) name (Some attrs))) (sym none) ∙ ok in
    let told = open-rows (is_using past client) (is_application name) (passes_attrs (kind_of name) attrs) (is_place_taken setup past attrs) (is_crowded setup past) answered in
    record {
      using = told.0;
      application = told.1;
      passes = (decides_attrs (kind_of name) attrs).0 told.2;
      free = told.3;
      room = told.4;
    }
