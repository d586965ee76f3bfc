-- The table of event types agrees with the definition by cases.
use Rattle.std.proofs.Common.{◌≡◌, ℕ, Bool, true, false, ◌&&◌, ◌||◌, ◌==◌, nat_eq, cond, IsTrue, ◌↔◌, List, [], ◌∷◌, map, refl, ap, sym, ◌∙◌}
use Rattle.std.specs.List.{list_any, filter, Contains}
use Rattle.std.proofs.Math.Bool.{and-true, and-false}
use Rattle.std.proofs.lemmas.Map.Views.{Contains-from_any, list_any-from_Contains}
use Rattle.std.proofs.lemmas.Bool.{eqb-true}
use Rattle.std.proofs.lemmas.Cmp.{nat_eq_equiv}
use Rattle.ais_values.specs.declared.codes.CodeRow.{CodeRow}
use Rattle.ntf_types.specs.declared.notification.Body.{Body}
use Rattle.ntf_types.specs.declared.notification.Body.TheVariants.{Objects, Attributes, States, Alarm, Security}
use Rattle.ntf_types.specs.Kinds.{kind_of, event_types_of}
use Rattle.ntf_types.specs.EventRows.{kind_of_row, has_row, codes_in, HasEventTypes}

-- a row counts only where it is of the type
joined : (mine : Bool) (code event_type : ℕ) (codes : List ℕ) (rest : Bool) → rest ≡ list_any (nat_eq event_type) codes → (nat_eq event_type code && mine || rest) ≡ list_any (nat_eq event_type) (cond mine (code ∷ codes) codes)
joined true code event_type codes rest tail =
    ap (λ b. b || rest) (and-true (nat_eq event_type code)) ∙ ap (λ r. nat_eq event_type code || r) tail
joined false code event_type codes rest tail =
    ap (λ b. b || rest) (and-false (nat_eq event_type code)) ∙ tail

-- the codes of the rows of a type, one row at a time
codes_in-cons : {S : Type 0} → (kind : ℕ) (row : CodeRow S) (rows : List (CodeRow S)) → codes_in kind (row ∷ rows) ≡ cond (kind_of_row row == kind) (row.code ∷ codes_in kind rows) (codes_in kind rows)
codes_in-cons {S} kind row rows =
    elim (kind_of_row row == kind) as (λ b. map (λ (r : CodeRow S). r.code) (cond b (row ∷ filter (λ (r : CodeRow S). kind_of_row r == kind) rows) (filter (λ (r : CodeRow S). kind_of_row r == kind) rows)) ≡ cond b (row.code ∷ codes_in kind rows) (codes_in kind rows)) [
      | true ↦ refl
      | false ↦ refl
    ]

-- a row of this type and event type stands exactly where the event type is among the codes of the type
has_row-is : {S : Type 0} → (kind event_type : ℕ) (rows : List (CodeRow S)) → has_row kind event_type rows ≡ list_any (nat_eq event_type) (codes_in kind rows)
has_row-is kind event_type [] = refl
has_row-is kind event_type (row ∷ rows) =
    joined (kind_of_row row == kind) row.code event_type (codes_in kind rows) (has_row kind event_type rows) (has_row-is kind event_type rows) ∙ ap (list_any (nat_eq event_type)) (sym (codes_in-cons kind row rows))

-- the rows of a body's type are the event types of its definition
codes_in-kind : {S : Type 0} → (rows : List (CodeRow S)) → HasEventTypes rows → (body : Body) → codes_in (kind_of body) rows ≡ event_types_of body
codes_in-kind rows has (Objects source attrs) = has.objects
codes_in-kind rows has (Attributes source changes) = has.attributes
codes_in-kind rows has (States source changes) = has.states
codes_in-kind rows has (Alarm cause severity) = has.alarms
codes_in-kind rows has (Security cause severity detector user provider) = has.security

-- looking for a row tells whether the event type is one of the body's type
pub has_row-decides : {S : Type 0} → (rows : List (CodeRow S)) → HasEventTypes rows → (body : Body) (event_type : ℕ) (result : Bool) → result ≡ has_row (kind_of body) event_type rows → IsTrue result ↔ Contains (event_types_of body) event_type
has_row-decides rows has body event_type result is =
    let found : result ≡ list_any (nat_eq event_type) (event_types_of body) = is ∙ has_row-is (kind_of body) event_type rows ∙ ap (list_any (nat_eq event_type)) (codes_in-kind rows has body) in
    (λ yes. Contains-from_any eqb-true event_type (event_types_of body) (sym found ∙ yes), λ there. found ∙ list_any-from_Contains nat_eq_equiv event_type (event_types_of body) there)
