-- What is read of a record are the texts that fit it.
use Rattle.std.proofs.Common.{◌≡◌, ℕ, ◌-◌, List, [], length, Bool, false, ◌↔◌, Option, Some, None, slice_get, sym, ap, ◌∙◌, subst, arith}
use Rattle.std.specs.Bool.{Decides}
use Rattle.std.proofs.lemmas.Option.{same_Some}
use Rattle.format_expr.specs.declared.piece.Piece.{Piece}
use Rattle.record_scan.specs.Fits.{filled, Fits}
use Rattle.record_scan.specs.Separable.{IsSeparable}
use Rattle.record_scan.specs.Numbers.{IsTextAt, HasText}
use Rattle.record_scan.specs.Reading.{least_total, texts_from, AreAt, IsContent}
use Rattle.record_scan.proofs.LengthLaws.{one_variable, least_within, texts_from_places}
use Rattle.record_scan.proofs.ReadingLaws.{read_laid, read_back}
use Rattle.record_scan.proofs.ContentLaws.{content_only, content_of_fit, fit_of_content}
use Rattle.record_scan.proofs.SeparableLaws.{one_at_most}

-- what is found, by the content of the record
found_fits : (pieces : List Piece) (size : ℕ) (rec content : List ℕ) (texts : List (List ℕ)) → IsContent pieces size rec content → texts_from (length content - least_total pieces) pieces content [] ≡ Some texts → Fits pieces size rec texts
found_fits pieces size rec content texts is found =
    let read = read_back (length content - least_total pieces) pieces content [] texts found in
    fit_of_content pieces size rec content texts
    (texts_from_places (length content - least_total pieces) pieces texts (subst (AreAt (length content - least_total pieces) pieces) (sym read.all_is) read.at))
    (read.rest_is ∙ ap (filled pieces) (sym read.all_is)) is

fits_found : (pieces : List Piece) (size : ℕ) (rec content : List ℕ) (texts : List (List ℕ)) → IsSeparable pieces size → IsContent pieces size rec content → Fits pieces size rec texts → texts_from (length content - least_total pieces) pieces content [] ≡ Some texts
fits_found pieces size rec content texts separable is fit =
    let same = content_only pieces size rec content (filled pieces texts) is (content_of_fit pieces size rec texts fit) in
    let least = least_within pieces texts fit.each in
    let long = ap length same in
    let at = one_variable (length content - least_total pieces) pieces texts (one_at_most pieces size separable) fit.each (omega arith) in
    ap (λ bytes. texts_from (length content - least_total pieces) pieces bytes []) same
    ∙ read_laid (length content - least_total pieces) pieces texts [] at

-- of a record that has a content, and of one that has none
pub scans : (pieces slice : List Piece) (size variable : ℕ) (rec content : List ℕ) (found : Option (List (List ℕ))) → slice ≡ pieces → IsSeparable pieces size → IsContent slice size rec content → variable ≡ length content - least_total slice → found ≡ texts_from variable slice content [] → (texts : List (List ℕ)) → (found ≡ Some texts) ↔ Fits pieces size rec texts
scans pieces slice size variable rec content found same separable is left read texts =
    let content_is = subst (λ ps. IsContent ps size rec content) same is in
    let all : found ≡ texts_from (length content - least_total pieces) pieces content [] =
    read ∙ ap (λ places. texts_from places slice content []) left ∙ ap (λ ps. texts_from (length content - least_total ps) ps content []) same in
    (λ some. found_fits pieces size rec content texts content_is (sym all ∙ some), λ fit. all ∙ fits_found pieces size rec content texts separable content_is fit)

pub scans_none : (pieces slice : List Piece) (size : ℕ) (rec : List ℕ) (found : Option (List (List ℕ))) → slice ≡ pieces → ((content : List ℕ) → IsContent slice size rec content → ⊥) → found ≡ None → (texts : List (List ℕ)) → (found ≡ Some texts) ↔ Fits pieces size rec texts
scans_none pieces slice size rec found same none is texts = (
  λ some. absurd cc,
  λ fit. absurd (none (filled pieces texts) (subst (λ ps. IsContent ps size rec (filled pieces texts)) (sym same) (content_of_fit pieces size rec texts fit))),
)

-- one list of texts at most
pub texts_only : (pieces : List Piece) (size : ℕ) (rec : List ℕ) (one other : List (List ℕ)) → IsSeparable pieces size → Fits pieces size rec one → Fits pieces size rec other → one ≡ other
texts_only pieces size rec one other separable fit fit' =
    let content = content_of_fit pieces size rec one fit in
    same_Some one other
    (sym (fits_found pieces size rec (filled pieces one) one separable content fit) ∙ fits_found pieces size rec (filled pieces one) other separable content fit')

-- whether the record has the wanted text, by that of the texts found
pub has_found : (pieces : List Piece) (size token : ℕ) (wanted rec : List ℕ) (texts shown : List (List ℕ)) (found : Option (List (List ℕ))) (same : Bool) → found ≡ Some texts → ((all : List (List ℕ)) → (found ≡ Some all) ↔ Fits pieces size rec all) → shown ≡ texts → Decides same (IsTextAt token wanted shown) → Decides same (HasText pieces size token wanted rec)
has_found pieces size token wanted rec texts shown found same is fits shown_is decides = (
  λ yes.
      let has = decides.0 yes in
      (texts, (fits texts).0 is, (has.0, ap (λ all. slice_get all (token - 1)) (sym shown_is) ∙ has.1)),
  λ has.
      let one = same_Some texts has.0 (sym is ∙ (fits has.0).1 has.1) in
      decides.1 (has.2.0, ap (λ all. slice_get all (token - 1)) (shown_is ∙ one) ∙ has.2.1),
)

pub has_none : (pieces : List Piece) (size token : ℕ) (wanted rec : List ℕ) (found : Option (List (List ℕ))) → found ≡ None → ((all : List (List ℕ)) → (found ≡ Some all) ↔ Fits pieces size rec all) → Decides false (HasText pieces size token wanted rec)
has_none pieces size token wanted rec found none fits =
    (λ yes. absurd cc, λ has. let some = (fits has.0).1 has.1 in absurd cc)
