-- What the pieces and the texts make up in a record, of which there is one at most.
use Rattle.std.proofs.Common.{◌≡◌, ℕ, ◌+◌, ◌-◌, ◌<◌, ◌≤◌, List, [], ◌∷◌, ◌++◌, length, take, drop, get_or, Bool, true, false, nat_lt, inl, inr, refl, sym, ap, ◌∙◌, subst, arith, length-append, length-drop}
use Rattle.std.specs.Option.{option_map_or}
use Rattle.std.proofs.lemmas.Bool.{cases_lt, cases_order, eq-eqb, ltb-false}
use Rattle.std.proofs.lemmas.List.{take_at, take-append-drop, get_or_append_left, get_or-append_right, get_or-replicate, get_or-drop, get_or_default, same_from_push, same_lists, length-take-le, length-replicate}
use Rattle.std.proofs.lemmas.Option.{slice_get-get_or}
use Rattle.format_expr.specs.declared.piece.Piece.{Piece}
use Rattle.record_print.specs.Printing.{spaces}
use Rattle.record_scan.specs.Fits.{variables, AreTexts, filled, ends_with, is_space, Fits}
use Rattle.record_scan.specs.Reading.{least_total, IsBody, EndsAt, IsContent}
use Rattle.record_scan.proofs.LengthLaws.{none_variable}

-- the last byte of a text
pub last_byte : (test : ℕ → Bool) (text : List ℕ) → 0 < length text → ends_with test text ≡ test (get_or text (length text - 1) 0)
last_byte test text some = ap (λ found. option_map_or test found false) (slice_get-get_or text (length text - 1) 0 (omega arith))

-- spaces at the end of a text that does not end in one are known by their number
apart : (one other : List ℕ) (m n : ℕ) → one ++ spaces m ≡ other ++ spaces n → length one < length other → ends_with is_space other ≡ false → ⊥
apart one other m n same less ended =
    let left = length-append one (spaces m) in
    let right = length-append other (spaces n) in
    let left_blank = length-replicate {A = ℕ} m 32 in
    let right_blank = length-replicate {A = ℕ} n 32 in
    let long = ap length same in
    let some : 0 < length other = omega arith in
    let last = length other - 1 in
    let inside : last < length other = omega arith in
    let past : length one ≤ last = omega arith in
    let within : last - length one < m = omega arith in
    let blank : get_or other last 0 ≡ 32 =
    sym (get_or_append_left other (spaces n) 0 last inside)
    ∙ ap (λ bytes. get_or bytes last 0) (sym same)
    ∙ get_or-append_right one (spaces m) (length one) last 0 refl past
    ∙ get_or-replicate m (last - length one) 32 0 within in
    let space : ends_with is_space other ≡ true = last_byte is_space other some ∙ eq-eqb (get_or other last 0) 32 blank in
    cc

pub trim_only : (one other : List ℕ) (m n : ℕ) → one ++ spaces m ≡ other ++ spaces n → ends_with is_space one ≡ false → ends_with is_space other ≡ false → length one ≡ length other
trim_only one other m n same one_ended other_ended =
    elim (cases_order (length one) (length other)) [
      | inl equal ↦ equal
      | inr apart_ ↦ elim apart_ [
        | inl less ↦ absurd (apart one other m n same less other_ended)
        | inr more ↦ absurd (apart other one n m (sym same) more one_ended)
      ]
    ]

-- one content at most
pub content_only : (pieces : List Piece) (size : ℕ) (rec one other : List ℕ) → IsContent pieces size rec one → IsContent pieces size rec other → one ≡ other
content_only pieces size rec one other is is' =
    let pushed = same_from_push (one ++ spaces is.blanks) (other ++ spaces is'.blanks) 10 10 (sym is.whole ∙ is'.whole) in
    let same = pushed.0 in
    let left = length-append one (spaces is.blanks) in
    let right = length-append other (spaces is'.blanks) in
    let left_blank = length-replicate {A = ℕ} is.blanks 32 in
    let right_blank = length-replicate {A = ℕ} is'.blanks 32 in
    let both = ap length same in
    let long : length one ≡ length other =
    elim (cases_lt 0 size) [
      | inl padded ↦ elim (cases_lt 0 (variables pieces)) [
        | inl some ↦ trim_only one other is.blanks is'.blanks same (is.ended padded some) (is'.ended padded some)
        | inr none ↦
            let zero : variables pieces ≡ 0 = omega arith in
            is.total padded zero ∙ sym (is'.total padded zero)
      ]
      | inr lines ↦
          let zero : size ≡ 0 = omega arith in
          let m = is.unpadded zero in
          let n = is'.unpadded zero in
          omega arith
    ] in
    sym (take_at one (spaces is.blanks) (length one) refl) ∙ ap (take (length one)) same ∙ take_at other (spaces is'.blanks) (length one) (sym long)

-- the content is what texts that fit and the pieces make up
pub content_of_fit : (pieces : List Piece) (size : ℕ) (rec : List ℕ) (texts : List (List ℕ)) → Fits pieces size rec texts → IsContent pieces size rec (filled pieces texts)
content_of_fit pieces size rec texts fit = record {
  blanks = fit.blanks;
  whole = fit.whole;
  unpadded = fit.unpadded;
  sized = fit.sized;
  ended = fit.ended;
  total = λ padded none. (none_variable 0 pieces texts none fit.each).1;
}

pub fit_of_content : (pieces : List Piece) (size : ℕ) (rec content : List ℕ) (texts : List (List ℕ)) → AreTexts pieces texts → content ≡ filled pieces texts → IsContent pieces size rec content → Fits pieces size rec texts
fit_of_content pieces size rec content texts each is content_is = record {
  each = each;
  blanks = content_is.blanks;
  whole = content_is.whole ∙ ap (λ bytes. bytes ++ spaces content_is.blanks ++ 10 ∷ []) is;
  unpadded = content_is.unpadded;
  sized = content_is.sized;
  ended = λ padded some. sym (ap (ends_with is_space) is) ∙ content_is.ended padded some;
}

-- a body and the end of the content in it
all_blank : (body : List ℕ) (end : ℕ) → end ≤ length body → ((k : ℕ) → end ≤ k → k < length body → get_or body k 0 ≡ 32) → drop end body ≡ spaces (length body - end)
all_blank body end inside blank =
    let long = length-drop end body in
    let spaced = length-replicate {A = ℕ} (length body - end) 32 in
    same_lists (drop end body) (spaces (length body - end)) (omega arith)
    (λ k d within.
    let place : end + k < length body = omega arith in
    let below : k < length body - end = omega arith in
    get_or-drop end body k d ∙ get_or_default body (end + k) d 0 place ∙ blank (end + k) (omega arith) place
    ∙ sym (get_or-replicate (length body - end) k 32 d below))

pub content_at : (pieces : List Piece) (size : ℕ) (rec body : List ℕ) (end : ℕ) → IsBody size rec body → EndsAt pieces size body end → IsContent pieces size rec (take end body)
content_at pieces size rec body end is at =
    let long = length-take-le end body at.inside in
    record {
      blanks = length body - end;
      whole = is.whole ∙ ap (λ bytes. bytes ++ 10 ∷ []) (sym (take-append-drop end body) ∙ ap (λ bytes. take end body ++ bytes) (all_blank body end at.inside at.blank));
      unpadded = λ lines. let all = at.unpadded lines in omega arith;
      sized = is.sized;
      ended = at.ended;
      total = λ padded none. long ∙ at.total padded none;
    }

pub body_of_content : (pieces : List Piece) (size : ℕ) (rec content : List ℕ) → IsContent pieces size rec content → (body : List ℕ) × IsBody size rec body × EndsAt pieces size body (length content)
body_of_content pieces size rec content is =
    let body = content ++ spaces is.blanks in
    let whole = length-append content (spaces is.blanks) in
    let blank = length-replicate {A = ℕ} is.blanks 32 in (
      body,
      record { whole = is.whole; sized = is.sized },
      record {
        inside = omega arith;
        blank = λ k past within.
            let below : k - length content < is.blanks = omega arith in
            get_or-append_right content (spaces is.blanks) (length content) k 0 refl past ∙ get_or-replicate is.blanks (k - length content) 32 0 below;
        unpadded = λ lines. let none = is.unpadded lines in omega arith;
        ended = λ padded some. ap (ends_with is_space) (take_at content (spaces is.blanks) (length content) refl) ∙ is.ended padded some;
        total = is.total;
      },
    )

pub body_only : (size : ℕ) (rec one other : List ℕ) → IsBody size rec one → IsBody size rec other → one ≡ other
body_only size rec one other is is' = (same_from_push one other 10 10 (sym is.whole ∙ is'.whole)).0

pub no_end : (pieces : List Piece) (size : ℕ) (rec body : List ℕ) → IsBody size rec body → ((end : ℕ) → EndsAt pieces size body end → ⊥) → (content : List ℕ) → IsContent pieces size rec content → ⊥
no_end pieces size rec body is none content content_is =
    let found = body_of_content pieces size rec content content_is in
    none (length content) (subst (λ bytes. EndsAt pieces size bytes (length content)) (body_only size rec found.0 body found.1 is) found.2)

-- and where it is known by the lengths
pub fixed_ends : (pieces : List Piece) (size : ℕ) (body rest : List ℕ) (end : ℕ) → (size ≡ 0 → ⊥) → nat_lt 0 (variables pieces) ≡ false → end ≡ least_total pieces → end ≤ length body → rest ≡ drop end body → ((k : ℕ) → k < length rest → get_or rest k 0 ≡ 32) → EndsAt pieces size body end
fixed_ends pieces size body rest end padded fixed is inside rest_is blank =
    let none = ltb-false 0 (variables pieces) fixed in
    let long = ap length rest_is in
    let left = length-drop end body in
    record {
      inside = inside;
      blank = λ k past within.
          let below : k - end < length rest = omega arith in
          let place : end + (k - end) ≡ k = omega arith in
          ap (λ i. get_or body i 0) (sym place) ∙ sym (get_or-drop end body (k - end) 0) ∙ ap (λ bytes. get_or bytes (k - end) 0) (sym rest_is) ∙ blank (k - end) below;
      unpadded = λ lines. absurd (padded lines);
      ended = λ _ some. absurd (omega arith);
      total = λ _ _. is;
    }
