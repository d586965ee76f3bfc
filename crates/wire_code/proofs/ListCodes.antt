-- The readings of lists, texts and names are exact.
use Rattle.std.proofs.Common.{◌≡◌, ℕ, zero, suc, ◌-◌, ◌<◌, ◌≤◌, nat_lt, List, [], ◌∷◌, ◌++◌, length, take, drop, replicate, Result, Ok, Err, refl, sym, ◌∙◌, ap, subst, inl, inr, arith}
use Rattle.std.specs.List.{All}
use Rattle.std.proofs.lemmas.Bool.{cases_lt, cond-true, cond-false, lt-ltb, le-ltb}
use Rattle.std.proofs.lemmas.List.{take_at, drop_at, take-append-drop, length-append, length-take-le, length-replicate}
use Rattle.std.proofs.lemmas.List.Elements.{All-head, All-tail, All-cons, All-nil, All-append, All-replicate, All-take, All-weaker}
use Rattle.ais_values.specs.Names.{IsName, IsPrintable}
use Rattle.wire_code.specs.declared.fault.Fault.{Fault}
use Rattle.wire_code.specs.declared.fault.Fault.TheVariants.{Short, Bad}
use Rattle.wire_code.specs.Spelling.{IsByte, IsBytes, IsNumber, IsWithin, IsText, number_text, counted_text, texts, list_text, ListFits, Begins}
use Rattle.wire_code.specs.Reading.{At, number_at, within_at, byte_at, many_at, list_at, piece_at, text_at, name_at}
use Rattle.wire_code.proofs.Codes.{Code, made_code, both_code, field_code, ok_is}
use Rattle.wire_code.proofs.NumberCodes.{number_code}
use Rattle.wire_code.proofs.RangeCodes.{byte_code, within_code}

-- so many values
module _ {X : Type 0} (at : At X) (text : X → List ℕ) (Fits : X → Type 0) (code : Code at text Fits) where
  abbrev pub AreFit : ℕ → List X → Type 0
  AreFit count xs = (length xs ≡ count) × All Fits xs

  none_code : Code (many_at at zero) (texts text) (AreFit zero)
  none_code = record {
    back = none-back;
    sound = λ bytes all xs rest done. none-sound bytes xs rest done;
    short = λ bytes all done. cc;
    bad = λ bytes all left done. cc;
    some = ([], (refl, All-nil Fits));
  }
    where
      none-back : (xs : List X) (rest : List ℕ) → AreFit zero xs → many_at at zero (texts text xs ++ rest) ≡ Ok (xs, rest)
      none-back [] rest fits = refl
      none-back (x ∷ xs) rest fits = absurd (omega (arith, fits.0))

      none-sound : (bytes : List ℕ) (xs : List X) (rest : List ℕ) → many_at at zero bytes ≡ Ok (xs, rest) → AreFit zero xs × (bytes ≡ texts text xs ++ rest)
      none-sound bytes xs rest done =
          let P : List X × List ℕ → Type 0 = λ q. AreFit zero q.0 × (bytes ≡ texts text q.0 ++ q.1) in
          subst P (ok_is _ _ done) ((refl, All-nil Fits), refl)

  every_many : (count : ℕ) (xs : List X) → AreFit (suc count) xs → (p : X × List X) × (p.0 ∷ p.1 ≡ xs) × (Fits p.0 × AreFit count p.1)
  every_many count [] fits = absurd (omega (arith, fits.0))
  every_many count (x ∷ xs) fits = ((x, xs), refl, (All-head Fits x xs fits.1, (omega (arith, fits.0), All-tail Fits x xs fits.1)))

  pub many_code : (count : ℕ) → Code (many_at at count) (texts text) (AreFit count)
  many_code zero = none_code
  many_code (suc count) =
      made_code (λ (p : X × List X). p.0 ∷ p.1) (texts text) (AreFit (suc count)) (both_code code (many_code count))
      (λ p fits. refl)
      (λ p fits. (ap suc fits.1.0, All-cons Fits p.0 p.1 fits.0 fits.1.1))
      (every_many count)

  pub list_code : Code (list_at at) (list_text text) (ListFits Fits)
  unfolding list_at list_text
  list_code =
      made_code (λ (p : ℕ × List X). p.1) (list_text text) (ListFits Fits)
      (field_code (number_at 4) (number_text 4) (IsNumber 4) (many_at at) (λ _. texts text) AreFit (number_code 4) (λ count _. many_code count))
      (λ p fits. ap (λ count. number_text 4 count ++ texts text p.1) fits.1.0)
      (λ p fits. (subst (IsNumber 4) (sym fits.1.0) fits.0, fits.1.1))
      (λ xs fits. ((length xs, xs), refl, (fits.0, (refl, fits.1))))

-- bytes in one piece
abbrev IsPiece : ℕ → List ℕ → Type 0
IsPiece count bytes = (length bytes ≡ count) × IsBytes bytes

piece_read : (count : ℕ) (bytes : List ℕ) → count ≤ length bytes → piece_at count bytes ≡ Ok (take count bytes, drop count bytes)
piece_read count bytes long = cond-false (nat_lt (length bytes) count) (Err Short) (Ok (take count bytes, drop count bytes)) (le-ltb (length bytes) count long)

piece_short : (count : ℕ) (bytes : List ℕ) → length bytes < count → piece_at count bytes ≡ Err Short
piece_short count bytes few = cond-true (nat_lt (length bytes) count) (Err Short) (Ok (take count bytes, drop count bytes)) (lt-ltb (length bytes) count few)

piece-back : (count : ℕ) (piece rest : List ℕ) → IsPiece count piece → piece_at count (piece ++ rest) ≡ Ok (piece, rest)
piece-back count piece rest fits =
    let front = take_at piece rest count fits.0 in
    let last = drop_at piece rest count fits.0 in
    piece_read count (piece ++ rest) (omega (arith, length-append piece rest, fits.0)) ∙ (λ i. Ok (front i, last i))

piece-sound : (count : ℕ) (bytes : List ℕ) → IsBytes bytes → (piece rest : List ℕ) → piece_at count bytes ≡ Ok (piece, rest) → IsPiece count piece × (bytes ≡ piece ++ rest)
piece-sound count bytes all piece rest done =
    elim (cases_lt (length bytes) count) [
      | inl few ↦ let never : ◌≡◌ {A = Result (List ℕ × List ℕ) Fault} (Err Short) (Ok (piece, rest)) = sym (piece_short count bytes few) ∙ done in cc
      | inr long ↦
          let P : List ℕ × List ℕ → Type 0 = λ q. IsPiece count q.0 × (bytes ≡ q.0 ++ q.1) in
          subst P (ok_is _ _ (sym (piece_read count bytes long) ∙ done)) ((length-take-le count bytes long, All-take IsByte count bytes all), sym (take-append-drop count bytes))
    ]

piece-short : (count : ℕ) (bytes : List ℕ) → IsBytes bytes → piece_at count bytes ≡ Err Short → Begins (λ (piece : List ℕ). piece) (IsPiece count) bytes
piece-short count bytes all done =
    elim (cases_lt (length bytes) count) [
      | inl few ↦
          let more : List ℕ = replicate (count - length bytes) 0 in
          record {
            value = bytes ++ more;
            more = more;
            fits = (omega (arith, length-append bytes more, length-replicate {A = ℕ} (count - length bytes) 0), All-append IsByte bytes more all (All-replicate IsByte (count - length bytes) 0 (omega arith)));
            is = refl;
          }
      | inr long ↦ let never : ◌≡◌ {A = Result (List ℕ × List ℕ) Fault} (Ok (take count bytes, drop count bytes)) (Err Short) = sym (piece_read count bytes long) ∙ done in cc
    ]

piece-bad : (count : ℕ) (bytes : List ℕ) (left : ℕ) → piece_at count bytes ≡ Err (Bad left) → ⊥
piece-bad count bytes left done =
    elim (cases_lt (length bytes) count) [
      | inl few ↦ let never : ◌≡◌ {A = Result (List ℕ × List ℕ) Fault} (Err Short) (Err (Bad left)) = sym (piece_short count bytes few) ∙ done in cc
      | inr long ↦ let never : ◌≡◌ {A = Result (List ℕ × List ℕ) Fault} (Ok (take count bytes, drop count bytes)) (Err (Bad left)) = sym (piece_read count bytes long) ∙ done in cc
    ]

piece_code : (count : ℕ) → Code (piece_at count) (λ (piece : List ℕ). piece) (IsPiece count)
piece_code count = record {
  back = piece-back count;
  sound = piece-sound count;
  short = piece-short count;
  bad = λ bytes all left done. absurd (piece-bad count bytes left done);
  some = (replicate count 0, (length-replicate count 0, All-replicate IsByte count 0 (omega arith)));
}

pub text_code : Code text_at counted_text IsText
unfolding text_at counted_text
text_code =
    made_code (λ (p : ℕ × List ℕ). p.1) counted_text IsText
    (field_code (within_at 0 16384) (number_text 2) (IsWithin 0 16384) piece_at (λ _ piece. piece) IsPiece (within_code 0 16384 (omega arith) (omega arith) (omega arith)) (λ count _. piece_code count))
    (λ p fits. ap (λ count. number_text 2 count ++ p.1) fits.1.0)
    (λ p fits. record { bound = omega (arith, fits.0.most, fits.1.0); bytes = fits.1.1 })
    (λ text fits. ((length text, text), refl, (record { least = omega arith; most = fits.bound }, (refl, fits.bytes))))

-- the bytes of a name, one behind the other, are the name
texts-bytes : (bytes : List ℕ) → texts (λ (byte : ℕ). byte ∷ []) bytes ≡ bytes
texts-bytes [] = refl
texts-bytes (byte ∷ bytes) = ap (λ (rest : List ℕ). byte ∷ rest) (texts-bytes bytes)

pub name_code : Code name_at counted_text IsName
unfolding name_at counted_text
name_code =
    made_code (λ (p : ℕ × List ℕ). p.1) counted_text IsName
    (field_code (within_at 1 256) (number_text 2) (IsWithin 1 256) (many_at (byte_at 32 126)) (λ _. texts (λ (byte : ℕ). byte ∷ [])) (λ count name. (length name ≡ count) × All (IsWithin 32 126) name) (within_code 1 256 (omega arith) (omega arith) (omega arith)) (λ count _. many_code (byte_at 32 126) (λ (byte : ℕ). byte ∷ []) (IsWithin 32 126) (byte_code 32 126 (omega arith)) count))
    (λ p fits. λ i. number_text 2 (fits.1.0 i) ++ sym (texts-bytes p.1) i)
    (λ p fits. record { some = omega (arith, fits.0.least, fits.1.0); bound = omega (arith, fits.0.most, fits.1.0); printable = All-weaker (IsWithin 32 126) IsPrintable (λ byte within. record { low = within.least; high = within.most }) p.1 fits.1.1 })
    (λ name fits. ((length name, name), refl, (record { least = fits.some; most = fits.bound }, (refl, All-weaker IsPrintable (IsWithin 32 126) (λ byte printable. record { least = printable.low; most = printable.high }) name fits.printable))))
