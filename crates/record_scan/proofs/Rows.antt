-- The definitions at records that are written out.
use Rattle.std.proofs.Common.{◌≡◌, ℕ, ◌≤◌, List, [], ◌∷◌, ◌++◌, length, codes, refl, ap, arith, lit<, pos}
use Rattle.std.proofs.lemmas.List.Elements.{All-nil, All-cons}
use Rattle.format_expr.specs.declared.piece.Piece.{Piece}
use Rattle.format_expr.specs.Reading.{pieces_of}
use Rattle.record_print.specs.declared.record.Header.TheVariants.{Generic}
use Rattle.record_print.specs.declared.record.LogRecord.{LogRecord}
use Rattle.record_print.specs.Printing.{printed_record, spaces}
use Rattle.record_print.proofs.OnLiterals.{records_on_literals}
use Rattle.record_scan.specs.Fits.{filled, Fits}
use Rattle.record_scan.specs.Separable.{IsSecondVariable, IsOpenEnd}
use Rattle.record_scan.specs.Numbers.{IsRecord, AreRecords, HasText}
use Rattle.record_scan.specs.Reading.{IsContent}
use Rattle.record_scan.proofs.ContentLaws.{content_only, content_of_fit}
use Rattle.record_scan.proofs.LengthLaws.{least_within}

abbrev quoted : List Piece
quoted = pieces_of (codes "@Cr @Sv \"@Cb\"")

abbrev row : List ℕ
row = codes "         1 IN \"a\"" ++ spaces 14 ++ 10 ∷ []

abbrev row_texts : List (List ℕ)
row_texts = codes "         1" ∷ codes "IN" ∷ codes "a" ∷ []

rec : LogRecord
rec = record {
  time = pos 1_704_067_200_000_000_000;
  header = Generic (record { vendor = 1; major = 2; minor = 3 }) (codes "safApp=web") 6;
  body = codes "a";
}

printed : printed_record quoted 1 rec 32 ≡ row
unfolding records_on_literals rec
printed = refl

row_fits : Fits quoted 32 row row_texts
unfolding records_on_literals
row_fits = record {
  each = (refl, (refl, (tt, tt)));
  blanks = 14;
  whole = refl;
  unpadded = λ lines. absurd cc;
  sized = λ _. refl;
  ended = λ _ _. refl;
}

-- the second token's text is `IN`
row_found : HasText quoted 32 2 (codes "IN") row
row_found = (row_texts, row_fits, (lit< tt, refl))

-- with two variable tokens the second stands in the way
second : IsSecondVariable (pieces_of (codes "@Sl @Cb")) 3
unfolding records_on_literals
second = record { before = refl; through = refl }

-- and at the end a variable one, behind which spaces may follow
open_end : IsOpenEnd (pieces_of (codes "@Cr @Cb")) 32 3
unfolding records_on_literals
open_end = record { padded = lit< tt; variable = lit< tt; last = refl; unclosed = refl }

-- spaces alone have no text
blank_unread : (texts : List (List ℕ)) → Fits quoted 32 (spaces 31 ++ 10 ∷ []) texts → ⊥
unfolding records_on_literals
blank_unread texts fit =
    let blank : IsContent quoted 32 (spaces 31 ++ 10 ∷ []) [] = record {
      blanks = 31;
      whole = refl;
      unpadded = λ lines. absurd cc;
      sized = λ _. refl;
      ended = λ _ _. refl;
      total = λ _ none. absurd cc;
    } in
    let same = ap length (content_only quoted 32 (spaces 31 ++ 10 ∷ []) (filled quoted texts) [] (content_of_fit quoted 32 (spaces 31 ++ 10 ∷ []) texts fit) blank) in
    let long : 16 ≤ length (filled quoted texts) = least_within quoted texts fit.each in
    omega arith

-- a record and five bytes more
one_record : AreRecords 32 (spaces 31 ++ 10 ∷ codes "abcde") ((spaces 31 ++ 10 ∷ []) ∷ []) (codes "abcde")
one_record = record {
  whole = refl;
  each = All-cons (IsRecord 32) (spaces 31 ++ 10 ∷ []) [] (record { sized = λ _. refl; line = λ none. absurd cc }) (All-nil (IsRecord 32));
  over = record { short = λ _. lit< tt; unended = λ none. absurd cc };
}
