-- The definition at records that are written out.
use Rattle.std.proofs.Common.{◌≡◌, ℕ, ◌∷◌, [], ◌++◌, List, codes, refl, pos}
use Rattle.format_expr.specs.Reading.{pieces_of}
use Rattle.record_print.specs.declared.record.Header.TheVariants.{Ntf, Generic}
use Rattle.record_print.specs.declared.record.LogRecord.{LogRecord}
use Rattle.record_print.specs.Printing.{printed_record, spaces}
use Rattle.record_print.proofs.OnLiterals.{records_on_literals}

-- a record of the system stream
generic : ℕ → List ℕ → LogRecord
generic time body = record {
  time = pos time;
  header = Generic (record { vendor = 1; major = 2; minor = 3 }) (codes "safApp=web") 6;
  body = body;
}

-- a text that is cut, and one that just fits
cut : printed_record (pieces_of (codes "@Cx @Cb")) 1 (generic 0 (codes "abcdefghijklmnopqrstuvwxyz0123")) 32 ≡ codes "T abcdefghijklmnopqrstuvwxyz012" ++ 10 ∷ []
unfolding records_on_literals generic
cut = refl

whole : printed_record (pieces_of (codes "@Cx @Cb")) 1 (generic 0 (codes "abcdefghijklmnopqrstuvwxyz012")) 32 ≡ codes "C abcdefghijklmnopqrstuvwxyz012" ++ 10 ∷ []
unfolding records_on_literals generic
whole = refl

-- one in the afternoon, on a clock of 12 hours and on one of 24
half_day : printed_record (pieces_of (codes "@Ch@Ca")) 1 (generic 1_704_114_000_000_000_000 []) 32 ≡ codes "01pm" ++ spaces 27 ++ 10 ∷ []
unfolding records_on_literals generic
half_day = refl

whole_day : printed_record (pieces_of (codes "@Ch")) 1 (generic 1_704_114_000_000_000_000 []) 32 ≡ codes "13" ++ spaces 29 ++ 10 ∷ []
unfolding records_on_literals generic
whole_day = refl

-- a number without a width and with one
at_the_right : printed_record (pieces_of (codes "@Cr")) 7 (generic 0 []) 32 ≡ codes "         7" ++ spaces 21 ++ 10 ∷ []
unfolding records_on_literals generic
at_the_right = refl

at_the_left : printed_record (pieces_of (codes "@Cr4|")) 7 (generic 0 []) 32 ≡ codes "7   |" ++ spaces 26 ++ 10 ∷ []
unfolding records_on_literals generic
at_the_left = refl

-- the alarm stream's own expression
alarm : printed_record (pieces_of (codes "@Cr @Ct @Nt @Ne6 @No7 @Ng3 \"@Cb\"")) 1
    (record {
      time = pos 1_704_067_200_000_000_000;
      header = Ntf 1 0x4001 (codes "node1") (codes "hw") (record { vendor = 1; major = 2; minor = 3 }) (pos 1_704_067_200_000_000_000);
      body = codes "fan";
    }) 80 ≡ codes "         1 0x17a6101701650000 0x17a6101701650000 0x4001 node1   hw  \"fan\"      " ++ 10 ∷ []
unfolding records_on_literals
alarm = refl

-- with size 0 a record has the size of its text
free : printed_record (pieces_of (codes "@Cx @Cb")) 1 (generic 0 (codes "abc")) 0 ≡ codes "C abc" ++ 10 ∷ []
unfolding records_on_literals generic
free = refl

empty : printed_record (pieces_of (codes "@Cb")) 1 (generic 0 []) 0 ≡ 10 ∷ []
unfolding records_on_literals generic
empty = refl
