use Rattle.std.proofs.Common.{◌≡◌, ℕ, ◌<◌, ◌≤◌, List, length, ap, sym, subst, ◌∙◌, arith}
use Rattle.std.proofs.lemmas.Bool.Decides.{nat_tests}
use Rattle.format_expr.specs.declared.piece.Piece.{Piece}
use Rattle.record_print.specs.declared.record.LogRecord.{LogRecord}
use Rattle.record_print.specs.Printing.{has_half, pieces_text, line_of, printed_record, HasSize}
use Rattle.record_print.specs.Sheets.{Has}
use Rattle.record_print.proofs.LineLaws.{places_sized, length-printed_record, printed_cut, printed_whole, printed_unmarked}
use Rattle.record_print.proofs.print.print_record.Goals as goal
use Rattle.record_print.proofs.print.print_record.Goals.{else-is_full-via-then-is_full+else-tells_cut, else-is_full-via-else-is_full}

-- what is the printed record of that many bytes has as many
printed_bytes : (pieces : List Piece) (number : ℕ) (rec : LogRecord) (size bytes : ℕ) (text : List ℕ) → HasSize size bytes → text ≡ printed_record pieces number rec bytes → HasSize size (length text)
printed_bytes pieces number rec size bytes text is same =
    subst (HasSize size) (sym (ap length same ∙ length-printed_record pieces number rec bytes (omega (arith, is.some)))) is

pub returns-then-tells_cut : goal.returns-then-tells_cut
returns-then-tells_cut c =
    let pieces = c.as_slice-pieces.result.now in
    let rec = c.args.rec.now in
    let bytes = c.bytes_needed-bytes.result in
    let figures = c.new-figures.ensures.figures in
    let text = λ (number mark : ℕ). pieces_text (has_half pieces) number mark rec pieces in
    let one = c.in_ok-sheet.sheet in
    let has = subst (λ n. Has one (text n 67)) c.new-figures.ensures.number (subst (λ m. Has one (text c.new-figures.result.number m)) c.new-figures.ensures.mark (c.in_ok-sheet.ensures.text (has_half pieces) figures)) in
    let full : c.in_ok-sheet.sheet.limit ≤ c.in_ok-sheet.sheet.used = Prim.grind (arith, nat_tests) in
    let two = c.in_ok-sheet-2.sheet in
    let has' = subst (λ n. Has two (text n 84)) c.new-figures.ensures.number (c.in_ok-sheet-2.ensures.text (has_half pieces) (record { recorded = figures.recorded; event = figures.event })) in
    let some = c.bytes_needed-bytes.ensures.size.some in
    let places = places_sized bytes (omega (arith, some)) in
    let long : bytes ≤ length (text c.args.number 67) =
    omega (arith, has.used_is, full, c.in_ok-sheet.ensures.size, c.in_ok-sheet.ensures.«open») in
    let printed : c.into_text.result ≡ printed_record pieces c.args.number rec bytes =
    c.into_text.ensures (text c.args.number 84) has'
    ∙ ap (λ size. line_of size (text c.args.number 84)) c.in_ok-sheet-2.ensures.size
    ∙ printed_cut pieces c.args.number rec bytes (omega (arith, long, places, some)) in
    record {
      text = printed ∙ sym (c.bytes_needed-bytes.ensures.same c.args.number (omega (arith, c.ranges.number)))
          ∙ ap (λ ps. printed_record ps c.args.number rec c.args.size) c.as_slice-pieces.ensures;
      bytes = printed_bytes _ _ _ _ _ _ c.bytes_needed-bytes.ensures.size printed;
    }

pub returns : goal.returns
returns c =
    let pieces = c.as_slice-pieces.result.now in
    let rec = c.args.rec.now in
    let bytes = c.bytes_needed-bytes.result in
    let figures = c.new-figures.ensures.figures in
    let text = λ (number mark : ℕ). pieces_text (has_half pieces) number mark rec pieces in
    let one = c.in_ok-sheet.sheet in
    let has = subst (λ n. Has one (text n 67)) c.new-figures.ensures.number (subst (λ m. Has one (text c.new-figures.result.number m)) c.new-figures.ensures.mark (c.in_ok-sheet.ensures.text (has_half pieces) figures)) in
    let some = c.bytes_needed-bytes.ensures.size.some in
    let places = places_sized bytes (omega (arith, some)) in
    let laid : line_of bytes (text c.args.number 67) ≡ printed_record pieces c.args.number rec bytes =
    elim c.else-is_full.branch [
      | else-is_full-via-then-is_full+else-tells_cut w ↦ printed_unmarked pieces c.args.number rec bytes (sym w.tells_cut.ensures ∙ w.if-tells_cut.false)
      | else-is_full-via-else-is_full w ↦
          let room : c.in_ok-sheet.sheet.used < c.in_ok-sheet.sheet.limit = Prim.grind (arith, nat_tests) in
          let short : length (text c.args.number 67) < bytes = omega (arith, has.used_is, room, c.in_ok-sheet.ensures.size, c.in_ok-sheet.ensures.«open») in
          printed_whole pieces c.args.number rec bytes (omega (arith, short, places, some))
    ] in
    let printed : c.into_text-2.result ≡ printed_record pieces c.args.number rec bytes =
    c.into_text-2.ensures (text c.args.number 67) has
    ∙ ap (λ size. line_of size (text c.args.number 67)) c.in_ok-sheet.ensures.size
    ∙ laid in
    record {
      text = printed ∙ sym (c.bytes_needed-bytes.ensures.same c.args.number (omega (arith, c.ranges.number)))
          ∙ ap (λ ps. printed_record ps c.args.number rec c.args.size) c.as_slice-pieces.ensures;
      bytes = printed_bytes _ _ _ _ _ _ c.bytes_needed-bytes.ensures.size printed;
    }
