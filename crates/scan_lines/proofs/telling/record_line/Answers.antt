use Rattle.std.proofs.Common.{ℕ, List, sym, subst}
use Rattle.format_expr.specs.declared.piece.Piece.{Piece}
use Rattle.record_scan.specs.Fits.{Fits}
use Rattle.scan_lines.specs.Telling.{IsTold, Unreadable}
use Rattle.scan_lines.proofs.telling.record_line.Goals as goal

pub returns-in_ok-line-in-Some : goal.returns-in_ok-line-in-Some
returns-in_ok-line-in-Some c =
    let size = c.args.size in
    let bytes = c.args.bytes.now in
    let pieces = c.args.expr.now.pieces in
    let fits = (c.in_ok-texts.ensures.texts c.in-Some.texts).0 c.in-Some.is in
    let read = subst (λ (texts : List (List ℕ)). Fits pieces size bytes texts) (sym c.as_slice.ensures) fits in
    let parted = subst (λ (one : List Piece). Fits one size bytes c.as_slice.result.now) (sym c.as_slice-pieces.ensures) read in
    let P : List Piece → Type 0 = λ one. IsTold c.args.shown one size c.args.wanted.now c.args.number bytes c.in_ok-line-in-Some.line.items in
    subst P c.as_slice-pieces.ensures (c.in_ok-line-in-Some.ensures size bytes parted)

pub returns-in_ok-line-in-None : goal.returns-in_ok-line-in-None
returns-in_ok-line-in-None c =
    Unreadable (λ texts fits. let is = (c.in_ok-texts.ensures.texts texts).1 fits in let no = c.in-None.is in cc) c.in_ok-line-in-None.ensures
