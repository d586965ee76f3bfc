use Rattle.std.proofs.Common.{◌≡◌, ℕ, ◌++◌, List, [], ◌∷◌, drop, refl, sym, ap, ◌∙◌, arith, append-nil}
use Rattle.std.proofs.Math.ListN.{drop_of_length-le}
use Rattle.format_expr.specs.declared.piece.Piece.{Piece}
use Rattle.record_scan.specs.Fits.{tokens_of}
use Rattle.scan_lines.specs.Lines.{token_words}
use Rattle.scan_lines.proofs.words.put_tokens.Goals as goal

no-tokens : (texts : List (List ℕ)) → token_words [] texts ≡ []
no-tokens [] = refl
no-tokens (text ∷ texts) = refl

pub returns : goal.returns
returns c =
    let out = c.loop-piece.out.items in
    let rest = c.loop-piece.rest.now in
    let none : drop c.loop-piece.piece-index c.args.pieces.now ≡ [] = drop_of_length-le c.args.pieces.now (omega arith) in
    let all = ap (λ (pieces : List Piece). token_words (tokens_of pieces) rest) none ∙ no-tokens rest in
    sym (ap (λ (behind : List ℕ). out ++ behind) all ∙ append-nil out) ∙ c.loop-piece.invariant
