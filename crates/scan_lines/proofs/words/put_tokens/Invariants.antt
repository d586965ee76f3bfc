use Rattle.std.proofs.Common.{◌≡◌, ◌++◌, drop}
use Rattle.record_scan.specs.Fits.{tokens_of}
use Rattle.scan_lines.specs.Lines.{token_words}
use Rattle.scan_lines.proofs.words.put_tokens.Given as goal

abbrev pub invariant-loop-piece : goal.invariant-loop-piece
invariant-loop-piece l =
    l.out.items ++ token_words (tokens_of (drop l.piece-index l.pieces)) l.rest
    ≡ l.initial.out.items ++ token_words (tokens_of l.pieces) l.texts
