use Rattle.std.proofs.Common.{◌≤◌, ◌/◌, ◌∷◌, [], ◌++◌, take, drop, get_or, sym, subst, ◌∙◌, ap, arith}
use Rattle.std.proofs.lemmas.Bool.Decides.{nat_tests}
use Rattle.ais_values.specs.Texts.{hex_digit}
use Rattle.record_print.specs.Printing.{hex_bytes}
use Rattle.record_print.specs.Sheets.{Adds}
use Rattle.record_print.proofs.DigitLaws.{hex_bytes-rest, hex_bytes-more}
use Rattle.record_print.proofs.SheetLaws.{full_adds, adds_then}
use Rattle.record_print.proofs.sheet.Sheet.put_bytes.Goals as goal

pub returns-then-is_full : goal.returns-then-is_full
returns-then-is_full c =
    let bytes = c.args.bytes.now in
    let count = c.loop-byte.byte-index in
    let full : c.loop-byte.self.limit ≤ c.loop-byte.self.used = Prim.grind (arith, nat_tests) in
    subst (Adds c.args.self.now c.loop-byte.self) (hex_bytes-rest bytes count)
    (full_adds c.args.self.now c.loop-byte.self (hex_bytes (take count bytes)) (hex_bytes (drop count bytes)) c.loop-byte.invariant full)

pub loop-byte-preserved : goal.loop-byte-preserved
loop-byte-preserved c =
    let added = adds_then _ _ _ _ _ c.loop-byte.invariant c.put.ensures in
    subst (Adds c.args.self.now c.put.new.self) (ap (λ high. hex_bytes (take c.loop-byte.byte-index c.args.bytes.now) ++ high ∷ c.hex_digit-in-loop-byte.result ∷ []) c.hex_digit.ensures
    ∙ ap (λ low. hex_bytes (take c.loop-byte.byte-index c.args.bytes.now) ++ hex_digit (get_or c.args.bytes.now c.loop-byte.byte-index 0 / 16) ∷ low ∷ []) c.hex_digit-in-loop-byte.ensures
    ∙ sym (hex_bytes-more c.args.bytes.now c.loop-byte.byte-index (omega arith))) added
