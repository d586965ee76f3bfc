-- Words of bodies alone: the text of a piece.
use Rattle.std.specs.Prelude.{ℕ, List}
use Rattle.std.specs.Fmt.{decimal, signed_decimal}
use Rattle.script_grammar.specs.Values.{hex_word}
use Rattle.script_grammar.specs.Writing.{quoted_text}
use Rattle.script_language.specs.Printing.{class_text}
use Rattle.script_printer.specs.declared.pieces.Piece.{Piece}
use Rattle.script_printer.specs.declared.pieces.Piece.TheVariants.{Word, Number, Signed, Hex, Quoted, Class}

abbrev pub piece_text : Piece → List ℕ
piece_text (Word word) = word.now
piece_text (Number number) = decimal number
piece_text (Signed number) = signed_decimal number
piece_text (Hex number) = hex_word number
piece_text (Quoted text) = quoted_text text.now
piece_text (Class class) = class_text class
