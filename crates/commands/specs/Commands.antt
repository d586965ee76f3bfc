-- Words of public clauses: the words of the command line that the program knows.
use Rattle.std.specs.Prelude.{ℕ, Bool, not, ◌&&◌, nat_eq, nat_le, if◌then◌else◌, List, [], ◌∷◌, map, codes, string_bytes}
use Rattle.std.specs.Prelude.{Option, Some, None, option_map, option_and_then}
use Rattle.std.specs.Fmt.{decimal}
use Rattle.std.specs.Str.Parse.{digits_value}
use Rattle.std.specs.Cmp.Lexicographic.{pointwise}
use Rattle.std.specs.declared.string.String.{String}
use Rattle.ais_values.specs.declared.kind.StreamKind.{StreamKind}
use Rattle.ais_values.specs.declared.kind.StreamKind.TheVariants as kind
use Rattle.command_line.specs.Lines.{is_dashed}
use Rattle.scan_lines.specs.declared.shown.Shown.{Shown}
use Rattle.scan_lines.specs.declared.shown.Shown.TheVariants as shown
use Rattle.commands.specs.declared.command.Command.{Command}
use Rattle.commands.specs.declared.command.Command.TheVariants.{Run, Check, Cold, Recover, Trio, Expr, Gen, Load, Scan}

-- the bytes of each word
abbrev pub word_bytes : {Z : Type 0} → List (String Z) → List (List ℕ)
word_bytes words = map (λ word. string_bytes word) words

-- whether a word is this one
abbrev pub is_word : List ℕ → List ℕ → Bool
is_word word name = pointwise nat_eq word name

-- the kind of streams that a word names
abbrev pub kind_of_word : List ℕ → Option StreamKind
kind_of_word word =
    if is_word word (codes "alarm") then Some kind.Alarm
    else if is_word word (codes "notification") then Some kind.Notification
    else if is_word word (codes "system") then Some kind.System
    else if is_word word (codes "application") then Some kind.Application
    else None

-- the command of one word
abbrev pub lone_command : List ℕ → Option Command
lone_command word =
    if is_word word (codes "run") then Some Run
    else if is_word word (codes "check") then Some Check
    else if is_word word (codes "cold") then Some Cold
    else if is_word word (codes "recover") then Some Recover
    else if is_word word (codes "trio") then Some Trio
    else None

-- `expr`, a kind and a text
abbrev pub expr_command : List ℕ → List ℕ → List ℕ → Option Command
expr_command word name text =
    if is_word word (codes "expr") && not (is_dashed text) then option_map (λ kind. Expr kind) (kind_of_word name) else None

-- the number from low to high that a word writes, which is the number's decimal form
abbrev pub number_of : (low high : ℕ) → List ℕ → Option ℕ
number_of low high word =
    if is_word word (decimal (digits_value 10 word)) && (nat_le low (digits_value 10 word) && nat_le (digits_value 10 word) high)
    then Some (digits_value 10 word) else None

-- `gen`, a count of turns, which is 1 to 100,000, and a seed below 2 to the 64
abbrev pub gen_command : (count seed : List ℕ) → Option Command
gen_command count seed =
    option_and_then (λ turns. option_map (λ from. Gen turns from) (number_of 0 18446744073709551615 seed)) (number_of 1 100000 count)

-- `load`, with the same
abbrev pub load_command : (count seed : List ℕ) → Option Command
load_command count seed =
    option_and_then (λ turns. option_map (λ from. Load turns from) (number_of 0 18446744073709551615 seed)) (number_of 1 100000 count)

-- the commands of three words
abbrev pub command_of_three : (word one two : List ℕ) → Option Command
command_of_three word one two =
    if is_word word (codes "gen") then gen_command one two
    else if is_word word (codes "load") then load_command one two
    else expr_command word one two

-- the size of records: 0, or 32 to 16,384
abbrev pub record_size : List ℕ → Option ℕ
record_size word = if is_word word (codes "0") then Some 0 else number_of 32 16384 word

-- the command on records of a kind and a size, of which these have a line
abbrev pub records_command : List ℕ → List ℕ → Shown → Option Command
records_command name size shown =
    option_and_then (λ kind. option_map (λ bytes. Scan (record { kind = kind; size = bytes; shown = shown })) (record_size size)) (kind_of_word name)

-- the command of four words: `scan`, a kind, a text and a size
abbrev pub scan_command : (word name text size : List ℕ) → Option Command
scan_command word name text size =
    if is_word word (codes "scan") && not (is_dashed text) then records_command name size shown.All else None

-- the one of six: `find`, a kind, a text, a size, the number of a token, which is 1 to 1,024, and its text
abbrev pub find_command : (word name text size token wanted : List ℕ) → Option Command
find_command word name text size token wanted =
    if is_word word (codes "find") && (not (is_dashed text) && not (is_dashed wanted))
    then option_and_then (λ number. records_command name size (shown.Having number)) (number_of 1 1024 token) else None

-- the command that these words give, if they give one
abbrev pub command_of : List (List ℕ) → Option Command
command_of (word ∷ []) = lone_command word
command_of (word ∷ one ∷ two ∷ []) = command_of_three word one two
command_of (word ∷ name ∷ text ∷ size ∷ []) = scan_command word name text size
command_of (word ∷ name ∷ text ∷ size ∷ token ∷ wanted ∷ []) = find_command word name text size token wanted
command_of _ = None

-- the text that the third word is
abbrev pub text_of : List (List ℕ) → List ℕ
text_of (word ∷ name ∷ text ∷ others) = text
text_of _ = []

-- the text that the sixth word is
abbrev pub wanted_of : List (List ℕ) → List ℕ
wanted_of (word ∷ name ∷ text ∷ size ∷ token ∷ wanted ∷ others) = wanted
wanted_of _ = []
