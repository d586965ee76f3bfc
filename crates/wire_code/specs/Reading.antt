-- Words of bodies, and of public clauses: how the front of a byte string is read as a value.
use Rattle.std.specs.Prelude.{◌≡◌, ℕ, zero, suc, ◌-◌, ◌*◌, ℤ, Bool, true, false, ◌&&◌, ◌==◌, nat_lt, nat_le}
use Rattle.std.specs.Prelude.{if◌then◌else◌, List, [], ◌∷◌, length, take, drop, slice_index, Option, Some, None, Result, Ok, Err}
use Rattle.std.specs.Int.{cast_signed, w64}
use Rattle.byteorder.specs.Endian.{big_number}
use Rattle.wire_code.specs.declared.fault.Fault.{Fault}
use Rattle.wire_code.specs.declared.fault.Fault.TheVariants.{Short, Bad}
use Rattle.wire_code.specs.declared.fault.Trouble.{Trouble}
use Rattle.wire_code.specs.declared.fault.Trouble.TheVariants.{Memory, Faulty}

-- a reading: the value at the front of bytes and what is left, or why there is none
abbrev pub At : Type 0 → Type 0
At X = List ℕ → Result (X × List ℕ) Fault

-- a wrong byte, with what is left behind it
abbrev pub wrong : {X : Type 0} → List ℕ → Result X Fault
wrong rest = Err (Bad (suc (length rest)))

-- what is read behind a value
abbrev pub then_read : {X Y : Type 0} → Result (X × List ℕ) Fault → (X → List ℕ → Result (Y × List ℕ) Fault) → Result (Y × List ℕ) Fault
then_read (Ok found) next = next found.0 found.1
then_read (Err fault) next = Err fault

-- what is made of a value
abbrev pub made : {X Y : Type 0} → (X → Y) → At X → At Y
made make at bytes = then_read (at bytes) (λ x rest. Ok (make x, rest))

-- a value, and what it asks for behind it
abbrev pub field : {X Y : Type 0} → At X → (X → At Y) → At (X × Y)
field at next bytes = then_read (at bytes) (λ x rest. then_read (next x rest) (λ y last. Ok ((x, y), last)))

-- two values
abbrev pub both : {X Y : Type 0} → At X → At Y → At (X × Y)
both at next bytes = field at (λ _. next) bytes

-- no byte
abbrev pub nothing : At (Unit {0})
nothing bytes = Ok (tt, bytes)

-- one byte
abbrev pub first_at : At ℕ
first_at [] = Err Short
first_at (byte ∷ rest) = Ok (byte, rest)

-- a byte in a range
abbrev pub byte_at : ℕ → ℕ → At ℕ
byte_at low high bytes = then_read (first_at bytes) (λ byte rest. if nat_le low byte && nat_le byte high then Ok (byte, rest) else wrong rest)

-- a number of so many bytes
unfoldable pub number_at : ℕ → At ℕ
number_at width bytes = if nat_lt (length bytes) width then Err Short else Ok (big_number width bytes, drop width bytes)

unfoldable pub signed_at : At ℤ
signed_at bytes = made (cast_signed w64) (number_at 8) bytes

-- a number of two bytes in a range: its first byte is wrong where even the least number that begins with it is too great
unfoldable pub within_at : ℕ → ℕ → At ℕ
within_at low high bytes =
    if nat_lt (length bytes) 1 then Err Short
    else (if nat_lt high (slice_index bytes 0 * 256) then Err (Bad (length bytes))
    else (if nat_lt (length bytes) 2 then Err Short
    else (if nat_le low (big_number 2 bytes) && nat_le (big_number 2 bytes) high then Ok (big_number 2 bytes, drop 2 bytes)
    else Err (Bad (length bytes - 1)))))

abbrev pub client_at : At ℕ
client_at bytes = within_at 1 4096 bytes

-- a number of four bytes that is not 0: where it is, the last of them is wrong
unfoldable pub count_at : At ℕ
count_at bytes = then_read (number_at 4 bytes) (λ number rest. if number == 0 then wrong rest else Ok (number, rest))

-- so many values
abbrev pub many_at : {X : Type 0} → At X → ℕ → At (List X)
many_at at zero bytes = Ok ([], bytes)
many_at {X} at (suc count) bytes = made (λ (pair : X × List X). pair.0 ∷ pair.1) (both at (many_at at count)) bytes

unfoldable pub list_at : {X : Type 0} → At X → At (List X)
list_at {X} at bytes = made (λ (pair : ℕ × List X). pair.1) (field (number_at 4) (many_at at)) bytes

-- bytes in one piece
abbrev pub piece_at : ℕ → At (List ℕ)
piece_at count bytes = if nat_lt (length bytes) count then Err Short else Ok (take count bytes, drop count bytes)

unfoldable pub text_at : At (List ℕ)
text_at bytes = made (λ (pair : ℕ × List ℕ). pair.1) (field (within_at 0 16384) piece_at) bytes

unfoldable pub name_at : At (List ℕ)
name_at bytes = made (λ (pair : ℕ × List ℕ). pair.1) (field (within_at 1 256) (many_at (byte_at 32 126))) bytes

-- a byte that tells what follows
abbrev pub tagged : {X : Type 0} → (ℕ → At X) → At X
tagged choose bytes = then_read (first_at bytes) choose

-- this is read behind this tag
abbrev pub variant : {X : Type 0} → ℕ → At X → (ℕ → At X) → ℕ → At X
variant place at others tag rest = if tag == place then at rest else others tag rest

abbrev pub no_variant : {X : Type 0} → ℕ → At X
no_variant tag rest = wrong rest

unfoldable pub option_at : {X : Type 0} → At X → At (Option X)
option_at {X} at bytes = tagged
    (variant 0 (made {Y = Option X} (λ (_ : Unit {0}). None) nothing)
    (variant 1 (made {Y = Option X} (λ (x : X). Some x) at) no_variant)) bytes

unfoldable pub flag_at : At Bool
flag_at bytes = tagged (variant 0 (made (λ (_ : Unit {0}). false) nothing) (variant 1 (made (λ (_ : Unit {0}). true) nothing) no_variant)) bytes

-- the answer of a reader is what the reading gives; where memory ran out nothing is said
abbrev pub Gives : {X R : Type 0} → (R → X × List ℕ) → Result R Trouble → Result (X × List ℕ) Fault → Type 0
Gives view (Ok found) read = read ≡ Ok (view found)
Gives view (Err Memory) read = Unit {0}
Gives view (Err (Faulty fault)) read = read ≡ Err fault

-- the same for a reader that takes no memory
abbrev pub GivesAlways : {X R : Type 0} → (R → X × List ℕ) → Result R Fault → Result (X × List ℕ) Fault → Type 0
GivesAlways view (Ok found) read = read ≡ Ok (view found)
GivesAlways view (Err fault) read = read ≡ Err fault
