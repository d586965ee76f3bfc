-- Words of public clauses: how simple values are spelled as bytes. Nothing here knows of reading.
use Rattle.std.specs.Prelude.{◌≡◌, ℕ, ◌^◌, ◌<◌, ◌≤◌, ℤ, Bool, true, false, List, [], ◌∷◌, ◌++◌, length, All, Option, Some, None, FitsSigned}
use Rattle.std.specs.Int.{cast_unsigned, w64}
use Rattle.byteorder.specs.Endian.{big_bytes}

-- a byte
abbrev pub IsByte : ℕ → Type 0
IsByte byte = byte < 256

abbrev pub IsBytes : List ℕ → Type 0
IsBytes bytes = All IsByte bytes

-- a number of so many bytes: the highest of them first
unfoldable pub number_text : ℕ → ℕ → List ℕ
number_text width number = big_bytes width number

abbrev pub IsNumber : ℕ → ℕ → Type 0
IsNumber width number = number < 256 ^ width

-- a signed number: two's complement of eight bytes
unfoldable pub signed_text : ℤ → List ℕ
signed_text number = number_text 8 (cast_unsigned w64 number)

abbrev pub IsSigned : ℤ → Type 0
IsSigned number = FitsSigned w64 number

-- a flag: 00 or 01
unfoldable pub flag_text : Bool → List ℕ
flag_text false = 0 ∷ []
flag_text true = 1 ∷ []

-- a name, and a text: the length in two bytes, then the bytes
unfoldable pub counted_text : List ℕ → List ℕ
counted_text bytes = number_text 2 (length bytes) ++ bytes

-- a text has at most 16,384 bytes
pub record IsText (text : List ℕ) : Type 0 where
  pub bound : length text ≤ 16384
  pub bytes : IsBytes text

-- a number from a least to a greatest one
pub record IsWithin (low high number : ℕ) : Type 0 where
  pub least : low ≤ number
  pub most : number ≤ high

-- a client: 1 to 4,096
abbrev pub IsClient : ℕ → Type 0
IsClient number = IsWithin 1 4096 number

-- a number of four bytes that begins at 1
abbrev pub IsCount : ℕ → Type 0
IsCount number = IsWithin 1 4294967295 number

-- the spellings of values, one behind the other
abbrev pub texts : {X : Type 0} → (X → List ℕ) → List X → List ℕ
texts text [] = []
texts text (x ∷ xs) = text x ++ texts text xs

-- a list: the count in four bytes, then the elements
unfoldable pub list_text : {X : Type 0} → (X → List ℕ) → List X → List ℕ
list_text text xs = number_text 4 (length xs) ++ texts text xs

abbrev pub ListFits : {X : Type 0} → (X → Type 0) → List X → Type 0
ListFits Fits xs = IsNumber 4 (length xs) × All Fits xs

-- an option: 00, or 01 and the value
unfoldable pub option_text : {X : Type 0} → (X → List ℕ) → Option X → List ℕ
option_text text None = 0 ∷ []
option_text text (Some x) = 1 ∷ text x

abbrev pub OptionFits : {X : Type 0} → (X → Type 0) → Option X → Type 0
OptionFits Fits None = Unit {0}
OptionFits Fits (Some x) = Fits x

-- the front of some spelling
pub record Begins {X : Type 0} (text : X → List ℕ) (Fits : X → Type 0) (front : List ℕ) : Type 0 where
  pub value : X
  pub more : List ℕ
  pub fits : Fits value
  pub is : text value ≡ front ++ more
