-- Words of public clauses: how the values of a script are spelled.
use Rattle.std.specs.Prelude.{◌≡◌, ℕ, ◌-◌, ◌^◌, ◌≤◌, ℤ, pos, neg_ℤ, Option, List, [], ◌∷◌, codes}
use Rattle.ais_values.specs.Names.{IsName}
use Rattle.ais_values.specs.declared.kind.Version.{Version}
use Rattle.ais_values.specs.declared.kind.ClassId.{ClassId}
use Rattle.ais_values.specs.Bounds.{last_moment}
use Rattle.ntf_types.specs.declared.value.Value.{Value}
use Rattle.ntf_types.specs.declared.value.Value.TheVariants.{Int, NameOf, TextOf, Binary}
use Rattle.ntf_types.specs.declared.value.Pair.{Pair}
use Rattle.ntf_types.specs.declared.value.Change.{Change}
use Rattle.ntf_types.specs.declared.value.StateChange.{StateChange}
use Rattle.script_lines.specs.declared.line.Server.{Server}
use Rattle.script_lines.specs.declared.line.Server.TheVariants.{A, B}
use Rattle.script_grammar.specs.Grammar.{Known, Word, Part, OneOf, Such, Maybe}
use Rattle.script_grammar.specs.Values.{IsNumber, IsSigned, IsQuoted}

-- a number that fits so many bits
abbrev pub IsNumber8 : ℕ → List ℕ → Type 0
IsNumber8 = IsNumber 0 255

abbrev pub IsNumber16 : ℕ → List ℕ → Type 0
IsNumber16 = IsNumber 0 65535

abbrev pub IsNumber32 : ℕ → List ℕ → Type 0
IsNumber32 = IsNumber 0 4294967295

abbrev pub IsNumber64 : ℕ → List ℕ → Type 0
IsNumber64 = IsNumber 0 (2 ^ 64 - 1)

-- a number that fits 64 bits with its sign
abbrev pub IsSigned64 : ℤ → List ℕ → Type 0
IsSigned64 = IsSigned (neg_ℤ (pos (2 ^ 63))) (pos (2 ^ 63 - 1))

abbrev pub IsScriptTime : ℤ → List ℕ → Type 0
IsScriptTime = IsSigned (pos 0) (pos last_moment)

abbrev pub IsClient : ℕ → List ℕ → Type 0
IsClient = IsNumber 1 4096

-- the length of a queue
abbrev pub IsQueueLength : ℕ → List ℕ → Type 0
IsQueueLength = IsNumber 1 256

-- a count from 1 that fits 64 bits
abbrev pub IsCount : ℕ → List ℕ → Type 0
IsCount = IsNumber 1 (2 ^ 64 - 1)

-- a server by its letter
abbrev pub server_forms : List (List ℕ × (Server → List ℕ → Type 0))
server_forms = (codes "a", Known A) ∷ (codes "b", Known B) ∷ []

unfoldable pub IsServer : Server → List ℕ → Type 0
IsServer = OneOf server_forms

-- a quoted text that is a name
abbrev pub IsQuotedName : List ℕ → List ℕ → Type 0
IsQuotedName = Such IsName IsQuoted

-- a capital letter
abbrev pub IsRelease : ℕ → List ℕ → Type 0
IsRelease letter text = (65 ≤ letter) × (letter ≤ 90) × (text ≡ letter ∷ [])

abbrev pub version_of : ℕ → ℕ → ℕ → Version
version_of release major minor = record { release = release; major = major; minor = minor }

-- R.M.N
unfoldable pub IsVersion : Version → List ℕ → Type 0
IsVersion =
    Part IsRelease (λ release. Word (codes ".") (Part IsNumber8 (λ major. Word (codes ".") (Part IsNumber8 (λ minor. Known (version_of release major minor))))))

abbrev pub class_of : ℕ → ℕ → ℕ → ClassId
class_of vendor major minor = record { vendor = vendor; major = major; minor = minor }

-- V.M.N
unfoldable pub IsClass : ClassId → List ℕ → Type 0
IsClass =
    Part IsNumber32 (λ vendor. Word (codes ".") (Part IsNumber16 (λ major. Word (codes ".") (Part IsNumber16 (λ minor. Known (class_of vendor major minor))))))

-- int:N, name:"NAME", text:"TEXT" or bin:"BYTES"
abbrev pub value_forms : List (List ℕ × (Value → List ℕ → Type 0))
value_forms =
    (codes "int:", Part IsSigned64 (λ n. Known (Int n)))
    ∷ (codes "name:", Part IsQuotedName (λ name. Known (NameOf name)))
    ∷ (codes "text:", Part IsQuoted (λ text. Known (TextOf text)))
    ∷ (codes "bin:", Part IsQuoted (λ bytes. Known (Binary bytes)))
    ∷ []

unfoldable pub IsValue : Value → List ℕ → Type 0
IsValue = OneOf value_forms

abbrev pub pair_of : ℕ → Value → Pair
pair_of id value = record { id = id; value = value }

-- ID:VALUE
unfoldable pub IsPair : Pair → List ℕ → Type 0
IsPair = Part IsNumber16 (λ id. Word (codes ":") (Part IsValue (λ value. Known (pair_of id value))))

abbrev pub change_of : ℕ → Value → Option Value → Change
change_of id after before = record { id = id; after = after; before = before }

-- ID:VALUE or ID:VALUE<VALUE
unfoldable pub IsChange : Change → List ℕ → Type 0
IsChange =
    Part IsNumber16 (λ id. Word (codes ":") (Part IsValue (λ after. Part (Maybe (codes "<") IsValue) (λ before. Known (change_of id after before)))))

abbrev pub state_change_of : ℕ → ℕ → Option ℕ → StateChange
state_change_of id after before = record { id = id; after = after; before = before }

-- ID:N or ID:N<N
unfoldable pub IsStateChange : StateChange → List ℕ → Type 0
IsStateChange =
    Part IsNumber16 (λ id. Word (codes ":") (Part IsNumber16 (λ after. Part (Maybe (codes "<") IsNumber16)
    (λ before. Known (state_change_of id after before)))))
