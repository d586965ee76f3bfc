-- Words of bodies alone: reading of the values of a script on lists of bytes.
use Rattle.std.specs.Prelude.{ℕ, ◌-◌, ◌^◌, ℤ, pos, neg_ℤ, Option, Some, None, List, [], ◌∷◌, codes, Bool, ◌&&◌, nat_le, length, if◌then◌else◌}
use Rattle.ais_values.specs.declared.kind.Version.{Version}
use Rattle.ais_values.specs.declared.kind.ClassId.{ClassId}
use Rattle.ais_values.specs.Bounds.{last_moment}
use Rattle.ntf_types.specs.declared.value.Value.{Value}
use Rattle.ntf_types.specs.declared.value.Value.TheVariants.{Int, NameOf, TextOf, Binary}
use Rattle.ntf_types.specs.declared.value.Pair.{Pair}
use Rattle.ntf_types.specs.declared.value.Change.{Change}
use Rattle.ntf_types.specs.declared.value.StateChange.{StateChange}
use Rattle.script_lines.specs.declared.line.Server.{Server}
use Rattle.script_lines.specs.declared.line.Server.TheVariants.{A, B}
use Rattle.script_grammar.specs.Reading.{known, word, part, one_of, such, maybe}
use Rattle.script_grammar.specs.ValueReading.{number_at, signed_at, quoted_at}
use Rattle.script_language.specs.Values.{version_of, class_of, pair_of, change_of, state_change_of}
use Rattle.std.specs.List.{list_all}

-- a capital letter
unfoldable pub release_at : List ℕ → Option (ℕ × List ℕ)
release_at [] = None
release_at (letter ∷ bytes) = if nat_le 65 letter && nat_le letter 90 then Some (letter, bytes) else None

abbrev pub is_printable : ℕ → Bool
is_printable byte = nat_le 32 byte && nat_le byte 126

abbrev pub is_name : List ℕ → Bool
is_name bytes = nat_le 1 (length bytes) && nat_le (length bytes) 256 && list_all is_printable bytes

unfoldable pub quoted_name_at : List ℕ → Option (List ℕ × List ℕ)
quoted_name_at = such is_name quoted_at

abbrev pub number8_at : List ℕ → Option (ℕ × List ℕ)
number8_at = number_at 0 255

abbrev pub number16_at : List ℕ → Option (ℕ × List ℕ)
number16_at = number_at 0 65535

abbrev pub number32_at : List ℕ → Option (ℕ × List ℕ)
number32_at = number_at 0 4294967295

abbrev pub number64_at : List ℕ → Option (ℕ × List ℕ)
number64_at = number_at 0 (2 ^ 64 - 1)

abbrev pub signed64_at : List ℕ → Option (ℤ × List ℕ)
signed64_at = signed_at (neg_ℤ (pos (2 ^ 63))) (pos (2 ^ 63 - 1))

abbrev pub script_time_at : List ℕ → Option (ℤ × List ℕ)
script_time_at = signed_at (pos 0) (pos last_moment)

abbrev pub client_at : List ℕ → Option (ℕ × List ℕ)
client_at = number_at 1 4096

abbrev pub queue_length_at : List ℕ → Option (ℕ × List ℕ)
queue_length_at = number_at 1 256

abbrev pub count_at : List ℕ → Option (ℕ × List ℕ)
count_at = number_at 1 (2 ^ 64 - 1)

abbrev pub server_readers : List (List ℕ × (List ℕ → Option (Server × List ℕ)))
server_readers = (codes "a", known A) ∷ (codes "b", known B) ∷ []

unfoldable pub server_at : List ℕ → Option (Server × List ℕ)
server_at = one_of server_readers

unfoldable pub version_at : List ℕ → Option (Version × List ℕ)
version_at =
    part release_at (λ release. word (codes ".") (part number8_at (λ major. word (codes ".") (part number8_at
    (λ minor. known (version_of release major minor))))))

unfoldable pub class_at : List ℕ → Option (ClassId × List ℕ)
class_at =
    part number32_at (λ vendor. word (codes ".") (part number16_at (λ major. word (codes ".") (part number16_at
    (λ minor. known (class_of vendor major minor))))))

abbrev pub value_readers : List (List ℕ × (List ℕ → Option (Value × List ℕ)))
value_readers =
    (codes "int:", part signed64_at (λ n. known (Int n)))
    ∷ (codes "name:", part quoted_name_at (λ name. known (NameOf name)))
    ∷ (codes "text:", part quoted_at (λ text. known (TextOf text)))
    ∷ (codes "bin:", part quoted_at (λ bytes. known (Binary bytes)))
    ∷ []

unfoldable pub value_at : List ℕ → Option (Value × List ℕ)
value_at = one_of value_readers

unfoldable pub pair_at : List ℕ → Option (Pair × List ℕ)
pair_at = part number16_at (λ id. word (codes ":") (part value_at (λ value. known (pair_of id value))))

unfoldable pub change_at : List ℕ → Option (Change × List ℕ)
change_at =
    part number16_at (λ id. word (codes ":") (part value_at (λ after. part (maybe (codes "<") value_at) (λ before. known (change_of id after before)))))

unfoldable pub state_change_at : List ℕ → Option (StateChange × List ℕ)
state_change_at =
    part number16_at (λ id. word (codes ":") (part number16_at (λ after. part (maybe (codes "<") number16_at)
    (λ before. known (state_change_of id after before)))))
