-- Words of bodies alone: what the reading of bytes comes to.
use Rattle.std.specs.Prelude.{◌≡◌, ℕ, ◌-◌, ◌<◌, List, [], length, Result, Ok, Err}
use Rattle.wire_code.specs.declared.fault.Fault.{Fault}
use Rattle.wire_code.specs.declared.fault.Fault.TheVariants as fault
use Rattle.wire.specs.declared.message.Message.{Message}
use Rattle.wire.specs.declared.message.WireWhy.{WireWhy}
use Rattle.wire.specs.declared.message.WireWhy.TheVariants.{Trailing, Short, BadValue}
use Rattle.wire.specs.declared.message.WireAnswer.{WireAnswer}
use Rattle.wire.specs.declared.message.WireAnswer.TheVariants.{Memory, Refused}

-- a whole message and bytes behind it, an end within a message, or a wrong byte
abbrev pub IsFault : List ℕ → Result (Message × List ℕ) Fault → ℕ → WireWhy → Type 0
IsFault bytes read place Trailing =
    (found : Message × List ℕ) × (read ≡ Ok found) × (0 < length found.1) × (place ≡ length bytes - length found.1)
IsFault bytes read place Short = (read ≡ Err fault.Short) × (place ≡ length bytes)
IsFault bytes read place BadValue = (left : ℕ) × (read ≡ Err (fault.Bad left)) × (place ≡ length bytes - left)

abbrev pub IsVerdict : List ℕ → Result (Message × List ℕ) Fault → Result Message WireAnswer → Type 0
IsVerdict bytes read (Ok message) = read ≡ Ok (message, [])
IsVerdict bytes read (Err Memory) = Unit {0}
IsVerdict bytes read (Err (Refused place why)) = IsFault bytes read place why
