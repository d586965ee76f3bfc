-- Words of public clauses: what attributes a stream may have.
use Rattle.std.specs.Prelude.{◌≡◌, ◌≢◌, ℕ, ◌≤◌, ◌⊎◌, List, length, Bool, ◌&&◌, ◌||◌, ◌==◌, nat_le, IsTrue, All, codes}
use Rattle.ais_values.specs.declared.kind.StreamKind.{StreamKind}
use Rattle.ais_values.specs.declared.kind.StreamKind.TheVariants as kinds
use Rattle.format_expr.specs.Language.{IsExpression}
use Rattle.stream_config.specs.declared.attrs.FullAction.TheVariants.{Wrap}
use Rattle.stream_config.specs.declared.attrs.StreamAttrs.{StreamAttrs}
use Rattle.stream_config.specs.declared.attrs.StreamName.{StreamName}
use Rattle.stream_config.specs.declared.attrs.StreamName.TheVariants.{Alarm, Notification, System, App}

-- the kind of the stream of a name
abbrev pub kind_of : StreamName → StreamKind
kind_of Alarm = kinds.Alarm
kind_of Notification = kinds.Notification
kind_of System = kinds.System
kind_of (App name) = kinds.Application

-- a letter, a digit, `_` or `-`
abbrev pub is_file_byte : ℕ → Bool
is_file_byte byte =
    nat_le 65 byte && nat_le byte 90 || nat_le 97 byte && nat_le byte 122 || nat_le 48 byte && nat_le byte 57
    || byte == 95 || byte == 45

-- 1 to 64 letters, digits, `_` and `-`
pub record IsFileName (bytes : List ℕ) : Type 0 where
  pub some : 1 ≤ length bytes
  pub bound : length bytes ≤ 64
  pub plain : All (λ byte. IsTrue (is_file_byte byte)) bytes

-- `.`, or a folder's name by the same rule
abbrev pub IsPath : List ℕ → Type 0
IsPath bytes = (bytes ≡ codes ".") ⊎ IsFileName bytes

-- records of one size, for one of which a file has room
pub record IsSizedAlike (attrs : StreamAttrs) : Type 0 where
  pub least_record : 32 ≤ attrs.record_size
  pub greatest_record : attrs.record_size ≤ 16384
  pub least_file : attrs.record_size ≤ attrs.max_file

-- records of the sizes of their texts: a file has room for the longest, and none takes an earlier one's place
pub record IsSizedFreely (attrs : StreamAttrs) : Type 0 where
  pub free : attrs.record_size ≡ 0
  pub least_file : 16384 ≤ attrs.max_file
  pub unwrapped : attrs.action ≢ Wrap

-- the size of records and the greatest size of files lie within their bounds
pub record IsSized (attrs : StreamAttrs) : Type 0 where
  pub records : IsSizedAlike attrs ⊎ IsSizedFreely attrs
  pub greatest_file : attrs.max_file ≤ 1073741824

-- a text is an expression of the kind, of at most 1,024 bytes
pub record IsFormat (kind : StreamKind) (text : List ℕ) : Type 0 where
  pub valid : IsExpression kind text
  pub bound : length text ≤ 1024

-- a stream of the kind may have these attributes
pub record PassesAttrs (kind : StreamKind) (attrs : StreamAttrs) : Type 0 where
  pub file : IsFileName attrs.file
  pub path : IsPath attrs.path
  pub sizes : IsSized attrs
  pub ha : attrs.ha ≤ 1
  pub some_rotated : 1 ≤ attrs.rotated
  pub few_rotated : attrs.rotated ≤ 128
  pub format : IsFormat kind attrs.expr

-- the files of two streams have the same names but for their stamps
pub record HaveOnePlace (one other : StreamAttrs) : Type 0 where
  pub path : one.path ≡ other.path
  pub file : one.file ≡ other.file
