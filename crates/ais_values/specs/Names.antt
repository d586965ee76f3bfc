-- Words of public clauses: what a name is, 1 to 256 bytes, each a printable one of ASCII.
use Rattle.std.specs.Prelude.{ℕ, ◌≤◌, List, length, All}

-- a printable byte of ASCII, the blank among them
pub record IsPrintable (byte : ℕ) : Type 0 where
  pub low : 32 ≤ byte
  pub high : byte ≤ 126

pub record IsName (bytes : List ℕ) : Type 0 where
  pub some : 1 ≤ length bytes
  pub bound : length bytes ≤ 256
  pub printable : All IsPrintable bytes
