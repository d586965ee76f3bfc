-- Words of public clauses: the names of a stream's files on disk.
use Rattle.std.specs.Prelude.{ℕ, unsigned_abs, ℤ, List, [], ◌++◌, Option, Some, None, codes, if◌then◌else◌}
use Rattle.std.specs.Str.{bytes_eq}
use Rattle.civil_time.specs.Stamps.{stamp_of}
use Rattle.stream_config.specs.declared.attrs.StreamAttrs.{StreamAttrs}
use Rattle.stream_config.specs.declared.state.LogFile.{LogFile}

-- the path and `/`, and nothing where the path is `.`
abbrev pub folder_of : List ℕ → List ℕ
folder_of path = if bytes_eq path (codes ".") then [] else path ++ codes "/"

-- `_` and a stamp, a second that is not negative
abbrev pub stamp_part : ℤ → List ℕ
stamp_part stamp = codes "_" ++ stamp_of (unsigned_abs stamp)

abbrev pub closing_part : Option ℤ → List ℕ
closing_part None = []
closing_part (Some stamp) = stamp_part stamp

-- a file of records: `<file>_<created>.log` while it is current, `<file>_<created>_<closed>.log` afterwards
unfoldable pub stamped_name : StreamAttrs → (created : ℤ) (closed : Option ℤ) → List ℕ
stamped_name attrs created closed = folder_of attrs.path ++ attrs.file ++ stamp_part created ++ closing_part closed ++ codes ".log"

abbrev pub log_name : StreamAttrs → LogFile → List ℕ
log_name attrs file = stamped_name attrs file.created file.closed

-- the cfg file: `<file>.cfg`
unfoldable pub cfg_name : StreamAttrs → List ℕ
cfg_name attrs = folder_of attrs.path ++ attrs.file ++ codes ".cfg"
