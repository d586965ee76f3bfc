-- Words of bodies alone: the files of a stream and their stamps, file by file.
use Rattle.std.specs.Prelude.{ℤ, int_lt, Bool, true, not, ◌&&◌, List, [], ◌∷◌, Option, Some, None, is_none}
use Rattle.stream_config.specs.declared.state.LogFile.{LogFile}
use Rattle.log_history.specs.Stamps.{IsStampUpTo}

-- a stamp is behind the last one, if there is one
abbrev pub is_later : Option ℤ → ℤ → Bool
is_later None stamp = true
is_later (Some last) stamp = int_lt last stamp

-- a file was made behind the last stamp, and closed behind its making, if it was
abbrev pub is_behind_by : Option ℤ → (created : ℤ) → Option ℤ → Bool
is_behind_by last created None = is_later last created
is_behind_by last created (Some closed) = is_later last created && int_lt created closed

abbrev pub is_behind : Option ℤ → LogFile → Bool
is_behind last file = is_behind_by last file.created file.closed

abbrev pub last_stamp_by : (created : ℤ) → Option ℤ → ℤ
last_stamp_by created None = created
last_stamp_by created (Some closed) = closed

abbrev pub last_stamp : LogFile → ℤ
last_stamp file = last_stamp_by file.created file.closed

-- the stamps of files rise behind the last one
abbrev pub files_rise : Option ℤ → List LogFile → Bool
files_rise last [] = true
files_rise last (file ∷ files) = is_behind last file && files_rise (Some (last_stamp file)) files

-- the last file alone is not closed, where the one before these is or is not
abbrev pub open_last : Bool → List LogFile → Bool
open_last before [] = before
open_last before (file ∷ files) = not before && open_last (is_none file.closed) files

abbrev pub HasStampsBy : (last created : ℤ) → Option ℤ → Type 0
HasStampsBy last created None = IsStampUpTo last created
HasStampsBy last created (Some closed) = IsStampUpTo last created × IsStampUpTo last closed

-- the stamps of a file are not negative, and not behind the last one
abbrev pub HasStampsUpTo : ℤ → LogFile → Type 0
HasStampsUpTo last file = HasStampsBy last file.created file.closed
