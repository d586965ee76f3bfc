-- Stamps of files, file by file.
use Rattle.std.proofs.Common.{◌≡◌, false, not, ◌&&◌, List, [], ◌∷◌, ◌++◌, refl, ap, sym, ◌∙◌}
use Rattle.std.specs.Prelude.{Option, Some, None, is_some, is_none, ℤ, int_lt, ◌↔◌}
use Rattle.std.specs.Option.{option_to_list}
use Rattle.std.specs.List.{AllByRecursion}
use Rattle.std.proofs.Math.Bool.{and_assoc}
use Rattle.stream_config.specs.declared.state.LogFile.{LogFile}
use Rattle.stream_config.specs.Fit.{stamps_of, rises, is_last_open}
use Rattle.log_history.specs.Stamps.{IsStampUpTo}
use Rattle.saved_fit.specs.Files.{is_later, is_behind_by, last_stamp_by, files_rise, open_last, HasStampsBy, HasStampsUpTo}

-- stamps behind the last one
abbrev stamps_behind : Option ℤ → List ℤ → List ℤ
stamps_behind None stamps = stamps
stamps_behind (Some last) stamps = last ∷ stamps

later-first : (last : Option ℤ) (stamp : ℤ) (stamps : List ℤ) → rises (stamps_behind last (stamp ∷ stamps)) ≡ (is_later last stamp && rises (stamp ∷ stamps))
later-first None stamp stamps = refl
later-first (Some last) stamp stamps = refl

rise-by : (last : Option ℤ) (created : ℤ) (closed : Option ℤ) (stamps : List ℤ) → rises (stamps_behind last (created ∷ option_to_list closed ++ stamps)) ≡ (is_behind_by last created closed && rises (last_stamp_by created closed ∷ stamps))
rise-by last created None stamps = later-first last created stamps
rise-by last created (Some closed) stamps =
    later-first last created (closed ∷ stamps) ∙ sym (and_assoc (is_later last created) (int_lt created closed) (rises (closed ∷ stamps)))

pub rise-same : (last : Option ℤ) (files : List LogFile) → files_rise last files ≡ rises (stamps_behind last (stamps_of files))
rise-same None [] = refl
rise-same (Some last) [] = refl
rise-same last (file ∷ files) =
    ap (λ b. is_behind_by last file.created file.closed && b) (rise-same (Some (last_stamp_by file.created file.closed)) files)
    ∙ sym (rise-by last file.created file.closed (stamps_of files))

some-not : (closed : Option ℤ) → not (is_none closed) ≡ is_some closed
some-not None = refl
some-not (Some closed) = refl

pub open-same : (files : List LogFile) → open_last false files ≡ is_last_open files
open-same [] = refl
open-same (file ∷ []) = refl
open-same (file ∷ next ∷ files) =
    ap (λ b. b && open_last (is_none next.closed) files) (some-not file.closed) ∙ ap (λ b. is_some file.closed && b) (open-same (next ∷ files))

stamps-of-one : (last created : ℤ) (closed : Option ℤ) (stamps : List ℤ) → HasStampsBy last created closed → AllByRecursion (IsStampUpTo last) stamps → AllByRecursion (IsStampUpTo last) (created ∷ option_to_list closed ++ stamps)
stamps-of-one last created None stamps has rest = (has, rest)
stamps-of-one last created (Some closed) stamps has rest = (has.0, (has.1, rest))

one-of-stamps : (last created : ℤ) (closed : Option ℤ) (stamps : List ℤ) → AllByRecursion (IsStampUpTo last) (created ∷ option_to_list closed ++ stamps) → HasStampsBy last created closed × AllByRecursion (IsStampUpTo last) stamps
one-of-stamps last created None stamps all = (all.0, all.1)
one-of-stamps last created (Some closed) stamps all = ((all.0, all.1.0), all.1.1)

to-stamps : (last : ℤ) (files : List LogFile) → AllByRecursion (HasStampsUpTo last) files → AllByRecursion (IsStampUpTo last) (stamps_of files)
to-stamps last [] each = tt
to-stamps last (file ∷ files) each = stamps-of-one last file.created file.closed (stamps_of files) each.0 (to-stamps last files each.1)

from-stamps : (last : ℤ) (files : List LogFile) → AllByRecursion (IsStampUpTo last) (stamps_of files) → AllByRecursion (HasStampsUpTo last) files
from-stamps last [] all = tt
from-stamps last (file ∷ files) all =
    let parts = one-of-stamps last file.created file.closed (stamps_of files) all in
    (parts.0, from-stamps last files parts.1)

pub stamps-same : (last : ℤ) (files : List LogFile) → AllByRecursion (HasStampsUpTo last) files ↔ AllByRecursion (IsStampUpTo last) (stamps_of files)
stamps-same last files = (to-stamps last files, from-stamps last files)
