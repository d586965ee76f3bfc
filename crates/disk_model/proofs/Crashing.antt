-- What a crash of a disk in memory leaves of its files, and what is left where the disk stops in a call.
use Rattle.std.proofs.Common.{◌≡◌, ℕ, true, false, ◌&&◌, cond, List, [], ◌∷◌, length, map, Some, None, option_map, refl, sym, ap, subst, ◌∙◌, arith, length-take, if◌then◌else◌}
use Rattle.std.specs.Prelude.{MatchOption}
use Rattle.std.specs.Ordering.{nat_cmp, is_lt, eq_by_cmp}
use Rattle.std.specs.Cmp.Lexicographic.{slice_cmp, nat_list_cmp_total}
use Rattle.std.specs.FinMap.{get, insert, from_sorted, entries, entries_sorted, entries-from_sorted, get-from_sorted, get-entries}
use Rattle.std.specs.FinMap.Entries.{find, below_all, is_sorted}
use Rattle.std.proofs.lemmas.Bool.{leb-true}
use Rattle.std.proofs.lemmas.Float.{T_from_true}
use Rattle.std.proofs.lemmas.List.{get_or-take}
use Rattle.ais_values.proofs.Basics.{true_from_T}
use Rattle.std.specs.Prelude.{nat_le}
use Rattle.disk_model.specs.Disk.{File, Files, overwritten, file_written, file_cut, written_at, shortened}
use Rattle.disk_model.specs.Failures.{Torn, FileLeftByWrite, FileLeftByCut, FileLeftBySync, FileCrashed, Crashed, ThenCrashed, loose_ranges, LeftByWrite, LeftByCut, LeftBySync}
use Rattle.disk_model.specs.Memory.{file_crashed, files_crashed}
use Rattle.disk_model.proofs.Maps.{insert_standing}
use Rattle.disk_model.proofs.Shelving.{names_differ}
use Rattle.disk_model.proofs.Tearing.{torn_by_sync, torn_same, torn_overwritten, leaves_file}

-- an entry after a crash
abbrev pub crashed_entry : List ℕ → List ℕ × File → List ℕ × File
crashed_entry torn entry = (entry.0, file_crashed torn entry.1)

find-crashed : (torn q : List ℕ) (es : List (List ℕ × File))
    → find (slice_cmp nat_cmp) q (map (crashed_entry torn) es) ≡ option_map (file_crashed torn) (find (slice_cmp nat_cmp) q es)
find-crashed torn q [] = refl
find-crashed torn q (e ∷ es) =
    elim (eq_by_cmp (slice_cmp nat_cmp) q e.0) as (λ b. cond b (Some (file_crashed torn e.1)) (find (slice_cmp nat_cmp) q (map (crashed_entry torn) es))
    ≡ option_map (file_crashed torn) (cond b (Some e.1) (find (slice_cmp nat_cmp) q es))) [ true ↦ refl | false ↦ find-crashed torn q es ]

below-crashed : (torn name : List ℕ) (es : List (List ℕ × File))
    → below_all (slice_cmp nat_cmp) name (map (crashed_entry torn) es) ≡ below_all (slice_cmp nat_cmp) name es
below-crashed torn name [] = refl
below-crashed torn name (e ∷ es) = ap (λ b. is_lt (slice_cmp nat_cmp name e.0) && b) (below-crashed torn name es)

sorted-same : (torn : List ℕ) (es : List (List ℕ × File)) → is_sorted (slice_cmp nat_cmp) (map (crashed_entry torn) es) ≡ is_sorted (slice_cmp nat_cmp) es
sorted-same torn [] = refl
sorted-same torn (e ∷ es) =
    ap (λ b. b && is_sorted (slice_cmp nat_cmp) (map (crashed_entry torn) es)) (below-crashed torn e.0 es)
    ∙ ap (λ b. below_all (slice_cmp nat_cmp) e.0 es && b) (sorted-same torn es)

-- a crash keeps the list rising
pub sorted-crashed : (torn : List ℕ) (es : List (List ℕ × File)) → is_sorted (slice_cmp nat_cmp) es ≡ true
    → is_sorted (slice_cmp nat_cmp) (map (crashed_entry torn) es) ≡ true
sorted-crashed torn es sorted = sorted-same torn es ∙ sorted

-- the entries after a crash are those of the files after it
pub crash_shelved : (torn : List ℕ) (es : List (List ℕ × File)) → is_sorted (slice_cmp nat_cmp) es ≡ true
    → ◌≡◌ {A = Files} (from_sorted (map (crashed_entry torn) es)) (files_crashed torn (from_sorted es))
crash_shelved torn es sorted =
    ap (λ l. from_sorted (map (crashed_entry torn) l)) (sym (entries-from_sorted (slice_cmp nat_cmp) es (T_from_true _ sorted)))

get-crashed : (torn : List ℕ) (files : Files) (q : List ℕ) → get (files_crashed torn files) q ≡ option_map (file_crashed torn) (get files q)
get-crashed torn files q =
    let rising = sorted-crashed torn (entries files) (true_from_T _ (entries_sorted files)) in
    get-from_sorted (slice_cmp nat_cmp) (map (crashed_entry torn) (entries files)) q (T_from_true _ rising)
    ∙ find-crashed torn q (entries files) ∙ ap (option_map (file_crashed torn)) (sym (get-entries files q))

file-crashed : (torn : List ℕ) (file : File) → FileCrashed file (file_crashed torn file)
file-crashed torn file = record { torn = torn_by_sync torn file; loose = refl; settled = refl }

-- **a disk in memory crashes as a disk may**
pub crashed-is : (torn : List ℕ) (files : Files) → Crashed files (files_crashed torn files)
crashed-is torn files name =
    elim (get files name) as (λ f. get files name ≡ f → MatchOption f (get (files_crashed torn files) name ≡ None)
    (λ file. (left : File) × FileCrashed file left × (get (files_crashed torn files) name ≡ Some left))) [
      | None ↦ λ e. get-crashed torn files name ∙ ap (option_map (file_crashed torn)) e
      | Some file ↦ λ e. (file_crashed torn file, file-crashed torn file, get-crashed torn files name ∙ ap (option_map (file_crashed torn)) e)
    ] refl

pub crashed-as : (torn : List ℕ) (old before new : Files) → before ≡ old → new ≡ files_crashed torn before → Crashed old new
crashed-as torn old before new same is =
    subst (λ files. Crashed files new) same (subst (Crashed before) (sym is) (crashed-is torn before))

-- the disk stopped in a call that had left the files so
pub stopped-with : (torn : List ℕ) (Left : Files → Files → Type 0) (old before running new : Files) → before ≡ old → Left before running
    → new ≡ files_crashed torn running → ThenCrashed Left old new
stopped-with torn Left old before running new same left is =
    (running, subst (λ files. Left files running) same left, crashed-as torn running running new refl is)

-- What a call that is done may leave, is what a failed one may.

left-written : (at : ℕ) (bytes : List ℕ) (file : File) → FileLeftByWrite at bytes file (file_written at bytes file)
left-written at bytes file = record {
  torn =
      elim (nat_le at (length file.bytes)) as (λ b. nat_le at (length file.bytes) ≡ b →
      Torn ((at, length bytes) ∷ []) (length file.bytes) (length (if b then overwritten file.bytes at bytes else file.bytes)) file.bytes
      (if b then overwritten file.bytes at bytes else file.bytes)) [
        | true ↦ λ e. torn_overwritten file.bytes bytes bytes at (leb-true at (length file.bytes) e) (omega arith)
        | false ↦ λ e. torn_same _ (length file.bytes) file.bytes
      ] refl;
  loose = refl;
  settled = refl;
}

pub left-where-written : (name : List ℕ) (at : ℕ) (bytes : List ℕ) (old new : Files) → new ≡ written_at old name at bytes → LeftByWrite name at bytes old new
left-where-written name at bytes old new =
    leaves_file (FileLeftByWrite at bytes) (file_written at bytes) name old new (left-written at bytes)

left-cut : (len : ℕ) (file : File) → FileLeftByCut len file (file_cut len file)
left-cut len file =
    let size = length-take len file.bytes in
    record {
      torn = record {
        no_shorter = omega arith;
        no_longer = omega arith;
        kept = λ place before free. get_or-take len file.bytes place 0 (omega arith);
      };
      loose = refl;
      settled = refl;
    }

pub left-where-cut : (name : List ℕ) (len : ℕ) (old new : Files) → new ≡ shortened old name len → LeftByCut name len old new
left-where-cut name len old new = leaves_file (FileLeftByCut len) (file_cut len) name old new (left-cut len)

-- a sync that did nothing
pub left-unsynced : (name : List ℕ) (old : Files) → LeftBySync name old old
left-unsynced name old =
    elim (get old name) as (λ f. get old name ≡ f → MatchOption f (old ≡ old) (λ file. (left : File) × FileLeftBySync file left × (old ≡ insert old name left))) [
      | None ↦ λ e. refl
      | Some file ↦ λ e. (
        file,
        record { torn = torn_same (loose_ranges file) file.settled file.bytes; loose = refl; settled = refl },
        sym (insert_standing nat_list_cmp_total names_differ old name file e),
      )
    ] refl
