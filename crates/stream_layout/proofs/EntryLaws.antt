-- The entries of the files that are closed, and of the current one behind them.
use Rattle.std.proofs.Common.{◌≡◌, ◌≢◌, ℕ, ◌-◌, ◌≤◌, ◌<ℤ◌, true, List, [], ◌∷◌, ◌++◌, length, take, drop, Some, None, is_some, cond, refl, sym, ap, subst, ◌∙◌, arith, length-drop}
use Rattle.std.specs.Prelude.{⊤}
use Rattle.std.specs.List.{concat, All, slice_index_or}
use Rattle.std.proofs.lemmas.List.{take-append-le, drop-append-le}
use Rattle.std.proofs.lemmas.List.Elements.{All-head, All-tail}
use Rattle.stream_config.specs.declared.attrs.FullAction.TheVariants.{Rotate}
use Rattle.stream_config.specs.declared.attrs.StreamAttrs.{StreamAttrs}
use Rattle.stream_config.specs.declared.state.LogFile.{LogFile}
use Rattle.stream_config.specs.Fit.{next_first}
use Rattle.stream_config.specs.Sizes.{records_per_file}
use Rattle.stream_layout.specs.Names.{log_name}
use Rattle.stream_layout.specs.LogFiles.{records_from, records_in, bytes_in, entries_to}
use Rattle.stream_layout.specs.Carrying.{IsStamp, entry_at}
use Rattle.stream_layout.proofs.FileLaws.{apart}
use Rattle.stream_layout.proofs.NameLaws.{created_apart, closed_apart}
use Rattle.stream_layout.proofs.CurrentFile.{unlike}

-- the files each end where the next one begins, and the last at this number
abbrev pub Follow : (until : ℕ) → List LogFile → Type 0
Follow until [] = ⊤
Follow until (file ∷ files) = (file.first ≤ next_first files until) × Follow until files

pub next_first-append : (files more : List LogFile) (until : ℕ) → next_first (files ++ more) until ≡ next_first files (next_first more until)
next_first-append [] more until = refl
next_first-append (file ∷ files) more until = refl

pub next-within : (until : ℕ) (files : List LogFile) → Follow until files → next_first files until ≤ until
next-within until [] follow = omega arith
next-within until (file ∷ files) follow = let rest = next-within until files follow.1 in omega (arith, follow.0, rest)

pub follow-front : (until : ℕ) (front : List LogFile) (last : LogFile) → Follow until (front ++ last ∷ []) → Follow last.first front
follow-front until [] last follow = tt
follow-front until (file ∷ front) last follow =
    (subst (λ next. file.first ≤ next) (next_first-append front (last ∷ []) until) follow.0, follow-front until front last follow.1)

pub follow-last : (until : ℕ) (front : List LogFile) (last : LogFile) → Follow until (front ++ last ∷ []) → last.first ≤ until
follow-last until [] last follow = follow.0
follow-last until (file ∷ front) last follow = follow-last until front last follow.1

pub entries_to-append : (attrs : StreamAttrs) (records : List (List ℕ)) (until : ℕ) (files more : List LogFile)
    → entries_to attrs records until (files ++ more) ≡ entries_to attrs records (next_first more until) files ++ entries_to attrs records until more
unfolding entries_to
entries_to-append attrs records until [] more = refl
entries_to-append attrs records until (file ∷ files) more =
    ap (λ next. (log_name attrs file, bytes_in attrs file.first next records) ∷ entries_to attrs records until (files ++ more)) (next_first-append files more until)
    ∙ ap (λ es. (log_name attrs file, bytes_in attrs file.first (next_first files (next_first more until)) records) ∷ es) (entries_to-append attrs records until files more)

pub entries_to-one : (attrs : StreamAttrs) (records : List (List ℕ)) (until : ℕ) (file : LogFile)
    → entries_to attrs records until (file ∷ []) ≡ (log_name attrs file, bytes_in attrs file.first until records) ∷ []
unfolding entries_to
entries_to-one attrs records until file = refl

pub entries_to-cons : (attrs : StreamAttrs) (records : List (List ℕ)) (until : ℕ) (file : LogFile) (files : List LogFile)
    → entries_to attrs records until (file ∷ files)
    ≡ (log_name attrs file, bytes_in attrs file.first (next_first files until) records) ∷ entries_to attrs records until files
unfolding entries_to
entries_to-cons attrs records until file files = refl

pub entries_to-nil : (attrs : StreamAttrs) (records : List (List ℕ)) (until : ℕ) → entries_to attrs records until [] ≡ []
unfolding entries_to
entries_to-nil attrs records until = refl

-- the closed files and the last one
pub entries_to-last : (attrs : StreamAttrs) (records : List (List ℕ)) (until : ℕ) (front : List LogFile) (last : LogFile)
    → entries_to attrs records until (front ++ last ∷ [])
    ≡ entries_to attrs records last.first front ++ (log_name attrs last, bytes_in attrs last.first until records) ∷ []
entries_to-last attrs records until front last =
    entries_to-append attrs records until front (last ∷ [])
    ∙ ap (λ es. entries_to attrs records last.first front ++ es) (entries_to-one attrs records until last)

-- records behind those of a file are none of its
pub records_from-full : (first until : ℕ) (records more : List (List ℕ)) → first ≤ until → until ≤ length records
    → records_from first until (records ++ more) ≡ records_from first until records
records_from-full first until records more order within =
    ap (take (until - first)) (drop-append-le first records more (omega (arith, order, within)))
    ∙ take-append-le (until - first) (drop first records) more (let long = length-drop first records in omega (arith, order, within, long))

-- full files stay as they are
pub entries_to-full : (attrs : StreamAttrs) (records more : List (List ℕ)) (until : ℕ) (files : List LogFile) → attrs.action ≡ Rotate → Follow until files
    → until ≤ length records → entries_to attrs (records ++ more) until files ≡ entries_to attrs records until files
unfolding entries_to
entries_to-full attrs records more until [] rotates follow full = refl
entries_to-full attrs records more until (file ∷ files) rotates follow full =
    let n = records_per_file attrs in
    let next = next_first files until in
    let within = next-within until files follow.1 in
    ap (λ a. (log_name attrs file, concat (records_in a n file.first next (records ++ more))) ∷ entries_to attrs (records ++ more) until files) rotates
    ∙ ap (λ rs. (log_name attrs file, concat rs) ∷ entries_to attrs (records ++ more) until files) (records_from-full file.first next records more follow.0 (omega (arith, within, full)))
    ∙ ap (λ a. (log_name attrs file, concat (records_in a n file.first next records)) ∷ entries_to attrs (records ++ more) until files) (sym rotates)
    ∙ ap (λ es. (log_name attrs file, bytes_in attrs file.first next records) ∷ es) (entries_to-full attrs records more until files rotates follow.1 full)

-- a name that no file has is no entry's
pub absent : (attrs : StreamAttrs) (records : List (List ℕ)) (until : ℕ) (files : List LogFile) (name : List ℕ)
    → All (λ (file : LogFile). name ≢ log_name attrs file) files → entry_at (entries_to attrs records until files) name ≡ None
unfolding entries_to
absent attrs records until [] name others = refl
absent attrs records until (file ∷ files) name others =
    ap (λ b. cond b (Some (bytes_in attrs file.first (next_first files until) records)) (entry_at (entries_to attrs records until files) name))
    (apart name (log_name attrs file) (All-head (λ (f : LogFile). name ≢ log_name attrs f) file files others))
    ∙ absent attrs records until files name (All-tail (λ (f : LogFile). name ≢ log_name attrs f) file files others)

-- a file that is not closed among closed ones
pub absent_open : (attrs : StreamAttrs) (records : List (List ℕ)) (until : ℕ) (files : List LogFile) (file : LogFile)
    → All (λ (f : LogFile). is_some f.closed ≡ true) files → file.closed ≡ None → entry_at (entries_to attrs records until files) (log_name attrs file) ≡ None
absent_open attrs records until files file shut unshut =
    absent attrs records until files (log_name attrs file)
    (λ k d inside same. closed_apart attrs (slice_index_or files k d) file (shut k d inside) unshut (sym same))

-- a file that was made behind others
pub absent_later : (attrs : StreamAttrs) (records : List (List ℕ)) (until : ℕ) (files : List LogFile) (file : LogFile)
    → All (λ (f : LogFile). IsStamp f.created) files → IsStamp file.created → All (λ (f : LogFile). f.created <ℤ file.created) files
    → entry_at (entries_to attrs records until files) (log_name attrs file) ≡ None
absent_later attrs records until files file stamps stamp earlier =
    absent attrs records until files (log_name attrs file)
    (λ k d inside same. created_apart attrs (slice_index_or files k d) file (stamps k d inside) stamp
    (unlike (slice_index_or files k d).created file.created (earlier k d inside)) (sym same))

-- a file that was made before others
pub absent_earlier : (attrs : StreamAttrs) (records : List (List ℕ)) (until : ℕ) (files : List LogFile) (file : LogFile)
    → All (λ (f : LogFile). IsStamp f.created) files → IsStamp file.created → All (λ (f : LogFile). file.created <ℤ f.created) files
    → entry_at (entries_to attrs records until files) (log_name attrs file) ≡ None
absent_earlier attrs records until files file stamps stamp later =
    absent attrs records until files (log_name attrs file)
    (λ k d inside. created_apart attrs file (slice_index_or files k d) stamp (stamps k d inside)
    (unlike file.created (slice_index_or files k d).created (later k d inside)))
