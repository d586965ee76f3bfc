-- Which names of files differ.
use Rattle.std.proofs.Common.{◌≡◌, ◌≢◌, ℕ, suc, ◌+◌, ◌≤◌, ℤ, pos, negsuc, true, List, ◌++◌, nat_lt, length, take, drop, get_or, Option, Some, None, is_some, if◌then◌else◌, codes, refl, sym, ap, ◌∙◌, arith, append_assoc, length-append}
use Rattle.std.specs.Int.RustNames.{unsigned_abs}
use Rattle.std.proofs.lemmas.Bool.{false≢true}
use Rattle.std.proofs.lemmas.Int.{ints}
use Rattle.std.proofs.lemmas.List.{append_cancel_left, take_at, drop_at}
use Rattle.civil_time.specs.Stamps.{stamp_of}
use Rattle.civil_time.proofs.StampLaws.{stamp_tells}
use Rattle.stream_config.specs.declared.attrs.StreamAttrs.{StreamAttrs}
use Rattle.stream_config.specs.declared.state.LogFile.{LogFile}
use Rattle.stream_layout.specs.Names.{stamped_name, folder_of, stamp_part, closing_part, log_name, cfg_name}
use Rattle.stream_layout.specs.Carrying.{IsStamp}

pub length-stamp_of : (second : ℕ) → length (stamp_of second) ≡ 15
unfolding stamp_of
length-stamp_of second = refl

-- a stamp is the number of its second
pub stamp_is : (stamp : ℤ) → IsStamp stamp → stamp ≡ pos (unsigned_abs stamp)
stamp_is (pos second) is = refl
stamp_is (negsuc n) is = absurd (omega (arith, ints))

pub stamp_bound : (stamp : ℤ) → IsStamp stamp → unsigned_abs stamp ≤ 20000000100
stamp_bound (pos second) is = omega (arith, ints)
stamp_bound (negsuc n) is = absurd (omega (arith, ints))

-- two stamps with one text are equal
pub stamps_apart : (one other : ℤ) → IsStamp one → IsStamp other → stamp_of (unsigned_abs one) ≡ stamp_of (unsigned_abs other) → one ≡ other
stamps_apart one other is is' same =
    stamp_is one is
    ∙ ap pos (stamp_tells (unsigned_abs one) (unsigned_abs other) (stamp_bound one is) (stamp_bound other is') same)
    ∙ sym (stamp_is other is')

-- what stands before the creating stamp, and what behind it
log_name-split : (attrs : StreamAttrs) (file : LogFile)
    → log_name attrs file ≡ (folder_of attrs.path ++ attrs.file ++ codes "_") ++ (stamp_of (unsigned_abs file.created) ++ (closing_part file.closed ++ codes ".log"))
unfolding stamped_name
log_name-split attrs file = simp append_assoc

-- two files of one stream that were made at different seconds have different names
pub created_apart : (attrs : StreamAttrs) (one other : LogFile) → IsStamp one.created → IsStamp other.created → one.created ≢ other.created
    → log_name attrs one ≢ log_name attrs other
created_apart attrs one other is is' differ same =
    let front = folder_of attrs.path ++ attrs.file ++ codes "_" in
    let behind = closing_part one.closed ++ codes ".log" in
    let behind' = closing_part other.closed ++ codes ".log" in
    let stamp = stamp_of (unsigned_abs one.created) in
    let stamp' = stamp_of (unsigned_abs other.created) in
    let rest = append_cancel_left front (stamp ++ behind) (stamp' ++ behind')
    (sym (log_name-split attrs one) ∙ same ∙ log_name-split attrs other) in
    differ (stamps_apart one.created other.created is is'
    (sym (take_at stamp behind 15 (length-stamp_of (unsigned_abs one.created))) ∙ ap (take 15) rest
    ∙ take_at stamp' behind' 15 (length-stamp_of (unsigned_abs other.created))))

length-closing_part : (closed : Option ℤ) → length (closing_part closed) ≡ (if is_some closed then 16 else 0)
length-closing_part None = refl
length-closing_part (Some stamp) = ap suc (length-stamp_of (unsigned_abs stamp))

length-log_name : (attrs : StreamAttrs) (file : LogFile)
    → length (log_name attrs file) ≡ length (folder_of attrs.path ++ attrs.file ++ codes "_") + 19 + (if is_some file.closed then 16 else 0)
length-log_name attrs file =
    let stamp = stamp_of (unsigned_abs file.created) in
    let closing = closing_part file.closed in
    let front = folder_of attrs.path ++ attrs.file ++ codes "_" in
    let one = length-stamp_of (unsigned_abs file.created) in
    let two = length-closing_part file.closed in
    let parts = length-append front (stamp ++ (closing ++ codes ".log")) in
    let more = length-append stamp (closing ++ codes ".log") in
    let last = length-append closing (codes ".log") in
    ap length (log_name-split attrs file) ∙ omega arith

-- a file that is closed and one that is not have different names
pub closed_apart : (attrs : StreamAttrs) (one other : LogFile) → is_some one.closed ≡ true → other.closed ≡ None
    → log_name attrs one ≢ log_name attrs other
closed_apart attrs one other shut unshut same =
    let long = length-log_name attrs one ∙ ap (λ b. length (folder_of attrs.path ++ attrs.file ++ codes "_") + 19 + (if b then 16 else 0)) shut in
    let short = length-log_name attrs other ∙ ap (λ o. length (folder_of attrs.path ++ attrs.file ++ codes "_") + 19 + (if is_some o then 16 else 0)) unshut in
    let equal = ap length same in
    omega arith

-- lists that end in as many elements end alike where they are equal
same_tails : (front front' tail tail' : List ℕ) → length tail ≡ length tail' → front ++ tail ≡ front' ++ tail' → tail ≡ tail'
same_tails front front' tail tail' long same =
    let whole = ap length same in
    let one = length-append front tail in
    let two = length-append front' tail' in
    let equal : length front' ≡ length front = omega arith in
    sym (drop_at front tail (length front) refl) ∙ ap (drop (length front)) same ∙ drop_at front' tail' (length front) equal

-- a file of records and a cfg file have different names, whatever their streams
pub cfg_apart : (attrs attrs' : StreamAttrs) (file : LogFile) → log_name attrs file ≢ cfg_name attrs'
unfolding stamped_name cfg_name
cfg_apart attrs attrs' file same =
    let ends = same_tails (folder_of attrs.path ++ attrs.file ++ stamp_part file.created ++ closing_part file.closed) (folder_of attrs'.path ++ attrs'.file) (codes ".log") (codes ".cfg") refl same in
    false≢true (ap (λ bytes. nat_lt (get_or bytes 1 0) 100) ends)

-- the stamp that a file got last
abbrev pub last_stamp_of : ℤ → Option ℤ → ℤ
last_stamp_of created None = created
last_stamp_of created (Some closed) = closed

abbrev pub last_stamp : LogFile → ℤ
last_stamp file = last_stamp_of file.created file.closed

-- a name ends in its last stamp and `.log`
log_name-ends : (attrs : StreamAttrs) (created : ℤ) (closed : Option ℤ)
    → (front : List ℕ) × (stamped_name attrs created closed ≡ front ++ (stamp_of (unsigned_abs (last_stamp_of created closed)) ++ codes ".log"))
unfolding stamped_name
log_name-ends attrs created None = (folder_of attrs.path ++ attrs.file ++ codes "_", simp append_assoc)
log_name-ends attrs created (Some closed) = (folder_of attrs.path ++ attrs.file ++ stamp_part created ++ codes "_", simp append_assoc)

-- names of files whose last stamps differ are different, whatever their streams
pub last_apart : (attrs attrs' : StreamAttrs) (one other : LogFile) → IsStamp (last_stamp one) → IsStamp (last_stamp other) → last_stamp one ≢ last_stamp other
    → log_name attrs one ≢ log_name attrs' other
last_apart attrs attrs' one other is is' differ same =
    let end = log_name-ends attrs one.created one.closed in
    let end' = log_name-ends attrs' other.created other.closed in
    let stamp = stamp_of (unsigned_abs (last_stamp one)) in
    let stamp' = stamp_of (unsigned_abs (last_stamp other)) in
    let long = length-append stamp (codes ".log") in
    let long' = length-append stamp' (codes ".log") in
    let fifteen = length-stamp_of (unsigned_abs (last_stamp one)) in
    let fifteen' = length-stamp_of (unsigned_abs (last_stamp other)) in
    let tails = same_tails end.0 end'.0 (stamp ++ codes ".log") (stamp' ++ codes ".log") (omega arith) (sym end.1 ∙ same ∙ end'.1) in
    differ (stamps_apart (last_stamp one) (last_stamp other) is is'
    (sym (take_at stamp (codes ".log") 15 fifteen) ∙ ap (take 15) tails ∙ take_at stamp' (codes ".log") 15 fifteen'))
