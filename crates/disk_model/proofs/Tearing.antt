-- What torn writes and syncs leave is what a failed write or sync may leave.
use Rattle.std.proofs.Common.{◌≡◌, ◌⊎◌, inl, inr, ℕ, ◌+◌, ◌-◌, ◌/◌, ◌<◌, ◌≤◌, min, max, Bool, true, false, ◌&&◌, ◌||◌, List, [], ◌∷◌, ◌++◌, length, get_or, take, drop, refl, sym, ap, ◌∙◌, arith, length-append, length-take, length-drop, nat_le, nat_lt, if◌then◌else◌}
use Rattle.std.proofs.lemmas.List.{places, get_or-take}
use Rattle.std.proofs.lemmas.Bool.{leb-true, leb-false, ltb-false, le-leb}
use Rattle.std.specs.Prelude.{Some, None, MatchOption}
use Rattle.std.specs.Option.{option_map_or}
use Rattle.std.specs.FinMap as map
use Rattle.std.proofs.lemmas.Bool.Decides.{nat_tests}
use Rattle.disk_model.specs.Disk.{File, Files, overwritten, adjusted}
use Rattle.disk_model.specs.Failures.{Torn, is_within, loose_ranges, FileLeftByWrite, FileLeftBySync, LeavesFile, LeftByWrite, LeftBySync}
use Rattle.disk_model.specs.Memory.{torn_bytes, half_grown, torn_end, file_torn_by_write, file_torn_by_sync, range_torn, ranges_torn}
use Rattle.disk_model.proofs.Overwriting.{length-torn_bytes, overwritten_past, append_none}

-- the length of bytes over which others were put
pub length-overwritten : (d s : List ℕ) (at : ℕ) → at ≤ length d → length (overwritten d at s) ≡ max (length d) (at + length s)
length-overwritten d s at within =
    simp (length-append, length-take, length-drop) (omega arith)

-- what is put over bytes leaves those before it and behind it
pub overwritten_before : (d s : List ℕ) (at place : ℕ) → at ≤ length d → place < at → get_or (overwritten d at s) place 0 ≡ get_or d place 0
overwritten_before d s at place within before = grind (arith, places)

pub overwritten_behind : (d s : List ℕ) (at place : ℕ) → at ≤ length d → at + length s ≤ place → get_or (overwritten d at s) place 0 ≡ get_or d place 0
overwritten_behind d s at place within behind = grind (arith, places)

-- what does not lie in a range lies before it or behind it
outside : (at size place : ℕ) (more : Bool) → ((nat_le at place && nat_lt place (at + size)) || more) ≡ false
    → ((place < at) ⊎ (at + size ≤ place)) × (more ≡ false)
outside at size place more e =
    elim (nat_le at place) as (λ b. nat_le at place ≡ b → ((b && nat_lt place (at + size)) || more) ≡ false → ((place < at) ⊎ (at + size ≤ place)) × (more ≡ false)) [
      | true ↦ λ p.
          elim (nat_lt place (at + size)) as (λ b. nat_lt place (at + size) ≡ b → (b || more) ≡ false → ((place < at) ⊎ (at + size ≤ place)) × (more ≡ false)) [
            | true ↦ λ q f. cc
            | false ↦ λ q f. (inr (omega (arith, ltb-false place (at + size) q)), f)
          ] refl
      | false ↦ λ p f. (inl (omega (arith, leb-false at place p)), f)
    ] refl e

-- what lies before a range or behind it does not lie in it
pub is_outside : (at size place : ℕ) → (place < at) ⊎ (at + size ≤ place) → is_within ((at, size) ∷ []) place ≡ false
is_outside at size place (inl before) = grind (arith, nat_tests)
is_outside at size place (inr behind) = grind (arith, nat_tests)

-- what is put over bytes leaves those outside its range
pub overwritten_outside : (d s : List ℕ) (at place : ℕ) → at ≤ length d → (place < at) ⊎ (at + length s ≤ place)
    → get_or (overwritten d at s) place 0 ≡ get_or d place 0
overwritten_outside d s at place within (inl before) = overwritten_before d s at place within before
overwritten_outside d s at place within (inr behind) = overwritten_behind d s at place within behind

-- other bytes, of no more than a write's, put over those where it writes are what it may leave torn
pub torn_overwritten : (d s b : List ℕ) (at : ℕ) → at ≤ length d → length s ≤ length b
    → Torn ((at, length b) ∷ []) (length d) (length (overwritten d at b)) d (overwritten d at s)
torn_overwritten d s b at within shorter =
    let now = length-overwritten d s at within in
    let whole = length-overwritten d b at within in
    record {
      no_shorter = omega arith;
      no_longer = omega arith;
      kept = λ place before free. overwritten_outside d s at place within
          (elim (outside at (length b) place false free).0 as (λ _. (place < at) ⊎ (at + length s ≤ place)) [ inl x ↦ inl x | inr y ↦ inr (omega arith) ]);
    }

-- bytes that stay are torn in no way that a call may not leave
pub torn_same : (ranges : List (ℕ × ℕ)) (one : ℕ) (d : List ℕ) → Torn ranges one (length d) d d
torn_same ranges one d = record { no_shorter = omega arith; no_longer = omega arith; kept = λ place before free. refl }

-- a torn write ends no later than the write
torn_end_within : (len at size : ℕ) → at ≤ len → torn_end len (at + size) - at ≤ size
torn_end_within len at size within =
    elim (nat_le (at + size) len) as (λ b. nat_le (at + size) len ≡ b → (if b then at + size else half_grown len (at + size)) - at ≤ size) [
      | true ↦ λ e. omega arith
      | false ↦ λ e. let past = leb-false (at + size) len e in omega arith
    ] refl

pub left_by_torn_write : (torn : List ℕ) (at : ℕ) (bytes : List ℕ) (file : File) → FileLeftByWrite at bytes file (file_torn_by_write torn at bytes file)
left_by_torn_write torn at bytes file =
    record {
      torn =
          let n = torn_end (length file.bytes) (at + length bytes) - at in
          elim (nat_le at (length file.bytes)) as (λ b. nat_le at (length file.bytes) ≡ b →
          Torn ((at, length bytes) ∷ []) (length file.bytes) (length (if b then overwritten file.bytes at bytes else file.bytes)) file.bytes
          (if b then overwritten file.bytes at (torn_bytes torn (torn_end (length file.bytes) (at + length bytes) - at)) else file.bytes)) [
            | true ↦ λ e.
                let within = leb-true at (length file.bytes) e in
                let short = torn_end_within (length file.bytes) at (length bytes) within in
                torn_overwritten file.bytes (torn_bytes torn n) bytes at within (omega (arith, length-torn_bytes torn n))
            | false ↦ λ e. torn_same _ (length file.bytes) file.bytes
          ] refl;
      loose = refl;
      settled = refl;
    }

-- a range that is torn keeps the length
pub length-range_torn : (torn : List ℕ) (range : ℕ × ℕ) (bytes : List ℕ) → length (range_torn torn range bytes) ≡ length bytes
length-range_torn torn range bytes =
    let n = min range.1 (length bytes - range.0) in
    let size = length-torn_bytes torn n in
    simp (length-append, length-take, length-drop, length-torn_bytes) (omega arith)

pub length-ranges_torn : (torn : List ℕ) (ranges : List (ℕ × ℕ)) (bytes : List ℕ) → length (ranges_torn torn ranges bytes) ≡ length bytes
length-ranges_torn torn [] bytes = refl
length-ranges_torn torn (range ∷ ranges) bytes = length-ranges_torn torn ranges (range_torn torn range bytes) ∙ length-range_torn torn range bytes

-- one number is at most another, or above it
pub leb_cases : (a b : ℕ) → (a ≤ b) ⊎ (b < a)
leb_cases a b =
    elim (nat_le a b) as (λ t. nat_le a b ≡ t → (a ≤ b) ⊎ (b < a)) [
      | true ↦ λ e. inl (leb-true a b e)
      | false ↦ λ e. inr (omega (arith, leb-false a b e))
    ] refl

-- a range that is torn leaves what lies outside it
range_torn_outside : (torn : List ℕ) (range : ℕ × ℕ) (bytes : List ℕ) (place : ℕ) → place < length bytes
    → (place < range.0) ⊎ (range.0 + range.1 ≤ place) → get_or (range_torn torn range bytes) place 0 ≡ get_or bytes place 0
range_torn_outside torn range bytes place within where' =
    let n = min range.1 (length bytes - range.0) in
    let size = length-torn_bytes torn n in
    elim (leb_cases range.0 (length bytes)) [
      | inl le ↦ overwritten_outside bytes (torn_bytes torn n) range.0 place le
          (elim where' as (λ _. (place < range.0) ⊎ (range.0 + length (torn_bytes torn n) ≤ place)) [ inl x ↦ inl x | inr y ↦ inr (omega arith) ])
      | inr gt ↦
          let none : n ≡ 0 = omega arith in
          ap (λ m. get_or (overwritten bytes range.0 (torn_bytes torn m)) place 0) none ∙ grind (arith, places)
    ]

ranges_torn_outside : (torn : List ℕ) (ranges : List (ℕ × ℕ)) (bytes : List ℕ) (place : ℕ) → place < length bytes
    → is_within ranges place ≡ false → get_or (ranges_torn torn ranges bytes) place 0 ≡ get_or bytes place 0
ranges_torn_outside torn [] bytes place within free = refl
ranges_torn_outside torn (range ∷ ranges) bytes place within free =
    let parts = outside range.0 range.1 place (is_within ranges place) free in
    let size = length-range_torn torn range bytes in
    ranges_torn_outside torn ranges (range_torn torn range bytes) place (omega arith) parts.1
    ∙ range_torn_outside torn range bytes place within parts.0

-- the bytes that a torn sync leaves
pub torn_by_sync : (torn : List ℕ) (file : File) → Torn (loose_ranges file) file.settled (length file.bytes) file.bytes (file_torn_by_sync torn file).bytes
torn_by_sync torn file =
    let size = length-ranges_torn torn file.loose file.bytes in
    let kept = length-take (half_grown file.settled (length file.bytes)) (ranges_torn torn file.loose file.bytes) in
    record {
      no_shorter = omega arith;
      no_longer = omega arith;
      kept = λ place before free.
          let rest = (outside (length file.bytes) (file.settled - length file.bytes) place (is_within file.loose place) free).1 in
          get_or-take (half_grown file.settled (length file.bytes)) (ranges_torn torn file.loose file.bytes) place 0 (omega arith)
          ∙ ranges_torn_outside torn file.loose file.bytes place (omega arith) rest;
    }

pub left_by_torn_sync : (torn : List ℕ) (file : File) → FileLeftBySync file (file_torn_by_sync torn file)
left_by_torn_sync torn file = record { torn = torn_by_sync torn file; loose = refl; settled = refl }

-- what a broken sync does step by step is a torn sync
pub torn_sync_is : (torn : List ℕ) (file : File) (kept : ℕ) (now : List ℕ) → kept ≡ half_grown file.settled (length file.bytes)
    → now ≡ take kept (ranges_torn torn file.loose file.bytes)
    → ◌≡◌ {A = File} (record { bytes = now; loose = file.loose; settled = file.settled }) (file_torn_by_sync torn file)
torn_sync_is torn file kept now is e =
    let whole : now ≡ take (half_grown file.settled (length file.bytes)) (ranges_torn torn file.loose file.bytes) =
    e ∙ ap (λ n. take n (ranges_torn torn file.loose file.bytes)) is in
    λ i. record { bytes = whole i; loose = file.loose; settled = file.settled }

-- a broken write keeps what lies within the file and half of what lies past its end
torn_size : (len at size : ℕ) → at ≤ len → torn_end len (at + size) - at ≡ min size (len - at) + (size - min size (len - at)) / 2
torn_size len at size within =
    elim (nat_le (at + size) len) as (λ b. nat_le (at + size) len ≡ b
    → (if b then at + size else half_grown len (at + size)) - at ≡ min size (len - at) + (size - min size (len - at)) / 2) [
      | true ↦ λ e.
          let inside = leb-true (at + size) len e in
          let all : min size (len - at) ≡ size = omega arith in
          let none : size - min size (len - at) ≡ 0 = omega arith in
          rw (none, all) (omega arith)
      | false ↦ λ e.
          let past = leb-false (at + size) len e in
          let most : min size (len - at) ≡ len - at = omega arith in
          let over : size - (len - at) ≡ (at + size) - len = omega arith in
          rw (most, over) (omega arith)
    ] refl

-- what a broken write does step by step is a torn write
pub torn_write_is : (torn : List ℕ) (at : ℕ) (bytes : List ℕ) (file : File) (inside kept : ℕ) (grown now : List ℕ) (loose : List (ℕ × ℕ))
    → at ≤ length file.bytes → inside ≡ min (length bytes) (length file.bytes - at) → kept ≡ inside + (length bytes - inside) / 2
    → grown ≡ file.bytes ++ take (kept - inside) (drop inside bytes) → now ≡ overwritten grown at (torn_bytes torn kept)
    → loose ≡ file.loose ++ (at, length bytes) ∷ []
    → ◌≡◌ {A = File} (record { bytes = now; loose = loose; settled = file.settled }) (file_torn_by_write torn at bytes file)
torn_write_is torn at bytes file inside kept grown now loose within inside-is kept-is grown-is now-is loose-is =
    let tail = take (kept - inside) (drop inside bytes) in
    let size = length-torn_bytes torn kept in
    let tail_size : length tail ≡ kept - inside = simp (length-take, length-drop) (omega arith) in
    let same : kept ≡ torn_end (length file.bytes) (at + length bytes) - at =
    kept-is ∙ ap (λ n. n + (length bytes - n) / 2) inside-is ∙ sym (torn_size (length file.bytes) at (length bytes) within) in
    let put : overwritten grown at (torn_bytes torn kept) ≡ overwritten file.bytes at (torn_bytes torn kept) =
    ap (λ g. overwritten g at (torn_bytes torn kept)) grown-is
    ∙ elim (leb_cases (length bytes) inside) [
      | inl none ↦ ap (λ g. overwritten g at (torn_bytes torn kept)) (append_none file.bytes tail (omega arith))
      | inr some ↦ overwritten_past file.bytes tail (torn_bytes torn kept) at within (omega arith)
    ] in
    let all : now ≡ overwritten file.bytes at (torn_bytes torn (torn_end (length file.bytes) (at + length bytes) - at)) =
    now-is ∙ put ∙ ap (λ n. overwritten file.bytes at (torn_bytes torn n)) same in
    let fits : nat_le at (length file.bytes) ≡ true = le-leb at (length file.bytes) within in
    let bytes-are : now ≡ (if nat_le at (length file.bytes)
    then overwritten file.bytes at (torn_bytes torn (torn_end (length file.bytes) (at + length bytes) - at)) else file.bytes) = rw fits all in
    let loose-are : loose ≡ (if nat_le at (length file.bytes) then file.loose ++ (at, length bytes) ∷ [] else file.loose) = rw fits loose-is in
    λ i. record { bytes = bytes-are i; loose = loose-are i; settled = file.settled }

-- a file changed to what a relation leaves of it, with the other files as they were, is what that relation leaves of the files
pub leaves_file : (Left : File → File → Type 0) (change : File → File) (name : List ℕ) (old new : Files)
    → ((file : File) → Left file (change file)) → new ≡ adjusted change old name → LeavesFile Left name old new
leaves_file Left change name old new leaves is =
    elim (map.get old name) as (λ f. new ≡ option_map_or (λ file. map.insert old name (change file)) f old
    → MatchOption f (new ≡ old) (λ file. (left : File) × Left file left × (new ≡ map.insert old name left))) [
      | None ↦ λ e. e
      | Some file ↦ λ e. (change file, leaves file, e)
    ] is

-- a file torn by a broken write is what a failed write may leave of the files
pub left_where_torn : (torn : List ℕ) (name : List ℕ) (at : ℕ) (bytes : List ℕ) (old new : Files)
    → new ≡ adjusted (file_torn_by_write torn at bytes) old name → LeftByWrite name at bytes old new
left_where_torn torn name at bytes old new =
    leaves_file (FileLeftByWrite at bytes) (file_torn_by_write torn at bytes) name old new (left_by_torn_write torn at bytes)

-- a file torn by a broken sync is what a failed sync may leave of the files
pub left_where_sync_torn : (torn : List ℕ) (name : List ℕ) (old new : Files) → new ≡ adjusted (file_torn_by_sync torn) old name → LeftBySync name old new
left_where_sync_torn torn name old new = leaves_file FileLeftBySync (file_torn_by_sync torn) name old new (left_by_torn_sync torn)
