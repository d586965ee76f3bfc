-- The files of a living stream stay fit as a record is stored.
use Rattle.std.proofs.Common.{Option, ◌≡◌, ◌≢◌, ℕ, zero, suc, ◌+◌, ◌-◌, ◌*◌, ◌/◌, ◌%◌, ◌<◌, ◌≤◌, ℤ, min, max, Bool, true, false, not, ◌&&◌, List, [], ◌∷◌, ◌++◌, length, drop, Some, None, is_some, refl, sym, ap, subst, ◌∙◌, inl, inr, arith, append_assoc, length-drop}
use Rattle.std.specs.Option.{option_to_list}
use Rattle.std.proofs.lemmas.Bool.{cases_lt, and_parts, and_from, leb-true, leb-false}
use Rattle.std.proofs.lemmas.List.{length_push, nil_from_length}
use Rattle.std.proofs.Math.Nat.{mul-le-mul_right}
use Rattle.stream_config.specs.declared.attrs.FullAction.{FullAction}
use Rattle.stream_config.specs.declared.attrs.FullAction.TheVariants.{Wrap, Halt, Rotate}
use Rattle.stream_config.specs.declared.attrs.StreamAttrs.{StreamAttrs}
use Rattle.stream_config.specs.declared.state.LogFile.{LogFile}
use Rattle.stream_config.specs.declared.state.StreamState.{StreamState}
use Rattle.stream_config.specs.declared.event.Stamps.{Stamps}
use Rattle.stream_config.specs.declared.event.StreamEvent.TheVariants.{Stored}
use Rattle.stream_config.specs.Attributes.{IsSized, kind_of, PassesAttrs}
use Rattle.stream_config.specs.Events.{open_file, file_begun, file_closed, file_with, current_file, last_with, last_closed, most_files, standing, offset_in, next_offset, state_after}
use Rattle.stream_config.specs.Fit.{stamps_of, rises, is_last_open, count_standing, next_first, first_in, first_standing, count_in, HasFitBytes, IsFilled, AreFilled, BeginEvenly, is_rotating, changes_file, HasFitFiles}
use Rattle.stream_config.specs.Sizes.{records_per_file, IsLength, has_room}
use Rattle.stream_config.proofs.RoomLaws.{room-alike, full-alike}
use Rattle.stream_layout.specs.Carrying.{IsFitStored}
use Rattle.stream_layout.specs.Repeating.{IsLater}
use Rattle.stream_layout.proofs.CurrentFile.{HasCurrent, has_current, current_file-append, last_closed-append, length-last_closed, others_rise}
use Rattle.stream_layout.proofs.EventLaws.{alike_sized, wrap_sized, some_records, last_with-append}
use Rattle.stream_layout.proofs.EntryLaws.{next_first-append}
use Rattle.stream_layout.proofs.Rounds.{quotient, remainder}

-- files and their stamps

pub stamps-with : (at len : ℕ) (files : List LogFile) → stamps_of (last_with at len files) ≡ stamps_of files
stamps-with at len [] = refl
stamps-with at len (file ∷ []) = refl
stamps-with at len (file ∷ next ∷ files) = ap (λ stamps. file.created ∷ option_to_list file.closed ++ stamps) (stamps-with at len (next ∷ files))

open-with : (at len : ℕ) (files : List LogFile) → is_last_open (last_with at len files) ≡ is_last_open files
open-with at len [] = refl
open-with at len (file ∷ []) = refl
open-with at len (file ∷ next ∷ []) = refl
open-with at len (file ∷ next ∷ other ∷ files) = ap (λ b. is_some file.closed && b) (open-with at len (next ∷ other ∷ files))

length-with : (at len : ℕ) (files : List LogFile) → length (last_with at len files) ≡ length files
length-with at len [] = refl
length-with at len (file ∷ []) = refl
length-with at len (file ∷ next ∷ files) = ap suc (length-with at len (next ∷ files))

first-with : (at len taken : ℕ) (files : List LogFile) → next_first (last_with at len files) taken ≡ next_first files taken
first-with at len taken [] = refl
first-with at len taken (file ∷ []) = refl
first-with at len taken (file ∷ next ∷ files) = refl

pub stamps-begun : (created : ℤ) (first len : ℕ) (files : List LogFile) → stamps_of (files ++ file_begun created first len ∷ []) ≡ stamps_of (files ++ open_file created ∷ [])
stamps-begun created first len [] = refl
stamps-begun created first len (file ∷ files) = ap (λ stamps. file.created ∷ option_to_list file.closed ++ stamps) (stamps-begun created first len files)

open-begun : (closed created : ℤ) (first len : ℕ) (files : List LogFile) → is_last_open files ≡ true → is_last_open (last_closed closed files ++ file_begun created first len ∷ []) ≡ true
open-begun closed created first len [] opened = cc
open-begun closed created first len (file ∷ []) opened = refl
open-begun closed created first len (file ∷ next ∷ []) opened =
    let split = and_parts (is_some file.closed) (is_last_open (next ∷ [])) opened in
    and_from (is_some file.closed) (is_last_open (last_closed closed (next ∷ []) ++ file_begun created first len ∷ [])) split.0 (open-begun closed created first len (next ∷ []) split.1)
open-begun closed created first len (file ∷ next ∷ other ∷ files) opened =
    let split = and_parts (is_some file.closed) (is_last_open (next ∷ other ∷ files)) opened in
    and_from (is_some file.closed) (is_last_open (last_closed closed (next ∷ other ∷ files) ++ file_begun created first len ∷ [])) split.0 (open-begun closed created first len (next ∷ other ∷ files) split.1)

open-drop : (k : ℕ) (files : List LogFile) → k < length files → is_last_open files ≡ true → is_last_open (drop k files) ≡ true
open-drop zero files some opened = opened
open-drop (suc k) [] some opened = opened
open-drop (suc k) (file ∷ []) some opened = absurd (omega (arith, some))
open-drop (suc k) (file ∷ next ∷ files) some opened =
    open-drop k (next ∷ files) (omega (arith, some)) (and_parts (is_some file.closed) (is_last_open (next ∷ files)) opened).1

rises-drop : (k : ℕ) (files : List LogFile) → rises (stamps_of files) ≡ true → rises (stamps_of (drop k files)) ≡ true
rises-drop zero files up = up
rises-drop (suc k) [] up = up
rises-drop (suc k) (file ∷ files) up = rises-drop k files (others_rise file files up)

-- records of files

filled-drop : (attrs : StreamAttrs) (taken k : ℕ) (files : List LogFile) → AreFilled attrs taken files → AreFilled attrs taken (drop k files)
filled-drop attrs taken zero files filled = filled
filled-drop attrs taken (suc k) [] filled = tt
filled-drop attrs taken (suc k) (file ∷ files) filled = filled-drop attrs taken k files filled.1

evenly-drop : (n number k : ℕ) (files : List LogFile) → BeginEvenly n number files → BeginEvenly n (number + k) (drop k files)
evenly-drop n number zero files even = subst (λ m. BeginEvenly n m files) (let e : number ≡ number + 0 = omega arith in e) even
evenly-drop n number (suc k) [] even = tt
evenly-drop n number (suc k) (file ∷ files) even =
    subst (λ m. BeginEvenly n m (drop k files)) (let e : number + 1 + k ≡ number + suc k = omega arith in e) (evenly-drop n (number + 1) k files even.1)

-- the file that takes a record keeps what is before it
filled-last : (attrs : StreamAttrs) (taken more : ℕ) (front : List LogFile) (old new : LogFile) (behind : List LogFile) → old.first ≡ new.first
    → (0 < length front → 0 < taken) → AreFilled attrs taken (front ++ old ∷ []) → AreFilled attrs more (new ∷ behind) → AreFilled attrs more (front ++ new ∷ behind)
filled-last attrs taken more [] old new behind same kept filled now = now
filled-last attrs taken more (file ∷ front) old new behind same kept filled now =
    let next : next_first (front ++ old ∷ []) taken ≡ next_first (front ++ new ∷ behind) more =
    next_first-append front (old ∷ []) taken ∙ ap (next_first front) same ∙ sym (next_first-append front (new ∷ behind) more) in
    let P : ℕ → Type 0 = λ n. IsFilled attrs more n file in
    let positive = kept (omega arith) in (
      subst P next (record { order = filled.0.order; some = λ _. filled.0.some positive; bytes = filled.0.bytes }),
      filled-last attrs taken more front old new behind same (λ _. positive) filled.1 now,
    )

current-filled : (attrs : StreamAttrs) (taken : ℕ) (front : List LogFile) (current : LogFile) → AreFilled attrs taken (front ++ current ∷ []) → IsFilled attrs taken taken current
current-filled attrs taken [] current filled = filled.0
current-filled attrs taken (file ∷ front) current filled = current-filled attrs taken front current filled.1

current-evenly : (n number : ℕ) (front : List LogFile) (current : LogFile) → BeginEvenly n number (front ++ current ∷ []) → current.first ≡ (number + length front) * n
current-evenly n number [] current even = even.0 ∙ ap (λ m. m * n) (let e : number ≡ number + 0 = omega arith in e)
current-evenly n number (file ∷ front) current even =
    current-evenly n (number + 1) front current even.1 ∙ ap (λ m. m * n) (let e : number + 1 + length front ≡ number + suc (length front) = omega arith in e)

evenly-last : (n number : ℕ) (front : List LogFile) (old new : LogFile) → old.first ≡ new.first → BeginEvenly n number (front ++ old ∷ []) → BeginEvenly n number (front ++ new ∷ [])
evenly-last n number [] old new same even = (sym same ∙ even.0, tt)
evenly-last n number (file ∷ front) old new same even = (even.0, evenly-last n (number + 1) front old new same even.1)

evenly-push : (n number : ℕ) (files : List LogFile) (fresh : LogFile) → fresh.first ≡ (number + length files) * n → BeginEvenly n number files → BeginEvenly n number (files ++ fresh ∷ [])
evenly-push n number [] fresh is even = (is ∙ ap (λ m. m * n) (let e : number + 0 ≡ number = omega arith in e), tt)
evenly-push n number (file ∷ files) fresh is even =
    (even.0, evenly-push n (number + 1) files fresh (is ∙ ap (λ m. m * n) (let e : number + suc (length files) ≡ number + 1 + length files = omega arith in e)) even.1)

-- bytes of a file with one record more

-- behind the others
bytes-more : (attrs : StreamAttrs) (count bytes len : ℕ) → IsLength attrs len → has_room attrs bytes len ≡ true → HasFitBytes attrs count bytes → HasFitBytes attrs (count + 1) (max bytes (bytes + len))
bytes-more attrs count bytes len size room fit = record {
  alike = λ some.
      let old = fit.alike some in
      let own = size.own some in
      let at = old.0 in
      let within = room-alike attrs count some (ap (λ b. has_room attrs b attrs.record_size) (sym at) ∙ ap (has_room attrs bytes) (sym own) ∙ room) in
      (omega (arith, at, own), within);
  free = λ none.
      let old = fit.free none in
      let one = size.some in
      let most = size.most in
      let high = leb-true (bytes + len) attrs.max_file room in
      (omega (arith, one, old.0), omega (arith, old.1, most), omega (arith, high));
}

-- the first of a file
bytes-one : (attrs : StreamAttrs) (len : ℕ) → IsSized attrs → IsLength attrs len → HasFitBytes attrs 1 len
bytes-one attrs len sized size = record {
  alike = λ some. (let own = size.own some in omega (arith, own), some_records attrs (alike_sized attrs sized some));
  free = λ none. (
    size.some,
    (let most = size.most in omega (arith, most)),
    elim sized.records [
      | inl alike ↦ absurd (let low = alike.least_record in omega (arith, low, none))
      | inr freely ↦ (let least = freely.least_file in let most = size.most in omega (arith, least, most))
    ],
  );
}

-- in its slot
pub wrapped : (n taken size : ℕ) → 0 < n → max (min taken n * size) (taken % n * size + size) ≡ min (taken + 1) n * size
wrapped n taken size some = elim (cases_lt taken n) [
  | inl less ↦
      let rest : taken % n ≡ taken = remainder n 0 taken taken less (omega arith) in
      let here : min taken n ≡ taken = omega (arith, less) in
      let next : min (taken + 1) n ≡ taken + 1 = omega (arith, less) in
      ap (λ m. max (min taken n * size) (m * size + size)) rest ∙ ap (λ m. max (m * size) (taken * size + size)) here
      ∙ (let e : max (taken * size) (taken * size + size) ≡ (taken + 1) * size = omega arith in e) ∙ ap (λ m. m * size) (sym next)
  | inr more ↦
      let small : taken % n < n = omega (arith, some) in
      let here : min taken n ≡ n = omega (arith, more) in
      let next : min (taken + 1) n ≡ n = omega (arith, more) in
      let below : (taken % n + 1) * size ≤ n * size = mul-le-mul_right size (omega (arith, small)) in
      ap (λ m. max (m * size) (taken % n * size + size)) here ∙ (let e : max (n * size) (taken % n * size + size) ≡ n * size = omega (arith, below) in e) ∙ ap (λ m. m * size) (sym next)
]

-- a record that a stream takes, whatever its stamps are
pub record CanStore (before : StreamState) (bytes : List ℕ) (stamps : Option Stamps) : Type 0 where
  pub attributes : PassesAttrs (kind_of before.name) before.attrs
  pub standing : HasFitFiles before
  pub size : IsLength before.attrs (length bytes)
  pub room : before.attrs.action ≡ Halt → has_room before.attrs (current_file before.files).bytes (length bytes) ≡ true
  pub changes : is_some stamps ≡ changes_file before.attrs (current_file before.files).bytes (length bytes)

pub can-store : (before : StreamState) (bytes : List ℕ) (stamps : Option Stamps) → IsFitStored before bytes stamps → CanStore before bytes stamps
can-store before bytes stamps fit = record {
  attributes = fit.stream.attributes;
  standing = fit.stream.standing;
  size = fit.size;
  room = fit.room;
  changes = fit.changes;
}

-- a stream without a change of file before its next record
abbrev has_next_room : StreamState → ℕ → Type 0
has_next_room state len = state.attrs.action ≢ Wrap → has_room state.attrs (current_file state.files).bytes len ≡ true

pub stays-room : (before : StreamState) (bytes : List ℕ) → CanStore before bytes None → has_next_room before (length bytes)
stays-room before bytes fit = by_case before.attrs.action refl where
  room : Bool
  room = has_room before.attrs (current_file before.files).bytes (length bytes)

  by_case : (action : FullAction) → before.attrs.action ≡ action → has_next_room before (length bytes)
  by_case Wrap is = λ other. absurd (other is)
  by_case Halt is = λ other. fit.room is
  by_case Rotate is = λ other.
      let stays : not room ≡ false = sym (ap (λ a. is_rotating a && not room) is) ∙ sym fit.changes in
      by_room room stays where
        by_room : (b : Bool) → not b ≡ false → b ≡ true
        by_room true e = refl
        by_room false e = cc

-- how many records the current file has, with one more, and its bytes then
last-bytes : (action : FullAction) (attrs : StreamAttrs) (taken : ℕ) (current : LogFile) (len : ℕ) → attrs.action ≡ action → IsSized attrs → IsLength attrs len
    → (action ≢ Wrap → has_room attrs current.bytes len ≡ true) → (action ≡ Wrap → current.first ≡ 0) → current.first ≤ taken
    → HasFitBytes attrs (count_in action (records_per_file attrs) (taken - current.first)) current.bytes
    → HasFitBytes attrs (count_in action (records_per_file attrs) (taken + 1 - current.first))
    (max current.bytes (offset_in action (records_per_file attrs) attrs.record_size taken current.bytes + len))
last-bytes Wrap attrs taken current len is sized size room zero_first low fit =
    let n = records_per_file attrs in
    let alike = wrap_sized attrs sized is in
    let least = alike.least_record in
    let some : 0 < attrs.record_size = omega (arith, least) in
    let first = zero_first refl in
    let count : taken - current.first ≡ taken = omega (arith, first) in
    let count' : taken + 1 - current.first ≡ taken + 1 = omega (arith, first) in
    let old = fit.alike some in
    let own = size.own some in
    let whole : max current.bytes (taken % n * attrs.record_size + len) ≡ min (taken + 1 - current.first) n * attrs.record_size =
    ap (λ b. max b (taken % n * attrs.record_size + len)) (old.0 ∙ ap (λ m. min m n * attrs.record_size) count)
    ∙ ap (λ l. max (min taken n * attrs.record_size) (taken % n * attrs.record_size + l)) own
    ∙ wrapped n taken attrs.record_size (some_records attrs alike) ∙ ap (λ m. min m n * attrs.record_size) (sym count') in
    record {
      alike = λ _. (whole, omega arith);
      free = λ none. absurd (omega (arith, none, some));
    }
last-bytes Halt attrs taken current len is sized size room zero_first low fit =
    subst (λ count. HasFitBytes attrs count (max current.bytes (current.bytes + len))) (let e : taken - current.first + 1 ≡ taken + 1 - current.first = omega (arith, low) in e)
    (bytes-more attrs (taken - current.first) current.bytes len size (room (λ e. cc)) fit)
last-bytes Rotate attrs taken current len is sized size room zero_first low fit =
    subst (λ count. HasFitBytes attrs count (max current.bytes (current.bytes + len))) (let e : taken - current.first + 1 ≡ taken + 1 - current.first = omega (arith, low) in e)
    (bytes-more attrs (taken - current.first) current.bytes len size (room (λ e. cc)) fit)

-- several files stand of a stream that has taken records
more-files : (action : FullAction) (rotated opened taken count : ℕ) → (action ≢ Rotate → opened ≡ 1) → opened ≤ max 1 taken
    → count + 1 ≡ count_standing action rotated opened → 0 < count → 0 < taken
more-files Wrap rotated opened taken count one few is some = absurd (let e = one (λ same. cc) in omega (arith, e, is, some))
more-files Halt rotated opened taken count one few is some = absurd (let e = one (λ same. cc) in omega (arith, e, is, some))
more-files Rotate rotated opened taken count one few is some = omega (arith, few, is, some)

count-within : (action : FullAction) (rotated opened count : ℕ) → count ≡ count_standing action rotated opened → count ≤ opened
count-within Wrap rotated opened count is = omega (arith, is)
count-within Halt rotated opened count is = omega (arith, is)
count-within Rotate rotated opened count is = omega (arith, is)

count-wraps : (action : FullAction) (rotated opened count : ℕ) → action ≡ Wrap → count ≡ count_standing action rotated opened → count ≡ opened
count-wraps Wrap rotated opened count is same = same
count-wraps Halt rotated opened count is same = same
count-wraps Rotate rotated opened count is same = cc

-- a stream by the split of its files at the current one
record IsSplit (before : StreamState) (front : List LogFile) (current : LogFile) : Type 0 where
  whole : before.files ≡ front ++ current ∷ []
  same : current_file before.files ≡ current
  long : length before.files ≡ length front + 1
  within : length before.files ≤ before.opened
  kept : 0 < length front → 0 < before.taken
  filled : AreFilled before.attrs before.taken (front ++ current ∷ [])
  own : IsFilled before.attrs before.taken before.taken current
  zero_first : before.attrs.action ≡ Wrap → current.first ≡ 0

split-of : (before : StreamState) → HasFitFiles before → (found : HasCurrent before.files) → IsSplit before found.front found.current
split-of before fit found =
    let front = found.front in
    let current = found.current in
    let long = ap length found.whole ∙ length_push front current in
    let filled = subst (AreFilled before.attrs before.taken) found.whole fit.filled in
    let kept = more-files before.attrs.action before.attrs.rotated before.opened before.taken (length front) fit.one fit.few (sym long ∙ fit.count) in
    record {
      whole = found.whole;
      same = ap current_file found.whole ∙ current_file-append front current;
      long = long;
      within = count-within before.attrs.action before.attrs.rotated before.opened (length before.files) fit.count;
      kept = kept;
      filled = filled;
      own = current-filled before.attrs before.taken front current filled;
      zero_first = λ wraps.
          let all = count-wraps before.attrs.action before.attrs.rotated before.opened (length before.files) wraps fit.count in
          let one = fit.one (λ rotates. let e = sym wraps ∙ rotates in cc) in
          let none : front ≡ [] = nil_from_length front (omega (arith, long, all, one)) in
          let files : before.files ≡ current ∷ [] = found.whole ∙ ap (λ fs. fs ++ current ∷ []) none in
          sym (ap (λ fs. next_first fs 0) files) ∙ fit.begins all;
    }

-- the number of the current file by that of its first record
last-file : (n opened count taken first : ℕ) → count ≤ opened → first ≡ (opened - (count + 1) + count) * n → count + 1 ≤ opened → first ≤ taken → taken + 1 - first ≤ n
    → opened ≡ (taken + 1 - 1) / n + 1
last-file n opened count taken first low is within order small =
    let place : opened - (count + 1) + count ≡ opened - 1 = omega (arith, within) in
    let first_is : first ≡ (opened - 1) * n = is ∙ ap (λ m. m * n) place in
    let rest : taken ≡ (opened - 1) * n + (taken - first) = omega (arith, first_is, order) in
    let same : taken + 1 - 1 ≡ taken = omega arith in
    let whole : taken / n ≡ opened - 1 = quotient n (opened - 1) (taken - first) taken (omega (arith, small, order)) rest in
    (let e : opened ≡ opened - 1 + 1 = omega (arith, within) in e) ∙ ap (λ m. m + 1) (sym whole ∙ ap (λ m. m / n) (sym same))

-- **a record goes to the current file**
pub fit-none : (before : StreamState) (bytes : List ℕ) → CanStore before bytes None → HasFitFiles (state_after (Stored before bytes None))
fit-none before bytes fit =
    let attrs = before.attrs in
    let n = records_per_file attrs in
    let taken = before.taken in
    let standing = fit.standing in
    let found = has_current before.files standing.last_open in
    let front = found.front in
    let current = found.current in
    let is = split-of before standing found in
    let len = length bytes in
    let at = next_offset before in
    let new = file_with at len current in
    let split : last_with at len before.files ≡ front ++ new ∷ [] = ap (last_with at len) is.whole ∙ last_with-append at len front current in
    let room : attrs.action ≢ Wrap → has_room attrs current.bytes len ≡ true = λ other. ap (λ (f : LogFile). has_room attrs f.bytes len) (sym is.same) ∙ stays-room before bytes fit other in
    let grown : HasFitBytes attrs (count_in attrs.action n (taken + 1 - current.first)) new.bytes =
    subst (λ (f : LogFile). HasFitBytes attrs (count_in attrs.action n (taken + 1 - current.first)) (max current.bytes (offset_in attrs.action n attrs.record_size taken f.bytes + len))) (sym is.same)
    (last-bytes attrs.action attrs taken current len refl fit.attributes.sizes fit.size room is.zero_first is.own.order is.own.bytes) in
    let low = is.own.order in
    let now : IsFilled attrs (taken + 1) (taken + 1) new = record { order = omega (arith, low); some = λ _. omega (arith, low); bytes = grown } in
    let few = standing.few in
    record {
      rising = ap rises (stamps-with at len before.files) ∙ standing.rising;
      last_open = open-with at len before.files ∙ standing.last_open;
      some = standing.some;
      one = standing.one;
      few = omega (arith, few);
      count = length-with at len before.files ∙ standing.count;
      begins = λ all. first-with at len 0 before.files ∙ standing.begins (sym (length-with at len before.files) ∙ all);
      filled = subst (AreFilled attrs (taken + 1)) (sym split) (filled-last attrs taken (taken + 1) front current new [] refl is.kept is.filled (now, tt));
      even = λ rotates some.
          let even = standing.even rotates some in
          let firsts = subst (BeginEvenly n (before.opened - length before.files)) is.whole even.firsts in
          let first = current-evenly n (before.opened - length before.files) front current firsts ∙ ap (λ l. (before.opened - l + length front) * n) is.long in
          let small : taken + 1 - current.first ≤ n = ap-le attrs.action n (taken + 1 - current.first) rotates (grown.alike some).1 in
          let within = is.within in
          let long = is.long in
          record {
            opened = last-file n before.opened (length front) taken current.first (omega (arith, within, long)) first (omega (arith, within, long)) low small;
            firsts = subst (λ l. BeginEvenly n (before.opened - l) (last_with at len before.files)) (sym (length-with at len before.files))
                (subst (BeginEvenly n (before.opened - length before.files)) (sym split) (evenly-last n (before.opened - length before.files) front current new refl firsts));
          };
    } where
      ap-le : (action : FullAction) (n count : ℕ) → action ≡ Rotate → count_in action n count ≤ n → count ≤ n
      ap-le Wrap n count rotates le = cc
      ap-le Halt n count rotates le = cc
      ap-le Rotate n count rotates le = le

-- a file without room has a record
some-taken : (attrs : StreamAttrs) (taken len : ℕ) (current : LogFile) → IsSized attrs → IsLength attrs len → attrs.action ≡ Rotate → has_room attrs current.bytes len ≡ false
    → IsFilled attrs taken taken current → 0 < taken
some-taken attrs taken len current sized size rotates full own =
    let over = leb-false (current.bytes + len) attrs.max_file full in
    elim (cases_lt 0 taken) [
      | inl some ↦ some
      | inr none ↦ absurd (elim sized.records [
        | inl alike ↦
            let least = alike.least_record in
            let high = alike.least_file in
            let some : 0 < attrs.record_size = omega (arith, least) in
            let count : count_in attrs.action (records_per_file attrs) (taken - current.first) ≡ 0 =
            ap (λ a. count_in a (records_per_file attrs) (taken - current.first)) rotates ∙ (let e : taken - current.first ≡ 0 = omega (arith, none) in e) in
            let is : current.bytes ≡ 0 * attrs.record_size = (own.bytes.alike some).0 ∙ ap (λ c. c * attrs.record_size) count in
            let own_len = size.own some in
            omega (arith, over, is, own_len, high)
        | inr freely ↦
            let least = freely.least_file in
            let count : count_in attrs.action (records_per_file attrs) (taken - current.first) ≡ 0 =
            ap (λ a. count_in a (records_per_file attrs) (taken - current.first)) rotates ∙ (let e : taken - current.first ≡ 0 = omega (arith, none) in e) in
            let low : current.bytes ≤ 0 * 16384 = subst (λ c. current.bytes ≤ c * 16384) count (own.bytes.free freely.free).1 in
            let most = size.most in
            omega (arith, over, low, most, least)
      ])
    ]

product-step : (count n : ℕ) → 1 ≤ count → (count - 1) * n + n ≡ count * n
product-step zero n some = absurd (omega (arith, some))
product-step (suc count) n some = ap (λ k. k * n + n) (let e : suc count - 1 ≡ count = omega arith in e) ∙ omega arith

pub rotating-so : (action : FullAction) → is_rotating action ≡ true → action ≡ Rotate
rotating-so Wrap is = cc
rotating-so Halt is = cc
rotating-so Rotate is = refl

pub not-so : (b : Bool) → not b ≡ true → b ≡ false
not-so true is = cc
not-so false is = refl

-- **a record begins the next file**
pub fit-some : (before : StreamState) (bytes : List ℕ) (stamps : Stamps) → CanStore before bytes (Some stamps) → IsLater (Stored before bytes (Some stamps))
    → HasFitFiles (state_after (Stored before bytes (Some stamps)))
fit-some before bytes stamps fit later =
    let attrs = before.attrs in
    let n = records_per_file attrs in
    let taken = before.taken in
    let sized = fit.attributes.sizes in
    let kept = fit.attributes.some_rotated in
    let standing_is = fit.standing in
    let found = has_current before.files standing_is.last_open in
    let front = found.front in
    let current = found.current in
    let is = split-of before standing_is found in
    let len = length bytes in
    let tests = and_parts (is_rotating attrs.action) (not (has_room attrs (current_file before.files).bytes len)) (sym fit.changes) in
    let rotates = rotating-so attrs.action tests.0 in
    let full : has_room attrs current.bytes len ≡ false = ap (λ (f : LogFile). has_room attrs f.bytes len) (sym is.same) ∙ not-so (has_room attrs (current_file before.files).bytes len) tests.1 in
    let positive = some-taken attrs taken len current sized fit.size rotates full is.own in
    let shut = file_closed stamps.closed current in
    let fresh = file_begun stamps.created taken len in
    let closed = last_closed stamps.closed before.files in
    let all = closed ++ fresh ∷ [] in
    let closed_is : closed ≡ front ++ shut ∷ [] = ap (last_closed stamps.closed) is.whole ∙ last_closed-append stamps.closed front current in
    let long_closed = length-last_closed stamps.closed before.files in
    let long : length all ≡ length before.files + 1 = length_push closed fresh ∙ ap (λ l. l + 1) long_closed in
    let gone : ℕ = length all - attrs.rotated in
    let stands : standing attrs all ≡ drop gone all = ap (λ a. drop (length all - most_files a attrs.rotated) all) rotates in
    let count : length before.files ≡ min before.opened attrs.rotated = standing_is.count ∙ ap (λ a. count_standing a attrs.rotated before.opened) rotates in
    let few = standing_is.few in
    let some = standing_is.some in
    let now : IsFilled attrs (taken + 1) (taken + 1) fresh = record {
      order = omega arith;
      some = λ _. omega arith;
      bytes = subst (λ c. HasFitBytes attrs c len)
          (sym (ap (λ a. count_in a n (taken + 1 - taken)) rotates ∙ (let e : taken + 1 - taken ≡ 1 = omega arith in e))) (bytes-one attrs len sized fit.size);
    } in
    let before_it : IsFilled attrs (taken + 1) taken shut = record { order = is.own.order; some = λ _. is.own.some positive; bytes = is.own.bytes } in
    let filled : AreFilled attrs (taken + 1) all =
    subst (λ fs. AreFilled attrs (taken + 1) (fs ++ fresh ∷ [])) (sym closed_is)
    (subst (AreFilled attrs (taken + 1)) (sym (append_assoc front (shut ∷ []) (fresh ∷ [])))
    (filled-last attrs taken (taken + 1) front current shut (fresh ∷ []) refl is.kept is.filled (before_it, (now, tt)))) in
    record {
      rising = ap (λ fs. rises (stamps_of fs)) stands ∙ rises-drop gone all (ap rises (stamps-begun stamps.created taken len closed) ∙ later);
      last_open = ap is_last_open stands ∙ open-drop gone all (omega (arith, long, kept)) (open-begun stamps.closed stamps.created taken len before.files standing_is.last_open);
      some = omega arith;
      one = λ other. absurd (other rotates);
      few = omega (arith, few, positive);
      count = ap length stands ∙ length-drop gone all ∙ (let e : length all - gone ≡ min (before.opened + 1) attrs.rotated = omega (arith, long, count, kept) in e)
          ∙ ap (λ a. count_standing a attrs.rotated (before.opened + 1)) (sym rotates);
      begins = λ whole.
          let same : length (drop gone all) ≡ before.opened + 1 = sym (ap length stands) ∙ whole in
          let drops = length-drop gone all in
          let within = is.within in
          let none : gone ≡ 0 = omega (arith, same, drops, long, within) in
          let every : length before.files ≡ before.opened = omega (arith, same, drops, long, within) in
          ap (λ fs. next_first fs 0) stands ∙ ap (λ k. next_first (drop k all) 0) none
          ∙ ap (λ fs. next_first (fs ++ fresh ∷ []) 0) closed_is ∙ ap (λ fs. next_first fs 0) (append_assoc front (shut ∷ []) (fresh ∷ []))
          ∙ next_first-append front (shut ∷ fresh ∷ []) 0 ∙ sym (next_first-append front (current ∷ []) 0) ∙ ap (λ fs. next_first fs 0) (sym is.whole)
          ∙ standing_is.begins every;
      filled = subst (AreFilled attrs (taken + 1)) (sym stands) (filled-drop attrs (taken + 1) gone all filled);
      even = λ _ alike.
          let even = standing_is.even rotates alike in
          let firsts = subst (BeginEvenly n (before.opened - length before.files)) is.whole even.firsts in
          let first = current-evenly n (before.opened - length before.files) front current firsts ∙ ap (λ l. (before.opened - l + length front) * n) is.long in
          let within = is.within in
          let long_front = is.long in
          let place : before.opened - (length front + 1) + length front ≡ before.opened - 1 = omega (arith, within, long_front) in
          let first_is : current.first ≡ (before.opened - 1) * n = first ∙ ap (λ m. m * n) place in
          let old = is.own.bytes.alike alike in
          let counted : count_in attrs.action n (taken - current.first) ≡ taken - current.first = ap (λ a. count_in a n (taken - current.first)) rotates in
          let most : taken - current.first ≤ n = subst (λ c. c ≤ n) counted old.1 in
          let own_len = fit.size.own alike in
          let least : n ≤ taken - current.first =
          full-alike attrs (taken - current.first) alike (ap (λ b. has_room attrs b attrs.record_size) (sym (old.0 ∙ ap (λ c. c * attrs.record_size) counted)) ∙ ap (has_room attrs current.bytes) (sym own_len) ∙ full) in
          let order = is.own.order in
          let step = product-step before.opened n some in
          let taken_is : taken ≡ before.opened * n + 0 = omega (arith, first_is, most, least, order, step) in
          let some_n = some_records attrs (alike_sized attrs sized alike) in
          let divided : taken / n ≡ before.opened = quotient n before.opened 0 taken some_n taken_is in
          let back : taken + 1 - 1 ≡ taken = omega arith in
          let number : before.opened - length before.files + gone ≡ before.opened + 1 - length (drop gone all) =
          (let drops = length-drop gone all in omega (arith, drops, long, within)) in
          let all_even : BeginEvenly n (before.opened - length before.files) all =
          evenly-push n (before.opened - length before.files) closed fresh
          ((let whole : taken ≡ before.opened * n = omega (arith, taken_is) in whole)
          ∙ ap (λ m. m * n) (let e : before.opened ≡ before.opened - length before.files + length closed = omega (arith, within, long_closed) in e))
          (subst (BeginEvenly n (before.opened - length before.files)) (sym closed_is) (evenly-last n (before.opened - length before.files) front current shut refl firsts)) in
          record {
            opened = ap (λ m. m + 1) (sym divided ∙ ap (λ m. m / n) (sym back));
            firsts = subst (λ fs. BeginEvenly n (before.opened + 1 - length fs) fs) (sym stands)
                (subst (λ m. BeginEvenly n m (drop gone all)) number (evenly-drop n (before.opened - length before.files) gone all all_even));
          };
    }

-- the first record that stands stands no earlier once one more is stored

first-drop : (attrs : StreamAttrs) (taken len : ℕ) (closed created : ℤ) (k : ℕ) (files : List LogFile) → AreFilled attrs taken files → next_first files taken ≤ next_first (drop k (last_closed closed files ++ file_begun created taken len ∷ [])) (taken + 1)
first-drop attrs taken len closed created zero [] filled = omega arith
first-drop attrs taken len closed created (suc k) [] filled = behind k where
  behind : (k : ℕ) → taken ≤ next_first (let none : List LogFile = [] in drop k none) (taken + 1)
  behind zero = omega arith
  behind (suc k) = omega arith
first-drop attrs taken len closed created zero (file ∷ []) filled = omega arith
first-drop attrs taken len closed created zero (file ∷ next ∷ files) filled = omega arith
first-drop attrs taken len closed created (suc k) (file ∷ []) filled =
    let order = filled.0.order in
    let rest = first-drop attrs taken len closed created k [] tt in
    omega (arith, order, rest)
first-drop attrs taken len closed created (suc k) (file ∷ next ∷ files) filled =
    let order = filled.0.order in
    let rest = first-drop attrs taken len closed created k (next ∷ files) filled.1 in
    omega (arith, order, rest)

first-in-grows : (action : FullAction) (n taken one other : ℕ) → one ≤ other → first_in action n taken one ≤ first_in action n (taken + 1) other
first-in-grows Wrap n taken one other le = omega arith
first-in-grows Halt n taken one other le = le
first-in-grows Rotate n taken one other le = le

first-stays : (at len taken : ℕ) (files : List LogFile) → next_first files taken ≤ next_first (last_with at len files) (taken + 1)
first-stays at len taken [] = omega arith
first-stays at len taken (file ∷ []) = omega arith
first-stays at len taken (file ∷ next ∷ files) = omega arith

pub first-grows : (before : StreamState) (bytes : List ℕ) (stamps : Option Stamps) → HasFitFiles before → first_standing before ≤ first_standing (state_after (Stored before bytes stamps))
first-grows before bytes None fit =
    first-in-grows before.attrs.action (records_per_file before.attrs) before.taken (next_first before.files before.taken) (next_first (last_with (next_offset before) (length bytes) before.files) (before.taken + 1))
    (first-stays (next_offset before) (length bytes) before.taken before.files)
first-grows before bytes (Some stamps) fit =
    let list = last_closed stamps.closed before.files ++ file_begun stamps.created before.taken (length bytes) ∷ [] in
    let k = length list - most_files before.attrs.action before.attrs.rotated in
    first-in-grows before.attrs.action (records_per_file before.attrs) before.taken (next_first before.files before.taken) (next_first (drop k list) (before.taken + 1))
    (first-drop before.attrs before.taken (length bytes) stamps.closed stamps.created k before.files fit.filled)
