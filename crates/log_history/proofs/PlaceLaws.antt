-- A record stands at its place among the files, with its bytes.
use Rattle.std.proofs.Common.{◌≡◌, ◌≢◌, inl, inr, ℕ, zero, suc, ◌-◌, ◌*◌, ◌%◌, ◌<◌, ◌≤◌, nat_lt, nat_le, Bool, true, false, ◌&&◌, cond, List, [], ◌∷◌, ◌++◌, length, take, drop, get_or, map, refl, ap, sym, ◌∙◌, subst, arith}
use Rattle.std.specs.Prelude.{Option, Some, None, option_map, pos}
use Rattle.std.specs.List.{concat}
use Rattle.std.proofs.lemmas.Bool.{leb-true, ltb-true, and_parts}
use Rattle.client_set.specs.Members.{Stands}
use Rattle.stream_config.specs.declared.attrs.FullAction.{FullAction}
use Rattle.stream_config.specs.declared.attrs.FullAction.TheVariants.{Wrap, Halt, Rotate}
use Rattle.stream_config.specs.declared.attrs.StreamAttrs.{StreamAttrs}
use Rattle.stream_config.specs.declared.state.LogFile.{LogFile}
use Rattle.stream_config.specs.Events.{open_file, most_files}
use Rattle.stream_config.specs.Fit.{next_first}
use Rattle.stream_config.specs.Sizes.{records_per_file}
use Rattle.stream_layout.specs.Names.{log_name}
use Rattle.stream_layout.specs.LogFiles.{overlaid, records_in, bytes_in, entries_to, log_entries}
use Rattle.stream_layout.specs.Carrying.{entry_at}
use Rattle.stream_layout.proofs.FileLaws.{itself, apart}
use Rattle.stream_layout.proofs.Rounds.{overlaid_sizes}
use Rattle.stream_layout.proofs.EventLaws.{wrap_sized, some_records, alike_all}
use Rattle.log_history.specs.Rounds.{Round, last_of, front_of}
use Rattle.log_history.specs.Chronicle.{Stream, files_had, stamped_files, last_file, all_files}
use Rattle.log_history.specs.Files.{records_of, log_entries_of}
use Rattle.log_history.specs.AllNames.{NoneTwice, names_of_full, last_names, names_in}
use Rattle.log_history.specs.Places.{first_in, files_now, first_of, is_standing, file_of, offset_of, spot_in_file, place_of}
use Rattle.log_history.proofs.BytesLaws.{length-printed, sizes-printed}
use Rattle.log_history.proofs.NamedLaws.{file-named, none-stamped}
use Rattle.log_history.proofs.Reaching.{Passes}
use Rattle.log_history.proofs.SliceLaws.{stands-behind}
use Rattle.log_history.proofs.SpotLaws.{concat-slice, wrapped}

-- the names of a stream's files as they are now

abbrev pub names_now : StreamAttrs → List LogFile → List (List ℕ)
names_now attrs files = map (log_name attrs) files

stands-mapped : (attrs : StreamAttrs) (files : List LogFile) (name : List ℕ) → Stands name (names_now attrs files) → (file : LogFile) × Stands file files × (name ≡ log_name attrs file)
stands-mapped attrs [] name there = absurd there
stands-mapped attrs (file ∷ files) name (inl same) = (file, inl refl, same)
stands-mapped attrs (file ∷ files) name (inr later) =
    let found = stands-mapped attrs files name later in (found.0, inr found.1, found.2)

pub now-once : (attrs : StreamAttrs) (full : List (ℕ × ℕ)) (rounds : List Round) (created : ℕ) (ended : Option ℕ) (last : Round) → NoneTwice (names_of_full attrs full ++ log_name attrs (open_file (pos created)) ∷ last_names attrs created ended) → NoneTwice (names_now attrs (stamped_files full rounds ++ last_file created ended last ∷ []))
now-once attrs [] rounds created ended last once = ((λ none. none), tt)
now-once attrs (one ∷ full) [] created ended last once =
    subst (λ files. NoneTwice (names_now attrs (files ++ last_file created ended last ∷ []))) (sym (none-stamped full)) (now-once attrs full [] created ended last once.1.1)
now-once attrs (one ∷ full) (round ∷ rounds) created ended last once = (alone, now-once attrs full rounds created ended last once.1.1) where
  alone : Stands (log_name attrs (record { created = pos one.0; closed = Some (pos one.1); first = round.first; bytes = round.bytes })) (names_now attrs (stamped_files full rounds ++ last_file created ended last ∷ [])) → ⊥
  alone there =
      let found = stands-mapped attrs (stamped_files full rounds ++ last_file created ended last ∷ []) (log_name attrs (record { created = pos one.0; closed = Some (pos one.1); first = round.first; bytes = round.bytes })) there in
      once.1.0 (subst (λ name. Stands name (names_of_full attrs full ++ log_name attrs (open_file (pos created)) ∷ last_names attrs created ended)) (sym found.2)
      (file-named attrs full rounds created ended last found.0 found.1))

drop-once : (k : ℕ) (attrs : StreamAttrs) (files : List LogFile) → NoneTwice (names_now attrs files) → NoneTwice (names_now attrs (drop k files))
drop-once zero attrs files once = once
drop-once (suc k) attrs [] once = tt
drop-once (suc k) attrs (file ∷ files) once = drop-once k attrs files once.1

-- the names of the files that stand differ
pub files-once : (stream : Stream) → NoneTwice (names_in stream) → NoneTwice (names_now stream.attrs (files_now stream))
files-once stream once =
    drop-once (length (all_files stream) - most_files stream.attrs.action stream.attrs.rotated) stream.attrs (all_files stream)
    (now-once stream.attrs stream.full (front_of (files_had stream)) stream.current stream.ended (last_of (files_had stream)) once)

pub named-now : (attrs : StreamAttrs) (files : List LogFile) (file : LogFile) → Stands file files → Stands (log_name attrs file) (names_now attrs files)
named-now attrs [] file there = absurd there
named-now attrs (first ∷ files) file (inl same) = inl (ap (log_name attrs) same)
named-now attrs (first ∷ files) file (inr later) = inr (named-now attrs files file later)

-- the file of a record, its entry, and the number behind those of its records
pub record IsWalked (attrs : StreamAttrs) (records : List (List ℕ)) (number until : ℕ) (files : List LogFile) (file : LogFile) : Type 0 where
  pub next : ℕ
  pub low : file.first ≤ number
  pub high : number < next
  pub there : Stands file files
  pub entry : entry_at (entries_to attrs records until files) (log_name attrs file) ≡ Some (bytes_in attrs file.first next records)

pub walk : (attrs : StreamAttrs) (records : List (List ℕ)) (number until : ℕ) (files : List LogFile) (file : LogFile) → NoneTwice (names_now attrs files) → file_of number until files ≡ Some file → IsWalked attrs records number until files file
unfolding entries_to
walk attrs records number until [] file once is = cc
walk attrs records number until (first ∷ files) file once is =
    by_case (nat_le first.first number && nat_lt number (next_first files until)) refl is (walk attrs records number until files file once.1) where
      by_case : (b : Bool) → (nat_le first.first number && nat_lt number (next_first files until)) ≡ b → cond b (Some first) (file_of number until files) ≡ Some file
          → (file_of number until files ≡ Some file → IsWalked attrs records number until files file) → IsWalked attrs records number until (first ∷ files) file
      by_case true within same later =
          let e : first ≡ file = cc in
          let parts = and_parts (nat_le first.first number) (nat_lt number (next_first files until)) within in
          subst (IsWalked attrs records number until (first ∷ files)) e (record {
            next = next_first files until;
            low = leb-true first.first number parts.0;
            high = ltb-true number (next_first files until) parts.1;
            there = inl refl;
            entry = ap (λ b. cond b (Some (bytes_in attrs first.first (next_first files until) records)) (entry_at (entries_to attrs records until files) (log_name attrs first))) (itself (log_name attrs first));
          })
      by_case false within same later =
          let behind = later same in
          let other : log_name attrs file ≢ log_name attrs first = λ alike. once.0 (subst (λ name. Stands name (names_now attrs files)) alike (named-now attrs files file behind.there)) in
          record {
            next = behind.next;
            low = behind.low;
            high = behind.high;
            there = inr behind.there;
            entry = ap (λ b. cond b (Some (bytes_in attrs first.first (next_first files until) records)) (entry_at (entries_to attrs records until files) (log_name attrs file))) (apart (log_name attrs file) (log_name attrs first) other)
                ∙ behind.entry;
          }

-- **the bytes at the place of a record**
pub record StandsIn (stream : Stream) (number : ℕ) (place : List ℕ × ℕ) : Type 0 where
  pub bytes : List ℕ
  pub found : entry_at (log_entries_of stream) place.0 ≡ Some bytes
  pub here : take (length (get_or (records_of stream) number [])) (drop place.1 bytes) ≡ get_or (records_of stream) number []

-- in the bytes of its file a record stands behind those before it, or in its slot
pub here-in : (action : FullAction) (stream : Stream) (first next number : ℕ) → stream.attrs.action ≡ action → Passes stream → first ≤ number → number < next → number < length stream.records
    → first_in action (records_per_file stream.attrs) (length stream.records) first ≤ number
    → take (length (get_or (records_of stream) number []))
    (drop (offset_of action (records_per_file stream.attrs) stream.attrs.record_size first number (records_of stream))
    (concat (records_in action (records_per_file stream.attrs) first next (records_of stream)))) ≡ get_or (records_of stream) number []
here-in Wrap stream first next number is passes low high within kept =
    let attrs = stream.attrs in
    let records = records_of stream in
    let n = records_per_file attrs in
    let alike = wrap_sized attrs passes.sizes is in
    let least = alike.least_record in
    let taken = length-printed attrs 1 stream.records in
    let sizes = alike_all attrs records (omega (arith, least)) (sizes-printed attrs 1 stream.records passes.sizes) in
    let among = wrapped n number records (some_records attrs alike) (omega (arith, within, taken)) (omega (arith, kept, taken)) in
    let own : length (get_or records number []) ≡ attrs.record_size = sizes number [] (omega (arith, within, taken)) in
    ap (λ size. take size (drop (number % n * attrs.record_size) (concat (overlaid n records)))) own
    ∙ concat-slice attrs.record_size (overlaid n records) (number % n) (overlaid_sizes attrs.record_size n records sizes) among.within
    ∙ among.is
here-in Halt stream first next number is passes low high within kept =
    stands-behind first number next (records_of stream) low high (let taken = length-printed stream.attrs 1 stream.records in omega (arith, within, taken))
here-in Rotate stream first next number is passes low high within kept =
    stands-behind first number next (records_of stream) low high (let taken = length-printed stream.attrs 1 stream.records in omega (arith, within, taken))

-- the first record that stands is not behind the first of a file that stands
first-low : (action : FullAction) (n taken first own number : ℕ) → (action ≡ Wrap → taken - n ≤ number) → own ≤ number → first_in action n taken own ≤ number
first-low Wrap n taken first own number wraps low = wraps refl
first-low Halt n taken first own number wraps low = low
first-low Rotate n taken first own number wraps low = low

wrap-first : (action : FullAction) (n taken first number : ℕ) → first_in action n taken first ≤ number → action ≡ Wrap → taken - n ≤ number
wrap-first Wrap n taken first number low is = low
wrap-first Halt n taken first number low is = cc
wrap-first Rotate n taken first number low is = cc

-- **where a record stands of which a place is told**
pub place-stands : (stream : Stream) (number : ℕ) (place : List ℕ × ℕ) → Passes stream → NoneTwice (names_in stream) → place_of stream number ≡ Some place → StandsIn stream number place
unfolding log_entries
place-stands stream number place passes once is =
    by_case (is_standing stream number) refl (file_of number (length stream.records) (files_now stream)) refl is where
      attrs : StreamAttrs
      attrs = stream.attrs

      n : ℕ
      n = records_per_file attrs

      records : List (List ℕ)
      records = records_of stream

      stand : (file : LogFile) → is_standing stream number ≡ true → file_of number (length stream.records) (files_now stream) ≡ Some file → StandsIn stream number (spot_in_file stream number file)
      stand file stands found =
          let parts = and_parts (nat_le (first_of stream) number) (nat_lt number (length stream.records)) stands in
          let taken = length-printed attrs 1 stream.records in
          let walked = walk attrs records number (length stream.records) (files_now stream) file (files-once stream once) found in
          let kept = wrap-first attrs.action n (length stream.records) (next_first (files_now stream) (length stream.records)) number (leb-true (first_of stream) number parts.0) in
          record {
            bytes = bytes_in attrs file.first walked.next records;
            found = ap (λ until. entry_at (entries_to attrs records until (files_now stream)) (log_name attrs file)) taken ∙ walked.entry;
            here = here-in attrs.action stream file.first walked.next number refl passes walked.low walked.high (ltb-true number (length stream.records) parts.1)
                (first-low attrs.action n (length stream.records) file.first file.first number kept walked.low);
          }

      by_case : (b : Bool) → is_standing stream number ≡ b → (found : Option LogFile) → file_of number (length stream.records) (files_now stream) ≡ found → cond b (option_map (spot_in_file stream number) found) None ≡ Some place → StandsIn stream number place
      by_case false none found there same = cc
      by_case true stands None there same = cc
      by_case true stands (Some file) there same =
          let e : spot_in_file stream number file ≡ place = cc in
          subst (StandsIn stream number) e (stand file stands there)
