-- Records of a history: each stands at its place while it has one, keeps its number and its bytes, and no two stand at one place.
use Rattle.std.proofs.Common.{get_or, ◌≡◌, ℕ, zero, suc, ◌≤◌, Bool, true, false, cond, List, [], ◌∷◌, ◌++◌, length, take, drop, refl, ap, sym, ◌∙◌, subst, arith, ◌-◌, ◌*◌, ◌/◌, ◌%◌, nat_lt, nat_le, ◌⊎◌, inl, inr, ◌<◌, ◌+◌}
use Rattle.std.proofs.lemmas.Bool.{cases_lt, leb-true, ltb-true, and_parts}
use Rattle.std.proofs.lemmas.Nat.{div-add-mod'}
use Rattle.std.proofs.Math.Nat.{mul-le-mul_right}
use Rattle.client_set.proofs.MemberLaws.{Stands-append_left, Stands-append_right}
use Rattle.stream_config.specs.declared.attrs.FullAction.{FullAction}
use Rattle.stream_config.specs.declared.attrs.FullAction.TheVariants.{Wrap, Halt, Rotate}
use Rattle.stream_config.specs.Sizes.{records_per_file, IsLength}
use Rattle.std.specs.Prelude.{Option, Some, None, option_map, slice_get}
use Rattle.std.specs.Option.{option_map_or}
use Rattle.std.specs.List.{find}
use Rattle.std.proofs.lemmas.Option.{get_or_from_slice_get, slice_get_past}
use Rattle.disk_model.specs.Disk.{settled_file}
use Rattle.record_print.specs.declared.record.LogRecord.{LogRecord}
use Rattle.stream_config.specs.declared.attrs.StreamAttrs.{StreamAttrs}
use Rattle.stream_config.specs.declared.attrs.StreamName.{StreamName}
use Rattle.stream_config.specs.Stamps.{stamp_after}
use Rattle.stream_config.specs.declared.state.LogFile.{LogFile}
use Rattle.stream_layout.specs.Names.{log_name}
use Rattle.client_set.specs.Members.{Stands}
use Rattle.stream_layout.specs.Carrying.{entry_at}
use Rattle.log_history.specs.Firsts.{change_first, before_first}
use Rattle.log_history.specs.Changes.{LogChange, Began, Opened, Stored, Filtered, Closed, Ended}
use Rattle.log_history.specs.Chronicle.{LogSetup, Stream, is_living, with_record, with_end, all_ended, chronicle, files_had, all_files}
use Rattle.log_history.specs.Answers.{living_stream}
use Rattle.log_history.specs.Table.{state_of, bytes_in}
use Rattle.log_history.specs.Files.{printed_records, records_of, log_entries_of, disk_files}
use Rattle.log_history.specs.Legal.{IsLogHistory}
use Rattle.log_history.specs.Stamps.{stamps_in, stamps_of_all}
use Rattle.log_history.specs.AllNames.{NoneTwice, names_in, names_of_all}
use Rattle.log_history.specs.Rounds.{last_of, front_of}
use Rattle.log_history.specs.Places.{first_in, files_now, first_of, is_standing, file_of, offset_of, spot_in_file, place_of, place_in, record_in, stream_number, IsAt}
use Rattle.log_history.proofs.BytesLaws.{length-printed, sizes-printed}
use Rattle.log_history.proofs.SliceLaws.{offsets-rise}
use Rattle.std.specs.List.{concat, All}
use Rattle.std.proofs.lemmas.List.Elements.{All-weaker}
use Rattle.stream_config.specs.Attributes.{IsSized}
use Rattle.stream_config.specs.Fit.{next_first}
use Rattle.stream_config.specs.Events.{most_files}
use Rattle.stream_layout.specs.LogFiles.{records_from}
use Rattle.log_history.proofs.FirstLaws.{Each}
use Rattle.log_history.proofs.Reaching.{Passes, reached}
use Rattle.log_history.proofs.SoundStreams.{sound}
use Rattle.log_history.proofs.StreamLaws.{IsSoundStream}
use Rattle.log_history.proofs.OnceLaws.{AreStamps, middle-alone}
use Rattle.log_history.proofs.StampedLaws.{stamps-around, stamped}
use Rattle.log_history.proofs.NamedLaws.{named-in, once-named, names-once, file-named, Stands-drop}
use Rattle.log_history.proofs.FoundLaws.{found_in, found-around, stamps-within, alone, disk-holds}
use Rattle.log_history.proofs.CarryLaws.{printed-push, records-pushed, settled-whole, only-of}
use Rattle.log_history.proofs.FilesLaws.{Each-amid}
use Rattle.log_history.proofs.PlaceLaws.{names_now, files-once, named-now, walk, place-stands}
use Rattle.ais_values.proofs.Basics.{slice_get-append}
use Rattle.stream_layout.proofs.EventLaws.{wrap_sized, some_records}

-- an element of a list, between others
pub record StandsAmid {X : Type 0} (xs : List X) (index : ℕ) (x : X) : Type 0 where
  pub front : List X
  pub behind : List X
  pub whole : xs ≡ front ++ x ∷ behind
  pub count : length front ≡ index

pub amid-at : {X : Type 0} (xs : List X) (index : ℕ) (x : X) → slice_get xs index ≡ Some x → StandsAmid xs index x
amid-at [] index x is = cc
amid-at (y ∷ xs) zero x is =
    let same : y ≡ x = cc in record { front = []; behind = xs; whole = ap (λ z. z ∷ xs) same; count = refl }
amid-at (y ∷ xs) (suc index) x is =
    let there = amid-at xs index x is in
    record { front = y ∷ there.front; behind = there.behind; whole = ap (λ rest. y ∷ rest) there.whole; count = ap suc there.count }

-- a stream of a history is told from the others
record IsStreamOf (front behind : List Stream) (stream : Stream) (last : ℕ) : Type 0 where
  passes : Passes stream
  sound : IsSoundStream last stream
  once : NoneTwice (names_in stream)
  stamps : AreStamps last (stamps_of_all (front ++ stream ∷ behind))

middle-stamps : (last : ℕ) (front middle behind : List ℕ) → AreStamps last (front ++ (middle ++ behind)) → AreStamps last middle
middle-stamps last front middle behind are =
    let P : List ℕ → Type 0 = AreStamps last in
    (stamps-within last middle [] behind (stamps-within last front [] (middle ++ behind) are).1).0

stream-of : (setup : LogSetup) (past : List LogChange) (front behind : List Stream) (stream : Stream) → IsLogHistory setup past → (chronicle setup past).last ≤ 20000000100 → (chronicle setup past).streams ≡ front ++ stream ∷ behind → IsStreamOf front behind stream (chronicle setup past).last
stream-of setup past front behind stream legal low whole =
    let last = (chronicle setup past).last in
    let are = subst (λ these. AreStamps last (stamps_of_all these)) whole (stamped setup past) in
    let own = middle-stamps last (stamps_of_all front) (stamps_in stream) (stamps_of_all behind) (subst (AreStamps last) (stamps-around front behind stream) are) in
    record {
      passes = Each-amid Passes front behind stream (subst (Each Passes) whole (reached setup past legal).passing);
      sound = Each-amid (IsSoundStream last) front behind stream (subst (Each (IsSoundStream last)) whole (sound setup past legal));
      once = once-named (names_in stream) (stamps_in stream) (named-in stream) (λ stamp there. let le = own.upto stamp there in omega (arith, le, low)) own.once;
      stamps = are;
    }

-- what stands of one stream stands on the disk
found-whole : (front behind : List Stream) (stream : Stream) (last : ℕ) (name bytes : List ℕ) → last ≤ 20000000100 → AreStamps last (stamps_of_all (front ++ stream ∷ behind)) → entry_at (log_entries_of stream) name ≡ Some bytes → found_in (front ++ stream ∷ behind) name ≡ Some bytes
found-whole front behind stream last name bytes low are found =
    found-around front behind stream name
    ∙ settled-whole (found_in behind name) (found_in front name) (entry_at (log_entries_of stream) name) _ _ bytes found
    (only-of front behind stream name (alone front behind stream last low are name bytes found))

stands-of : (setup : LogSetup) (past : List LogChange) (stream number : ℕ) (bytes : List ℕ) (place : List ℕ × ℕ) (one : Option Stream) → IsLogHistory setup past → (chronicle setup past).last ≤ 20000000100 → slice_get (chronicle setup past).streams stream ≡ one → option_map_or (λ (s : Stream). slice_get (records_of s) number) one None ≡ Some bytes → option_map_or (λ (s : Stream). place_of s number) one None ≡ Some place → IsAt bytes place (disk_files setup past)
stands-of setup past stream number bytes place None legal low there record_is place_is = cc
stands-of setup past stream number bytes place (Some one) legal low there record_is place_is =
    let streams = (chronicle setup past).streams in
    let last = (chronicle setup past).last in
    let amid = amid-at streams stream one there in
    let is = stream-of setup past amid.front amid.behind one legal low amid.whole in
    let stands = place-stands one number place is.passes is.once place_is in
    let own : get_or (records_of one) number [] ≡ bytes = get_or_from_slice_get (records_of one) number bytes [] record_is in
    let found : found_in streams place.0 ≡ Some stands.bytes =
    ap (λ these. found_in these place.0) amid.whole ∙ found-whole amid.front amid.behind one last place.0 stands.bytes low is.stamps stands.found in
    record {
      file = settled_file stands.bytes;
      found = disk-holds setup past place.0 ∙ ap (option_map settled_file) found;
      bytes_are = ap (λ these. take (length these) (drop place.1 stands.bytes)) (sym own) ∙ stands.here ∙ own;
    }

-- **a record stands at its place among the files of a history, with its bytes**
pub record-stands : (setup : LogSetup) (past : List LogChange) (stream number : ℕ) (bytes : List ℕ) (place : List ℕ × ℕ) → IsLogHistory setup past → (chronicle setup past).last ≤ 20000000100 → record_in setup past stream number ≡ Some bytes → place_in setup past stream number ≡ Some place → IsAt bytes place (disk_files setup past)
record-stands setup past stream number bytes place legal low record_is place_is =
    stands-of setup past stream number bytes place (slice_get (chronicle setup past).streams stream) legal low refl record_is place_is

-- a record keeps its number and its bytes

-- each stream has its records, and perhaps more; some may have come behind
abbrev pub HaveGrown : List Stream → List Stream → Type 0
HaveGrown streams now =
    (index number : ℕ) (bytes : List ℕ) → option_map_or (λ (one : Stream). slice_get (records_of one) number) (slice_get streams index) None ≡ Some bytes → option_map_or (λ (one : Stream). slice_get (records_of one) number) (slice_get now index) None ≡ Some bytes

grown-pushed : (streams : List Stream) (stream : Stream) → HaveGrown streams (streams ++ stream ∷ [])
grown-pushed [] stream index number bytes is = cc
grown-pushed (first ∷ streams) stream zero number bytes is = is
grown-pushed (first ∷ streams) stream (suc index) number bytes is = grown-pushed streams stream index number bytes is

grown-record : (name : StreamName) (last second : ℕ) (rec : LogRecord) (streams : List Stream) → HaveGrown streams (change_first (is_living name) (with_record last second rec) streams)
grown-record name last second rec [] index number bytes is = cc
grown-record name last second rec (first ∷ streams) index number bytes is = by_case (is_living name first) index is (grown-record name last second rec streams) where
  by_case : (b : Bool) (at : ℕ) → option_map_or (λ (one : Stream). slice_get (records_of one) number) (slice_get (first ∷ streams) at) None ≡ Some bytes → HaveGrown streams (change_first (is_living name) (with_record last second rec) streams) → option_map_or (λ (one : Stream). slice_get (records_of one) number) (slice_get (cond b (with_record last second rec first ∷ streams) (first ∷ change_first (is_living name) (with_record last second rec) streams)) at) None ≡ Some bytes
  by_case true zero here behind =
      ap (λ records. slice_get records number) (printed-push first.attrs 1 first.records rec) ∙ slice_get-append (records_of first) _ number bytes here
  by_case true (suc at) here behind = here
  by_case false zero here behind = here
  by_case false (suc at) here behind = behind at number bytes here

grown-ends : (ends : Stream → Bool) (second last : ℕ) (streams : List Stream) → HaveGrown streams (all_ended ends last second streams)
grown-ends ends second last [] index number bytes is = cc
grown-ends ends second last (first ∷ streams) index number bytes is = by_case (ends first) index is (λ l. grown-ends ends second l streams) where
  by_case : (b : Bool) (at : ℕ) → option_map_or (λ (one : Stream). slice_get (records_of one) number) (slice_get (first ∷ streams) at) None ≡ Some bytes → ((l : ℕ) → HaveGrown streams (all_ended ends l second streams)) → option_map_or (λ (one : Stream). slice_get (records_of one) number) (slice_get (cond b (with_end (stamp_after last second) first ∷ all_ended ends (stamp_after last second) second streams) (first ∷ all_ended ends last second streams)) at) None ≡ Some bytes
  by_case true zero here behind = here
  by_case true (suc at) here behind = behind (stamp_after last second) at number bytes here
  by_case false zero here behind = here
  by_case false (suc at) here behind = behind last at number bytes here

-- **a record keeps its number and its bytes whatever changes**
pub record-kept : (setup : LogSetup) (past : List LogChange) (change : LogChange) (stream number : ℕ) (bytes : List ℕ) → record_in setup past stream number ≡ Some bytes → record_in setup (change ∷ past) stream number ≡ Some bytes
record-kept setup past (Began client) stream number bytes is = is
record-kept setup past (Opened client name None second entry) stream number bytes is = is
record-kept setup past (Opened client name (Some attrs) second entry) stream number bytes is = grown-pushed (chronicle setup past).streams _ stream number bytes is
record-kept setup past (Stored name rec second) stream number bytes is = grown-record name (chronicle setup past).last second rec (chronicle setup past).streams stream number bytes is
record-kept setup past (Filtered client name mask entry) stream number bytes is = is
record-kept setup past (Closed client name second) stream number bytes is = grown-ends _ second (chronicle setup past).last (chronicle setup past).streams stream number bytes is
record-kept setup past (Ended client second) stream number bytes is = grown-ends _ second (chronicle setup past).last (chronicle setup past).streams stream number bytes is

-- where the record that comes stands

found-at : (test : Stream → Bool) (streams : List Stream) (stream : Stream) → find test streams ≡ Some stream → slice_get streams (before_first test streams) ≡ Some stream
found-at test [] stream is = cc
found-at test (first ∷ streams) stream is = by_case (test first) is (found-at test streams stream) where
  by_case : (b : Bool) → cond b (Some first) (find test streams) ≡ Some stream → (find test streams ≡ Some stream → slice_get streams (before_first test streams) ≡ Some stream) → slice_get (first ∷ streams) (cond b 0 (suc (before_first test streams))) ≡ Some stream
  by_case true same behind = same
  by_case false same behind = behind same

changed-at : (test : Stream → Bool) (change : Stream → Stream) (streams : List Stream) (stream : Stream) → find test streams ≡ Some stream → slice_get (change_first test change streams) (before_first test streams) ≡ Some (change stream)
changed-at test change [] stream is = cc
changed-at test change (first ∷ streams) stream is = by_case (test first) is (changed-at test change streams stream) where
  by_case : (b : Bool) → cond b (Some first) (find test streams) ≡ Some stream → (find test streams ≡ Some stream → slice_get (change_first test change streams) (before_first test streams) ≡ Some (change stream)) → slice_get (cond b (change first ∷ streams) (first ∷ change_first test change streams)) (cond b 0 (suc (before_first test streams))) ≡ Some (change stream)
  by_case true same behind = let e : first ≡ stream = cc in ap (λ (s : Stream). Some (change s)) e
  by_case false same behind = behind same

last-of : {X : Type 0} (xs : List X) (x : X) → slice_get (xs ++ x ∷ []) (length xs) ≡ Some x
last-of [] x = refl
last-of (y ∷ xs) x = last-of xs x

-- **a record that is stored is the last of its stream**
pub record-stored : (setup : LogSetup) (past : List LogChange) (name : StreamName) (rec : LogRecord) (second : ℕ) (stream : Stream) → living_stream setup past name ≡ Some stream → record_in setup (Stored name rec second ∷ past) (stream_number setup past name) (length stream.records) ≡ Some (bytes_in (state_of stream) rec)
record-stored setup past name rec second stream is =
    let now = chronicle setup past in
    ap (λ one. option_map_or (λ (s : Stream). slice_get (records_of s) (length stream.records)) one None) (changed-at (is_living name) (with_record now.last second rec) now.streams stream is)
    ∙ ap (λ records. slice_get records (length stream.records)) (sym (records-pushed now.last second rec stream))
    ∙ ap (slice_get (records_of stream ++ bytes_in (state_of stream) rec ∷ [])) (sym (length-printed stream.attrs 1 stream.records))
    ∙ last-of (records_of stream) (bytes_in (state_of stream) rec)

-- no two records stand at one place

-- the file of a place is one of its stream
record HasPlace (stream : Stream) (number : ℕ) (place : List ℕ × ℕ) : Type 0 where
  file : LogFile
  stands : is_standing stream number ≡ true
  at : file_of number (length stream.records) (files_now stream) ≡ Some file
  is : spot_in_file stream number file ≡ place

has-place : (stream : Stream) (number : ℕ) (place : List ℕ × ℕ) → place_of stream number ≡ Some place → HasPlace stream number place
has-place stream number place is = by_case (is_standing stream number) refl (file_of number (length stream.records) (files_now stream)) refl is where
  by_case : (b : Bool) → is_standing stream number ≡ b → (found : Option LogFile) → file_of number (length stream.records) (files_now stream) ≡ found → cond b (option_map (spot_in_file stream number) found) None ≡ Some place → HasPlace stream number place
  by_case false none found there same = cc
  by_case true stands None there same = cc
  by_case true stands (Some file) there same = record { file = file; stands = stands; at = there; is = cc }

-- files whose names are the same
same-file : (attrs : StreamAttrs) (files : List LogFile) (file second : LogFile) → NoneTwice (names_now attrs files) → Stands file files → Stands second files → log_name attrs file ≡ log_name attrs second → file ≡ second
same-file attrs [] file second once there there' same = absurd there
same-file attrs (first ∷ files) file second once (inl is) (inl is') same = is ∙ sym is'
same-file attrs (first ∷ files) file second once (inl is) (inr later) same =
    absurd (once.0 (subst (λ name. Stands name (names_now attrs files)) (sym same ∙ ap (log_name attrs) is) (named-now attrs files second later)))
same-file attrs (first ∷ files) file second once (inr later) (inl is') same =
    absurd (once.0 (subst (λ name. Stands name (names_now attrs files)) (same ∙ ap (log_name attrs) is') (named-now attrs files file later)))
same-file attrs (first ∷ files) file second once (inr later) (inr later') same = same-file attrs files file second once.1 later later' same

-- numbers that differ have places that differ

times-same : (one other size : ℕ) → 0 < size → one * size ≡ other * size → one ≡ other
times-same one other size some same = by_case (cases_lt one other) (cases_lt other one) where
  by_case : (one < other) ⊎ (other ≤ one) → (other < one) ⊎ (one ≤ other) → one ≡ other
  by_case (inl less) back =
      absurd (let le : one + 1 ≤ other = omega (arith, less) in let more : (one + 1) * size ≤ other * size = mul-le-mul_right size le in omega (arith, more, same, some))
  by_case (inr high) (inl less) =
      absurd (let le : other + 1 ≤ one = omega (arith, less) in let more : (other + 1) * size ≤ one * size = mul-le-mul_right size le in omega (arith, more, same, some))
  by_case (inr high) (inr low) = omega (arith, high, low)

-- two of so many numbers that follow each other have one rest
rounds-same : (n first round other rest : ℕ) → first ≤ round * n + rest → first ≤ other * n + rest → round * n + rest < first + n → other * n + rest < first + n → round ≡ other
rounds-same n first round other rest low low' high high' = by_case (cases_lt round other) (cases_lt other round) where
  by_case : (round < other) ⊎ (other ≤ round) → (other < round) ⊎ (round ≤ other) → round ≡ other
  by_case (inl less) back =
      absurd (let le : round + 1 ≤ other = omega (arith, less) in let more : (round + 1) * n ≤ other * n = mul-le-mul_right n le in omega (arith, more, low, high'))
  by_case (inr above) (inl less) =
      absurd (let le : other + 1 ≤ round = omega (arith, less) in let more : (other + 1) * n ≤ round * n = mul-le-mul_right n le in omega (arith, more, low', high))
  by_case (inr above) (inr below) = omega (arith, above, below)

by-rest : (n one other : ℕ) → one / n ≡ other / n → one % n ≡ other % n → one ≡ other
by-rest n one other quotients rests =
    sym (div-add-mod' one n) ∙ ap (λ q. q * n + one % n) quotients ∙ ap (λ r. other / n * n + r) rests ∙ div-add-mod' other n

wrapped-same : (n taken one other : ℕ) → 0 < n → taken - n ≤ one → one < taken → taken - n ≤ other → other < taken → one % n ≡ other % n → one ≡ other
wrapped-same n taken one other some low high low' high' rests =
    let whole : one / n * n + one % n ≡ one = div-add-mod' one n in
    let whole' : other / n * n + other % n ≡ other = div-add-mod' other n in
    let one_is : one / n * n + other % n ≡ one = ap (λ r. one / n * n + r) (sym rests) ∙ whole in
    let first = taken - n in
    by-rest n one other
    (rounds-same n first (one / n) (other / n) (other % n) (omega (arith, one_is, low)) (omega (arith, whole', low')) (omega (arith, one_is, high)) (omega (arith, whole', high'))) rests

apart-offsets : (first one other : ℕ) (records : List (List ℕ)) → All (λ (bytes : List ℕ). 1 ≤ length bytes) records → first ≤ one → first ≤ other → one < length records → other < length records
    → length (concat (records_from first one records)) ≡ length (concat (records_from first other records)) → one ≡ other
apart-offsets first one other records some low low' high high' same = by_order (cases_lt one other) (cases_lt other one) where
  by_order : (one < other) ⊎ (other ≤ one) → (other < one) ⊎ (one ≤ other) → one ≡ other
  by_order (inl less) back = absurd (let rises = offsets-rise first one other records some low less high in omega (arith, rises, same))
  by_order (inr above) (inl less) = absurd (let rises = offsets-rise first other one records some low' less high' in omega (arith, rises, same))
  by_order (inr above) (inr below) = omega (arith, above, below)

numbers-same : (action : FullAction) (attrs : StreamAttrs) (first stood one other taken : ℕ) (records : List (List ℕ)) → attrs.action ≡ action → IsSized attrs → length records ≡ taken → All (λ (bytes : List ℕ). 1 ≤ length bytes) records
    → first ≤ one → first ≤ other → first_in action (records_per_file attrs) taken stood ≤ one → one < taken → first_in action (records_per_file attrs) taken stood ≤ other → other < taken
    → offset_of action (records_per_file attrs) attrs.record_size first one records ≡ offset_of action (records_per_file attrs) attrs.record_size first other records → one ≡ other
numbers-same Wrap attrs first stood one other taken records is sized count some low low' kept high kept' high' same =
    let alike = wrap_sized attrs sized is in
    let least = alike.least_record in
    let n = records_per_file attrs in
    wrapped-same n taken one other (some_records attrs alike) kept high kept' high' (times-same (one % n) (other % n) attrs.record_size (omega (arith, least)) same)
numbers-same Halt attrs first stood one other taken records is sized count some low low' kept high kept' high' same =
    apart-offsets first one other records some low low' (omega (arith, high, count)) (omega (arith, high', count)) same
numbers-same Rotate attrs first stood one other taken records is sized count some low low' kept high kept' high' same =
    apart-offsets first one other records some low low' (omega (arith, high, count)) (omega (arith, high', count)) same

pub once-behind : {X : Type 0} (xs ys : List X) → NoneTwice (xs ++ ys) → NoneTwice ys
once-behind [] ys once = once
once-behind (x ∷ xs) ys once = once-behind xs ys once.1

pub named-among : (streams : List Stream) (index : ℕ) (stream : Stream) (name : List ℕ) → slice_get streams index ≡ Some stream → Stands name (names_in stream) → Stands name (names_of_all streams)
named-among [] index stream name is there = cc
named-among (first ∷ streams) zero stream name is there =
    let same : first ≡ stream = cc in
    Stands-append_left name (names_in first) (names_of_all streams) (subst (λ (s : Stream). Stands name (names_in s)) (sym same) there)
named-among (first ∷ streams) (suc index) stream name is there =
    Stands-append_right name (names_in first) (names_of_all streams) (named-among streams index stream name is there)

-- streams with one name are one
same-stream : (streams : List Stream) (one other : ℕ) (stream second : Stream) (name : List ℕ) → NoneTwice (names_of_all streams) → slice_get streams one ≡ Some stream → slice_get streams other ≡ Some second → Stands name (names_in stream) → Stands name (names_in second) → one ≡ other
same-stream [] one other stream second name once is is' there there' = cc
same-stream (first ∷ streams) zero zero stream second name once is is' there there' = refl
same-stream (first ∷ streams) zero (suc other) stream second name once is is' there there' =
    let same : first ≡ stream = cc in
    absurd (middle-alone [] (names_in first) (names_of_all streams) name once (subst (λ (s : Stream). Stands name (names_in s)) (sym same) there) (named-among streams other second name is' there'))
same-stream (first ∷ streams) (suc one) zero stream second name once is is' there there' =
    let same : first ≡ second = cc in
    absurd (middle-alone [] (names_in first) (names_of_all streams) name once (subst (λ (s : Stream). Stands name (names_in s)) (sym same) there') (named-among streams one stream name is there))
same-stream (first ∷ streams) (suc one) (suc other) stream second name once is is' there there' =
    ap suc (same-stream streams one other stream second name (once-behind (names_in first) (names_of_all streams) once) is is' there there')

some-printed : (attrs : StreamAttrs) (number : ℕ) (stream : Stream) → IsSized attrs → All (λ (bytes : List ℕ). 1 ≤ length bytes) (printed_records attrs number stream.records)
some-printed attrs number stream sized =
    All-weaker (λ (bytes : List ℕ). IsLength attrs (length bytes)) (λ (bytes : List ℕ). 1 ≤ length bytes) (λ bytes is. is.some) (printed_records attrs number stream.records) (sizes-printed attrs number stream.records sized)

-- the same place in one stream
one-number : (stream : Stream) (one other : ℕ) (place : List ℕ × ℕ) → Passes stream → NoneTwice (names_in stream) → HasPlace stream one place → HasPlace stream other place → one ≡ other
one-number stream one other place passes once is is' =
    let attrs = stream.attrs in
    let taken = length stream.records in
    let records = records_of stream in
    let names = files-once stream once in
    let walked = walk attrs records one taken (files_now stream) is.file names is.at in
    let walked' = walk attrs records other taken (files_now stream) is'.file names is'.at in
    let parts = and_parts (nat_le (first_of stream) one) (nat_lt one taken) is.stands in
    let parts' = and_parts (nat_le (first_of stream) other) (nat_lt other taken) is'.stands in
    let same_name : log_name attrs is.file ≡ log_name attrs is'.file = ap (λ (p : List ℕ × ℕ). p.0) (is.is ∙ sym is'.is) in
    let file = same-file attrs (files_now stream) is.file is'.file names walked.there walked'.there same_name in
    let at = λ (f : LogFile) (number : ℕ). offset_of attrs.action (records_per_file attrs) attrs.record_size f.first number records in
    let same_at : at is.file one ≡ at is.file other = ap (λ (p : List ℕ × ℕ). p.1) (is.is ∙ sym is'.is) ∙ ap (λ f. at f other) (sym file) in
    numbers-same attrs.action attrs is.file.first (next_first (files_now stream) taken) one other taken records refl passes.sizes (length-printed attrs 1 stream.records) (some-printed attrs 1 stream passes.sizes)
    walked.low (subst (λ (f : LogFile). f.first ≤ other) (sym file) walked'.low)
    (leb-true (first_of stream) one parts.0) (ltb-true one taken parts.1) (leb-true (first_of stream) other parts'.0) (ltb-true other taken parts'.1) same_at

name-of-place : (stream : Stream) (number : ℕ) (place : List ℕ × ℕ) → NoneTwice (names_in stream) → HasPlace stream number place → Stands place.0 (names_in stream)
name-of-place stream number place once is =
    let walked = walk stream.attrs (records_of stream) number (length stream.records) (files_now stream) is.file (files-once stream once) is.at in
    subst (λ name. Stands name (names_in stream)) (ap (λ (p : List ℕ × ℕ). p.0) is.is)
    (file-named stream.attrs stream.full (front_of (files_had stream)) stream.current stream.ended (last_of (files_had stream)) is.file
    (Stands-drop (length (all_files stream) - most_files stream.attrs.action stream.attrs.rotated) is.file (all_files stream) walked.there))

apart-of : (setup : LogSetup) (past : List LogChange) (one other number second : ℕ) (place : List ℕ × ℕ) (found found' : Option Stream) → IsLogHistory setup past → (chronicle setup past).last ≤ 20000000100 → slice_get (chronicle setup past).streams one ≡ found → slice_get (chronicle setup past).streams other ≡ found' → option_map_or (λ (s : Stream). place_of s number) found None ≡ Some place → option_map_or (λ (s : Stream). place_of s second) found' None ≡ Some place → (one ≡ other) × (number ≡ second)
apart-of setup past one other number second place None found' legal low there there' is is' = cc
apart-of setup past one other number second place (Some stream) None legal low there there' is is' = cc
apart-of setup past one other number second place (Some stream) (Some later) legal low there there' is is' =
    let streams = (chronicle setup past).streams in
    let amid = amid-at streams one stream there in
    let told = stream-of setup past amid.front amid.behind stream legal low amid.whole in
    let here = has-place stream number place is in
    let here' = has-place later second place is' in
    let amid' = amid-at streams other later there' in
    let told' = stream-of setup past amid'.front amid'.behind later legal low amid'.whole in
    let same = same-stream streams one other stream later place.0 (names-once setup past low) there there' (name-of-place stream number place told.once here) (name-of-place later second place told'.once here') in
    let both : Some stream ≡ Some later = sym there ∙ ap (slice_get streams) same ∙ there' in
    let one_stream : stream ≡ later = cc in
    (same, one-number stream number second place told.passes told.once here (subst (λ (s : Stream). HasPlace s second place) (sym one_stream) here'))

-- **no two records stand at one place**
pub record-apart : (setup : LogSetup) (past : List LogChange) (one other number second : ℕ) (place : List ℕ × ℕ) → IsLogHistory setup past → (chronicle setup past).last ≤ 20000000100 → place_in setup past one number ≡ Some place → place_in setup past other second ≡ Some place → (one ≡ other) × (number ≡ second)
record-apart setup past one other number second place legal low is is' =
    apart-of setup past one other number second place (slice_get (chronicle setup past).streams one) (slice_get (chronicle setup past).streams other) legal low refl refl is is'

-- **a record that is stored was none before**
pub record-new : (setup : LogSetup) (past : List LogChange) (name : StreamName) (stream : Stream) → living_stream setup past name ≡ Some stream → record_in setup past (stream_number setup past name) (length stream.records) ≡ None
record-new setup past name stream is =
    ap (λ one. option_map_or (λ (s : Stream). slice_get (records_of s) (length stream.records)) one None) (found-at (is_living name) (chronicle setup past).streams stream is)
    ∙ slice_get_past (records_of stream) (length stream.records) (let long = length-printed stream.attrs 1 stream.records in omega (arith, long))
