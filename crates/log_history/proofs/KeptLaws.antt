-- The answers after changes are those read of what is kept of them.
use Rattle.std.proofs.Common.{◌≡◌, ℕ, ◌==◌, nat_lt, nat_le, true, false, not, ◌&&◌, ◌||◌, cond, List, [], ◌∷◌, refl, ap, sym, ◌∙◌, Bool, is_some}
use Rattle.std.specs.Prelude.{Option, Some, None, option_map, ℤ}
use Rattle.std.specs.Option.{option_map_or}
use Rattle.std.proofs.lemmas.Bool.{and_parts}
use Rattle.client_set.specs.Members.{has}
use Rattle.client_set.specs.Rising.{put, without}
use Rattle.client_set.proofs.RisingLaws.{has-put, has-without}
use Rattle.stream_config.specs.declared.attrs.StreamAttrs.{StreamAttrs}
use Rattle.stream_config.specs.declared.attrs.StreamName.{StreamName}
use Rattle.stream_config.specs.Equality.{same_name}
use Rattle.stream_config.specs.Attributes.{kind_of}
use Rattle.stream_config.specs.AttributeTests.{have_one_place}
use Rattle.record_print.specs.declared.record.Header.{Header}
use Rattle.log_history.specs.Names.{is_application}
use Rattle.log_history.specs.Changes.{LogChange, Began, Opened, Stored, Filtered, Closed, Ended}
use Rattle.log_history.specs.Handles.{is_using, is_open, users, openers}
use Rattle.log_history.specs.Chronicle.{LogSetup, Stream, lives, is_living, chronicle, files_had, length_next}
use Rattle.log_history.specs.Rounds.{last_of}
use Rattle.log_history.specs.Times.{record_at}
use Rattle.stream_config.specs.declared.mark.Mark.{Mark}
use Rattle.stream_config.specs.Marks.{first_mark}
use Rattle.log_history.specs.Marks.{is_filtered, mark_after}
use Rattle.ais_values.specs.declared.kind.StreamKind.{StreamKind}
use Rattle.log_history.proofs.StepLaws.{bytes-standing}
use Rattle.log_history.proofs.Reaching.{Passes}
use Rattle.record_print.specs.declared.record.LogRecord.{LogRecord}
use Rattle.log_history.specs.Answers.{answer, begin_rows, open_rows, write_rows, filter_rows, close_rows, end_rows, store_rows, lacks_room, living_stream, living_attrs, is_place_taken, is_crowded, is_full, begin_answer, open_answer, write_answer, filter_answer, close_answer, end_answer, store_answer, making_of}
use Rattle.log_history.specs.Legal.{IsLogHistory}
use Rattle.log_history.specs.Table.{OpenStream, open_stream, table}
use Rattle.log_history.specs.KeptAnswers.{kept_attrs, has_place, is_of_application, is_crowd, has_opener, lacks_room_in, is_filled, kept_mark, begin_status, open_status, write_status, filter_status, close_status, end_status, store_status, making_in}
use Rattle.stream_config.proofs.Equalities.{decides_name}
use Rattle.log_history.proofs.FirstLaws.{Each, Each-find, list_any-map, list_any-filter, count_by-map, count_by-filter}
use Rattle.log_history.proofs.Reaching.{reached}
use Rattle.log_history.proofs.TableLaws.{living, find-living}

-- the list of users has those who use the service
pub has-users : (past : List LogChange) (client : ℕ) → has client (users past) ≡ is_using past client
has-users [] client = refl
has-users (Began one ∷ past) client = has-put client one (users past) ∙ ap (λ rest. one == client || rest) (has-users past client)
has-users (Ended one second ∷ past) client =
    has-without client one (users past) ∙ ap (λ rest. not (one == client) && rest) (has-users past client)
has-users (Opened one name making second number ∷ past) client = has-users past client
has-users (Stored name rec second ∷ past) client = has-users past client
has-users (Filtered one name mask number ∷ past) client = has-users past client
has-users (Closed one name second ∷ past) client = has-users past client

-- the list of openers of a name has those who have it open
pub has-openers : (past : List LogChange) (name : StreamName) (client : ℕ) → has client (openers past name) ≡ is_open past name client
has-openers [] name client = refl
has-openers (Began one ∷ past) name client = has-openers past name client
has-openers (Stored stored rec second ∷ past) name client = has-openers past name client
has-openers (Opened one opened making second number ∷ past) name client =
    elim (same_name name opened) as (λ b. has client (cond b (put nat_lt one (openers past name)) (openers past name)) ≡ (b && one == client || is_open past name client)) [
      | true ↦ has-put client one (openers past name) ∙ ap (λ rest. one == client || rest) (has-openers past name client)
      | false ↦ has-openers past name client
    ]
has-openers (Filtered one filtered mask number ∷ past) name client = has-openers past name client
has-openers (Closed one closed second ∷ past) name client =
    elim (same_name name closed) as (λ b. has client (cond b (without (λ other. other == one) (openers past name)) (openers past name)) ≡ (not (b && one == client) && is_open past name client)) [
      | true ↦ has-without client one (openers past name) ∙ ap (λ rest. not (one == client) && rest) (has-openers past name client)
      | false ↦ has-openers past name client
    ]
has-openers (Ended one second ∷ past) name client =
    has-without client one (openers past name) ∙ ap (λ rest. not (one == client) && rest) (has-openers past name client)

Each-all : (streams : List Stream) → Each (λ (_ : Stream). Unit {0}) streams
Each-all [] = tt
Each-all (stream ∷ streams) = (tt, Each-all streams)

module _ (setup : LogSetup) (past : List LogChange) where
  pub kept-attrs : (name : StreamName) → kept_attrs (table setup past).streams name ≡ living_attrs setup past name
  kept-attrs name =
      ap (option_map (λ (stream : OpenStream). stream.state.attrs)) (find-living name past (chronicle setup past).streams)
      ∙ elim (living_stream setup past name) as (λ found. option_map (λ (stream : OpenStream). stream.state.attrs) (option_map (open_stream past) found) ≡ option_map (λ (stream : Stream). stream.attrs) found) [
        | None ↦ refl
        | Some stream ↦ refl
      ]

  pub is-filled : IsLogHistory setup past → (name : StreamName) (rec : LogRecord) → is_filled (table setup past).streams name rec ≡ is_full setup past name rec
  is-filled legal name rec =
      ap (λ found. option_map_or (λ (stream : OpenStream). lacks_room_in stream.state rec) found false) (find-living name past (chronicle setup past).streams)
      ∙ by_found (living_stream setup past name) refl where
        by_found : (found : Option Stream) → living_stream setup past name ≡ found → option_map_or (λ (stream : OpenStream). lacks_room_in stream.state rec) (option_map (open_stream past) found) false ≡ option_map_or (λ (stream : Stream). lacks_room stream.attrs (last_of (files_had stream)).bytes (length_next stream rec)) found false
        by_found None is = refl
        by_found (Some stream) is =
            let here = Each-find Passes (is_living name) (chronicle setup past).streams stream (reached setup past legal).passing is in
            ap (λ bytes. lacks_room stream.attrs bytes (length_next stream rec)) (bytes-standing stream here.0.some_rotated)

  pub making-in : (name : StreamName) (create : Option StreamAttrs) → making_in (table setup past).streams name create ≡ making_of setup past name create
  making-in name create =
      ap (λ found. option_map_or (λ (_ : OpenStream). None) found create) (find-living name past (chronicle setup past).streams)
      ∙ elim (living_stream setup past name) as (λ found. option_map_or (λ (_ : OpenStream). None) (option_map (open_stream past) found) create ≡ option_map_or (λ (_ : Stream). None) found create) [
        | None ↦ refl
        | Some stream ↦ refl
      ]

  pub has-place : (attrs : StreamAttrs) → has_place (table setup past).streams attrs ≡ is_place_taken setup past attrs
  has-place attrs =
      list_any-map (open_stream past) (λ stream. have_one_place stream.attrs attrs) (λ (stream : OpenStream). have_one_place stream.state.attrs attrs) (λ _. refl) (living (chronicle setup past).streams)
      ∙ list_any-filter lives (λ stream. have_one_place stream.attrs attrs) (chronicle setup past).streams

  pub is-crowd : is_crowd (table setup past).streams ≡ is_crowded setup past
  is-crowd =
      ap (nat_le 64) (count_by-map (open_stream past) (λ stream. is_application stream.name) is_of_application (λ _. refl) (living (chronicle setup past).streams)
      ∙ count_by-filter lives (λ stream. is_application stream.name) (chronicle setup past).streams)

  pub has-opener : IsLogHistory setup past → (name : StreamName) (client : ℕ) → has_opener (table setup past).streams name client ≡ is_open past name client
  has-opener legal name client =
      ap (λ found. option_map_or (λ (stream : OpenStream). has client stream.openers) found false) (find-living name past (chronicle setup past).streams)
      ∙ by_case (living_stream setup past name) refl where
        by_case : (found : Option Stream) → living_stream setup past name ≡ found → option_map_or (λ (stream : OpenStream). has client stream.openers) (option_map (open_stream past) found) false ≡ is_open past name client
        by_case None none =
            ap (has client) (sym ((reached setup past legal).unopened name none)) ∙ has-openers past name client
        by_case (Some stream) found =
            let named = (Each-find (λ (_ : Stream). Unit {0}) (is_living name) (chronicle setup past).streams stream (Each-all (chronicle setup past).streams) found).1 in
            let same : stream.name ≡ name = (decides_name stream.name name).0 (and_parts (lives stream) (same_name stream.name name) named).1 in
            ap (λ (n : StreamName). has client (openers past n)) same ∙ has-openers past name client

  -- the answers

  pub begin-status : (client : ℕ) → begin_status (table setup past) client ≡ begin_answer setup past client
  begin-status client = ap (λ using. answer (begin_rows using)) (has-users past client)

  pub end-status : (client : ℕ) → end_status (table setup past) client ≡ end_answer setup past client
  end-status client = ap (λ using. answer (end_rows using)) (has-users past client)

  pub store-status : IsLogHistory setup past → (name : StreamName) (rec : LogRecord) → store_status (table setup past) name rec ≡ store_answer setup past name rec
  store-status legal name rec = ap (λ full. answer (store_rows full)) (is-filled legal name rec)

  pub close-status : IsLogHistory setup past → (client : ℕ) (name : StreamName) → close_status (table setup past) client name ≡ close_answer setup past client name
  close-status legal client name =
      ap (λ using. answer (close_rows using (has_opener (table setup past).streams name client))) (has-users past client)
      ∙ ap (λ opened. answer (close_rows (is_using past client) opened)) (has-opener legal name client)

  -- the mark of a stream that lives
  pub kept-mark : (name : StreamName) → is_some (living_stream setup past name) ≡ true → kept_mark (table setup past).streams name ≡ mark_after past name
  kept-mark name living =
      ap (λ found. option_map_or (λ (stream : OpenStream). stream.mark) found first_mark) (find-living name past (chronicle setup past).streams)
      ∙ by_found (living_stream setup past name) refl living where
        by_found : (found : Option Stream) → living_stream setup past name ≡ found → is_some found ≡ true → option_map_or (λ (stream : OpenStream). stream.mark) (option_map (open_stream past) found) first_mark ≡ mark_after past name
        by_found None none some = cc
        by_found (Some stream) found some =
            let named = (Each-find (λ (_ : Stream). Unit {0}) (is_living name) (chronicle setup past).streams stream (Each-all (chronicle setup past).streams) found).1 in
            ap (mark_after past) ((decides_name stream.name name).0 (and_parts (lives stream) (same_name stream.name name) named).1)

  -- who has a stream open keeps it living
  pub open-living : IsLogHistory setup past → (name : StreamName) (client : ℕ) → is_open past name client ≡ true → is_some (living_stream setup past name) ≡ true
  open-living legal name client opened = by_found (living_stream setup past name) refl where
    by_found : (found : Option Stream) → living_stream setup past name ≡ found → is_some found ≡ true
    by_found (Some stream) found = refl
    by_found None none =
        let nobody : has client (openers past name) ≡ false = ap (has client) ((reached setup past legal).unopened name none) in
        let contradiction : true ≡ false = sym opened ∙ sym (has-openers past name client) ∙ nobody in
        cc

  -- no mask counts where the stream is not open
  rows-mask : (using opened one other full : Bool) (kind : StreamKind) (flags : ℕ) (time : ℤ) (header : Header) → (opened ≡ true → one ≡ other) → answer (write_rows using opened one full kind flags time header) ≡ answer (write_rows using opened other full kind flags time header)
  rows-mask false opened one other full kind flags time header same = refl
  rows-mask true false one other full kind flags time header same = refl
  rows-mask true true one other full kind flags time header same = ap (λ filtered. answer (write_rows true true filtered full kind flags time header)) (same refl)

  pub write-status : IsLogHistory setup past → (client : ℕ) (name : StreamName) (flags : ℕ) (time : ℤ) (header : Header) (body : List ℕ) (now : ℤ) → write_status (table setup past) client name flags time header body now ≡ write_answer setup past client name flags time header body now
  write-status legal client name flags time header body now =
      let rec = record_at time header body now in
      let kept = is_filtered (kept_mark (table setup past).streams name).mask header in
      ap (λ using. answer (write_rows using (has_opener (table setup past).streams name client) kept (is_filled (table setup past).streams name rec) (kind_of name) flags time header)) (has-users past client)
      ∙ ap (λ opened. answer (write_rows (is_using past client) opened kept (is_filled (table setup past).streams name rec) (kind_of name) flags time header)) (has-opener legal name client)
      ∙ rows-mask (is_using past client) (is_open past name client) kept (is_filtered (mark_after past name).mask header) (is_filled (table setup past).streams name rec) (kind_of name) flags time header
      (λ opened. ap (λ (mark : Mark). is_filtered mark.mask header) (kept-mark name (open-living legal name client opened)))
      ∙ ap (λ full. answer (write_rows (is_using past client) (is_open past name client) (is_filtered (mark_after past name).mask header) full (kind_of name) flags time header)) (is-filled legal name rec)

  pub filter-status : IsLogHistory setup past → (client : ℕ) (name : StreamName) (mask : ℕ) → filter_status (table setup past) client name mask ≡ filter_answer setup past client name mask
  filter-status legal client name mask =
      ap (λ using. answer (filter_rows using (has_opener (table setup past).streams name client) name mask)) (has-users past client)
      ∙ ap (λ opened. answer (filter_rows (is_using past client) opened name mask)) (has-opener legal name client)

  pub open-status : (client : ℕ) (name : StreamName) (create : Option StreamAttrs) → open_status (table setup past) client name create ≡ open_answer setup past client name create
  open-status client name create =
      ap (λ using. answer (open_rows using (kept_attrs (table setup past).streams name) (option_map_or (has_place (table setup past).streams) create false) (is_crowd (table setup past).streams) name create)) (has-users past client)
      ∙ ap (λ attrs. answer (open_rows (is_using past client) attrs (option_map_or (has_place (table setup past).streams) create false) (is_crowd (table setup past).streams) name create)) (kept-attrs name)
      ∙ ap (λ taken. answer (open_rows (is_using past client) (living_attrs setup past name) taken (is_crowd (table setup past).streams) name create)) (same-place create)
      ∙ ap (λ crowded. answer (open_rows (is_using past client) (living_attrs setup past name) (option_map_or (is_place_taken setup past) create false) crowded name create)) is-crowd where
        same-place : (making : Option StreamAttrs) → option_map_or (has_place (table setup past).streams) making false ≡ option_map_or (is_place_taken setup past) making false
        same-place None = refl
        same-place (Some attrs) = has-place attrs
