-- Facts of one stream: who is left when a client leaves, the last file closed.
use Rattle.std.proofs.Common.{◌≡◌, ℕ, ◌+◌, ◌-◌, ◌*◌, max, ◌%◌, ◌≤◌, ◌<◌, ◌==◌, suc, Bool, true, false, not, ◌&&◌, inl, inr, cond, List, [], ◌∷◌, length, get_or, set, refl, ap, sym, ◌∙◌, subst, arith}
use Rattle.std.specs.Prelude.{Option, Some, None, is_some, ℤ, pos, ◌≤ℤ◌, unsigned_abs}
use Rattle.std.specs.List.{list_all}
use Rattle.client_set.specs.Rising.{without}
use Rattle.stream_config.specs.declared.state.LogFile.{LogFile}
use Rattle.stream_config.specs.Events.{current_file, offset_in, file_closed, file_with, last_closed, last_with as files_with, next_offset, files_stored}
use Rattle.stream_config.specs.declared.state.StreamState.{StreamState}
use Rattle.stream_config.specs.declared.event.Stamps.{Stamps}
use Rattle.stream_config.specs.declared.event.StreamEvent.{StreamEvent}
use Rattle.stream_config.specs.declared.event.StreamEvent.TheVariants as event
use Rattle.stream_config.specs.Stamps.{stamp_after}
use Rattle.record_print.specs.declared.record.LogRecord.{LogRecord}
use Rattle.record_print.specs.Printing.{printed_record}
use Rattle.log_history.specs.Chronicle.{is_empty}
use Rattle.log_history.specs.Table.{OpenStream, length_in, is_changing, due_stamps, last_after_due, bytes_in, storing}
use Rattle.log_history.proofs.StepLaws.{record-long}
use Rattle.log_service.specs.declared.live.LiveStream.TheInside.{Inside}
use Rattle.log_service.specs.Moments.{second_of}
use Rattle.log_service.specs.Changing.{last_with, opened_with, IsFiling}
use Rattle.stream_config.specs.declared.attrs.FullAction.{FullAction}
use Rattle.stream_config.specs.declared.attrs.FullAction.TheVariants.{Wrap, Halt, Rotate}
use Rattle.stream_config.specs.declared.attrs.StreamAttrs.{StreamAttrs}
use Rattle.stream_config.specs.Attributes.{IsSized, IsSizedAlike}
use Rattle.stream_config.specs.Fit.{is_rotating, changes_file}
use Rattle.stream_config.specs.Sizes.{records_per_file, has_room}
use Rattle.log_history.specs.Answers.{is_halting, lacks_room}
use Rattle.std.proofs.lemmas.Bool.{leb-true}
use Rattle.std.proofs.lemmas.Nat.{le-div, div-add-mod'}
use Rattle.std.proofs.Math.Nat.{mul-le-mul_right}
use Rattle.log_service.specs.Inside.{stream_of, IsKeptStream}
use Rattle.ais_values.proofs.Basics.{pos-unsigned_abs}

-- nobody is left exactly where every one was the client
pub list_all-only : (client : ℕ) (clients : List ℕ) → list_all (λ other. other == client) clients ≡ is_empty (without (λ other. other == client) clients)
list_all-only client [] = refl
list_all-only client (other ∷ others) =
    elim (other == client) as (λ b. (b && list_all (λ one. one == client) others) ≡ is_empty (cond b (without (λ one. one == client) others) (other ∷ without (λ one. one == client) others))) [
      | true ↦ list_all-only client others
      | false ↦ refl
    ]

-- the last file written over is the last one closed
pub set-last_closed : (closed : ℤ) (files : List LogFile) (read : LogFile) → 0 < length files → read ≡ get_or files (length files - 1) read → set files (length files - 1) (file_closed closed read) ≡ last_closed closed files
set-last_closed closed [] read some is = absurd (omega arith)
set-last_closed closed (file ∷ []) read some is = ap (λ (last : LogFile). file_closed closed last ∷ []) is
set-last_closed closed (file ∷ next ∷ files) read some is =
    let here : length (file ∷ next ∷ files) - 1 ≡ suc (length (next ∷ files) - 1) = omega arith in
    let shut = file_closed closed read in
    let behind : read ≡ get_or (next ∷ files) (length (next ∷ files) - 1) read = is ∙ ap (λ n. get_or (file ∷ next ∷ files) n read) here in
    ap (λ n. set (file ∷ next ∷ files) n shut) here
    ∙ ap (λ rest. file ∷ rest) (set-last_closed closed (next ∷ files) read (omega arith) behind)

-- the last file written over is the last one with more bytes
pub set-last_with : (at len : ℕ) (files : List LogFile) (read : LogFile) → 0 < length files → read ≡ get_or files (length files - 1) read → set files (length files - 1) (file_with at len read) ≡ files_with at len files
set-last_with at len [] read some is = absurd (omega arith)
set-last_with at len (file ∷ []) read some is = ap (λ (last : LogFile). file_with at len last ∷ []) is
set-last_with at len (file ∷ next ∷ files) read some is =
    let here : length (file ∷ next ∷ files) - 1 ≡ suc (length (next ∷ files) - 1) = omega arith in
    let behind : read ≡ get_or (next ∷ files) (length (next ∷ files) - 1) read = is ∙ ap (λ n. get_or (file ∷ next ∷ files) n read) here in
    ap (λ n. set (file ∷ next ∷ files) n (file_with at len read)) here
    ∙ ap (λ rest. file ∷ rest) (set-last_with at len (next ∷ files) read (omega arith) behind)

-- so many bytes written at a place end as one that ends there does
pub ends-same : (at len : ℕ) (files : List LogFile) → files_with 0 (at + len) files ≡ files_with at len files
ends-same at len [] = refl
ends-same at len (file ∷ []) =
    let sized : ℕ → List LogFile = λ bytes. record { created = file.created; closed = file.closed; first = file.first; bytes = bytes } ∷ [] in
    let from_0 : 0 + (at + len) ≡ at + len = omega arith in
    ap (λ end. sized (max file.bytes end)) from_0
ends-same at len (file ∷ next ∷ files) = ap (λ rest. file ∷ rest) (ends-same at len (next ∷ files))

-- the last stamp after a record
pub last-due : (last : ℤ) (second : ℕ) (rec : LogRecord) (state : StreamState) → pos 0 ≤ℤ last → last_with last (due_stamps (unsigned_abs last) second rec state) ≡ pos (last_after_due (unsigned_abs last) second rec state)
last-due last second rec state from =
    elim (is_changing state rec) as (λ b. last_with last (cond b (Some (record { closed = pos (stamp_after (unsigned_abs last) second); created = pos (stamp_after (stamp_after (unsigned_abs last) second) second) })) None) ≡ pos (cond b (stamp_after (stamp_after (unsigned_abs last) second) second) (unsigned_abs last))) [
      | true ↦ refl
      | false ↦ sym (pos-unsigned_abs last from)
    ]

-- the storing of a record, of its parts
pub storing-is : (inside : Inside) (old : OpenStream) (last now : ℤ) (rec : LogRecord) (stamps : Option Stamps) (bytes : List ℕ) (made : StreamEvent) → stream_of inside ≡ old → IsKeptStream inside → stamps ≡ due_stamps (unsigned_abs last) (second_of now) rec inside.state → bytes ≡ printed_record inside.expr.pieces (inside.state.taken + 1) rec inside.state.attrs.record_size → made ≡ event.Stored inside.state bytes stamps → made ≡ storing (unsigned_abs last) (second_of now) rec old.state
storing-is inside old last now rec stamps bytes made view kept stamps_are bytes_are is =
    is ∙ ap (λ (b : List ℕ). event.Stored inside.state b stamps) (bytes_are ∙ ap (λ pieces. printed_record pieces (inside.state.taken + 1) rec inside.state.attrs.record_size) kept.parsed)
    ∙ ap (λ (s : Option Stamps). event.Stored inside.state (bytes_in inside.state rec) s) stamps_are
    ∙ ap (λ (o : OpenStream). storing (unsigned_abs last) (second_of now) rec o.state) view

opened-is : (opened : ℕ) (stamps : Option Stamps) → opened_with opened stamps ≡ cond (is_some stamps) (opened + 1) opened
opened-is opened None = refl
opened-is opened (Some stamps) = refl

-- records of one size have no more bytes than a text may
pub size_low : (attrs : StreamAttrs) → IsSized attrs → attrs.record_size ≤ 16384
size_low attrs sized = elim sized.records [
  | inl alike ↦ alike.greatest_record
  | inr freely ↦ let none = freely.free in omega (arith, none)
]

-- a record that has room ends where a file may
pub room-fits : (state : StreamState) (len : ℕ) → IsSized state.attrs → len ≤ 16384 → lacks_room state.attrs (current_file state.files).bytes len ≡ false → changes_file state.attrs (current_file state.files).bytes len ≡ false → next_offset state + len ≤ 1073758208
room-fits state len sized low room stays = by_action state.attrs.action refl where
  bytes : ℕ
  bytes = (current_file state.files).bytes

  not-not : (b : Bool) → not b ≡ false → b ≡ true
  not-not true e = refl
  not-not false e = cc

  high : state.attrs.max_file ≤ 1073741824
  high = sized.greatest_file

  fits : has_room state.attrs bytes len ≡ true → bytes + len ≤ 1073758208
  fits has = let most = leb-true (bytes + len) state.attrs.max_file has in omega (arith, most, high)

  by_action : (action : FullAction) → state.attrs.action ≡ action → offset_in action (records_per_file state.attrs) state.attrs.record_size state.taken bytes + len ≤ 1073758208
  by_action Wrap is =
      let alike : IsSizedAlike state.attrs = elim sized.records [ inl alike ↦ alike | inr freely ↦ absurd (freely.unwrapped is) ] in
      let n = records_per_file state.attrs in
      let least = alike.least_record in
      let one = alike.least_file in
      let some : 1 ≤ n = le-div 1 state.attrs.max_file state.attrs.record_size (omega (arith, least)) (omega (arith, one)) in
      let below : state.taken % n ≤ n = omega (arith, some) in
      let within : state.taken % n * state.attrs.record_size ≤ n * state.attrs.record_size = mul-le-mul_right state.attrs.record_size below in
      let whole : n * state.attrs.record_size + state.attrs.max_file % state.attrs.record_size ≡ state.attrs.max_file = div-add-mod' state.attrs.max_file state.attrs.record_size in
      omega (arith, within, whole, high, low)
  by_action Halt is = fits (not-not (has_room state.attrs bytes len) (ap (λ action. is_halting action && not (has_room state.attrs bytes len)) (sym is) ∙ room))
  by_action Rotate is = fits (not-not (has_room state.attrs bytes len) (ap (λ action. is_rotating action && not (has_room state.attrs bytes len)) (sym is) ∙ stays))

-- the last stamp and the files once a record is stored, of their parts
pub filing-is : (inside : Inside) (old : OpenStream) (last now : ℤ) (rec : LogRecord) (len : ℕ) (stamps : Option Stamps) (stamp : ℤ) (opened : ℕ) (files : List LogFile) → stream_of inside ≡ old → pos 0 ≤ℤ last → len ≡ length_in inside.state rec → stamps ≡ due_stamps (unsigned_abs last) (second_of now) rec inside.state → files ≡ files_stored inside.state len stamps → opened ≡ opened_with inside.state.opened stamps → stamp ≡ last_with last stamps → IsFiling last now rec old.state stamp opened files
filing-is inside old last now rec len stamps stamp opened files view from len_is stamps_are files_are opened_is last_is =
    subst (λ (stream : OpenStream). IsFiling last now rec stream.state stamp opened files) view (record {
      stamp_is = last_is ∙ ap (last_with last) stamps_are ∙ last-due last (second_of now) rec inside.state from;
      opened_is = opened_is ∙ opened-is inside.state.opened stamps ∙ ap (λ (s : Option Stamps). cond (is_some s) (inside.state.opened + 1) inside.state.opened) stamps_are;
      files_are = files_are ∙ ap (λ (s : Option Stamps). files_stored inside.state len s) stamps_are
          ∙ ap (λ l. files_stored inside.state l (due_stamps (unsigned_abs last) (second_of now) rec inside.state)) (len_is ∙ sym (record-long inside.state.attrs (inside.state.taken + 1) rec));
    })
