-- What an ok write tells, and that the state stays as it is kept once a record is stored.
use Rattle.std.proofs.Common.{Some, w64, ◌≤◌, ◌^◌, ◌≡◌, ℕ, Bool, true, false, not, ◌&&◌, ◌||◌, cond, List, [], ◌∷◌, nat_lt, nat_le, refl, ap, sym, ◌∙◌, subst, arith}
use Rattle.std.specs.Prelude.{ℤ, pos, negsuc, ◌≤ℤ◌, unsigned_abs}
use Rattle.std.specs.Option.{option_map_or}
use Rattle.std.specs.List.{find}
use Rattle.std.specs.Int.{is_negative}
use Rattle.std.specs.Ordering.{int_eq}
use Rattle.std.proofs.lemmas.Bool.Decides.{nat_tests}
use Rattle.std.proofs.lemmas.Bool.{and_parts, leb-true, le-ltb}
use Rattle.ais_values.specs.Times.{unknown_time}
use Rattle.ais_values.specs.TimeTests.{is_time}
use Rattle.ais_values.specs.Events.{is_event_type}
use Rattle.ais_values.specs.declared.kind.StreamKind.{StreamKind}
use Rattle.ais_values.specs.declared.status.Status.TheVariants as status
use Rattle.format_expr.specs.Language.{is_notified}
use Rattle.stream_config.specs.declared.attrs.StreamName.{StreamName}
use Rattle.stream_config.specs.declared.event.StreamEvent.{StreamEvent}
use Rattle.record_print.specs.declared.record.Header.{Header}
use Rattle.record_print.specs.declared.record.Header.TheVariants.{Ntf, Generic}
use Rattle.record_print.specs.declared.record.LogRecord.{LogRecord}
use Rattle.record_print.specs.Printing.{event_time, can_print, has_codes}
use Rattle.record_print.specs.Records.{can_have, can_write}
use Rattle.log_history.specs.Answers.{answer, write_rows, store_rows}
use Rattle.format_expr.specs.declared.token.Moment.TheVariants.{Record, Event}
use Rattle.record_print.specs.Lengths.{IsTimed, with_event_time, HasParts}
use mir.Val.{SFits}
use Rattle.log_history.specs.Times.{filled_time, filled_header, record_at}
use Rattle.log_history.specs.Table.{OpenStream, LogTable, is_named, last_after_due}
use Rattle.log_history.specs.Changes.{Stored}
use Rattle.log_history.specs.Marks.{HasSeverity}
use Rattle.log_service.specs.State.{Made}
use Rattle.log_service.specs.Moments.{second_of}
use Rattle.log_service.specs.Changing.{StoresIn}
use Rattle.log_service.proofs.EndLemmas.{pos-from}

-- an ok write may be written
pub write-rows : (using opened filtered full : Bool) (kind : StreamKind) (flags : ℕ) (time : ℤ) (header : Header) → answer (write_rows using opened filtered full kind flags time header) ≡ status.Ok → can_write kind time header ≡ true
write-rows using opened filtered full kind flags time header ok =
    told using opened (nat_lt 1 flags) (can_write kind time header) filtered full ok where
      told : (u o f w p l : Bool) → answer ((not u, status.BadHandle) ∷ (not o, status.BadHandle) ∷ (f, status.BadFlags) ∷ (not w, status.InvalidParam) ∷ (p, status.Ok) ∷ (l, status.NoSpace) ∷ []) ≡ status.Ok → w ≡ true
      told false o f w p l is = absurd cc
      told true false f w p l is = absurd cc
      told true true true w p l is = absurd cc
      told true true false false p l is = absurd cc
      told true true false true p l is = refl

-- and where it is not filtered it has room
pub write-room : (using opened filtered full : Bool) (kind : StreamKind) (flags : ℕ) (time : ℤ) (header : Header) → answer (write_rows using opened filtered full kind flags time header) ≡ status.Ok → filtered ≡ false → full ≡ false
write-room using opened filtered full kind flags time header ok =
    told using opened (nat_lt 1 flags) (can_write kind time header) filtered full ok where
      told : (u o f w p l : Bool) → answer ((not u, status.BadHandle) ∷ (not o, status.BadHandle) ∷ (f, status.BadFlags) ∷ (not w, status.InvalidParam) ∷ (p, status.Ok) ∷ (l, status.NoSpace) ∷ []) ≡ status.Ok → p ≡ false → l ≡ false
      told false o f w p l is passes = absurd cc
      told true false f w p l is passes = absurd cc
      told true true true w p l is passes = absurd cc
      told true true false false p l is passes = absurd cc
      told true true false true true l is passes = absurd cc
      told true true false true false true is passes = absurd cc
      told true true false true false false is passes = refl

-- its severity is one of the seven
pub severity-fits : (kind : StreamKind) (time : ℤ) (header : Header) → can_write kind time header ≡ true → HasSeverity header
severity-fits kind time (Ntf id event_type object notifier class event_time) may = tt
severity-fits kind time (Generic class user severity) may =
    let can = (and_parts (is_time time) (not (is_notified kind) && nat_le severity 6) may).1 in
    leb-true severity 6 (and_parts (not (is_notified kind)) (nat_le severity 6) can).1

pub store-room : (full : Bool) → answer (store_rows full) ≡ status.Ok → full ≡ false
store-room true is = absurd cc
store-room false is = refl

-- where no earlier row holds, the mask and then the room decides
pub write-decides : (using opened filtered full : Bool) (kind : StreamKind) (flags : ℕ) (time : ℤ) (header : Header) → using ≡ true → opened ≡ true → flags ≤ 1 → can_write kind time header ≡ true
    → cond filtered status.Ok (cond full status.NoSpace status.Ok) ≡ answer (write_rows using opened filtered full kind flags time header)
write-decides using opened filtered full kind flags time header uses opens low may =
    told using opened (nat_lt 1 flags) (can_write kind time header) filtered full uses opens (le-ltb 1 flags low) may where
      told : (u o f w p l : Bool) → u ≡ true → o ≡ true → f ≡ false → w ≡ true → cond p status.Ok (cond l status.NoSpace status.Ok) ≡ answer ((not u, status.BadHandle) ∷ (not o, status.BadHandle) ∷ (f, status.BadFlags) ∷ (not w, status.InvalidParam) ∷ (p, status.Ok) ∷ (l, status.NoSpace) ∷ [])
      told false o f w p l a b c d = cc
      told true false f w p l a b c d = cc
      told true true true w p l a b c d = cc
      told true true false false p l a b c d = cc
      told true true false true true l a b c d = refl
      told true true false true false true a b c d = refl
      told true true false true false false a b c d = refl

pub not-negative : (z : ℤ) → pos 0 ≤ℤ z → is_negative z ≡ false
not-negative (pos n) from = grind (arith, nat_tests)
not-negative (negsuc n) from = absurd from.le

pub filled-time : (time now : ℤ) → pos 0 ≤ℤ now → is_time time ≡ true → is_negative (filled_time time now) ≡ false
filled-time time now from is = by_case (int_eq time unknown_time) (is_negative time) refl is where
  by_case : (unknown negative : Bool) → is_negative time ≡ negative → (not negative || unknown) ≡ true → is_negative (cond unknown now time) ≡ false
  by_case true negative was known = not-negative now from
  by_case false false was known = was
  by_case false true was known = absurd cc

filled-codes : (kind : StreamKind) (header : Header) (now : ℤ) → pos 0 ≤ℤ now → can_have kind header ≡ true → has_codes (filled_header header now) ≡ true
filled-codes kind (Ntf id event_type object notifier class event_time) now from can =
    let first = and_parts (is_notified kind && is_time event_time) (is_event_type event_type) can in
    let second = and_parts (is_notified kind) (is_time event_time) first.0 in
    ap not (filled-time event_time now from second.1)
filled-codes kind (Generic class user severity) now from can = (and_parts (not (is_notified kind)) (nat_le severity 6) can).1

-- the record of an ok write can be printed
pub printable : (kind : StreamKind) (time : ℤ) (header : Header) (body : List ℕ) (now : ℤ) → pos 0 ≤ℤ now → can_write kind time header ≡ true → can_print (record_at time header body now) ≡ true
printable kind time header body now from can =
    let both = and_parts (is_time time) (can_have kind header) can in
    ap (λ b. not b && has_codes (filled_header header now)) (filled-time time now from both.0) ∙ filled-codes kind header now from both.1

-- the record of a write has its header, but for the time of its event, and its body
pub time-low : (z : ℤ) → SFits w64 z → unsigned_abs z ≤ 2 ^ 63
time-low (pos n) fits = let low = fits.sfits in omega (arith, low)
time-low (negsuc n) fits = let low = fits.sfits in omega (arith, low)

pub filled-low : (time now : ℤ) → unsigned_abs time ≤ 2 ^ 63 → unsigned_abs now ≤ 2 ^ 63 → unsigned_abs (filled_time time now) ≤ 2 ^ 63
filled-low time now low low' = by_case (int_eq time unknown_time) where
  by_case : (b : Bool) → unsigned_abs (cond b now time) ≤ 2 ^ 63
  by_case true = low'
  by_case false = low

record-timed : (time : ℤ) (header : Header) (body : List ℕ) (now : ℤ) → unsigned_abs time ≤ 2 ^ 63 → unsigned_abs now ≤ 2 ^ 63 → ((event : ℕ) → event_time header ≡ Some event → event ≤ 2 ^ 63) → IsTimed (record_at time header body now)
record-timed time header body now low low' event Record shown is = let e : unsigned_abs (filled_time time now) ≡ shown = cc in subst (λ n. n ≤ 2 ^ 63) e (filled-low time now low low')
record-timed time (Ntf id event_type object notifier class event_at) body now low low' event Event shown is =
    let e : unsigned_abs (filled_time event_at now) ≡ shown = cc in subst (λ n. n ≤ 2 ^ 63) e (filled-low event_at now (event (unsigned_abs event_at) refl) low')
record-timed time (Generic class user severity) body now low low' event Event shown is = cc

event-of : (header : Header) (now : ℤ) → (event : ℤ) × (filled_header header now ≡ with_event_time event header)
event-of (Ntf id event_type object notifier class event_at) now = (filled_time event_at now, refl)
event-of (Generic class user severity) now = (now, refl)

pub has-parts : (kind : StreamKind) (time : ℤ) (header : Header) (body : List ℕ) (now : ℤ) → SFits w64 time → SFits w64 now → pos 0 ≤ℤ now → ((event : ℕ) → event_time header ≡ Some event → event ≤ 2 ^ 63) → can_write kind time header ≡ true → HasParts header body (record_at time header body now)
has-parts kind time header body now fits fits' from event can =
    let told = event-of header now in
    record {
      event = told.0;
      header_is = told.1;
      body_is = refl;
      printable = printable kind time header body now from can;
      timed = record-timed time header body now (time-low time fits) (time-low now fits') event;
    }

pub stored-from : (last now : ℤ) (name : StreamName) (rec : LogRecord) (old new : List OpenStream) (stored : ℤ × List StreamEvent) → StoresIn last now name rec old new stored → pos 0 ≤ℤ stored.0
stored-from last now name rec old new stored stores = subst (λ (z : ℤ). pos 0 ≤ℤ z) (sym stores.stamp) (pos-from _)

-- a stored record is the change that was made
pub made-stored : (last now : ℤ) (name : StreamName) (rec : LogRecord) (old new : List OpenStream) (users : List ℕ) (kept : LogTable) (stored : ℤ × List StreamEvent) (stamp : ℤ) (events : List StreamEvent) → (let before : LogTable = record { last = unsigned_abs last; users = users; streams = old } in before ≡ kept) → StoresIn last now name rec old new stored → stamp ≡ stored.0 → events ≡ stored.1 → (let after : LogTable = record { last = unsigned_abs stamp; users = users; streams = new } in Made (Stored name rec (second_of now)) kept after events)
made-stored last now name rec old new users kept stored stamp events kept_is stores stamp_is events_is =
    let after : LogTable = record { last = unsigned_abs stamp; users = users; streams = new } in
    subst (λ (k : LogTable). Made (Stored name rec (second_of now)) k after events) kept_is (record {
      now = ap (λ (n : ℕ). let it : LogTable = record { last = n; users = users; streams = new } in it) (ap unsigned_abs (stamp_is ∙ stores.stamp))
          ∙ ap (λ (streams : List OpenStream). let it : LogTable = record { last = option_map_or (λ (stream : OpenStream). last_after_due (unsigned_abs last) (second_of now) rec stream.state) (find (is_named name) old) (unsigned_abs last); users = users; streams = streams } in it) stores.streams;
      done = events_is ∙ stores.events;
    })
