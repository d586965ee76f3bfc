-- The well-known streams: they stand first, live for ever, keep their attributes, and have taken as many records as were stored
-- in them.
use Rattle.std.proofs.Common.{◌≡◌, ℕ, ◌+◌, ◌≤◌, Bool, true, false, ◌&&◌, cond, List, [], ◌∷◌, ◌++◌, length, refl, ap, sym, ◌∙◌, arith, length-append}
use Rattle.std.specs.Prelude.{Some, None, is_none, if◌then◌else◌}
use Rattle.std.specs.List.{find}
use Rattle.std.specs.Option.{option_map_or}
use Rattle.stream_config.specs.declared.attrs.StreamAttrs.{StreamAttrs}
use Rattle.stream_config.specs.declared.attrs.StreamName.{StreamName}
use Rattle.stream_config.specs.declared.attrs.StreamName.TheVariants as name
use Rattle.stream_config.specs.Equality.{same_name}
use Rattle.stream_config.specs.Stamps.{stamp_after}
use Rattle.record_print.specs.declared.record.LogRecord.{LogRecord}
use Rattle.log_history.specs.Names.{is_application}
use Rattle.log_history.specs.Firsts.{change_first}
use Rattle.log_history.specs.Changes.{LogChange, Began, Opened, Stored, Filtered, Closed, Ended}
use Rattle.log_history.specs.Handles.{openers}
use Rattle.log_history.specs.Chronicle.{LogSetup, Stream, Chronicle, new_stream, lives, is_living, is_empty, is_ending, with_record, with_end, all_ended, after_ends, chronicle}
use Rattle.log_history.specs.Answers.{living_stream}
use Rattle.plain_service.specs.Alarms.{taken_by}

-- how many records were stored in the stream of a name
abbrev pub stored_in : StreamName → List LogChange → ℕ
stored_in name [] = 0
stored_in name (Stored other rec second ∷ past) = stored_in name past + (if same_name name other then 1 else 0)
stored_in name (_ ∷ past) = stored_in name past

-- a stream that lives, of this name and these attributes, with so many records
pub record IsWell (name : StreamName) (attrs : StreamAttrs) (count : ℕ) (stream : Stream) : Type 0 where
  pub named : stream.name ≡ name
  pub living : stream.ended ≡ None
  pub attributes : stream.attrs ≡ attrs
  pub counted : length stream.records ≡ count

-- the three well-known streams stand first
pub record HaveWell (setup : LogSetup) (alarms notifications systems : ℕ) (streams : List Stream) : Type 0 where
  pub alarm : Stream
  pub notification : Stream
  pub system : Stream
  pub others : List Stream
  pub are : streams ≡ alarm ∷ notification ∷ system ∷ others
  pub alarm_is : IsWell name.Alarm setup.alarm alarms alarm
  pub notification_is : IsWell name.Notification setup.notification notifications notification
  pub system_is : IsWell name.System setup.system systems system

-- such a stream is the living one of its own name alone
pub is_living-at : (name other : StreamName) (attrs : StreamAttrs) (count : ℕ) (stream : Stream) → IsWell name attrs count stream → is_living other stream ≡ same_name name other
is_living-at name other attrs count stream well =
    ap (λ ended. is_none ended && same_name stream.name other) well.living ∙ ap (λ n. same_name n other) well.named

-- one record more in such a stream, or none
IsWell-record : (name : StreamName) (attrs : StreamAttrs) (count last second : ℕ) (rec : LogRecord) (stream : Stream) → IsWell name attrs count stream → IsWell name attrs (count + 1) (with_record last second rec stream)
IsWell-record name attrs count last second rec stream well = record {
  named = well.named;
  living = well.living;
  attributes = well.attributes;
  counted = length-append stream.records (rec ∷ []) ∙ ap (λ n. n + 1) well.counted;
}

IsWell-same : (name : StreamName) (attrs : StreamAttrs) (count more : ℕ) (stream : Stream) → more ≡ count → IsWell name attrs count stream → IsWell name attrs more stream
IsWell-same name attrs count more stream e well = record {
  named = well.named;
  living = well.living;
  attributes = well.attributes;
  counted = well.counted ∙ sym e;
}

module _ {X : Type 0} (test : X → Bool) (change : X → X) where
  first-changed : (x : X) (xs : List X) → test x ≡ true → change_first test change (x ∷ xs) ≡ change x ∷ xs
  first-changed x xs is = ap (λ b. cond b (change x ∷ xs) (x ∷ change_first test change xs)) is

  first-kept : (x : X) (xs : List X) → test x ≡ false → change_first test change (x ∷ xs) ≡ x ∷ change_first test change xs
  first-kept x xs is = ap (λ b. cond b (change x ∷ xs) (x ∷ change_first test change xs)) is

HaveWell-stored : (setup : LogSetup) (a n s last second : ℕ) (rec : LogRecord) (other : StreamName) (streams : List Stream) → HaveWell setup a n s streams → HaveWell setup (a + cond (same_name name.Alarm other) 1 0) (n + cond (same_name name.Notification other) 1 0) (s + cond (same_name name.System other) 1 0) (change_first (is_living other) (with_record last second rec) streams)
HaveWell-stored setup a n s last second rec name.Alarm streams well = record {
  alarm = with_record last second rec well.alarm;
  notification = well.notification;
  system = well.system;
  others = well.others;
  are = ap (change_first (is_living name.Alarm) (with_record last second rec)) well.are ∙ first-changed (is_living name.Alarm) (with_record last second rec) well.alarm (well.notification ∷ well.system ∷ well.others) (is_living-at name.Alarm name.Alarm setup.alarm a well.alarm well.alarm_is);
  alarm_is = IsWell-record name.Alarm setup.alarm a last second rec well.alarm well.alarm_is;
  notification_is = IsWell-same name.Notification setup.notification n (n + 0) well.notification (omega arith) well.notification_is;
  system_is = IsWell-same name.System setup.system s (s + 0) well.system (omega arith) well.system_is;
}
HaveWell-stored setup a n s last second rec name.Notification streams well =
    let test = is_living name.Notification in
    let change = with_record last second rec in
    record {
      alarm = well.alarm;
      notification = with_record last second rec well.notification;
      system = well.system;
      others = well.others;
      are = ap (change_first test change) well.are ∙ first-kept test change well.alarm (well.notification ∷ well.system ∷ well.others) (is_living-at name.Alarm name.Notification setup.alarm a well.alarm well.alarm_is)
          ∙ ap (λ rest. well.alarm ∷ rest) (first-changed test change well.notification (well.system ∷ well.others) (is_living-at name.Notification name.Notification setup.notification n well.notification well.notification_is));
      alarm_is = IsWell-same name.Alarm setup.alarm a (a + 0) well.alarm (omega arith) well.alarm_is;
      notification_is = IsWell-record name.Notification setup.notification n last second rec well.notification well.notification_is;
      system_is = IsWell-same name.System setup.system s (s + 0) well.system (omega arith) well.system_is;
    }
HaveWell-stored setup a n s last second rec name.System streams well =
    let test = is_living name.System in
    let change = with_record last second rec in
    record {
      alarm = well.alarm;
      notification = well.notification;
      system = with_record last second rec well.system;
      others = well.others;
      are = ap (change_first test change) well.are ∙ first-kept test change well.alarm (well.notification ∷ well.system ∷ well.others) (is_living-at name.Alarm name.System setup.alarm a well.alarm well.alarm_is)
          ∙ ap (λ rest. well.alarm ∷ rest) (first-kept test change well.notification (well.system ∷ well.others) (is_living-at name.Notification name.System setup.notification n well.notification well.notification_is))
          ∙ ap (λ rest. well.alarm ∷ well.notification ∷ rest) (first-changed test change well.system well.others (is_living-at name.System name.System setup.system s well.system well.system_is));
      alarm_is = IsWell-same name.Alarm setup.alarm a (a + 0) well.alarm (omega arith) well.alarm_is;
      notification_is = IsWell-same name.Notification setup.notification n (n + 0) well.notification (omega arith) well.notification_is;
      system_is = IsWell-record name.System setup.system s last second rec well.system well.system_is;
    }
HaveWell-stored setup a n s last second rec (name.App own) streams well =
    let test = is_living (name.App own) in
    let change = with_record last second rec in
    record {
      alarm = well.alarm;
      notification = well.notification;
      system = well.system;
      others = change_first test change well.others;
      are = ap (change_first test change) well.are ∙ first-kept test change well.alarm (well.notification ∷ well.system ∷ well.others) (is_living-at name.Alarm (name.App own) setup.alarm a well.alarm well.alarm_is)
          ∙ ap (λ rest. well.alarm ∷ rest) (first-kept test change well.notification (well.system ∷ well.others) (is_living-at name.Notification (name.App own) setup.notification n well.notification well.notification_is))
          ∙ ap (λ rest. well.alarm ∷ well.notification ∷ rest) (first-kept test change well.system well.others (is_living-at name.System (name.App own) setup.system s well.system well.system_is));
      alarm_is = IsWell-same name.Alarm setup.alarm a (a + 0) well.alarm (omega arith) well.alarm_is;
      notification_is = IsWell-same name.Notification setup.notification n (n + 0) well.notification (omega arith) well.notification_is;
      system_is = IsWell-same name.System setup.system s (s + 0) well.system (omega arith) well.system_is;
    }

-- a well-known stream does not end
never : (one two : Bool) → (one && (false && two)) ≡ false
never true two = refl
never false two = refl

not-ending : (past : List LogChange) (stream : Stream) → is_application stream.name ≡ false → is_ending past stream ≡ false
not-ending past stream known =
    ap (λ b. lives stream && (b && is_empty (openers past stream.name))) known ∙ never (lives stream) (is_empty (openers past stream.name))

end-kept : (ends : Stream → Bool) (last second : ℕ) (stream : Stream) (streams : List Stream) → ends stream ≡ false → all_ended ends last second (stream ∷ streams) ≡ stream ∷ all_ended ends last second streams
end-kept ends last second stream streams is =
    ap (λ b. cond b (with_end (stamp_after last second) stream ∷ all_ended ends (stamp_after last second) second streams) (stream ∷ all_ended ends last second streams)) is

HaveWell-ends : (setup : LogSetup) (a n s second : ℕ) (past : List LogChange) (before : Chronicle) → HaveWell setup a n s before.streams → HaveWell setup a n s (after_ends past second before).streams
HaveWell-ends setup a n s second past before well =
    let ends = is_ending past in
    let last = before.last in
    record {
      alarm = well.alarm;
      notification = well.notification;
      system = well.system;
      others = all_ended ends last second well.others;
      are = ap (all_ended ends last second) well.are
          ∙ end-kept ends last second well.alarm (well.notification ∷ well.system ∷ well.others) (not-ending past well.alarm (ap is_application well.alarm_is.named))
          ∙ ap (λ rest. well.alarm ∷ rest) (end-kept ends last second well.notification (well.system ∷ well.others) (not-ending past well.notification (ap is_application well.notification_is.named)))
          ∙ ap (λ rest. well.alarm ∷ well.notification ∷ rest) (end-kept ends last second well.system well.others (not-ending past well.system (ap is_application well.system_is.named)));
      alarm_is = well.alarm_is;
      notification_is = well.notification_is;
      system_is = well.system_is;
    }

HaveWell-made : (setup : LogSetup) (a n s : ℕ) (made : Stream) (streams : List Stream) → HaveWell setup a n s streams → HaveWell setup a n s (streams ++ made ∷ [])
HaveWell-made setup a n s made streams well = record {
  alarm = well.alarm;
  notification = well.notification;
  system = well.system;
  others = well.others ++ made ∷ [];
  are = ap (λ xs. xs ++ made ∷ []) well.are;
  alarm_is = well.alarm_is;
  notification_is = well.notification_is;
  system_is = well.system_is;
}

-- whatever changed
pub well_known : (setup : LogSetup) (past : List LogChange) → HaveWell setup (stored_in name.Alarm past) (stored_in name.Notification past) (stored_in name.System past) (chronicle setup past).streams
well_known setup [] = record {
  alarm = new_stream name.Alarm setup.alarm setup.start;
  notification = new_stream name.Notification setup.notification (stamp_after setup.start setup.start);
  system = new_stream name.System setup.system (stamp_after (stamp_after setup.start setup.start) setup.start);
  others = [];
  are = refl;
  alarm_is = record { named = refl; living = refl; attributes = refl; counted = refl };
  notification_is = record { named = refl; living = refl; attributes = refl; counted = refl };
  system_is = record { named = refl; living = refl; attributes = refl; counted = refl };
}
well_known setup (Began client ∷ past) = well_known setup past
well_known setup (Opened client opened None second number ∷ past) = well_known setup past
well_known setup (Opened client opened (Some attrs) second number ∷ past) =
    HaveWell-made setup (stored_in name.Alarm past) (stored_in name.Notification past) (stored_in name.System past) (new_stream opened attrs (stamp_after (chronicle setup past).last second)) (chronicle setup past).streams (well_known setup past)
well_known setup (Stored other rec second ∷ past) =
    HaveWell-stored setup (stored_in name.Alarm past) (stored_in name.Notification past) (stored_in name.System past) (chronicle setup past).last second rec other (chronicle setup past).streams (well_known setup past)
well_known setup (Filtered client filtered mask number ∷ past) = well_known setup past
well_known setup (Closed client closed second ∷ past) =
    HaveWell-ends setup (stored_in name.Alarm past) (stored_in name.Notification past) (stored_in name.System past) second (Closed client closed second ∷ past) (chronicle setup past) (well_known setup past)
well_known setup (Ended client second ∷ past) =
    HaveWell-ends setup (stored_in name.Alarm past) (stored_in name.Notification past) (stored_in name.System past) second (Ended client second ∷ past) (chronicle setup past) (well_known setup past)

-- the alarm stream takes the records of its name, and no other change touches it
pub alarm-stored : (setup : LogSetup) (rec : LogRecord) (second : ℕ) (past : List LogChange) → (well_known setup (Stored name.Alarm rec second ∷ past)).alarm ≡ with_record (chronicle setup past).last second rec (well_known setup past).alarm
unfolding well_known HaveWell-stored
alarm-stored setup rec second past = refl

pub alarm-beside : (setup : LogSetup) (change : LogChange) (past : List LogChange) → stored_in name.Alarm (change ∷ past) ≡ stored_in name.Alarm past → (well_known setup (change ∷ past)).alarm ≡ (well_known setup past).alarm
unfolding well_known HaveWell-stored HaveWell-made HaveWell-ends
alarm-beside setup (Stored name.Alarm rec second) past beside = absurd (omega (arith, beside))
alarm-beside setup (Stored name.Notification rec second) past beside = refl
alarm-beside setup (Stored name.System rec second) past beside = refl
alarm-beside setup (Stored (name.App own) rec second) past beside = refl
alarm-beside setup (Opened client opened None second number) past beside = refl
alarm-beside setup (Opened client opened (Some attrs) second number) past beside = refl
alarm-beside setup (Filtered client filtered mask number) past beside = refl
alarm-beside setup (Began client) past beside = refl
alarm-beside setup (Closed client closed second) past beside = refl
alarm-beside setup (Ended client second) past beside = refl

find-here : {X : Type 0} (test : X → Bool) (x : X) (xs : List X) → test x ≡ true → find test (x ∷ xs) ≡ Some x
find-here test x xs is = ap (λ b. cond b (Some x) (find test xs)) is

find-later : {X : Type 0} (test : X → Bool) (x : X) (xs : List X) → test x ≡ false → find test (x ∷ xs) ≡ find test xs
find-later test x xs is = ap (λ b. cond b (Some x) (find test xs)) is

module _ (setup : LogSetup) (past : List LogChange) where
  pub living-alarm : living_stream setup past name.Alarm ≡ Some (well_known setup past).alarm
  living-alarm =
      let well = well_known setup past in
      ap (find (is_living name.Alarm)) well.are
      ∙ find-here (is_living name.Alarm) well.alarm (well.notification ∷ well.system ∷ well.others) (is_living-at name.Alarm name.Alarm setup.alarm (stored_in name.Alarm past) well.alarm well.alarm_is)

  pub living-notification : living_stream setup past name.Notification ≡ Some (well_known setup past).notification
  living-notification =
      let well = well_known setup past in
      let test = is_living name.Notification in
      ap (find test) well.are
      ∙ find-later test well.alarm (well.notification ∷ well.system ∷ well.others) (is_living-at name.Alarm name.Notification setup.alarm (stored_in name.Alarm past) well.alarm well.alarm_is)
      ∙ find-here test well.notification (well.system ∷ well.others) (is_living-at name.Notification name.Notification setup.notification (stored_in name.Notification past) well.notification well.notification_is)

  -- the records that were stored in them are those that they have taken
  pub taken-alarm : taken_by setup past name.Alarm ≡ stored_in name.Alarm past
  taken-alarm = ap (λ found. option_map_or (λ (stream : Stream). length stream.records) found 0) living-alarm ∙ (well_known setup past).alarm_is.counted

  pub taken-notification : taken_by setup past name.Notification ≡ stored_in name.Notification past
  taken-notification = ap (λ found. option_map_or (λ (stream : Stream). length stream.records) found 0) living-notification ∙ (well_known setup past).notification_is.counted

-- no more records were stored than changes were made
at-most-one : (b : Bool) → cond b 1 0 ≤ 1
at-most-one true = omega arith
at-most-one false = omega arith

pub stored_in-bound : (name : StreamName) (past : List LogChange) → stored_in name past ≤ length past
stored_in-bound name [] = omega arith
stored_in-bound name (Began client ∷ past) = omega (arith, stored_in-bound name past)
stored_in-bound name (Opened client opened making second number ∷ past) = omega (arith, stored_in-bound name past)
stored_in-bound name (Filtered client filtered mask number ∷ past) = omega (arith, stored_in-bound name past)
stored_in-bound name (Stored other rec second ∷ past) = omega (arith, stored_in-bound name past, at-most-one (same_name name other))
stored_in-bound name (Closed client closed second ∷ past) = omega (arith, stored_in-bound name past)
stored_in-bound name (Ended client second ∷ past) = omega (arith, stored_in-bound name past)
