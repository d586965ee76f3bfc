-- What a change of the log leaves is fit.
use Rattle.std.proofs.Common.{◌≡◌, ℕ, suc, ◌+◌, ◌-◌, ◌*◌, ◌<◌, ◌≤◌, Bool, true, false, not, ◌&&◌, cond, List, [], ◌∷◌, ◌++◌, length, refl, ap, sym, ◌∙◌, subst, arith, length-append}
use Rattle.std.specs.Prelude.{Option, Some, None, filter}
use Rattle.std.specs.Option.{option_map_or}
use Rattle.std.specs.List.{find, AllByRecursion}
use Rattle.std.proofs.lemmas.List.{length-map}
use Rattle.ais_values.specs.Codes.{all_differ}
use Rattle.stream_config.specs.declared.attrs.StreamAttrs.{StreamAttrs}
use Rattle.stream_config.specs.declared.attrs.StreamName.{StreamName}
use Rattle.stream_config.specs.declared.attrs.StreamName.TheVariants as name
use Rattle.format_expr.specs.Language.{is_notified}
use Rattle.stream_config.specs.declared.mark.Mark.{Mark}
use Rattle.stream_config.specs.Attributes.{kind_of, PassesAttrs}
use Rattle.stream_config.specs.Equality.{same_name}
use Rattle.stream_config.specs.Marks.{first_mark}
use Rattle.stream_config.proofs.Equalities.{decides_name}
use Rattle.stream_config.specs.Stamps.{stamp_after}
use Rattle.record_print.specs.declared.record.LogRecord.{LogRecord}
use Rattle.log_history.specs.Names.{is_application}
use Rattle.log_history.specs.Firsts.{change_first}
use Rattle.log_history.specs.Chronicle.{is_empty}
use Rattle.log_history.specs.Changes.{LogChange, Began, Opened, Stored, Filtered, Closed, Ended}
use Rattle.log_history.specs.FitTables.{have_one_name}
use Rattle.log_history.specs.KeptAnswers.{kept_stream, has_place, lacks_room_in, is_filled, is_of_application}
use Rattle.log_history.specs.Stamps.{second_in}
use Rattle.log_history.specs.Table.{OpenStream, LogTable, is_named, with_opener, with_mark, without_opener, is_changing, last_after_due, with_stored, has_nobody, last_after_ends, kept_streams, closed_streams, left_streams, new_state, opened_stream, table_after}
use Rattle.log_history.proofs.EventLaws.{length-changed}
use Rattle.log_history.proofs.SoundStreams.{due-grows}
use Rattle.log_history.proofs.StreamLaws.{stamp-up-to, fit-made as fit-new_state}
use Rattle.plain_service.specs.Fitness.{IsAmong, IsFitMark}
use Rattle.plain_service.specs.Legal.{IsClient}
use Rattle.plain_service.proofs.ListLaws.{each-weaker, each-push, each-filter, each-change_first, each-mapped, none-each, any-none, differ-changed, differ-filtered, differ-pushed, differ-mapped}
use Rattle.service_table.specs.Steps.{taken_in}
use Rattle.service_fit.proofs.KeptStreams.{IsSoundLog, sound-began, sound-opened, sound-made, sound-stored, sound-filtered, sound-closed, sound-ended}
use Rattle.service_fit.specs.Fit.{IsFitState, IsAlarmFirst, alarm_count}
use Rattle.service_fit.proofs.FileSteps.{fit-stored, later-stream}
use Rattle.service_fit.proofs.LogFit.{StandInOrder, IsFitInside, few-streams}

-- what the events of a change of the log need beside what is kept
abbrev pub CanChange : LogTable → LogChange → Type 0
CanChange kept (Opened client stream (Some attrs) second number) = PassesAttrs (kind_of stream) attrs
CanChange kept (Stored stream rec second) = is_filled kept.streams stream rec ≡ false
CanChange kept _ = Unit {0}

-- a stream can be made: an application's, of which none lives under its name or at its place
pub record CanMake (kept : LogTable) (client : ℕ) (stream : StreamName) (attrs : StreamAttrs) : Type 0 where
  pub caller : IsClient client
  pub user : IsAmong kept.users client
  pub named : is_application stream ≡ true
  pub new : kept_stream kept.streams stream ≡ None
  pub room : length (filter is_of_application kept.streams) < 64
  pub free : has_place kept.streams attrs ≡ false

-- what else a change needs so that what it leaves is fit
abbrev pub CanJoin : LogTable → LogChange → Type 0
CanJoin kept (Began client) = IsClient client
CanJoin kept (Opened client stream None second number) = IsClient client × IsAmong kept.users client
CanJoin kept (Opened client stream (Some attrs) second number) = CanMake kept client stream attrs
CanJoin kept (Filtered client stream mask number) = (is_notified (kind_of stream) ≡ false) × (mask ≤ 127)
CanJoin kept _ = Unit {0}

-- the entry that made a stream or set its mask is one of so many
abbrev pub IsEntered : (number : ℕ) → LogChange → Type 0
IsEntered number (Opened client stream making second entry) = entry ≤ number
IsEntered number (Filtered client stream mask entry) = entry ≤ number
IsEntered number _ = Unit {0}

-- lists with one element changed

module _ {X : Type 0} (P Q : X → Type 0) (test : X → Bool) (change : X → X) (weaker : (x : X) → P x → Q x) where
  all-first : (xs : List X) → ((x : X) → find test xs ≡ Some x → P x → Q (change x)) → AllByRecursion P xs → AllByRecursion Q (change_first test change xs)
  all-first [] at each = tt
  all-first (x ∷ xs) at each = by_case (test x) refl (all-first xs) where
    by_case : (passes : Bool) → test x ≡ passes → (((y : X) → find test xs ≡ Some y → P y → Q (change y)) → AllByRecursion P xs → AllByRecursion Q (change_first test change xs)) → AllByRecursion Q (cond passes (change x ∷ xs) (x ∷ change_first test change xs))
    by_case true is behind =
        (at x (ap (λ c. cond c (Some x) (find test xs)) is) each.0, each-weaker P Q weaker xs each.1)
    by_case false is behind =
        (weaker x each.0, behind (λ y found. at y (ap (λ c. cond c (Some x) (find test xs)) is ∙ found)) each.1)

-- the well-known streams stay first

pub order-changed : (other : StreamName) (change : OpenStream → OpenStream) → ((s : OpenStream) → (change s).state.name ≡ s.state.name) → (streams : List OpenStream) → StandInOrder streams → StandInOrder (change_first (is_named other) change streams)
order-changed other change keeps [] order = absurd order
order-changed other change keeps (one ∷ []) order = absurd order
order-changed other change keeps (one ∷ two ∷ []) order = absurd order
order-changed other change keeps (one ∷ two ∷ three ∷ others) order =
    by_case (is_named other one) (is_named other two) (is_named other three) where
      by_case : (a b c : Bool) → StandInOrder (cond a (change one ∷ two ∷ three ∷ others) (one ∷ cond b (change two ∷ three ∷ others) (two ∷ cond c (change three ∷ others) (three ∷ change_first (is_named other) change others))))
      by_case true b c = (keeps one ∙ order.0, order.1, order.2, order.3)
      by_case false true c = (order.0, keeps two ∙ order.1, order.2, order.3)
      by_case false false true = (order.0, order.1, keeps three ∙ order.2, order.3)
      by_case false false false =
          (order.0, order.1, order.2, each-change_first (λ stream. is_of_application stream ≡ true) (is_named other) change (λ s is. ap is_application (keeps s) ∙ is) others order.3)

order-pushed : (streams : List OpenStream) (s : OpenStream) → is_of_application s ≡ true → StandInOrder streams → StandInOrder (streams ++ s ∷ [])
order-pushed [] s named order = absurd order
order-pushed (one ∷ []) s named order = absurd order
order-pushed (one ∷ two ∷ []) s named order = absurd order
order-pushed (one ∷ two ∷ three ∷ others) s named order =
    (order.0, order.1, order.2, each-push (λ stream. is_of_application stream ≡ true) others s order.3 named)

pub order-left : (client : ℕ) (streams : List OpenStream) → StandInOrder streams → StandInOrder (left_streams client streams)
order-left client [] order = absurd order
order-left client (one ∷ []) order = absurd order
order-left client (one ∷ two ∷ []) order = absurd order
order-left client (one ∷ two ∷ three ∷ others) order =
    (order.0, order.1, order.2, each-mapped (λ stream. is_of_application stream ≡ true) (without_opener client) others order.3)

pub stays : (s : OpenStream) (streams : List OpenStream) → is_of_application s ≡ false → kept_streams (s ∷ streams) ≡ s ∷ kept_streams streams
stays s streams known =
    ap (λ b. cond (not (b && is_empty s.openers)) (s ∷ kept_streams streams) (kept_streams streams)) known

order-kept : (streams : List OpenStream) → StandInOrder streams → StandInOrder (kept_streams streams)
order-kept [] order = absurd order
order-kept (one ∷ []) order = absurd order
order-kept (one ∷ two ∷ []) order = absurd order
order-kept (one ∷ two ∷ three ∷ others) order =
    let rest = each-filter (λ stream. is_of_application stream ≡ true) (λ s. not (has_nobody s)) others order.3 in
    let named = each-weaker (λ (stream : OpenStream). (is_of_application stream ≡ true) × (not (has_nobody stream) ≡ true)) (λ stream. is_of_application stream ≡ true) (λ s is. is.0) (kept_streams others) rest in
    let same : kept_streams (one ∷ two ∷ three ∷ others) ≡ one ∷ two ∷ three ∷ kept_streams others =
    stays one (two ∷ three ∷ others) (ap is_application order.0)
    ∙ ap (λ more. one ∷ more) (stays two (three ∷ others) (ap is_application order.1))
    ∙ ap (λ more. one ∷ two ∷ more) (stays three others (ap is_application order.2)) in
    subst StandInOrder (sym same) (order.0, order.1, order.2, named)

-- the alarm stream, with as many records at least

count-first : (other : StreamName) (change : OpenStream → OpenStream) → ((s : OpenStream) → s.state.taken ≤ (change s).state.taken) → (streams : List OpenStream) → alarm_count streams ≤ alarm_count (change_first (is_named other) change streams)
count-first other change grows [] = omega arith
count-first other change grows (s ∷ streams) = by_case (same_name s.state.name other) where
  by_case : (named : Bool) → s.state.taken ≤ alarm_count (cond named (change s ∷ streams) (s ∷ change_first (is_named other) change streams))
  by_case true = grows s
  by_case false = omega arith

-- a record of the alarm stream
pub count-stored : (last second : ℕ) (rec : LogRecord) (streams : List OpenStream) → IsAlarmFirst streams → alarm_count (change_first (is_named name.Alarm) (with_stored last second rec) streams) ≡ alarm_count streams + 1
count-stored last second rec [] first = absurd first
count-stored last second rec (s ∷ streams) first =
    let named : same_name s.state.name name.Alarm ≡ true = ap (λ n. same_name n name.Alarm) first.0 in
    ap (λ b. alarm_count (cond b (with_stored last second rec s ∷ streams) (s ∷ change_first (is_named name.Alarm) (with_stored last second rec) streams))) named

pub count-is : (streams : List OpenStream) → IsAlarmFirst streams → taken_in streams name.Alarm ≡ alarm_count streams
count-is [] first = absurd first
count-is (s ∷ streams) first =
    let named : same_name s.state.name name.Alarm ≡ true = ap (λ n. same_name n name.Alarm) first.0 in
    ap (λ b. option_map_or (λ (stream : OpenStream). stream.state.taken) (cond b (Some s) (kept_stream streams name.Alarm)) 0) named

pub count-more : (last second : ℕ) (rec : LogRecord) (stream : StreamName) (streams : List OpenStream) → alarm_count streams ≤ alarm_count (change_first (is_named stream) (with_stored last second rec) streams)
count-more last second rec stream streams =
    count-first stream (with_stored last second rec) (λ s. let more : s.state.taken ≤ s.state.taken + 1 = omega arith in more) streams

-- the last stamp never falls

due-few : (due : Bool) (last second bound : ℕ) → last + 2 ≤ bound → second + 1 ≤ bound → cond due (stamp_after (stamp_after last second) second) last ≤ bound
due-few true last second bound low early = omega (arith, low, early)
due-few false last second bound low early = omega (arith, low)

stored-last : (last second : ℕ) (rec : LogRecord) (found : Option OpenStream) → last ≤ option_map_or (λ (s : OpenStream). last_after_due last second rec s.state) found last
stored-last last second rec None = omega arith
stored-last last second rec (Some s) = due-grows (is_changing s.state rec) last second

stored-few : (last second bound : ℕ) (rec : LogRecord) (found : Option OpenStream) → last + 2 ≤ bound → second + 1 ≤ bound → option_map_or (λ (s : OpenStream). last_after_due last second rec s.state) found last ≤ bound
stored-few last second bound rec None low early = omega (arith, low)
stored-few last second bound rec (Some s) low early = due-few (is_changing s.state rec) last second bound low early

ends-last : (last second : ℕ) (streams : List OpenStream) → last ≤ last_after_ends last second streams
ends-last last second [] = omega arith
ends-last last second (s ∷ streams) = by_case (has_nobody s) (ends-last (stamp_after last second) second streams) (ends-last last second streams) where
  by_case : (ends : Bool) → stamp_after last second ≤ last_after_ends (stamp_after last second) second streams → last ≤ last_after_ends last second streams → last ≤ last_after_ends (cond ends (stamp_after last second) last) second streams
  by_case true ended on = omega (arith, ended)
  by_case false ended on = on

-- each stream that ends gives its place for one stamp
ends-room : (second bound kept last : ℕ) (streams : List OpenStream) → last + (kept + length streams) ≤ bound → second + (kept + length streams) ≤ bound → last_after_ends last second streams + (kept + length (kept_streams streams)) ≤ bound
ends-room second bound kept last [] room early = room
ends-room second bound kept last (s ∷ streams) room early =
    by_case (has_nobody s) (λ l k. ends-room second bound k l streams) where
      by_case : (ends : Bool) → ((l k : ℕ) → l + (k + length streams) ≤ bound → second + (k + length streams) ≤ bound → last_after_ends l second streams + (k + length (kept_streams streams)) ≤ bound) → last_after_ends (cond ends (stamp_after last second) last) second streams + (kept + length (cond (not ends) (s ∷ kept_streams streams) (kept_streams streams))) ≤ bound
      by_case true behind = behind (stamp_after last second) kept (omega (arith, room, early)) (omega (arith, early))
      by_case false behind =
          let later = behind last (suc kept) (omega (arith, room)) (omega (arith, early)) in
          omega (arith, later)

-- a stream that is made
pub fit-new : (client last created number : ℕ) (stream : StreamName) (attrs : StreamAttrs) (mark : Mark) → created ≤ last → PassesAttrs (kind_of stream) attrs → IsFitMark number stream mark → IsFitState last number (record { state = new_state stream attrs created; openers = client ∷ []; mark = mark })
fit-new client last created number stream attrs mark le passes marked = record {
  attributes = passes;
  files = fit-new_state stream attrs created passes.some_rotated;
  stamps = (stamp-up-to last created le, tt);
  taken = omega arith;
  mark = marked;
}

-- the mark of a stream that was never set, and one that an entry gave to a stream of no notifications

pub first-fits : (number : ℕ) (stream : StreamName) → IsFitMark number stream first_mark
first-fits number stream = record { mask = omega arith; since = omega arith; unset = λ _. refl }

set-fits : (number entry mask : ℕ) (stream : StreamName) → is_notified (kind_of stream) ≡ false → mask ≤ 127 → entry ≤ number → IsFitMark number stream (record { since = entry; mask = mask })
set-fits number entry mask stream other low entered =
    record { mask = low; since = entered; unset = λ notified. absurd (let e : false ≡ true = sym other ∙ notified in cc) }

of-application : (stream : StreamName) → is_application stream ≡ true → is_notified (kind_of stream) ≡ false
of-application name.Alarm is = cc
of-application name.Notification is = cc
of-application name.System is = cc
of-application (name.App own) is = refl

-- the first one that passes a test
found-passes : {X : Type 0} (test : X → Bool) (xs : List X) (x : X) → find test xs ≡ Some x → test x ≡ true
found-passes test [] x is = cc
found-passes test (y ∷ ys) x is = by_case (test y) refl is (found-passes test ys x) where
  by_case : (b : Bool) → test y ≡ b → cond b (Some y) (find test ys) ≡ Some x → (find test ys ≡ Some x → test x ≡ true) → test x ≡ true
  by_case true passes here behind = let same : y ≡ x = cc in ap test (sym same) ∙ passes
  by_case false fails there behind = behind there

pub filled-is : (streams : List OpenStream) (stream : StreamName) (rec : LogRecord) (s : OpenStream) → is_filled streams stream rec ≡ false → kept_stream streams stream ≡ Some s → lacks_room_in s.state rec ≡ false
filled-is streams stream rec s room found =
    sym (ap (λ o. option_map_or (λ (one : OpenStream). lacks_room_in one.state rec) o false) found) ∙ room

ends-fit : (number second last : ℕ) (streams : List OpenStream) → second ≤ 9000000000 → AllByRecursion (IsFitState last number) streams → length streams ≤ 67 → last + length streams ≤ 9000000103 + 2 * number → AllByRecursion (IsFitState (last_after_ends last second streams) (number + 1)) (kept_streams streams) × (last_after_ends last second streams + length (kept_streams streams) ≤ 9000000103 + 2 * (number + 1))
ends-fit number second last streams early each few room =
    let later = last_after_ends last second streams in
    let weaker = each-weaker (IsFitState last number) (IsFitState later (number + 1)) (λ s. later-stream last later number s (ends-last last second streams)) streams each in (
      each-weaker (λ s. IsFitState later (number + 1) s × (not (has_nobody s) ≡ true)) (IsFitState later (number + 1)) (λ s is. is.0) (kept_streams streams)
          (each-filter (IsFitState later (number + 1)) (λ s. not (has_nobody s)) streams weaker),
      omega (arith, ends-room second (9000000103 + 2 * number) 0 last streams (omega (arith, room)) (omega (arith, few, early))),
    )

pub reopened : (last number : ℕ) (s : OpenStream) (openers : List ℕ) → IsFitState last number s → IsFitState last number (record { state = s.state; openers = openers; mark = s.mark })
reopened last number s openers is =
    record { attributes = is.attributes; files = is.files; stamps = is.stamps; taken = is.taken; mark = is.mark }

module _ (number : ℕ) (kept : LogTable) (fit : IsFitInside number kept) where
  later-each : (later : ℕ) → kept.last ≤ later → AllByRecursion (IsFitState later (number + 1)) kept.streams
  later-each later le =
      each-weaker (IsFitState kept.last number) (IsFitState later (number + 1)) (λ s. later-stream kept.last later number s le) kept.streams fit.each

  -- **a log that does not change**
  pub same-log : IsFitInside (number + 1) kept
  same-log = record {
    sound = fit.sound;
    each = later-each kept.last (omega arith);
    order = fit.order;
    names = fit.names;
    room = omega (arith, fit.room);
  }

  fit-began : (client : ℕ) → IsClient client → IsFitInside (number + 1) (table_after (Began client) kept)
  fit-began client caller = record {
    sound = sound-began kept fit.sound client caller;
    each = later-each kept.last (omega arith);
    order = fit.order;
    names = fit.names;
    room = omega (arith, fit.room);
  }

  fit-opened : (client : ℕ) (stream : StreamName) (second entry : ℕ) → IsClient client → IsAmong kept.users client → IsFitInside (number + 1) (table_after (Opened client stream None second entry) kept)
  fit-opened client stream second entry caller user = record {
    sound = sound-opened kept fit.sound client stream second entry caller user;
    each = each-change_first (IsFitState kept.last (number + 1)) (is_named stream) (with_opener client) (λ s is. reopened kept.last (number + 1) s (with_opener client s).openers is) kept.streams
        (later-each kept.last (omega arith));
    order = order-changed stream (with_opener client) (λ _. refl) kept.streams fit.order;
    names = differ-changed have_one_name (is_named stream) (with_opener client) (λ _ _. refl) (λ _ _. refl) kept.streams ∙ fit.names;
    room = omega (arith, fit.room, length-changed (is_named stream) (with_opener client) kept.streams);
  }

  fit-made : (client : ℕ) (stream : StreamName) (attrs : StreamAttrs) (second entry : ℕ) → second ≤ 9000000000 → PassesAttrs (kind_of stream) attrs → CanMake kept client stream attrs → entry ≤ number + 1 → IsFitInside (number + 1) (table_after (Opened client stream (Some attrs) second entry) kept)
  fit-made client stream attrs second entry early passes can entered =
      let last = stamp_after kept.last second in
      let new = opened_stream client stream attrs last entry in
      let marked = set-fits (number + 1) entry 127 stream (of-application stream can.named) (omega arith) entered in
      let count : length (kept.streams ++ new ∷ []) ≡ length kept.streams + 1 = length-append kept.streams (new ∷ []) in
      record {
        sound = sound-made kept fit.sound client stream attrs second entry can.caller can.user can.room can.free;
        each = each-push (IsFitState last (number + 1)) kept.streams new (later-each last (omega arith)) (fit-new client last last (number + 1) stream attrs new.mark (omega arith) passes marked);
        order = order-pushed kept.streams new can.named fit.order;
        names = differ-pushed have_one_name kept.streams new fit.names (any-none (is_named stream) kept.streams (none-each (is_named stream) kept.streams can.new));
        room = omega (arith, fit.room, few-streams number kept fit, count, early);
      }

  fit-recorded : (stream : StreamName) (rec : LogRecord) (second : ℕ) → second ≤ 9000000000 → is_filled kept.streams stream rec ≡ false → IsFitInside (number + 1) (table_after (Stored stream rec second) kept)
  fit-recorded stream rec second early room =
      let found = kept_stream kept.streams stream in
      let last = option_map_or (λ (s : OpenStream). last_after_due kept.last second rec s.state) found kept.last in
      let change = with_stored kept.last second rec in
      let same = length-changed (is_named stream) change kept.streams in
      let few = few-streams number kept fit in
      record {
        sound = sound-stored kept fit.sound stream rec second;
        each = all-first (IsFitState kept.last number) (IsFitState last (number + 1)) (is_named stream) change
            (λ s. later-stream kept.last last number s (stored-last kept.last second rec found)) kept.streams
            (λ s is fit_one. subst (λ l. IsFitState l (number + 1) (change s))
            (ap (λ o. option_map_or (λ (one : OpenStream). last_after_due kept.last second rec one.state) o kept.last) (sym is))
            (fit-stored kept.last second number rec s fit_one (filled-is kept.streams stream rec s room is)))
            fit.each;
        order = order-changed stream change (λ _. refl) kept.streams fit.order;
        names = differ-changed have_one_name (is_named stream) change (λ _ _. refl) (λ _ _. refl) kept.streams ∙ fit.names;
        room = omega (arith, stored-few kept.last second (9000000105 + 2 * number - length kept.streams) rec found (omega (arith, fit.room, few)) (omega (arith, few, early)), fit.room, few, same);
      }

  fit-filtered : (client : ℕ) (stream : StreamName) (mask entry : ℕ) → is_notified (kind_of stream) ≡ false → mask ≤ 127 → entry ≤ number + 1 → IsFitInside (number + 1) (table_after (Filtered client stream mask entry) kept)
  fit-filtered client stream mask entry other low entered =
      let mark : Mark = record { since = entry; mask = mask } in
      record {
        sound = sound-filtered kept fit.sound client stream mask entry;
        each = all-first (IsFitState kept.last number) (IsFitState kept.last (number + 1)) (is_named stream) (with_mark mark)
            (λ s. later-stream kept.last kept.last number s (omega arith)) kept.streams
            (λ s is fit_one. marked s mark
            (set-fits (number + 1) entry mask s.state.name (ap (λ n. is_notified (kind_of n)) ((decides_name s.state.name stream).0 (found-passes (is_named stream) kept.streams s is)) ∙ other) low entered)
            (later-stream kept.last kept.last number s (omega arith) fit_one))
            fit.each;
        order = order-changed stream (with_mark mark) (λ _. refl) kept.streams fit.order;
        names = differ-changed have_one_name (is_named stream) (with_mark mark) (λ _ _. refl) (λ _ _. refl) kept.streams ∙ fit.names;
        room = omega (arith, fit.room, length-changed (is_named stream) (with_mark mark) kept.streams);
      } where
        marked : (s : OpenStream) (mark : Mark) → IsFitMark (number + 1) s.state.name mark → IsFitState kept.last (number + 1) s → IsFitState kept.last (number + 1) (with_mark mark s)
        marked s mark fits is =
            record { attributes = is.attributes; files = is.files; stamps = is.stamps; taken = is.taken; mark = fits }

  fit-left : (later : LogTable) (second : ℕ) (left : List OpenStream) → second ≤ 9000000000 → later.last ≡ last_after_ends kept.last second left → later.streams ≡ kept_streams left → length left ≡ length kept.streams → AllByRecursion (IsFitState kept.last number) left → StandInOrder left → all_differ have_one_name left ≡ true → IsSoundLog later → IsFitInside (number + 1) later
  fit-left later second left early last streams same each order names sound =
      let few = few-streams number kept fit in
      let ends = ends-fit number second kept.last left early each (omega (arith, few, same)) (omega (arith, fit.room, same)) in
      record {
        sound = sound;
        each = subst (λ l. AllByRecursion (IsFitState l (number + 1)) later.streams) (sym last) (subst (AllByRecursion (IsFitState (last_after_ends kept.last second left) (number + 1))) (sym streams) ends.0);
        order = subst StandInOrder (sym streams) (order-kept left order);
        names = ap (all_differ have_one_name) streams ∙ differ-filtered have_one_name (λ s. not (has_nobody s)) left names;
        room = let count = ap length streams in omega (arith, ends.1, last, count);
      }

  fit-closed : (client : ℕ) (stream : StreamName) (second : ℕ) → second ≤ 9000000000 → IsFitInside (number + 1) (table_after (Closed client stream second) kept)
  fit-closed client stream second early =
      fit-left (table_after (Closed client stream second) kept) second (closed_streams client stream kept.streams) early refl refl
      (length-changed (is_named stream) (without_opener client) kept.streams)
      (each-change_first (IsFitState kept.last number) (is_named stream) (without_opener client) (λ s is. reopened kept.last number s (without_opener client s).openers is) kept.streams fit.each)
      (order-changed stream (without_opener client) (λ _. refl) kept.streams fit.order)
      (differ-changed have_one_name (is_named stream) (without_opener client) (λ _ _. refl) (λ _ _. refl) kept.streams ∙ fit.names)
      (sound-closed kept fit.sound client stream second)

  fit-ended : (client second : ℕ) → second ≤ 9000000000 → IsFitInside (number + 1) (table_after (Ended client second) kept)
  fit-ended client second early =
      fit-left (table_after (Ended client second) kept) second (left_streams client kept.streams) early refl refl
      (length-map kept.streams (without_opener client))
      (each-mapped (IsFitState kept.last number) (without_opener client) kept.streams
      (each-weaker (IsFitState kept.last number) (λ s. IsFitState kept.last number (without_opener client s)) (λ s is. reopened kept.last number s (without_opener client s).openers is) kept.streams fit.each))
      (order-left client kept.streams fit.order)
      (differ-mapped (without_opener client) have_one_name have_one_name (λ _ _. refl) kept.streams ∙ fit.names)
      (sound-ended kept fit.sound client second)

  -- **the log after a change**
  pub fit-log : (change : LogChange) → second_in change ≤ 9000000000 → CanChange kept change → CanJoin kept change → IsEntered (number + 1) change → IsFitInside (number + 1) (table_after change kept)
  fit-log (Began client) early can joins entered = fit-began client joins
  fit-log (Opened client stream None second entry) early can joins entered = fit-opened client stream second entry joins.0 joins.1
  fit-log (Opened client stream (Some attrs) second entry) early can joins entered = fit-made client stream attrs second entry early can joins entered
  fit-log (Stored stream rec second) early can joins entered = fit-recorded stream rec second early can
  fit-log (Filtered client stream mask entry) early can joins entered = fit-filtered client stream mask entry joins.0 joins.1 entered
  fit-log (Closed client stream second) early can joins entered = fit-closed client stream second early
  fit-log (Ended client second) early can joins entered = fit-ended client second early
