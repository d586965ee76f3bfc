-- The log of a fit value stream by stream, and back.
use Rattle.std.proofs.Common.{◌≡◌, ◌≢◌, ℕ, ◌+◌, ◌*◌, ◌-◌, ◌≤◌, true, false, Bool, cond, ◌&&◌, List, [], ◌∷◌, length, take, drop, map, refl, ap, sym, ◌∙◌, arith, le→leb}
use Rattle.std.specs.Prelude.{filter}
use Rattle.std.specs.List.{AllByRecursion}
use Rattle.std.proofs.lemmas.List.{length-map, length-drop}
use Rattle.ais_values.specs.Codes.{all_differ}
use Rattle.stream_config.specs.declared.attrs.StreamName.TheVariants as name
use Rattle.log_history.specs.Names.{is_application}
use Rattle.log_history.specs.Chronicle.{is_empty}
use Rattle.log_history.specs.FitTables.{have_one_name}
use Rattle.log_history.specs.KeptAnswers.{is_of_application}
use Rattle.log_history.specs.Table.{OpenStream, LogTable, has_nobody}
use Rattle.calls.specs.declared.saved.SavedStream.{SavedStream}
use Rattle.plain_service.specs.Fitness.{IsFitStream, IsOfApplication, have_one_name as have_one_saved_name, stand_at_one_place}
use Rattle.plain_service.specs.Values.{saved_stream}
use Rattle.plain_service.proofs.ListLaws.{each-both, each-weaker, each-mapped, mapped-each, differ-mapped, filter-each}
use Rattle.service_table.specs.Tables.{kept_stream_of}
use Rattle.service_fit.proofs.KeptStreams.{IsUsed, have_one_spot, IsSoundLog}
use Rattle.service_fit.specs.Fit.{IsFitState, IsAlarmFirst, log_alone, IsFitLog}
use Rattle.service_fit.proofs.RestoredParts.{occupied}

-- first the well-known streams, then those of applications
abbrev pub StandInOrder : List OpenStream → Type 0
StandInOrder (one ∷ two ∷ three ∷ others) =
    (one.state.name ≡ name.Alarm) × (two.state.name ≡ name.Notification) × (three.state.name ≡ name.System)
    × AllByRecursion (λ stream. is_of_application stream ≡ true) others
StandInOrder _ = ⊥

-- the log of a fit value, stream by stream
pub record IsFitInside (number : ℕ) (kept : LogTable) : Type 0 where
  pub sound : IsSoundLog kept
  pub each : AllByRecursion (IsFitState kept.last number) kept.streams
  pub order : StandInOrder kept.streams
  pub names : all_differ have_one_name kept.streams ≡ true
  pub room : kept.last + length kept.streams ≤ 9000000103 + 2 * number

-- how many streams there are

counted : (app : Bool) (stream : OpenStream) (streams : List OpenStream) → app ≡ false → length (cond app (stream ∷ streams) streams) ≡ length streams
counted true stream streams is = cc
counted false stream streams is = refl

all-applications : (streams : List OpenStream) → AllByRecursion (λ stream. is_of_application stream ≡ true) streams → length (filter is_of_application streams) ≡ length streams
all-applications streams all = ap length (filter-each is_of_application streams all)

pub count-others : (streams : List OpenStream) → StandInOrder streams → length (filter is_of_application streams) + 3 ≡ length streams
count-others [] order = absurd order
count-others (one ∷ []) order = absurd order
count-others (one ∷ two ∷ []) order = absurd order
count-others (one ∷ two ∷ three ∷ others) order =
    let behind = all-applications others order.3 in
    let third = counted (is_of_application three) three (filter is_of_application others) (ap is_application order.2) in
    let second = counted (is_of_application two) two (filter is_of_application (three ∷ others)) (ap is_application order.1) in
    let first = counted (is_of_application one) one (filter is_of_application (two ∷ three ∷ others)) (ap is_application order.0) in
    omega (arith, behind, third, second, first)

pub few-streams : (number : ℕ) (kept : LogTable) → IsFitInside number kept → length kept.streams ≤ 67
few-streams number kept fit = omega (arith, count-others kept.streams fit.order, fit.sound.few)

alarm-of : (last number : ℕ) (streams : List OpenStream) → StandInOrder streams → AllByRecursion (IsFitState last number) streams → IsAlarmFirst streams
alarm-of last number [] order each = absurd order
alarm-of last number (one ∷ []) order each = absurd order
alarm-of last number (one ∷ two ∷ []) order each = absurd order
alarm-of last number (one ∷ two ∷ three ∷ others) order each = (order.0, each.0.attributes)

-- **the alarm stream is the first**
pub alarm-first : (number : ℕ) (kept : LogTable) → IsFitInside number kept → IsAlarmFirst kept.streams
alarm-first number kept fit = alarm-of kept.last number kept.streams fit.order fit.each

-- the streams of a fit log

abbrev KnownFirst : List SavedStream → Type 0
KnownFirst streams =
    map (λ (stream : SavedStream). stream.state.name) (take 3 streams) ≡ name.Alarm ∷ name.Notification ∷ name.System ∷ []

in-order : (streams : List OpenStream) → KnownFirst (map saved_stream streams) → AllByRecursion IsOfApplication (drop 3 (map saved_stream streams)) → StandInOrder streams
in-order [] known others = absurd cc
in-order (one ∷ []) known others = absurd cc
in-order (one ∷ two ∷ []) known others = absurd cc
in-order (one ∷ two ∷ three ∷ streams) known others =
    let first : one.state.name ≡ name.Alarm = cc in
    let second : two.state.name ≡ name.Notification = cc in
    let third : three.state.name ≡ name.System = cc in
    (first, second, third, each-weaker (λ stream. IsOfApplication (saved_stream stream)) (λ stream. is_of_application stream ≡ true) (λ stream is. is.named) streams (mapped-each IsOfApplication saved_stream streams others))

module _ (number : ℕ) (kept : LogTable) (fit : IsFitLog number kept) where
  abbrev IsFitOne : OpenStream → Type 0
  IsFitOne stream = IsFitStream (log_alone number kept) (saved_stream stream)

  abbrev IsBusy : SavedStream → Type 0
  IsBusy stream = has_nobody (kept_stream_of stream) ≡ false

  each-fit : AllByRecursion IsFitOne kept.streams
  each-fit = mapped-each (IsFitStream (log_alone number kept)) saved_stream kept.streams fit.streams.each

  each-used : AllByRecursion (IsUsed kept.users) kept.streams
  each-used =
      each-weaker (λ stream. IsFitOne stream × (has_nobody stream ≡ false)) (IsUsed kept.users)
      (λ stream is. record { rising = is.0.openers.rising; clients = is.0.openers.each; users = is.0.users; somebody = is.1 }) kept.streams
      (each-both IsFitOne (λ stream. has_nobody stream ≡ false) kept.streams each-fit
      (mapped-each IsBusy saved_stream kept.streams (occupied (map saved_stream kept.streams) fit.streams.well_known fit.streams.others)))

  order-is : StandInOrder kept.streams
  order-is = in-order kept.streams fit.streams.well_known fit.streams.others

  count-saved : length (drop 3 (map saved_stream kept.streams)) ≡ length kept.streams - 3
  count-saved = length-drop 3 (map saved_stream kept.streams) ∙ ap (λ n. n - 3) (length-map kept.streams saved_stream)

  pub inside : IsFitInside number kept
  inside = record {
    sound = record {
      users = fit.streams.users;
      each = each-used;
      few = omega (arith, count-others kept.streams order-is, count-saved, fit.streams.few);
      places = sym (differ-mapped saved_stream stand_at_one_place have_one_spot (λ _ _. refl) kept.streams) ∙ fit.streams.places;
    };
    each = each-weaker IsFitOne (IsFitState kept.last number) (λ stream is. record { attributes = is.attributes; files = is.files; stamps = is.stamps; taken = is.taken; mark = is.mark }) kept.streams each-fit;
    order = order-is;
    names = sym (differ-mapped saved_stream have_one_saved_name have_one_name (λ _ _. refl) kept.streams) ∙ fit.streams.names;
    room = omega (arith, count-others kept.streams order-is, count-saved, fit.stamp.to);
  }

-- and back

known-first : (streams : List OpenStream) → StandInOrder streams → KnownFirst (map saved_stream streams)
known-first [] order = absurd order
known-first (one ∷ []) order = absurd order
known-first (one ∷ two ∷ []) order = absurd order
known-first (one ∷ two ∷ three ∷ others) order =
    ap (λ n. n ∷ two.state.name ∷ three.state.name ∷ []) order.0
    ∙ ap (λ n. name.Alarm ∷ n ∷ three.state.name ∷ []) order.1
    ∙ ap (λ n. name.Alarm ∷ name.Notification ∷ n ∷ []) order.2

some-openers : (app : Bool) (openers : List ℕ) → app ≡ true → (app && is_empty openers) ≡ false → openers ≢ []
some-openers app [] named somebody = λ none. cc
some-openers app (client ∷ openers) named somebody = λ none. cc

others-open : (using : List ℕ) (streams : List OpenStream) → AllByRecursion (λ stream. is_of_application stream ≡ true) streams → AllByRecursion (IsUsed using) streams → AllByRecursion IsOfApplication (map saved_stream streams)
others-open using [] named used = tt
others-open using (stream ∷ streams) named used = (
  record { named = named.0; opened = some-openers (is_of_application stream) stream.openers named.0 used.0.somebody },
  others-open using streams named.1 used.1,
)

others-are : (using : List ℕ) (streams : List OpenStream) → StandInOrder streams → AllByRecursion (IsUsed using) streams → AllByRecursion IsOfApplication (drop 3 (map saved_stream streams))
others-are using [] order used = absurd order
others-are using (one ∷ []) order used = absurd order
others-are using (one ∷ two ∷ []) order used = absurd order
others-are using (one ∷ two ∷ three ∷ others) order used = others-open using others order.3 used.1.1.1

module _ (number : ℕ) (kept : LogTable) (fit : IsFitInside number kept) where
  saved-count : length (drop 3 (map saved_stream kept.streams)) ≡ length kept.streams - 3
  saved-count = length-drop 3 (map saved_stream kept.streams) ∙ ap (λ n. n - 3) (length-map kept.streams saved_stream)

  pub outside : IsFitLog number kept
  outside = record {
    streams = record {
      users = fit.sound.users;
      well_known = known-first kept.streams fit.order;
      others = others-are kept.users kept.streams fit.order fit.sound.each;
      few = omega (arith, count-others kept.streams fit.order, saved-count, fit.sound.few);
      names = differ-mapped saved_stream have_one_saved_name have_one_name (λ _ _. refl) kept.streams ∙ fit.names;
      places = differ-mapped saved_stream stand_at_one_place have_one_spot (λ _ _. refl) kept.streams ∙ fit.sound.places;
      each = each-mapped (IsFitStream (log_alone number kept)) saved_stream kept.streams
          (each-weaker (λ stream. IsUsed kept.users stream × IsFitState kept.last number stream) (λ stream. IsFitStream (log_alone number kept) (saved_stream stream))
          (λ stream is. record { attributes = is.1.attributes; openers = record { rising = is.0.rising; each = is.0.clients }; users = is.0.users; files = is.1.files; stamps = is.1.stamps; taken = is.1.taken; mark = is.1.mark }) kept.streams
          (each-both (IsUsed kept.users) (IsFitState kept.last number) kept.streams fit.sound.each fit.each));
    };
    stamp = record {
      from = record { le = le→leb 0 kept.last (omega arith) };
      to = omega (arith, count-others kept.streams fit.order, saved-count, fit.room);
    };
  }
