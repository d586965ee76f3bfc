-- What is kept of a fit value, part by part, and back.
use Rattle.std.proofs.Common.{◌≡◌, ℕ, ◌+◌, ◌<◌, ◌≤◌, nat_lt, true, Bool, List, [], ◌∷◌, length, map, refl, sym, ◌∙◌, subst, arith}
use Rattle.std.specs.Prelude.{◌⊎◌, MatchOption, slice_get}
use Rattle.std.specs.List.{AllByRecursion}
use Rattle.std.proofs.lemmas.Bool.{lt-ltb}
use Rattle.std.proofs.lemmas.Bool.Decides.{nat_tests}
use Rattle.std.proofs.lemmas.List.{length-map}
use Rattle.client_set.specs.Rising.{IsRising, ComesFirst}
use Rattle.log_history.specs.Table.{OpenStream, LogTable}
use Rattle.alarm_view.specs.declared.alarm.KeptAlarm.{KeptAlarm}
use Rattle.alarm_view.specs.Alarms.{IsAlarm, RiseFrom}
use Rattle.sub_queue.specs.Queue.{IsSound}
use Rattle.ntf_history.specs.Kept.{Subscription}
use Rattle.ntf_history.specs.Tables.{HaveQueues, kept_first}
use Rattle.calls.specs.declared.saved.SavedReader.{SavedReader}
use Rattle.plain_service.specs.Fitness.{IsFit, IsFitStream, IsFitAlarm, IsFitSub as IsFitSaved, IsFitReader, IsStanding, HaveFitStreams, HasFitStamp, HaveFitAlarms, HaveFitSubs, HaveFitReaders, is_record_before, is_id_before, is_sub_before, have_one_id as have_one_saved_id}
use Rattle.plain_service.specs.Legal.{IsClient}
use Rattle.plain_service.specs.Values.{saved_stream, saved_alarm}
use Rattle.plain_service.proofs.ListLaws.{each-both, each-weaker, each-mapped, mapped-each, differ-mapped}
use Rattle.service_table.specs.Tables.{ServiceTable, saved_queue, saved_table, reader_before}
use Rattle.service_fit.specs.Fit.{IsFitState, log_alone, IsFitLog}
use Rattle.service_fit.proofs.AlarmsFit.{IsStandingIn, IsFitAlarmIn, AreFitAlarms}
use Rattle.service_fit.proofs.LogFit.{IsFitInside, inside, outside}
use Rattle.service_fit.proofs.NtfFit.{IsFitSub, IsFitNtf, have_one_id}
use Rattle.service_fit.proofs.ReadersFit.{IsFitReaderOf, AreFitReaders}
use Rattle.service_fit.proofs.RisingMaps.{rising-mapped, mapped-rising}
use Rattle.service_fit.proofs.WindowsFit.{AreFitCallers, callers-of, clients-saved, windows-saved, called-of, called-saved}

-- what is kept of a fit value, part by part
pub record IsFitTable (kept : ServiceTable) : Type 0 where
  pub few : kept.number ≤ 4000000000
  pub log : IsFitInside kept.number kept.log
  pub ntf : IsFitNtf kept.number kept.windows kept.ntf
  pub alarms : AreFitAlarms kept.log.streams kept.ntf.last_id kept.alarms
  pub readers : AreFitReaders kept.ntf.users kept.readers
  pub windows : AreFitCallers kept.number kept.windows

-- the log

module _ (kept : ServiceTable) where
  log-of : IsFit (saved_table kept) → IsFitLog kept.number kept.log
  log-of fit = record {
    streams = record {
      users = fit.streams.users;
      well_known = fit.streams.well_known;
      others = fit.streams.others;
      few = fit.streams.few;
      names = fit.streams.names;
      places = fit.streams.places;
      each = each-weaker (IsFitStream (saved_table kept)) (IsFitStream (log_alone kept.number kept.log)) (λ stream is. record { attributes = is.attributes; openers = is.openers; users = is.users; files = is.files; stamps = is.stamps; taken = is.taken; mark = is.mark }) (map saved_stream kept.log.streams) fit.streams.each;
    };
    stamp = record { from = fit.stamp.from; to = fit.stamp.to };
  }

  streams-of : IsFitLog kept.number kept.log → HaveFitStreams (saved_table kept)
  streams-of fit = record {
    users = fit.streams.users;
    well_known = fit.streams.well_known;
    others = fit.streams.others;
    few = fit.streams.few;
    names = fit.streams.names;
    places = fit.streams.places;
    each = each-weaker (IsFitStream (log_alone kept.number kept.log)) (IsFitStream (saved_table kept)) (λ stream is. record { attributes = is.attributes; openers = is.openers; users = is.users; files = is.files; stamps = is.stamps; taken = is.taken; mark = is.mark }) (map saved_stream kept.log.streams) fit.streams.each;
  }

  stamp-of : IsFitLog kept.number kept.log → HasFitStamp (saved_table kept)
  stamp-of fit = record { from = fit.stamp.from; to = fit.stamp.to }

-- subscriptions

each-queue : (capacity : ℕ) (subs : List Subscription) → HaveQueues capacity subs → AllByRecursion (λ sub. (sub.queue.capacity ≡ capacity) × IsSound sub.queue) subs
each-queue capacity [] queues = tt
each-queue capacity (sub ∷ subs) queues = ((queues.0, queues.1), each-queue capacity subs queues.2)

module _ (kept : ServiceTable) (queues : HaveQueues kept.ntf.capacity kept.ntf.subs) (fit : IsFit (saved_table kept)) where
  sub-of : (sub : Subscription) → IsFitSaved (saved_table kept) (saved_queue sub) → IsFitSub kept.number kept.windows kept.ntf.users sub
  sub-of sub is = record {
    user = is.user;
    key = called-of kept.windows sub.client sub.key is.key;
    filters = is.filters;
    items = is.numbers;
  }

  ntf-of : IsFitNtf kept.number kept.windows kept.ntf
  ntf-of =
      let subs = kept.ntf.subs in
      record {
        capacity = fit.counts.capacity;
        ids = fit.counts.ids;
        users = fit.subs.users;
        subs = record {
          order = mapped-rising saved_queue is_sub_before kept_first (λ _ _. refl) subs fit.subs.order;
          queues = queues;
          few = omega (arith, length-map subs saved_queue, fit.subs.few);
        };
        differ = sym (differ-mapped saved_queue have_one_saved_id have_one_id (λ _ _. refl) subs) ∙ fit.subs.ids;
        each = each-weaker (λ sub. IsFitSaved (saved_table kept) (saved_queue sub)) (IsFitSub kept.number kept.windows kept.ntf.users) sub-of subs
            (mapped-each (IsFitSaved (saved_table kept)) saved_queue subs fit.subs.each);
      }

module _ (kept : ServiceTable) (fit : IsFitNtf kept.number kept.windows kept.ntf) where
  sub-saved : (sub : Subscription) → IsFitSub kept.number kept.windows kept.ntf.users sub → sub.queue.capacity ≡ kept.ntf.capacity → IsSound sub.queue → IsFitSaved (saved_table kept) (saved_queue sub)
  sub-saved sub is same sound = record {
    user = is.user;
    key = called-saved kept.windows sub.client sub.key is.key;
    filters = is.filters;
    first = sound.first;
    places = subst (λ n. length sub.queue.held ≤ n) same sound.places;
    lost = subst (λ n. (sub.queue.lost ≡ []) ⊎ (length sub.queue.held ≡ n)) same sound.lost;
    numbers = is.items;
  }

  subs-saved : HaveFitSubs (saved_table kept)
  subs-saved =
      let subs = kept.ntf.subs in
      record {
        users = fit.users;
        order = rising-mapped saved_queue is_sub_before kept_first (λ _ _. refl) subs fit.subs.order;
        ids = differ-mapped saved_queue have_one_saved_id have_one_id (λ _ _. refl) subs ∙ fit.differ;
        few = omega (arith, length-map subs saved_queue, fit.subs.few);
        each = each-mapped (IsFitSaved (saved_table kept)) saved_queue subs
            (each-weaker (λ sub. IsFitSub kept.number kept.windows kept.ntf.users sub × ((sub.queue.capacity ≡ kept.ntf.capacity) × IsSound sub.queue)) (λ sub. IsFitSaved (saved_table kept) (saved_queue sub))
            (λ sub is. sub-saved sub is.0 is.1.0 is.1.1) subs
            (each-both (IsFitSub kept.number kept.windows kept.ntf.users) (λ sub. (sub.queue.capacity ≡ kept.ntf.capacity) × IsSound sub.queue) subs fit.each (each-queue kept.ntf.capacity subs fit.subs.queues)));
      }

-- stored alarms

abbrev record_before : KeptAlarm → KeptAlarm → Bool
record_before one other = nat_lt one.number other.number

abbrev id_before : KeptAlarm → KeptAlarm → Bool
id_before one other = nat_lt one.notification.id other.notification.id

lt-next : (x y : ℕ) → nat_lt x y ≡ true → x + 1 ≤ y
lt-next x y less = grind (arith, nat_tests)

all-behind : (alarm : KeptAlarm) (others : List KeptAlarm) → ComesFirst record_before alarm others → ComesFirst id_before alarm others → AllByRecursion (λ (other : KeptAlarm). (alarm.number + 1 ≤ other.number) × (alarm.notification.id + 1 ≤ other.notification.id)) others
all-behind alarm [] records ids = tt
all-behind alarm (other ∷ others) records ids =
    ((lt-next alarm.number other.number records.0, lt-next alarm.notification.id other.notification.id ids.0), all-behind alarm others records.1 ids.1)

rise-from : (alarms : List KeptAlarm) (number id : ℕ) → number ≤ 4294967295 → AllByRecursion (λ (alarm : KeptAlarm). (number ≤ alarm.number) × (id ≤ alarm.notification.id)) alarms → IsRising record_before alarms → IsRising id_before alarms → AllByRecursion (λ (alarm : KeptAlarm). (alarm.number < 4294967295) × IsAlarm alarm.notification.body) alarms → RiseFrom number id alarms
rise-from [] number id most from records ids are = most
rise-from (alarm ∷ alarms) number id most from records ids are = (
  from.0.0,
  from.0.1,
  are.0.1,
  rise-from alarms (alarm.number + 1) (alarm.notification.id + 1) (omega (arith, are.0.0)) (all-behind alarm alarms records.0 ids.0) records.1 ids.1 are.1,
)

from-zero : (alarms : List KeptAlarm) → AllByRecursion (λ (alarm : KeptAlarm). (0 ≤ alarm.number) × (0 ≤ alarm.notification.id)) alarms
from-zero [] = tt
from-zero (alarm ∷ alarms) = ((omega arith, omega arith), from-zero alarms)

records-first : (alarm : KeptAlarm) (number id : ℕ) (alarms : List KeptAlarm) → alarm.number < number → RiseFrom number id alarms → ComesFirst is_record_before (saved_alarm alarm) (map saved_alarm alarms)
records-first alarm number id [] below rises = tt
records-first alarm number id (other ∷ alarms) below rises = (
  lt-ltb alarm.number other.number (omega (arith, below, rises.0)),
  records-first alarm (other.number + 1) (other.notification.id + 1) alarms (omega (arith, below, rises.0)) rises.3,
)

records-rising : (number id : ℕ) (alarms : List KeptAlarm) → RiseFrom number id alarms → IsRising is_record_before (map saved_alarm alarms)
records-rising number id [] rises = tt
records-rising number id (alarm ∷ alarms) rises = (
  records-first alarm (alarm.number + 1) (alarm.notification.id + 1) alarms (omega arith) rises.3,
  records-rising (alarm.number + 1) (alarm.notification.id + 1) alarms rises.3,
)

ids-first : (alarm : KeptAlarm) (number id : ℕ) (alarms : List KeptAlarm) → alarm.notification.id < id → RiseFrom number id alarms → ComesFirst is_id_before (saved_alarm alarm) (map saved_alarm alarms)
ids-first alarm number id [] below rises = tt
ids-first alarm number id (other ∷ alarms) below rises = (
  lt-ltb alarm.notification.id other.notification.id (omega (arith, below, rises.1)),
  ids-first alarm (other.number + 1) (other.notification.id + 1) alarms (omega (arith, below, rises.1)) rises.3,
)

ids-rising : (number id : ℕ) (alarms : List KeptAlarm) → RiseFrom number id alarms → IsRising is_id_before (map saved_alarm alarms)
ids-rising number id [] rises = tt
ids-rising number id (alarm ∷ alarms) rises = (
  ids-first alarm (alarm.number + 1) (alarm.notification.id + 1) alarms (omega arith) rises.3,
  ids-rising (alarm.number + 1) (alarm.notification.id + 1) alarms rises.3,
)

all-alarms : (number id : ℕ) (alarms : List KeptAlarm) → RiseFrom number id alarms → AllByRecursion (λ (alarm : KeptAlarm). IsAlarm alarm.notification.body) alarms
all-alarms number id [] rises = tt
all-alarms number id (alarm ∷ alarms) rises =
    (rises.2, all-alarms (alarm.number + 1) (alarm.notification.id + 1) alarms rises.3)

stands-in : (streams : List OpenStream) (number : ℕ) → MatchOption (slice_get (map saved_stream streams) 0) ⊥ (λ stream. IsStanding stream.state number) → IsStandingIn streams number
stands-in [] number stands = stands
stands-in (stream ∷ streams) number stands = stands

stands-saved : (streams : List OpenStream) (number : ℕ) → IsStandingIn streams number → MatchOption (slice_get (map saved_stream streams) 0) ⊥ (λ stream. IsStanding stream.state number)
stands-saved [] number stands = stands
stands-saved (stream ∷ streams) number stands = stands

under : (number : ℕ) (kept : LogTable) (streams : List OpenStream) (k : ℕ) → AllByRecursion (IsFitState kept.last number) streams → IsStandingIn streams k → k < number
under number kept [] k each stands = absurd stands
under number kept (stream ∷ streams) k each stands = omega (arith, stands.below, each.0.taken)

module _ (kept : ServiceTable) (fit : IsFit (saved_table kept)) (log : IsFitInside kept.number kept.log) where
  abbrev IsFitKept : KeptAlarm → Type 0
  IsFitKept alarm = IsFitAlarm (saved_table kept) (saved_alarm alarm)

  each-kept : AllByRecursion IsFitKept kept.alarms
  each-kept = mapped-each (IsFitAlarm (saved_table kept)) saved_alarm kept.alarms fit.alarms.each

  few-kept : (alarm : KeptAlarm) → IsFitKept alarm → alarm.number < 4294967295
  few-kept alarm is =
      omega (arith, under kept.number kept.log kept.log.streams alarm.number log.each (stands-in kept.log.streams alarm.number is.stands), fit.counts.entries)

  alarms-of : AreFitAlarms kept.log.streams kept.ntf.last_id kept.alarms
  alarms-of = record {
    order = rise-from kept.alarms 0 0 (omega arith) (from-zero kept.alarms)
        (mapped-rising saved_alarm is_record_before record_before (λ _ _. refl) kept.alarms fit.alarms.records)
        (mapped-rising saved_alarm is_id_before id_before (λ _ _. refl) kept.alarms fit.alarms.ids)
        (each-weaker IsFitKept (λ (alarm : KeptAlarm). (alarm.number < 4294967295) × IsAlarm alarm.notification.body) (λ alarm is. (few-kept alarm is, is.body)) kept.alarms each-kept);
    each = each-weaker IsFitKept (IsFitAlarmIn kept.log.streams kept.ntf.last_id)
        (λ alarm is. record { stands = stands-in kept.log.streams alarm.number is.stands; given = is.id; accepted = record { sound = is.sound; time = is.time } }) kept.alarms each-kept;
  }

module _ (kept : ServiceTable) (fit : AreFitAlarms kept.log.streams kept.ntf.last_id kept.alarms) where
  alarms-saved : HaveFitAlarms (saved_table kept)
  alarms-saved = record {
    records = records-rising 0 0 kept.alarms fit.order;
    ids = ids-rising 0 0 kept.alarms fit.order;
    each = each-mapped (IsFitAlarm (saved_table kept)) saved_alarm kept.alarms
        (each-weaker (λ alarm. IsFitAlarmIn kept.log.streams kept.ntf.last_id alarm × IsAlarm alarm.notification.body) (λ alarm. IsFitAlarm (saved_table kept) (saved_alarm alarm))
        (λ alarm is. record { stands = stands-saved kept.log.streams alarm.number is.0.stands; id = is.0.given; body = is.1; sound = is.0.accepted.sound; time = is.0.accepted.time }) kept.alarms
        (each-both (IsFitAlarmIn kept.log.streams kept.ntf.last_id) (λ alarm. IsAlarm alarm.notification.body) kept.alarms fit.each (all-alarms 0 0 kept.alarms fit.order)));
  }

-- readers

abbrev client_of : SavedReader → ℕ
client_of reader = reader.client

readers-of : (kept : ServiceTable) → HaveFitReaders (saved_table kept) → AreFitReaders kept.ntf.users kept.readers
readers-of kept fit = record {
  order = mapped-rising client_of nat_lt reader_before (λ _ _. refl) kept.readers fit.clients.rising;
  few = fit.few;
  each = each-weaker (λ reader. IsClient reader.client × IsFitReader (saved_table kept) reader) (IsFitReaderOf kept.ntf.users)
      (λ reader is. record { client = is.0; user = is.1.user; filters = is.1.filters; alarms = is.1.alarms }) kept.readers
      (each-both (λ (reader : SavedReader). IsClient reader.client) (IsFitReader (saved_table kept)) kept.readers (mapped-each IsClient client_of kept.readers fit.clients.each) fit.each);
}

readers-saved : (kept : ServiceTable) → AreFitReaders kept.ntf.users kept.readers → HaveFitReaders (saved_table kept)
readers-saved kept fit = record {
  clients = record {
    rising = rising-mapped client_of nat_lt reader_before (λ _ _. refl) kept.readers fit.order;
    each = each-mapped IsClient client_of kept.readers (each-weaker (IsFitReaderOf kept.ntf.users) (λ reader. IsClient reader.client) (λ reader is. is.client) kept.readers fit.each);
  };
  few = fit.few;
  each = each-weaker (IsFitReaderOf kept.ntf.users) (IsFitReader (saved_table kept)) (λ reader is. record { user = is.user; filters = is.filters; alarms = is.alarms }) kept.readers fit.each;
}

-- **the parts of a fit value**
pub table-of : (kept : ServiceTable) → HaveQueues kept.ntf.capacity kept.ntf.subs → IsFit (saved_table kept) → IsFitTable kept
table-of kept queues fit =
    let log = inside kept.number kept.log (log-of kept fit) in
    record {
      few = fit.counts.entries;
      log = log;
      ntf = ntf-of kept queues fit;
      alarms = alarms-of kept fit log;
      readers = readers-of kept fit.readers;
      windows = callers-of kept.number kept.windows fit.windows.clients fit.windows.each;
    }

-- **a value whose parts are fit**
pub value-of : (kept : ServiceTable) → IsFitTable kept → IsFit (saved_table kept)
value-of kept fit =
    let log = outside kept.number kept.log fit.log in
    record {
      counts = record { entries = fit.few; ids = fit.ntf.ids; capacity = fit.ntf.capacity };
      windows = record { clients = clients-saved kept.number kept.windows fit.windows; each = windows-saved kept.number kept.windows fit.windows };
      streams = streams-of kept log;
      stamp = stamp-of kept log;
      alarms = alarms-saved kept fit.alarms;
      subs = subs-saved kept fit.ntf;
      readers = readers-saved kept fit.readers;
    }
