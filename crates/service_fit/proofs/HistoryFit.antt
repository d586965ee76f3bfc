-- The value of every history is fit.
use Rattle.std.proofs.Common.{◌≡◌, ℕ, ◌+◌, ◌≤◌, Bool, true, false, not, ◌&&◌, ◌||◌, List, [], ◌∷◌, length, refl, ap, sym, ◌∙◌, subst, arith}
use Rattle.stream_config.specs.declared.attrs.StreamAttrs.{StreamAttrs}
use Rattle.stream_config.specs.declared.attrs.StreamName.{StreamName}
use Rattle.stream_config.specs.declared.attrs.StreamName.TheVariants as name
use Rattle.stream_config.specs.declared.state.StreamState.{StreamState}
use Rattle.stream_config.specs.Attributes.{kind_of, PassesAttrs}
use Rattle.stream_config.specs.AttributeTests.{have_one_place}
use Rattle.stream_config.specs.Marks.{first_mark}
use Rattle.stream_config.specs.Stamps.{stamp_after}
use Rattle.log_history.specs.Chronicle.{LogSetup, new_stream}
use Rattle.log_history.specs.Legal.{IsSetup}
use Rattle.log_history.specs.Table.{OpenStream, state_of, new_state, table}
use Rattle.log_history.proofs.StreamLaws.{made-is}
use Rattle.client_window.specs.Windows.{Kept}
use Rattle.calls.specs.declared.entry.Entry.{Entry}
use Rattle.calls.specs.declared.entry.Entry.TheVariants.{Called, Receipted}
use Rattle.calls.specs.declared.reply.Reply.{Reply}
use Rattle.plain_service.specs.Setups.{Setup, log_setup, CanBegin}
use Rattle.plain_service.specs.Replies.{next_number}
use Rattle.plain_service.specs.Legal.{IsHistory}
use Rattle.plain_service.specs.Values.{saved_of}
use Rattle.plain_service.specs.Fitness.{IsFit}
use Rattle.plain_service.proofs.HistoryEvents.{second-bound}
use Rattle.plain_service.proofs.ReplyLaws.{length-replies}
use Rattle.service_table.specs.Answering.{status_in, reply_in}
use Rattle.service_table.specs.Histories.{service_of}
use Rattle.service_table.specs.Steps.{window_for}
use Rattle.service_table.proofs.SavedLaws.{value-is}
use Rattle.service_table.proofs.ServiceSteps.{call-step, receipt-taken}
use Rattle.service_table.proofs.WindowSteps.{window-kept}
use Rattle.service_fit.specs.Fit.{IsFitState}
use Rattle.service_fit.proofs.FitSteps.{fit-status, fit-received}
use Rattle.service_fit.proofs.LogFit.{IsFitInside}
use Rattle.service_fit.proofs.LogSteps.{reopened, fit-new, first-fits}
use Rattle.service_fit.proofs.ValueFit.{IsFitTable, value-of}

-- a stream as it is made
fit-made : (last created : ℕ) (stream : StreamName) (attrs : StreamAttrs) → created ≤ last → PassesAttrs (kind_of stream) attrs → IsFitState last 0 (record { state = state_of (new_stream stream attrs created); openers = []; mark = first_mark })
fit-made last created stream attrs le passes =
    subst (λ (state : StreamState). let one : OpenStream = record { state = state; openers = []; mark = first_mark } in IsFitState last 0 one) (sym (made-is stream attrs created passes.some_rotated))
    (reopened last 0 (record { state = new_state stream attrs created; openers = 0 ∷ []; mark = first_mark }) [] (fit-new 0 last created 0 stream attrs first_mark le passes (first-fits 0 stream)))

-- the log of a service that nobody has used

apart : (a b c : Bool) → a ≡ false → b ≡ false → c ≡ false → (not (a || (b || false)) && (not (c || false) && true)) ≡ true
apart true b c one two three = cc
apart false true c one two three = cc
apart false false true one two three = cc
apart false false false one two three = refl

opened-log : (setup : LogSetup) → IsSetup setup → setup.start ≤ 9000000000 → IsFitInside 0 (table setup [])
opened-log setup passes early =
    let alarm = setup.start in
    let notification = stamp_after alarm setup.start in
    let system = stamp_after notification setup.start in
    record {
      sound = record {
        users = record { rising = tt; each = tt };
        each = (record { rising = tt; clients = tt; users = tt; somebody = refl }, (record { rising = tt; clients = tt; users = tt; somebody = refl }, (record { rising = tt; clients = tt; users = tt; somebody = refl }, tt)));
        few = omega arith;
        places = apart (have_one_place setup.alarm setup.notification) (have_one_place setup.alarm setup.system) (have_one_place setup.notification setup.system) passes.first_apart passes.second_apart passes.third_apart;
      };
      each = (fit-made system alarm name.Alarm setup.alarm (omega arith) passes.alarm, (fit-made system notification name.Notification setup.notification (omega arith) passes.notification, (fit-made system system name.System setup.system (omega arith) passes.system, tt)));
      order = (refl, refl, refl, tt);
      names = refl;
      room = omega (arith, early);
    }

opened : (setup : Setup) → CanBegin setup → IsFitTable (service_of setup [])
unfolding service_of
opened setup can = record {
  few = omega arith;
  log = opened-log (log_setup setup) can.streams (second-bound setup.start can.start);
  ntf = record {
    capacity = can.capacity;
    ids = omega arith;
    users = record { rising = tt; each = tt };
    subs = record { order = tt; queues = tt; few = omega arith };
    differ = refl;
    each = tt;
  };
  alarms = record { order = omega arith; each = tt };
  readers = record { order = tt; few = omega arith; each = tt };
  windows = record { order = tt; each = tt };
}

-- the table of a history

number-is : (setup : Setup) (entries : List Entry) → (service_of setup entries).number ≡ length entries
unfolding service_of
number-is setup entries = refl

next-is : (setup : Setup) (client : ℕ) (entries : List Entry) → (window_for client (service_of setup entries).windows).next ≡ next_number client entries
unfolding service_of
next-is setup client entries =
    ap (λ (w : Kept Reply). w.next) (window-kept setup client entries) ∙ ap (λ n. n + 1) (length-replies setup client entries)

table-fit : (setup : Setup) (entries : List Entry) → IsHistory setup entries → IsFitTable (service_of setup entries)
table-fit setup [] history = opened setup history
table-fit setup (Called client seq now call ∷ entries) history =
    let kept = service_of setup entries in
    let can = history.0 in
    subst IsFitTable (sym (call-step setup client seq now call entries history))
    (fit-status kept client seq now call (reply_in kept client now call) (table-fit setup entries history.1) (omega (arith, number-is setup entries, can.0.few)) can.0.caller can.0.time (can.1 ∙ sym (next-is setup client entries)) (status_in kept client now call) refl)
table-fit setup (Receipted client key through now ∷ entries) history =
    let kept = service_of setup entries in
    subst IsFitTable (sym (receipt-taken setup client key through now entries history))
    (fit-received kept client key through (table-fit setup entries history.1) (omega (arith, number-is setup entries, history.0.0.few)))

-- **the value of a history is fit**
pub history-fit : (setup : Setup) (entries : List Entry) → IsHistory setup entries → IsFit (saved_of setup entries)
history-fit setup entries history =
    subst IsFit (value-is setup entries) (value-of (service_of setup entries) (table-fit setup entries history))
