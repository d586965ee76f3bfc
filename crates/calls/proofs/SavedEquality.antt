-- `==` of saved values decides whether they are equal.
use Rattle.std.proofs.Common.{◌≡◌, ap}
use Rattle.std.specs.Bool.{Decides}
use Rattle.std.specs.Cmp.Lexicographic.{pointwise_decides}
use Rattle.std.specs.Cmp.{booleans_Decides}
use Rattle.std.proofs.lemmas.Bool.Decides.{Decides-eqb, Decides-int_eq, Decides-and, Decides-like}
use Rattle.ntf_types.proofs.Equality.{notification_eq-decides}
use Rattle.ntf_filters.proofs.Equality.{filter_set_eq-decides}
use Rattle.sub_queue.proofs.Equality.{content_eq-decides, lost_eq-decides}
use Rattle.stream_config.proofs.Equality.{mark_eq-decides, state_eq-decides}
use Rattle.calls.proofs.Equality.{reply_eq-decides}
use Rattle.calls.specs.declared.saved.SavedWindow.{SavedWindow}
use Rattle.calls.specs.contracts.saved.SavedWindowPartialEq.TheImpl as saved_window_impl
use Rattle.calls.specs.declared.saved.SavedStream.{SavedStream}
use Rattle.calls.specs.contracts.saved.SavedStreamPartialEq.TheImpl as saved_stream_impl
use Rattle.calls.specs.declared.saved.SavedAlarm.{SavedAlarm}
use Rattle.calls.specs.contracts.saved.SavedAlarmPartialEq.TheImpl as saved_alarm_impl
use Rattle.calls.specs.declared.saved.SavedSub.{SavedSub}
use Rattle.calls.specs.contracts.saved.SavedSubPartialEq.TheImpl as saved_sub_impl
use Rattle.calls.specs.declared.saved.SavedReader.{SavedReader}
use Rattle.calls.specs.contracts.saved.SavedReaderPartialEq.TheImpl as saved_reader_impl
use Rattle.calls.specs.declared.saved.Saved.{Saved}
use Rattle.calls.specs.contracts.saved.SavedPartialEq.TheImpl as saved_impl

pub saved_window_eq-decides : (one other : SavedWindow) → Decides ((saved_window_impl.ghosts).eq one other) (one ≡ other)
saved_window_eq-decides one other =
    Decides-like _
    (λ e. λ i. record { client = e.0 i; next = (e.1).0 i; replies = (e.1).1 i })
    (λ e. (ap (λ (x : SavedWindow). x.client) e, (ap (λ (x : SavedWindow). x.next) e, ap (λ (x : SavedWindow). x.replies) e)))
    (Decides-and _ _ (Decides-eqb one.client other.client) (Decides-and _ _ (Decides-eqb one.next other.next) (pointwise_decides reply_eq-decides one.replies other.replies)))

pub saved_stream_eq-decides : (one other : SavedStream) → Decides ((saved_stream_impl.ghosts).eq one other) (one ≡ other)
saved_stream_eq-decides one other =
    Decides-like _
    (λ e. λ i. record { state = e.0 i; openers = (e.1).0 i; mark = (e.1).1 i })
    (λ e. (ap (λ (x : SavedStream). x.state) e, (ap (λ (x : SavedStream). x.openers) e, ap (λ (x : SavedStream). x.mark) e)))
    (Decides-and _ _ (state_eq-decides one.state other.state) (Decides-and _ _ (pointwise_decides Decides-eqb one.openers other.openers) (mark_eq-decides one.mark other.mark)))

pub saved_alarm_eq-decides : (one other : SavedAlarm) → Decides ((saved_alarm_impl.ghosts).eq one other) (one ≡ other)
saved_alarm_eq-decides one other =
    Decides-like _
    (λ e. λ i. record { k = e.0 i; notification = (e.1) i })
    (λ e. (ap (λ (x : SavedAlarm). x.k) e, ap (λ (x : SavedAlarm). x.notification) e))
    (Decides-and _ _ (Decides-eqb one.k other.k) (notification_eq-decides one.notification other.notification))

pub saved_sub_eq-decides : (one other : SavedSub) → Decides ((saved_sub_impl.ghosts).eq one other) (one ≡ other)
saved_sub_eq-decides one other =
    Decides-like _
    (λ e. λ i. record { client = e.0 i; key = (e.1).0 i; id = (e.1).1.0 i; filters = (e.1).1.1.0 i; first = (e.1).1.1.1.0 i; held = (e.1).1.1.1.1.0 i; lost = (e.1).1.1.1.1.1 i })
    (λ e. (ap (λ (x : SavedSub). x.client) e, (ap (λ (x : SavedSub). x.key) e, (ap (λ (x : SavedSub). x.id) e, (ap (λ (x : SavedSub). x.filters) e, (ap (λ (x : SavedSub). x.first) e, (ap (λ (x : SavedSub). x.held) e, ap (λ (x : SavedSub). x.lost) e)))))))
    (Decides-and _ _ (Decides-eqb one.client other.client) (Decides-and _ _ (Decides-eqb one.key other.key) (Decides-and _ _ (Decides-eqb one.id other.id) (Decides-and _ _ (filter_set_eq-decides one.filters other.filters) (Decides-and _ _ (Decides-eqb one.first other.first) (Decides-and _ _ (pointwise_decides content_eq-decides one.held other.held) (pointwise_decides lost_eq-decides one.lost other.lost)))))))

pub saved_reader_eq-decides : (one other : SavedReader) → Decides ((saved_reader_impl.ghosts).eq one other) (one ≡ other)
saved_reader_eq-decides one other =
    Decides-like _
    (λ e. λ i. record { client = e.0 i; filters = (e.1).0 i; time = (e.1).1.0 i; id = (e.1).1.1.0 i; fresh = (e.1).1.1.1 i })
    (λ e. (ap (λ (x : SavedReader). x.client) e, (ap (λ (x : SavedReader). x.filters) e, (ap (λ (x : SavedReader). x.time) e, (ap (λ (x : SavedReader). x.id) e, ap (λ (x : SavedReader). x.fresh) e)))))
    (Decides-and _ _ (Decides-eqb one.client other.client) (Decides-and _ _ (filter_set_eq-decides one.filters other.filters) (Decides-and _ _ (Decides-int_eq one.time other.time) (Decides-and _ _ (Decides-eqb one.id other.id) (booleans_Decides one.fresh other.fresh)))))

pub saved_eq-decides : (one other : Saved) → Decides ((saved_impl.ghosts).eq one other) (one ≡ other)
saved_eq-decides one other =
    Decides-like _
    (λ e. λ i. record { number = e.0 i; last_stamp = (e.1).0 i; last_id = (e.1).1.0 i; capacity = (e.1).1.1.0 i; log_users = (e.1).1.1.1.0 i; ntf_users = (e.1).1.1.1.1.0 i; windows = (e.1).1.1.1.1.1.0 i; streams = (e.1).1.1.1.1.1.1.0 i; alarms = (e.1).1.1.1.1.1.1.1.0 i; subs = (e.1).1.1.1.1.1.1.1.1.0 i; readers = (e.1).1.1.1.1.1.1.1.1.1 i })
    (λ e. (ap (λ (x : Saved). x.number) e, (ap (λ (x : Saved). x.last_stamp) e, (ap (λ (x : Saved). x.last_id) e, (ap (λ (x : Saved). x.capacity) e, (ap (λ (x : Saved). x.log_users) e, (ap (λ (x : Saved). x.ntf_users) e, (ap (λ (x : Saved). x.windows) e, (ap (λ (x : Saved). x.streams) e, (ap (λ (x : Saved). x.alarms) e, (ap (λ (x : Saved). x.subs) e, ap (λ (x : Saved). x.readers) e)))))))))))
    (Decides-and _ _ (Decides-eqb one.number other.number) (Decides-and _ _ (Decides-int_eq one.last_stamp other.last_stamp) (Decides-and _ _ (Decides-eqb one.last_id other.last_id) (Decides-and _ _ (Decides-eqb one.capacity other.capacity) (Decides-and _ _ (pointwise_decides Decides-eqb one.log_users other.log_users) (Decides-and _ _ (pointwise_decides Decides-eqb one.ntf_users other.ntf_users) (Decides-and _ _ (pointwise_decides saved_window_eq-decides one.windows other.windows) (Decides-and _ _ (pointwise_decides saved_stream_eq-decides one.streams other.streams) (Decides-and _ _ (pointwise_decides saved_alarm_eq-decides one.alarms other.alarms) (Decides-and _ _ (pointwise_decides saved_sub_eq-decides one.subs other.subs) (pointwise_decides saved_reader_eq-decides one.readers other.readers)))))))))))
