-- `==` of calls, replies and entries decides whether they are equal.
use Rattle.std.proofs.Common.{◌≡◌, ℕ, refl}
use Rattle.std.specs.Bool.{Decides}
use Rattle.std.specs.Cmp.{booleans_Decides}
use Rattle.std.proofs.lemmas.Bool.Decides.{Decides-eqb, Decides-int_eq, Decides-and, Decides-like}
use Rattle.std.proofs.lemmas.Slice.Eq.{bytes_eq-Decides}
use Rattle.ais_values.proofs.Equality.{eq-decides_through, eq-decides_apart, option_eq-decides}
use Rattle.ntf_types.proofs.Equality.{notification_eq-decides}
use Rattle.ntf_filters.proofs.Equality.{filter_set_eq-decides}
use Rattle.record_print.proofs.Equality.{header_eq-decides}
use Rattle.stream_config.proofs.Equality.{name_eq-decides, attrs_eq-decides, mark_eq-decides}
use Rattle.ais_values.specs.Statuses.{status_code}
use Rattle.ais_values.specs.declared.status.Status.{Status}
use Rattle.ais_values.specs.declared.status.Status.TheVariants as status
use Rattle.ais_values.specs.contracts.status.StatusPartialEq.TheImpl as status_impl
use Rattle.calls.specs.declared.call.Call.{Call}
use Rattle.calls.specs.declared.call.Call.TheVariants as call
use Rattle.calls.specs.contracts.call.CallPartialEq.TheImpl as call_impl
use Rattle.calls.specs.declared.reply.Reply.{Reply}
use Rattle.calls.specs.declared.reply.Reply.TheVariants as reply
use Rattle.calls.specs.contracts.reply.ReplyPartialEq.TheImpl as reply_impl
use Rattle.calls.specs.declared.entry.Entry.{Entry}
use Rattle.calls.specs.declared.entry.Entry.TheVariants as entry
use Rattle.calls.specs.contracts.entry.EntryPartialEq.TheImpl as entry_impl

pub status_eq-decides : (one other : Status) → Decides ((status_impl.ghosts).eq one other) (one ≡ other)
status_eq-decides status.Ok status.Ok = (λ _. refl, λ _. refl)
status_eq-decides status.Version status.Version = (λ _. refl, λ _. refl)
status_eq-decides status.TryAgain status.TryAgain = (λ _. refl, λ _. refl)
status_eq-decides status.InvalidParam status.InvalidParam = (λ _. refl, λ _. refl)
status_eq-decides status.BadHandle status.BadHandle = (λ _. refl, λ _. refl)
status_eq-decides status.NotExist status.NotExist = (λ _. refl, λ _. refl)
status_eq-decides status.Exist status.Exist = (λ _. refl, λ _. refl)
status_eq-decides status.NoSpace status.NoSpace = (λ _. refl, λ _. refl)
status_eq-decides status.NoResources status.NoResources = (λ _. refl, λ _. refl)
status_eq-decides status.BadFlags status.BadFlags = (λ _. refl, λ _. refl)
status_eq-decides one other = eq-decides_apart status_code _ one other refl refl

abbrev call_number : Call → ℕ
call_number call.LogInit = 0
call_number (call.LogOpen stream create) = 1
call_number (call.LogWrite stream invocation flags time header body) = 2
call_number (call.LogClose stream) = 3
call_number call.LogFini = 4
call_number call.NtfInit = 5
call_number (call.NtfSend notification) = 6
call_number (call.NtfSubscribe id filters) = 7
call_number (call.NtfUnsubscribe id) = 8
call_number (call.ReaderStart mode value filters) = 9
call_number (call.ReaderRead direction) = 10
call_number call.ReaderEnd = 11
call_number call.NtfFini = 12
call_number (call.LogFilter stream mask) = 13

pub call_eq-decides : (one other : Call) → Decides ((call_impl.ghosts).eq one other) (one ≡ other)
call_eq-decides call.LogInit call.LogInit = (λ _. refl, λ _. refl)
call_eq-decides (call.LogOpen stream1 create1) (call.LogOpen stream2 create2) =
    Decides-like _
    (λ e. λ i. call.LogOpen (e.0 i) ((e.1) i))
    (λ e. (cc, cc))
    (Decides-and _ _ (name_eq-decides stream1 stream2) (option_eq-decides _ attrs_eq-decides create1 create2))
call_eq-decides (call.LogWrite stream1 invocation1 flags1 time1 header1 body1) (call.LogWrite stream2 invocation2 flags2 time2 header2 body2) =
    Decides-like _
    (λ e. λ i. call.LogWrite (e.0 i) ((e.1).0 i) ((e.1).1.0 i) ((e.1).1.1.0 i) ((e.1).1.1.1.0 i) ((e.1).1.1.1.1 i))
    (λ e. (cc, (cc, (cc, (cc, (cc, cc))))))
    (Decides-and _ _ (name_eq-decides stream1 stream2) (Decides-and _ _ (Decides-eqb invocation1 invocation2) (Decides-and _ _ (Decides-eqb flags1 flags2) (Decides-and _ _ (Decides-int_eq time1 time2) (Decides-and _ _ (header_eq-decides header1 header2) (bytes_eq-Decides body1 body2))))))
call_eq-decides (call.LogClose one) (call.LogClose other) =
    eq-decides_through call.LogClose _ one other (λ e. cc) (name_eq-decides one other)
call_eq-decides call.LogFini call.LogFini = (λ _. refl, λ _. refl)
call_eq-decides call.NtfInit call.NtfInit = (λ _. refl, λ _. refl)
call_eq-decides (call.NtfSend one) (call.NtfSend other) =
    eq-decides_through call.NtfSend _ one other (λ e. cc) (notification_eq-decides one other)
call_eq-decides (call.NtfSubscribe id1 filters1) (call.NtfSubscribe id2 filters2) =
    Decides-like _
    (λ e. λ i. call.NtfSubscribe (e.0 i) ((e.1) i))
    (λ e. (cc, cc))
    (Decides-and _ _ (Decides-eqb id1 id2) (filter_set_eq-decides filters1 filters2))
call_eq-decides (call.NtfUnsubscribe one) (call.NtfUnsubscribe other) =
    eq-decides_through call.NtfUnsubscribe _ one other (λ e. cc) (Decides-eqb one other)
call_eq-decides (call.ReaderStart mode1 value1 filters1) (call.ReaderStart mode2 value2 filters2) =
    Decides-like _
    (λ e. λ i. call.ReaderStart (e.0 i) ((e.1).0 i) ((e.1).1 i))
    (λ e. (cc, (cc, cc)))
    (Decides-and _ _ (Decides-eqb mode1 mode2) (Decides-and _ _ (Decides-int_eq value1 value2) (filter_set_eq-decides filters1 filters2)))
call_eq-decides (call.ReaderRead one) (call.ReaderRead other) =
    eq-decides_through call.ReaderRead _ one other (λ e. cc) (Decides-eqb one other)
call_eq-decides call.ReaderEnd call.ReaderEnd = (λ _. refl, λ _. refl)
call_eq-decides call.NtfFini call.NtfFini = (λ _. refl, λ _. refl)
call_eq-decides (call.LogFilter stream1 mask1) (call.LogFilter stream2 mask2) =
    Decides-like _
    (λ e. λ i. call.LogFilter (e.0 i) (e.1 i))
    (λ e. (cc, cc))
    (Decides-and _ _ (name_eq-decides stream1 stream2) (Decides-eqb mask1 mask2))
call_eq-decides one other = eq-decides_apart call_number _ one other refl refl

abbrev reply_number : Reply → ℕ
reply_number (reply.Refused status) = 0
reply_number reply.Done = 1
reply_number (reply.Sent id) = 2
reply_number (reply.Found notification) = 3
reply_number (reply.Marked filtered mark) = 4

pub reply_eq-decides : (one other : Reply) → Decides ((reply_impl.ghosts).eq one other) (one ≡ other)
reply_eq-decides (reply.Refused one) (reply.Refused other) =
    eq-decides_through reply.Refused _ one other (λ e. cc) (status_eq-decides one other)
reply_eq-decides reply.Done reply.Done = (λ _. refl, λ _. refl)
reply_eq-decides (reply.Sent one) (reply.Sent other) =
    eq-decides_through reply.Sent _ one other (λ e. cc) (Decides-eqb one other)
reply_eq-decides (reply.Found one) (reply.Found other) =
    eq-decides_through reply.Found _ one other (λ e. cc) (notification_eq-decides one other)
reply_eq-decides (reply.Marked filtered1 mark1) (reply.Marked filtered2 mark2) =
    Decides-like _
    (λ e. λ i. reply.Marked (e.0 i) (e.1 i))
    (λ e. (cc, cc))
    (Decides-and _ _ (booleans_Decides filtered1 filtered2) (mark_eq-decides mark1 mark2))
reply_eq-decides one other = eq-decides_apart reply_number _ one other refl refl

abbrev entry_number : Entry → ℕ
entry_number (entry.Called client seq time call) = 0
entry_number (entry.Receipted client key through time) = 1

pub entry_eq-decides : (one other : Entry) → Decides ((entry_impl.ghosts).eq one other) (one ≡ other)
entry_eq-decides (entry.Called client1 seq1 time1 call1) (entry.Called client2 seq2 time2 call2) =
    Decides-like _
    (λ e. λ i. entry.Called (e.0 i) ((e.1).0 i) ((e.1).1.0 i) ((e.1).1.1 i))
    (λ e. (cc, (cc, (cc, cc))))
    (Decides-and _ _ (Decides-eqb client1 client2) (Decides-and _ _ (Decides-eqb seq1 seq2) (Decides-and _ _ (Decides-int_eq time1 time2) (call_eq-decides call1 call2))))
entry_eq-decides (entry.Receipted client1 key1 through1 time1) (entry.Receipted client2 key2 through2 time2) =
    Decides-like _
    (λ e. λ i. entry.Receipted (e.0 i) ((e.1).0 i) ((e.1).1.0 i) ((e.1).1.1 i))
    (λ e. (cc, (cc, (cc, cc))))
    (Decides-and _ _ (Decides-eqb client1 client2) (Decides-and _ _ (Decides-eqb key1 key2) (Decides-and _ _ (Decides-eqb through1 through2) (Decides-int_eq time1 time2))))
entry_eq-decides one other = eq-decides_apart entry_number _ one other refl refl
