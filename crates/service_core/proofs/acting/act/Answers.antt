use Rattle.std.proofs.Common.{◌≡◌, rules, sym, subst, to_z, of_z, w64}
use Rattle.std.specs.Prelude.{IfOk}
use Rattle.std.proofs.lemmas.Int.{to_z-of_z}
use Rattle.std.proofs.lemmas.Result.{IfOk-weaker}
use Rattle.calls.specs.declared.call.Call.TheVariants.{LogOpen, NtfSend, NtfSubscribe, ReaderStart}
use Rattle.calls.specs.declared.call.Call.TheVariants as calls
use Rattle.service_core.specs.Acting.{table_of, HasActed}
use Rattle.service_core.proofs.acting.act.Goals as goal

pub returns-in-LogInit-clause-ok : goal.returns-in-LogInit-clause-ok
returns-in-LogInit-clause-ok c =
    let fits = c.ranges.now in
    let done : IfOk c.log_init.result (HasActed (table_of c.args.parts.now) c.args.client c.args.seq c.args.now calls.LogInit (table_of c.log_init.new.parts)) = IfOk-weaker c.log_init.result _ _ (λ acted done. done c.args.seq) (simp to_z-of_z at c.log_init.ensures.ok) in
    subst (λ call. IfOk c.log_init.result (HasActed (table_of c.args.parts.now) c.args.client c.args.seq c.args.now call (table_of c.log_init.new.parts))) (sym c.in-LogInit.is) done

pub returns-in-LogOpen-clause-ok : goal.returns-in-LogOpen-clause-ok
returns-in-LogOpen-clause-ok c =
    let fits = c.ranges.now in
    let done = subst (λ create. IfOk c.log_open.result (HasActed (table_of c.args.parts.now) c.args.client c.args.seq c.args.now (LogOpen c.in-LogOpen.stream create) (table_of c.log_open.new.parts))) c.as_ref.ensures.value (IfOk-weaker c.log_open.result _ _ (λ acted done. done c.args.seq) (simp to_z-of_z at c.log_open.ensures.ok)) in
    subst (λ call. IfOk c.log_open.result (HasActed (table_of c.args.parts.now) c.args.client c.args.seq c.args.now call (table_of c.log_open.new.parts))) (sym c.in-LogOpen.is) done

pub returns-in-LogFilter-clause-ok : goal.returns-in-LogFilter-clause-ok
returns-in-LogFilter-clause-ok c =
    let done : IfOk c.log_filter.result (HasActed (table_of c.args.parts.now) c.args.client c.args.seq c.args.now (calls.LogFilter c.in-LogFilter.stream c.in-LogFilter.mask) (table_of c.log_filter.new.parts)) = IfOk-weaker c.log_filter.result _ _ (λ acted done. done c.args.seq c.args.now) c.log_filter.ensures.ok in
    subst (λ call. IfOk c.log_filter.result (HasActed (table_of c.args.parts.now) c.args.client c.args.seq c.args.now call (table_of c.log_filter.new.parts))) (sym c.in-LogFilter.is) done

pub returns-in-LogClose-clause-ok : goal.returns-in-LogClose-clause-ok
returns-in-LogClose-clause-ok c =
    let fits = c.ranges.now in
    let done : IfOk c.log_close.result (HasActed (table_of c.args.parts.now) c.args.client c.args.seq c.args.now (calls.LogClose c.in-LogClose.stream) (table_of c.log_close.new.parts)) = IfOk-weaker c.log_close.result _ _ (λ acted done. done c.args.seq) (simp to_z-of_z at c.log_close.ensures.ok) in
    subst (λ call. IfOk c.log_close.result (HasActed (table_of c.args.parts.now) c.args.client c.args.seq c.args.now call (table_of c.log_close.new.parts))) (sym c.in-LogClose.is) done

pub returns-in-LogFini-clause-ok : goal.returns-in-LogFini-clause-ok
returns-in-LogFini-clause-ok c =
    let fits = c.ranges.now in
    let done : IfOk c.log_fini.result (HasActed (table_of c.args.parts.now) c.args.client c.args.seq c.args.now calls.LogFini (table_of c.log_fini.new.parts)) = IfOk-weaker c.log_fini.result _ _ (λ acted done. done c.args.seq) (simp to_z-of_z at c.log_fini.ensures.ok) in
    subst (λ call. IfOk c.log_fini.result (HasActed (table_of c.args.parts.now) c.args.client c.args.seq c.args.now call (table_of c.log_fini.new.parts))) (sym c.in-LogFini.is) done

pub returns-in-NtfSend-clause-ok : goal.returns-in-NtfSend-clause-ok
returns-in-NtfSend-clause-ok c =
    let fits = c.ranges.now in
    let done = subst (λ notification. IfOk c.ntf_send.result (HasActed (table_of c.args.parts.now) c.args.client c.args.seq c.args.now (NtfSend notification) (table_of c.ntf_send.new.parts))) c.get.ensures (IfOk-weaker c.ntf_send.result _ _ (λ acted done. done c.args.seq) (simp to_z-of_z at c.ntf_send.ensures.ok)) in
    subst (λ call. IfOk c.ntf_send.result (HasActed (table_of c.args.parts.now) c.args.client c.args.seq c.args.now call (table_of c.ntf_send.new.parts))) (sym c.in-NtfSend.is) done

pub returns-in-LogWrite-clause-ok : goal.returns-in-LogWrite-clause-ok
returns-in-LogWrite-clause-ok c =
    let fits = c.ranges.now in
    let times : to_z w64 (of_z w64 c.in-LogWrite.time) ≡ c.in-LogWrite.time = search rules in
    let done : IfOk c.log_write.result (HasActed (table_of c.args.parts.now) c.args.client c.args.seq c.args.now (calls.LogWrite c.in-LogWrite.stream c.in-LogWrite.invocation c.in-LogWrite.flags c.in-LogWrite.time c.in-LogWrite.header c.in-LogWrite.body) (table_of c.log_write.new.parts)) = IfOk-weaker c.log_write.result _ _ (λ acted done. done c.args.seq c.in-LogWrite.invocation) (simp (to_z-of_z, times) at c.log_write.ensures.ok) in
    subst (λ call. IfOk c.log_write.result (HasActed (table_of c.args.parts.now) c.args.client c.args.seq c.args.now call (table_of c.log_write.new.parts))) (sym c.in-LogWrite.is) done

pub returns-in-NtfInit-clause-ok : goal.returns-in-NtfInit-clause-ok
returns-in-NtfInit-clause-ok c =
    let fits = c.ranges.now in
    let done : IfOk c.ntf_init.result (HasActed (table_of c.args.parts.now) c.args.client c.args.seq c.args.now calls.NtfInit (table_of c.ntf_init.new.parts)) = IfOk-weaker c.ntf_init.result _ _ (λ acted done. done c.args.seq c.args.now) (c.ntf_init.ensures.ok) in
    subst (λ call. IfOk c.ntf_init.result (HasActed (table_of c.args.parts.now) c.args.client c.args.seq c.args.now call (table_of c.ntf_init.new.parts))) (sym c.in-NtfInit.is) done

pub returns-in-ReaderStart-clause-ok : goal.returns-in-ReaderStart-clause-ok
returns-in-ReaderStart-clause-ok c =
    let fits = c.ranges.now in
    let values : to_z w64 (of_z w64 c.in-ReaderStart.value) ≡ c.in-ReaderStart.value = search rules in
    let done = subst (λ filters. IfOk c.reader_start.result (HasActed (table_of c.args.parts.now) c.args.client c.args.seq c.args.now (ReaderStart c.in-ReaderStart.mode c.in-ReaderStart.value filters) (table_of c.reader_start.new.parts))) c.get-in-ReaderStart.ensures (IfOk-weaker c.reader_start.result _ _ (λ acted done. done c.args.seq c.args.now) (simp (to_z-of_z, values) at c.reader_start.ensures.ok)) in
    subst (λ call. IfOk c.reader_start.result (HasActed (table_of c.args.parts.now) c.args.client c.args.seq c.args.now call (table_of c.reader_start.new.parts))) (sym c.in-ReaderStart.is) done

pub returns-in-ReaderRead-clause-ok : goal.returns-in-ReaderRead-clause-ok
returns-in-ReaderRead-clause-ok c =
    let fits = c.ranges.now in
    let done : IfOk c.reader_read.result (HasActed (table_of c.args.parts.now) c.args.client c.args.seq c.args.now (calls.ReaderRead c.in-ReaderRead.direction) (table_of c.reader_read.new.parts)) = IfOk-weaker c.reader_read.result _ _ (λ acted done. done c.args.seq c.args.now) (c.reader_read.ensures.ok) in
    subst (λ call. IfOk c.reader_read.result (HasActed (table_of c.args.parts.now) c.args.client c.args.seq c.args.now call (table_of c.reader_read.new.parts))) (sym c.in-ReaderRead.is) done

pub returns-in-NtfSubscribe-clause-ok : goal.returns-in-NtfSubscribe-clause-ok
returns-in-NtfSubscribe-clause-ok c =
    let fits = c.ranges.now in
    let done = subst (λ filters. IfOk c.ntf_subscribe.result (HasActed (table_of c.args.parts.now) c.args.client c.args.seq c.args.now (NtfSubscribe c.in-NtfSubscribe.id filters) (table_of c.ntf_subscribe.new.parts))) c.get-in-NtfSubscribe.ensures (IfOk-weaker c.ntf_subscribe.result _ _ (λ acted done. done c.args.now) (c.ntf_subscribe.ensures.ok)) in
    subst (λ call. IfOk c.ntf_subscribe.result (HasActed (table_of c.args.parts.now) c.args.client c.args.seq c.args.now call (table_of c.ntf_subscribe.new.parts))) (sym c.in-NtfSubscribe.is) done

pub returns-in-NtfUnsubscribe-clause-ok : goal.returns-in-NtfUnsubscribe-clause-ok
returns-in-NtfUnsubscribe-clause-ok c =
    let fits = c.ranges.now in
    let done = c.ntf_unsubscribe.ensures c.args.seq c.args.now in
    subst (λ call. HasActed (table_of c.args.parts.now) c.args.client c.args.seq c.args.now call (table_of c.ntf_unsubscribe.new.parts) c.ntf_unsubscribe.result) (sym c.in-NtfUnsubscribe.is) done

pub returns-in-ReaderEnd-clause-ok : goal.returns-in-ReaderEnd-clause-ok
returns-in-ReaderEnd-clause-ok c =
    let fits = c.ranges.now in
    let done = c.reader_end.ensures c.args.seq c.args.now in
    subst (λ call. HasActed (table_of c.args.parts.now) c.args.client c.args.seq c.args.now call (table_of c.reader_end.new.parts) c.reader_end.result) (sym c.in-ReaderEnd.is) done

pub returns-in-NtfFini-clause-ok : goal.returns-in-NtfFini-clause-ok
returns-in-NtfFini-clause-ok c =
    let fits = c.ranges.now in
    let done = c.ntf_fini.ensures c.args.seq c.args.now in
    subst (λ call. HasActed (table_of c.args.parts.now) c.args.client c.args.seq c.args.now call (table_of c.ntf_fini.new.parts) c.ntf_fini.result) (sym c.in-NtfFini.is) done
