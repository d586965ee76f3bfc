-- That lines are written as they are spelled: what clients ask.
use Rattle.std.proofs.Common.{◌++◌, refl}
use Rattle.std.specs.Prelude.{codes}
use Rattle.ais_values.specs.declared.kind.Which.{Which}
use Rattle.calls.specs.declared.call.Ask.TheVariants.{Start, Plain}
use Rattle.calls.specs.declared.call.Call.TheVariants.{LogOpen, LogWrite, LogFilter, LogClose, LogFini, NtfSend, NtfSubscribe, NtfUnsubscribe, ReaderStart, ReaderRead, ReaderEnd, NtfFini}
use Rattle.script_language.specs.Asks.{IsInit, IsOpen, IsWrite, IsClose, IsFilter, log_forms, IsSend, IsSubscribe, IsUnsubscribe, IsReader, IsRead, ntf_forms}
use Rattle.script_grammar.proofs.Writing.{WritesBehind, WritesForms, written_known, written_word, written_part, written_no_form, written_form, number_written, signed_written, quoted_written, maybe_written}
use Rattle.script_language.specs.Printing.{call_text, ask_text}
use Rattle.script_language.proofs.ValueWriting.{version_written, known_time_written}
use Rattle.script_language.proofs.NoteWriting.{note_written}
use Rattle.script_language.proofs.FilterWriting.{filters_written}
use Rattle.script_language.proofs.StreamWriting.{stream_written, attrs_written, header_written}
use Rattle.ais_values.specs.declared.kind.Which.TheVariants as service

init_written : (service : Which) → WritesBehind (λ rest. codes "init " ++ rest) (IsInit service) ask_text
unfolding IsInit call_text
init_written service =
    written_part version_written (λ version.
    written_known (Start service version) refl)

open_written : WritesBehind (λ rest. codes "open " ++ rest) IsOpen ask_text
unfolding IsOpen call_text
open_written =
    written_part stream_written (λ stream.
    written_part (maybe_written (codes " create file=") attrs_written) (λ create.
    written_known (Plain (LogOpen stream create)) refl))

write_written : WritesBehind (λ rest. codes "write " ++ rest) IsWrite ask_text
unfolding IsWrite call_text
write_written =
    written_part stream_written (λ stream.
    written_word (codes " inv=") (written_part number_written (λ invocation.
    written_word (codes " flags=") (written_part number_written (λ flags.
    written_part (known_time_written (codes " time=")) (λ time.
    written_part header_written (λ header.
    written_word (codes " body=") (written_part quoted_written (λ body.
    written_known (Plain (LogWrite stream invocation flags time header body)) refl)))))))))

close_written : WritesBehind (λ rest. codes "close " ++ rest) IsClose ask_text
unfolding IsClose call_text
close_written =
    written_part stream_written (λ stream.
    written_known (Plain (LogClose stream)) refl)

filter_written : WritesBehind (λ rest. codes "filter " ++ rest) IsFilter ask_text
unfolding IsFilter call_text
filter_written =
    written_part stream_written (λ stream.
    written_word (codes " mask=") (written_part number_written (λ mask.
    written_known (Plain (LogFilter stream mask)) refl)))

pub log_writing : WritesForms (λ rest. rest) log_forms ask_text
unfolding call_text
log_writing =
    written_form (codes "init ") (init_written service.Log) (
    written_form (codes "open ") open_written (
    written_form (codes "write ") write_written (
    written_form (codes "close ") close_written (
    written_form (codes "filter ") filter_written (
    written_form (codes "fini") (written_known (Plain LogFini) refl) written_no_form)))))

send_written : WritesBehind (λ rest. codes "send " ++ rest) IsSend ask_text
unfolding IsSend call_text
send_written =
    written_part note_written (λ note.
    written_known (Plain (NtfSend note)) refl)

subscribe_written : WritesBehind (λ rest. codes "subscribe " ++ rest) IsSubscribe ask_text
unfolding IsSubscribe call_text
subscribe_written =
    written_part number_written (λ id.
    written_part filters_written (λ filters.
    written_known (Plain (NtfSubscribe id filters)) refl))

unsubscribe_written : WritesBehind (λ rest. codes "unsubscribe " ++ rest) IsUnsubscribe ask_text
unfolding IsUnsubscribe call_text
unsubscribe_written =
    written_part number_written (λ id.
    written_known (Plain (NtfUnsubscribe id)) refl)

reader_written : WritesBehind (λ rest. codes "reader mode=" ++ rest) IsReader ask_text
unfolding IsReader call_text
reader_written =
    written_part number_written (λ mode.
    written_word (codes " value=") (written_part signed_written (λ value.
    written_part filters_written (λ filters.
    written_known (Plain (ReaderStart mode value filters)) refl))))

read_written : WritesBehind (λ rest. codes "read " ++ rest) IsRead ask_text
unfolding IsRead call_text
read_written =
    written_part number_written (λ direction.
    written_known (Plain (ReaderRead direction)) refl)

pub ntf_writing : WritesForms (λ rest. rest) ntf_forms ask_text
unfolding call_text
ntf_writing =
    written_form (codes "init ") (init_written service.Ntf) (
    written_form (codes "send ") send_written (
    written_form (codes "subscribe ") subscribe_written (
    written_form (codes "unsubscribe ") unsubscribe_written (
    written_form (codes "reader mode=") reader_written (
    written_form (codes "read ") read_written (
    written_form (codes "endread") (written_known (Plain ReaderEnd) refl) (
    written_form (codes "fini") (written_known (Plain NtfFini) refl) written_no_form)))))))
