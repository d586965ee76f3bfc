-- That reading is exact: what clients ask.
use Rattle.std.proofs.Common.{List, [], ◌∷◌, refl}
use Rattle.std.specs.Prelude.{codes}
use Rattle.ais_values.specs.Times.{unknown_time}
use Rattle.ais_values.specs.declared.kind.Which.{Which}
use Rattle.calls.specs.declared.call.Ask.TheVariants.{Start, Plain}
use Rattle.calls.specs.declared.call.Call.TheVariants.{LogOpen, LogWrite, LogFilter, LogClose, LogFini, NtfSend, NtfSubscribe, NtfUnsubscribe, ReaderStart, ReaderRead, ReaderEnd, NtfFini}
use Rattle.script_language.specs.Asks.{IsInit, IsOpen, IsWrite, IsClose, IsFilter, log_forms, IsSend, IsSubscribe, IsUnsubscribe, IsReader, IsRead, ntf_forms}
use Rattle.script_language.specs.AskReading.{init_at, open_at, write_at, close_at, filter_at, log_readers, send_at, subscribe_at, unsubscribe_at, reader_at, read_at, ntf_readers}
use Rattle.script_grammar.proofs.Rules.Beginning.{Ends, Begins}
use Rattle.script_grammar.proofs.Rules.{Beginning, Rule, TableRule, known_rule, word_rule, part_rule, no_form_rule, form_rule, maybe_part_rule, unless_part_rule, anything}
use Rattle.script_language.proofs.ValueRules.{number32_rule, number64_rule, signed64_rule, version_rule, quoted_rule}
use Rattle.script_language.proofs.NoteRules.{note_rule, kind_starts}
use Rattle.script_language.proofs.FilterRules.{filters_rule}
use Rattle.script_language.proofs.StreamRules.{stream_rule, attrs_rule, header_rule, stream_starts}
use Rattle.ais_values.specs.declared.kind.Which.TheVariants as service

pub init_rule : (service : Which) → Rule (init_at service) (IsInit service) (Ends ∷ []) anything
unfolding init_at IsInit
init_rule service =
    part_rule version_rule (λ version.
    known_rule (Start service version)) refl

pub open_rule : Rule open_at IsOpen (Ends ∷ []) stream_starts
unfolding open_at IsOpen
open_rule =
    part_rule stream_rule (λ stream.
    maybe_part_rule (codes " create file=") attrs_rule (λ create.
    known_rule (Plain (LogOpen stream create))) refl) refl

pub write_rule : Rule write_at IsWrite (Ends ∷ []) stream_starts
unfolding write_at IsWrite
write_rule =
    part_rule stream_rule (λ stream.
    word_rule (codes " inv=") refl (part_rule number64_rule (λ invocation.
    word_rule (codes " flags=") refl (part_rule number32_rule (λ flags.
    unless_part_rule unknown_time (codes " time=") signed64_rule (λ time.
    part_rule header_rule (λ header.
    word_rule (codes " body=") refl (part_rule quoted_rule (λ body.
    known_rule (Plain (LogWrite stream invocation flags time header body))) refl)) refl) refl) refl)) refl)) refl

pub close_rule : Rule close_at IsClose (Ends ∷ []) stream_starts
unfolding close_at IsClose
close_rule =
    part_rule stream_rule (λ stream.
    known_rule (Plain (LogClose stream))) refl

pub filter_rule : Rule filter_at IsFilter (Ends ∷ []) stream_starts
unfolding filter_at IsFilter
filter_rule =
    part_rule stream_rule (λ stream.
    word_rule (codes " mask=") refl (part_rule number32_rule (λ mask.
    known_rule (Plain (LogFilter stream mask))) refl)) refl

abbrev pub log_starts : List Beginning
log_starts = Begins (codes "init ") ∷ Begins (codes "open ") ∷ Begins (codes "write ") ∷ Begins (codes "close ") ∷ Begins (codes "filter ") ∷ Begins (codes "fini") ∷ []

pub log_table : TableRule log_readers log_forms (Ends ∷ []) log_starts
log_table =
    form_rule (codes "init ") (init_rule service.Log) (
    form_rule (codes "open ") open_rule (
    form_rule (codes "write ") write_rule (
    form_rule (codes "close ") close_rule (
    form_rule (codes "filter ") filter_rule (
    form_rule (codes "fini") (known_rule (Plain LogFini)) no_form_rule refl) refl) refl) refl) refl) refl

pub send_rule : Rule send_at IsSend (Ends ∷ []) kind_starts
unfolding send_at IsSend
send_rule =
    part_rule note_rule (λ note.
    known_rule (Plain (NtfSend note))) refl

pub subscribe_rule : Rule subscribe_at IsSubscribe (Ends ∷ []) anything
unfolding subscribe_at IsSubscribe
subscribe_rule =
    part_rule number32_rule (λ id.
    part_rule filters_rule (λ filters.
    known_rule (Plain (NtfSubscribe id filters))) refl) refl

pub unsubscribe_rule : Rule unsubscribe_at IsUnsubscribe (Ends ∷ []) anything
unfolding unsubscribe_at IsUnsubscribe
unsubscribe_rule =
    part_rule number32_rule (λ id.
    known_rule (Plain (NtfUnsubscribe id))) refl

pub reader_rule : Rule reader_at IsReader (Ends ∷ []) anything
unfolding reader_at IsReader
reader_rule =
    part_rule number32_rule (λ mode.
    word_rule (codes " value=") refl (part_rule signed64_rule (λ value.
    part_rule filters_rule (λ filters.
    known_rule (Plain (ReaderStart mode value filters))) refl) refl)) refl

pub read_rule : Rule read_at IsRead (Ends ∷ []) anything
unfolding read_at IsRead
read_rule =
    part_rule number32_rule (λ direction.
    known_rule (Plain (ReaderRead direction))) refl

abbrev pub ntf_starts : List Beginning
ntf_starts = Begins (codes "init ") ∷ Begins (codes "send ") ∷ Begins (codes "subscribe ") ∷ Begins (codes "unsubscribe ") ∷ Begins (codes "reader mode=") ∷ Begins (codes "read ") ∷ Begins (codes "endread") ∷ Begins (codes "fini") ∷ []

pub ntf_table : TableRule ntf_readers ntf_forms (Ends ∷ []) ntf_starts
ntf_table =
    form_rule (codes "init ") (init_rule service.Ntf) (
    form_rule (codes "send ") send_rule (
    form_rule (codes "subscribe ") subscribe_rule (
    form_rule (codes "unsubscribe ") unsubscribe_rule (
    form_rule (codes "reader mode=") reader_rule (
    form_rule (codes "read ") read_rule (
    form_rule (codes "endread") (known_rule (Plain ReaderEnd)) (
    form_rule (codes "fini") (known_rule (Plain NtfFini)) no_form_rule refl) refl) refl) refl) refl) refl) refl) refl
