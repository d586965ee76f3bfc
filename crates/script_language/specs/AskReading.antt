-- Words of bodies alone: reading of what clients ask on lists of bytes.
use Rattle.std.specs.Prelude.{ℕ, Option, List, [], ◌∷◌, codes}
use Rattle.ais_values.specs.Times.{unknown_time}
use Rattle.ais_values.specs.declared.kind.Which.{Which}
use Rattle.calls.specs.declared.call.Ask.{Ask}
use Rattle.calls.specs.declared.call.Ask.TheVariants.{Start, Plain}
use Rattle.calls.specs.declared.call.Call.TheVariants.{LogOpen, LogWrite, LogFilter, LogClose, LogFini, NtfSend, NtfSubscribe}
use Rattle.calls.specs.declared.call.Call.TheVariants.{NtfUnsubscribe, ReaderStart, ReaderRead, ReaderEnd, NtfFini}
use Rattle.script_grammar.specs.Reading.{known, word, part, maybe, unless}
use Rattle.script_grammar.specs.ValueReading.{quoted_at}
use Rattle.script_language.specs.ValueReading.{number32_at, number64_at, signed64_at, version_at}
use Rattle.script_language.specs.NoteReading.{note_at}
use Rattle.script_language.specs.FilterReading.{filters_at}
use Rattle.script_language.specs.StreamReading.{stream_at, attrs_at, header_at}
use Rattle.ais_values.specs.declared.kind.Which.TheVariants as service

unfoldable pub init_at : Which → List ℕ → Option (Ask × List ℕ)
init_at service = part version_at (λ version. known (Start service version))

unfoldable pub open_at : List ℕ → Option (Ask × List ℕ)
open_at = part stream_at (λ stream. part (maybe (codes " create file=") attrs_at) (λ create. known (Plain (LogOpen stream create))))

unfoldable pub write_at : List ℕ → Option (Ask × List ℕ)
write_at =
    part stream_at (λ stream.
    word (codes " inv=") (part number64_at (λ invocation.
    word (codes " flags=") (part number32_at (λ flags.
    part (unless unknown_time (codes " time=") signed64_at) (λ time.
    part header_at (λ header.
    word (codes " body=") (part quoted_at (λ body.
    known (Plain (LogWrite stream invocation flags time header body)))))))))))

unfoldable pub close_at : List ℕ → Option (Ask × List ℕ)
close_at = part stream_at (λ stream. known (Plain (LogClose stream)))

unfoldable pub filter_at : List ℕ → Option (Ask × List ℕ)
filter_at = part stream_at (λ stream. word (codes " mask=") (part number32_at (λ mask. known (Plain (LogFilter stream mask)))))

abbrev pub log_readers : List (List ℕ × (List ℕ → Option (Ask × List ℕ)))
log_readers =
    (codes "init ", init_at service.Log)
    ∷ (codes "open ", open_at)
    ∷ (codes "write ", write_at)
    ∷ (codes "close ", close_at)
    ∷ (codes "filter ", filter_at)
    ∷ (codes "fini", known (Plain LogFini))
    ∷ []

unfoldable pub send_at : List ℕ → Option (Ask × List ℕ)
send_at = part note_at (λ note. known (Plain (NtfSend note)))

unfoldable pub subscribe_at : List ℕ → Option (Ask × List ℕ)
subscribe_at = part number32_at (λ id. part filters_at (λ filters. known (Plain (NtfSubscribe id filters))))

unfoldable pub unsubscribe_at : List ℕ → Option (Ask × List ℕ)
unsubscribe_at = part number32_at (λ id. known (Plain (NtfUnsubscribe id)))

unfoldable pub reader_at : List ℕ → Option (Ask × List ℕ)
reader_at =
    part number32_at (λ mode. word (codes " value=") (part signed64_at (λ value. part filters_at
    (λ filters. known (Plain (ReaderStart mode value filters))))))

unfoldable pub read_at : List ℕ → Option (Ask × List ℕ)
read_at = part number32_at (λ direction. known (Plain (ReaderRead direction)))

abbrev pub ntf_readers : List (List ℕ × (List ℕ → Option (Ask × List ℕ)))
ntf_readers =
    (codes "init ", init_at service.Ntf)
    ∷ (codes "send ", send_at)
    ∷ (codes "subscribe ", subscribe_at)
    ∷ (codes "unsubscribe ", unsubscribe_at)
    ∷ (codes "reader mode=", reader_at)
    ∷ (codes "read ", read_at)
    ∷ (codes "endread", known (Plain ReaderEnd))
    ∷ (codes "fini", known (Plain NtfFini))
    ∷ []
