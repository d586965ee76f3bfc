-- Words of public clauses: what clients ask, and how it is spelled.
use Rattle.std.specs.Prelude.{ℕ, List, [], ◌∷◌, codes}
use Rattle.ais_values.specs.Times.{unknown_time}
use Rattle.ais_values.specs.declared.kind.Which.{Which}
use Rattle.ais_values.specs.declared.kind.Which.TheVariants as service
use Rattle.calls.specs.declared.call.Ask.{Ask}
use Rattle.calls.specs.declared.call.Ask.TheVariants.{Start, Plain}
use Rattle.calls.specs.declared.call.Call.TheVariants.{LogOpen, LogWrite, LogFilter, LogClose, LogFini, NtfSend, NtfSubscribe}
use Rattle.calls.specs.declared.call.Call.TheVariants.{NtfUnsubscribe, ReaderStart, ReaderRead, ReaderEnd, NtfFini}
use Rattle.script_grammar.specs.Grammar.{Known, Word, Part, Maybe, Unless}
use Rattle.script_grammar.specs.Values.{IsQuoted}
use Rattle.script_language.specs.Values.{IsNumber32, IsNumber64, IsSigned64, IsVersion}
use Rattle.script_language.specs.Notes.{IsNote}
use Rattle.script_language.specs.Filters.{IsFilters}
use Rattle.script_language.specs.Streams.{IsStream, IsAttrs, IsHeader}

-- init R.M.N
unfoldable pub IsInit : Which → Ask → List ℕ → Type 0
IsInit service = Part IsVersion (λ version. Known (Start service version))

-- open STREAM [create file=..]
unfoldable pub IsOpen : Ask → List ℕ → Type 0
IsOpen = Part IsStream (λ stream. Part (Maybe (codes " create file=") IsAttrs) (λ create. Known (Plain (LogOpen stream create))))

-- write STREAM inv=N flags=N [time=NS] HEADER body="B"
unfoldable pub IsWrite : Ask → List ℕ → Type 0
IsWrite =
    Part IsStream (λ stream.
    Word (codes " inv=") (Part IsNumber64 (λ invocation.
    Word (codes " flags=") (Part IsNumber32 (λ flags.
    Part (Unless unknown_time (codes " time=") IsSigned64) (λ time.
    Part IsHeader (λ header.
    Word (codes " body=") (Part IsQuoted (λ body.
    Known (Plain (LogWrite stream invocation flags time header body)))))))))))

-- close STREAM
unfoldable pub IsClose : Ask → List ℕ → Type 0
IsClose = Part IsStream (λ stream. Known (Plain (LogClose stream)))

-- filter STREAM mask=N
unfoldable pub IsFilter : Ask → List ℕ → Type 0
IsFilter = Part IsStream (λ stream. Word (codes " mask=") (Part IsNumber32 (λ mask. Known (Plain (LogFilter stream mask)))))

-- what a client asks of the Log Service
abbrev pub log_forms : List (List ℕ × (Ask → List ℕ → Type 0))
log_forms =
    (codes "init ", IsInit service.Log)
    ∷ (codes "open ", IsOpen)
    ∷ (codes "write ", IsWrite)
    ∷ (codes "close ", IsClose)
    ∷ (codes "filter ", IsFilter)
    ∷ (codes "fini", Known (Plain LogFini))
    ∷ []

-- send and a notification
unfoldable pub IsSend : Ask → List ℕ → Type 0
IsSend = Part IsNote (λ note. Known (Plain (NtfSend note)))

-- subscribe ID FILTERS
unfoldable pub IsSubscribe : Ask → List ℕ → Type 0
IsSubscribe = Part IsNumber32 (λ id. Part IsFilters (λ filters. Known (Plain (NtfSubscribe id filters))))

-- unsubscribe ID
unfoldable pub IsUnsubscribe : Ask → List ℕ → Type 0
IsUnsubscribe = Part IsNumber32 (λ id. Known (Plain (NtfUnsubscribe id)))

-- reader mode=N value=N FILTERS
unfoldable pub IsReader : Ask → List ℕ → Type 0
IsReader =
    Part IsNumber32 (λ mode. Word (codes " value=") (Part IsSigned64 (λ value. Part IsFilters
    (λ filters. Known (Plain (ReaderStart mode value filters))))))

-- read N
unfoldable pub IsRead : Ask → List ℕ → Type 0
IsRead = Part IsNumber32 (λ direction. Known (Plain (ReaderRead direction)))

-- what a client asks of the Notification Service
abbrev pub ntf_forms : List (List ℕ × (Ask → List ℕ → Type 0))
ntf_forms =
    (codes "init ", IsInit service.Ntf)
    ∷ (codes "send ", IsSend)
    ∷ (codes "subscribe ", IsSubscribe)
    ∷ (codes "unsubscribe ", IsUnsubscribe)
    ∷ (codes "reader mode=", IsReader)
    ∷ (codes "read ", IsRead)
    ∷ (codes "endread", Known (Plain ReaderEnd))
    ∷ (codes "fini", Known (Plain NtfFini))
    ∷ []
