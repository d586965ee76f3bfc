-- The lines of a turn with numbers.
use Rattle.std.proofs.Common.{◌≡◌, ℕ, ◌^◌, ◌%◌, ◌<◌, List, [], ◌∷◌, ◌++◌, inl, inr, refl, ap, sym, ◌∙◌, arith, append-nil, append_assoc}
use Rattle.std.specs.Prelude.{pos, codes}
use Rattle.std.specs.Fmt.{decimal}
use Rattle.std.proofs.lemmas.Int.{ints}
use Rattle.ais_values.specs.Times.{unknown_time}
use Rattle.stream_config.specs.declared.attrs.StreamName.TheVariants as stream
use Rattle.record_print.specs.declared.record.Header.TheVariants.{Generic}
use Rattle.ntf_types.specs.declared.notification.Body.TheVariants as body
use Rattle.calls.specs.declared.call.Ask.{Ask}
use Rattle.calls.specs.declared.call.Ask.TheVariants.{Plain}
use Rattle.calls.specs.declared.call.Call.TheVariants.{LogWrite, NtfSend}
use Rattle.script_lines.specs.declared.note.NoteKind.TheVariants as kind
use Rattle.script_language.specs.Asks.{IsSend, IsWrite}
use Rattle.script_language.specs.Lines.{IsLogAsk, IsLogLine, IsNtfAsk, IsNtfLine, Spells}
use Rattle.script_language.specs.Notes.{IsAlarm, IsHeading, IsNote, IsNoteKind, heading_of}
use Rattle.script_language.specs.Streams.{IsGeneric, IsHeader}
use Rattle.load_script.specs.Texts.{alarm_line, record_line}
use Rattle.load_lines.specs.Lines.{alarm, alarm_sent, no_class, record_written}
use Rattle.load_lines.proofs.Fixed.{system-spelled}
use Rattle.load_lines.proofs.Words.{class-spelled, name-letter, quoted-letter, quoted-number, small-number}

-- A record.

-- the text behind a severity, and behind a header
abbrev user_text : List ℕ
user_text = codes " class=0.0.0 user=\"g\""

abbrev body_text : (number : ℕ) → List ℕ
body_text number = 34 ∷ decimal number ++ 34 ∷ []

abbrev header_text : (severity : ℕ) → List ℕ
header_text severity = codes " gen sev=" ++ (decimal severity ++ user_text)

-- the text behind the flags, behind `write `, and the whole line
abbrev record_rest : (number : ℕ) → List ℕ
record_rest number = codes " gen sev=" ++ (decimal (number % 7) ++ (user_text ++ (codes " body=" ++ body_text number)))

abbrev write_text : (turn number : ℕ) → List ℕ
write_text turn number = codes "system inv=" ++ (decimal turn ++ (codes " flags=0" ++ record_rest number))

abbrev pub record_raw : (turn number : ℕ) → List ℕ
record_raw turn number = codes "log 1 write " ++ write_text turn number

header-spelled : (severity : ℕ) → severity < 7 → IsHeader (Generic no_class (codes "g") severity) (header_text severity)
unfolding IsHeader IsGeneric
header-spelled severity small =
    inl (
      decimal severity ++ user_text,
      refl,
      (
        severity,
        decimal severity,
        user_text,
        refl,
        (omega arith, omega arith, refl),
        (
          codes "0.0.0 user=\"g\"",
          refl,
          (
            no_class,
            codes "0.0.0",
            codes " user=\"g\"",
            refl,
            class-spelled,
            (codes "\"g\"", refl, (codes "g", codes "\"g\"", [], refl, name-letter 103 (omega arith) (omega arith), (refl, refl))),
          ),
        ),
      ),
    )

write-spelled : (turn number : ℕ) → turn < 2 ^ 64 → number < 65536 → IsWrite (Plain (LogWrite stream.System turn 0 unknown_time (Generic no_class (codes "g") (number % 7)) (decimal number))) (write_text turn number)
unfolding IsWrite
write-spelled turn number few small =
    let severity = number % 7 in
    let rest = record_rest number in
    let behind = codes " body=" ++ body_text number in (
      stream.System,
      codes "system",
      codes " inv=" ++ (decimal turn ++ (codes " flags=0" ++ rest)),
      refl,
      system-spelled,
      (
        decimal turn ++ (codes " flags=0" ++ rest),
        refl,
        (
          turn,
          decimal turn,
          codes " flags=0" ++ rest,
          refl,
          (omega arith, omega arith, refl),
          (
            codes "0" ++ rest,
            refl,
            (
              0,
              codes "0",
              rest,
              refl,
              small-number 0 0 4294967295 (omega arith) (omega arith) (omega arith),
              (
                unknown_time,
                [],
                rest,
                refl,
                inl (refl, refl),
                (
                  Generic no_class (codes "g") severity,
                  header_text severity,
                  behind,
                  ap (λ text. codes " gen sev=" ++ text) (sym (append_assoc (decimal severity) user_text behind)),
                  header-spelled severity (omega arith),
                  (body_text number, refl, (decimal number, body_text number, [], sym (append-nil (body_text number)), quoted-number number (omega arith), (refl, refl))),
                ),
              ),
            ),
          ),
        ),
      ),
    )

pub record-spelled : (turn number : ℕ) → turn < 2 ^ 64 → number < 65536 → Spells (record_written turn number) (record_raw turn number)
unfolding Spells IsLogLine IsLogAsk
record-spelled turn number few small =
    let asked = codes "write " ++ write_text turn number in
    let ask : Ask = Plain (LogWrite stream.System turn 0 unknown_time (Generic no_class (codes "g") (number % 7)) (decimal number)) in
    inl (
      codes "1 " ++ asked,
      refl,
      (
        1,
        codes "1",
        codes " " ++ asked,
        refl,
        small-number 1 1 4096 (omega arith) (omega arith) (omega arith),
        (asked, refl, (ask, asked, [], sym (append-nil asked), inr (inr (inl (write_text turn number, refl, write-spelled turn number few small))), (refl, refl))),
      ),
    )

-- its line has a line feed behind it
pub record-ended : (turn number : ℕ) → record_raw turn number ++ 10 ∷ [] ≡ record_line turn number
record-ended turn number =
    let feed : List ℕ = 10 ∷ [] in
    let severity = number % 7 in
    let last = codes "\"" in
    let behind = codes " class=0.0.0 user=\"g\" body=\"" ++ (decimal number ++ last) in
    ap (λ text. codes "log 1 write system inv=" ++ text)
    (append_assoc (decimal turn) (codes " flags=0" ++ record_rest number) feed
    ∙ ap (λ text. decimal turn ++ (codes " flags=0 gen sev=" ++ text))
    (append_assoc (decimal severity) behind feed
    ∙ ap (λ text. decimal severity ++ (codes " class=0.0.0 user=\"g\" body=\"" ++ text)) (append_assoc (decimal number) last feed)))

-- An alarm.

abbrev told_text : (severity : ℕ) → List ℕ
told_text severity = codes " cause=0 sev=" ++ decimal severity

abbrev words_text : List ℕ
words_text = codes " text=\"t\""

-- the text of a time, and what stands before it
abbrev time_rest : (number : ℕ) (behind : List ℕ) → List ℕ
time_rest number behind = codes " time=" ++ (decimal number ++ behind)

abbrev heading_text : (number : ℕ) → List ℕ
heading_text number = codes " type=0x4001 obj=\"g\" by=\"g\" class=0.0.0" ++ time_rest number words_text

abbrev alarm_text : (number : ℕ) → List ℕ
alarm_text number = codes "alarm type=0x4001 obj=\"g\" by=\"g\" class=0.0.0" ++ time_rest number (words_text ++ told_text (number % 6))

abbrev pub alarm_raw : (number : ℕ) → List ℕ
alarm_raw number = codes "ntf 2 send " ++ alarm_text number

heading-spelled : (number : ℕ) → number < 65536 → IsHeading (heading_of 16385 (codes "g") (codes "g") no_class (pos number) [] (codes "t") []) (heading_text number)
unfolding IsHeading
heading-spelled number small =
    let rest = time_rest number words_text in (
      codes "0x4001 obj=\"g\" by=\"g\" class=0.0.0" ++ rest,
      refl,
      (
        16385,
        codes "0x4001",
        codes " obj=\"g\" by=\"g\" class=0.0.0" ++ rest,
        refl,
        (omega arith, refl),
        (
          codes "\"g\" by=\"g\" class=0.0.0" ++ rest,
          refl,
          (
            codes "g",
            codes "\"g\"",
            codes " by=\"g\" class=0.0.0" ++ rest,
            refl,
            name-letter 103 (omega arith) (omega arith),
            (
              codes "\"g\" class=0.0.0" ++ rest,
              refl,
              (
                codes "g",
                codes "\"g\"",
                codes " class=0.0.0" ++ rest,
                refl,
                name-letter 103 (omega arith) (omega arith),
                (
                  codes "0.0.0" ++ rest,
                  refl,
                  (
                    no_class,
                    codes "0.0.0",
                    rest,
                    refl,
                    class-spelled,
                    (
                      pos number,
                      codes " time=" ++ decimal number,
                      words_text,
                      refl,
                      inr (pos number, decimal number, refl, refl, (omega (arith, ints), omega (arith, ints), (number, inl (refl, refl)))),
                      (
                        [],
                        [],
                        words_text,
                        refl,
                        inl (refl, refl),
                        (codes "\"t\"", refl, (codes "t", codes "\"t\"", [], refl, quoted-letter 116 (omega arith) (omega arith), ([], [], [], refl, inl (refl, refl), (refl, refl)))),
                      ),
                    ),
                  ),
                ),
              ),
            ),
          ),
        ),
      ),
    )

told-spelled : (severity : ℕ) → severity < 6 → IsAlarm (body.Alarm 0 severity) (told_text severity)
unfolding IsAlarm
told-spelled severity small = (
  codes "0 sev=" ++ decimal severity,
  refl,
  (
    0,
    codes "0",
    codes " sev=" ++ decimal severity,
    refl,
    small-number 0 0 65535 (omega arith) (omega arith) (omega arith),
    (decimal severity, refl, (severity, decimal severity, [], sym (append-nil (decimal severity)), (omega arith, omega arith, refl), (refl, refl))),
  ),
)

kind-spelled : IsNoteKind kind.Alarm (codes "alarm")
unfolding IsNoteKind
kind-spelled = inr (inr (inr (inl ([], refl, (refl, refl)))))

note-spelled : (number : ℕ) → number < 65536 → IsNote (alarm number) (alarm_text number)
unfolding IsNote
note-spelled number small =
    let told = told_text (number % 6) in
    let front = codes " type=0x4001 obj=\"g\" by=\"g\" class=0.0.0 time=" in (
      kind.Alarm,
      codes "alarm",
      front ++ (decimal number ++ (words_text ++ told)),
      refl,
      kind-spelled,
      (
        heading_of 16385 (codes "g") (codes "g") no_class (pos number) [] (codes "t") [],
        heading_text number,
        told,
        ap (λ text. front ++ text) (sym (append_assoc (decimal number) words_text told)),
        heading-spelled number small,
        (body.Alarm 0 (number % 6), told, [], sym (append-nil told), told-spelled (number % 6) (omega arith), (refl, refl)),
      ),
    )

pub alarm-spelled : (number : ℕ) → number < 65536 → Spells (alarm_sent number) (alarm_raw number)
unfolding Spells IsNtfLine IsNtfAsk IsSend
alarm-spelled number small =
    let asked = codes "send " ++ alarm_text number in
    let ask : Ask = Plain (NtfSend (alarm number)) in
    inr (inl (
      codes "2 " ++ asked,
      refl,
      (
        2,
        codes "2",
        codes " " ++ asked,
        refl,
        small-number 2 1 4096 (omega arith) (omega arith) (omega arith),
        (
          asked,
          refl,
          (
            ask,
            asked,
            [],
            sym (append-nil asked),
            inr (inl (alarm_text number, refl, (alarm number, alarm_text number, [], sym (append-nil (alarm_text number)), note-spelled number small, (refl, refl)))),
            (refl, refl),
          ),
        ),
      ),
    ))

pub alarm-ended : (number : ℕ) → alarm_raw number ++ 10 ∷ [] ≡ alarm_line number
alarm-ended number =
    ap (λ text. codes "ntf 2 send alarm type=0x4001 obj=\"g\" by=\"g\" class=0.0.0 time=" ++ text) (append_assoc (decimal number) (words_text ++ told_text (number % 6)) (10 ∷ []))
