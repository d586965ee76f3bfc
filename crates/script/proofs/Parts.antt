-- Readers that read some of their parts by readers of these alone.
use Rattle.std.proofs.Common.{◌≡◌, ◌∙◌, ℕ, List, Option, Some, None, refl}
use Rattle.std.specs.Prelude.{option_and_then, codes}
use Rattle.ais_values.specs.Times.{unknown_time}
use Rattle.ais_values.specs.declared.kind.ClassId.{ClassId}
use Rattle.ais_values.specs.declared.kind.Version.{Version}
use Rattle.ais_values.specs.declared.kind.StreamKind.TheVariants as kinds
use Rattle.calls.specs.declared.call.Ask.{Ask}
use Rattle.calls.specs.declared.call.Ask.TheVariants.{Plain}
use Rattle.calls.specs.declared.call.Call.TheVariants.{LogWrite}
use Rattle.ntf_filters.specs.declared.filter.Filter.{Filter}
use Rattle.ntf_types.specs.declared.value.StateChange.{StateChange}
use Rattle.ntf_types.specs.declared.value.Change.{Change}
use Rattle.ntf_types.specs.declared.value.Pair.{Pair}
use Rattle.ntf_types.specs.declared.notification.Body.{Body}
use Rattle.ntf_types.specs.declared.notification.Body.TheVariants as body
use Rattle.record_print.specs.declared.record.Header.{Header}
use Rattle.record_print.specs.declared.record.Header.TheVariants.{Ntf, Generic}
use Rattle.stream_config.specs.WellKnown.{default_format}
use Rattle.stream_config.specs.declared.attrs.StreamAttrs.{StreamAttrs}
use Rattle.stream_config.specs.declared.attrs.StreamName.{StreamName}
use Rattle.script_lines.specs.declared.note.Heading.{Heading}
use Rattle.script_grammar.specs.Reading.{known, word, part, maybe, unless, maybe_list, skipped}
use Rattle.script_grammar.specs.ValueReading.{hex_word_at, quoted_at}
use Rattle.script_language.specs.ValueReading.{number8_at, number16_at, number32_at, number64_at, signed64_at, quoted_name_at, release_at, version_at, class_at, value_at, pair_at, change_at, state_change_at}
use Rattle.script_language.specs.StreamReading.{full_action_at, stream_at, header_at, attrs_at, generic_at, notified_at}
use Rattle.script_language.specs.Values.{version_of, class_of, pair_of, change_of, state_change_of}
use Rattle.script_language.specs.Streams.{attrs_of}
use Rattle.script_language.specs.Notes.{heading_of}
use Rattle.script_language.specs.Filters.{filter_of}
use Rattle.script_language.specs.FilterReading.{filter_at}
use Rattle.script_language.specs.NoteReading.{heading_at, objects_at, attributes_at, states_at, alarm_at, security_at}
use Rattle.script_language.specs.AskReading.{write_at}
use Rattle.script.specs.declared.streams.Bounds.{Bounds}
use Rattle.script.specs.declared.asks.WriteOptions.{WriteOptions}
use Rattle.script.specs.declared.values.Origin.{Origin}
use Rattle.script.specs.declared.filters.Subjects.{Subjects}
use Rattle.script.specs.declared.filters.Reasons.{Reasons}
use Rattle.script.specs.Parts.{bounds_at, write_options_at, class_time_at, origin_of, origin_at, cause_and_severity_at, subjects_of, subjects_at, reasons_at}

-- Reading is what one reader reads, and then what another reads by that.
record Splits {B X : Type 0} (whole : List ℕ → Option (X × List ℕ)) (first : List ℕ → Option (B × List ℕ)) (next : B → List ℕ → Option (X × List ℕ)) : Type 0 where
  same : (bytes : List ℕ) → whole bytes ≡ part first next bytes

-- Two readers read the same.
record Alike {X : Type 0} (one other : List ℕ → Option (X × List ℕ)) : Type 0 where
  same : (bytes : List ℕ) → one bytes ≡ other bytes

-- the first reader reads a value more
part_by : {A B X : Type 0} (at : List ℕ → Option (A × List ℕ)) {whole : A → List ℕ → Option (X × List ℕ)} {first : A → List ℕ → Option (B × List ℕ)} {next : B → List ℕ → Option (X × List ℕ)}
    → ((a : A) → Splits (whole a) (first a) next) → Splits (part at whole) (part at first) next
part_by {A} {B} {X} at {whole} {first} {next} h = record {
  same = λ bytes.
      let by : (o : Option (A × List ℕ)) → option_and_then (λ f. whole f.0 f.1) o ≡ option_and_then (λ f. next f.0 f.1) (option_and_then (λ f. first f.0 f.1) o) = elim [
        | None ↦ refl
        | Some found ↦ (h found.0).same found.1
      ] in
      by (at bytes);
}

-- a word and a value more
word_by : {A B X : Type 0} (w : List ℕ) (at : List ℕ → Option (A × List ℕ)) {whole : A → List ℕ → Option (X × List ℕ)} {first : A → List ℕ → Option (B × List ℕ)} {next : B → List ℕ → Option (X × List ℕ)}
    → ((a : A) → Splits (whole a) (first a) next) → Splits (word w (part at whole)) (part (word w at) first) next
word_by {A} {B} {X} w at {whole} {first} {next} h = record {
  same = λ bytes.
      let by : (o : Option (List ℕ)) → option_and_then (part at whole) o ≡ option_and_then (λ f. next f.0 f.1) (option_and_then (λ f. first f.0 f.1) (option_and_then at o)) = elim [
        | None ↦ refl
        | Some rest ↦ (part_by at {whole = whole} {first = first} {next = next} h).same rest
      ] in
      by (skipped w bytes);
}

-- what follows a value is read alike
part_alike : {A X : Type 0} (at : List ℕ → Option (A × List ℕ)) {one other : A → List ℕ → Option (X × List ℕ)} → ((a : A) → Alike (one a) (other a)) → Alike (part at one) (part at other)
part_alike {A} {X} at {one} {other} h = record {
  same = λ bytes.
      let by : (o : Option (A × List ℕ)) → option_and_then (λ f. one f.0 f.1) o ≡ option_and_then (λ f. other f.0 f.1) o = elim [
        | None ↦ refl
        | Some found ↦ (h found.0).same found.1
      ] in
      by (at bytes);
}

-- a word and a value are read as one
word_alike : {A X : Type 0} (w : List ℕ) (at : List ℕ → Option (A × List ℕ)) {one other : A → List ℕ → Option (X × List ℕ)} → ((a : A) → Alike (one a) (other a)) → Alike (word w (part at one)) (part (word w at) other)
word_alike {A} {X} w at {one} {other} h = record {
  same = λ bytes.
      let by : (o : Option (List ℕ)) → option_and_then (part at one) o ≡ option_and_then (λ f. other f.0 f.1) (option_and_then at o) = elim [
        | None ↦ refl
        | Some rest ↦ (part_alike at {one = one} {other = other} h).same rest
      ] in
      by (skipped w bytes);
}

split : {B X : Type 0} {whole : List ℕ → Option (X × List ℕ)} {first : List ℕ → Option (B × List ℕ)} {next : B → List ℕ → Option (X × List ℕ)} → Splits whole first next → Alike whole (part first next)
split s = record { same = s.same }

-- the first reader is done
done_by : {B X : Type 0} {whole : List ℕ → Option (X × List ℕ)} {b : B} {next : B → List ℕ → Option (X × List ℕ)} → Alike whole (next b) → Splits whole (known b) next
done_by h = record { same = h.same }

-- the first reader makes a value of what it reads
made_by : {A B X : Type 0} {whole : List ℕ → Option (X × List ℕ)} {first : List ℕ → Option (A × List ℕ)} (made : A → B) {next : B → List ℕ → Option (X × List ℕ)}
    → Splits whole first (λ a. next (made a)) → Splits whole (part first (λ a. known (made a))) next
made_by {A} {B} {X} {whole} {first} made {next} h = record {
  same = λ bytes.
      let by : (o : Option (A × List ℕ)) → option_and_then (λ f. next (made f.0) f.1) o ≡ option_and_then (λ f. next f.0 f.1) (option_and_then (λ f. known (made f.0) f.1) o) = elim [
        | None ↦ refl
        | Some found ↦ refl
      ] in
      h.same bytes ∙ by (first bytes);
}

plain : {X : Type 0} {read : List ℕ → Option (X × List ℕ)} → Alike read read
plain = record { same = λ rest. refl }

abbrev attrs_next : List ℕ → List ℕ → Bounds → List ℕ → Option (StreamAttrs × List ℕ)
attrs_next file path bounds =
    part (unless (default_format kinds.Application) (codes " fmt=") quoted_at)
    (λ expr. known (attrs_of file path bounds.max_file bounds.record_size bounds.ha bounds.action bounds.rotated expr))

abbrev pub attrs_parts : List ℕ → Option (StreamAttrs × List ℕ)
attrs_parts = part quoted_at (λ file. part (word (codes " path=") quoted_at) (λ path. part bounds_at (attrs_next file path)))

attrs_alike : Alike attrs_at attrs_parts
unfolding attrs_at bounds_at
attrs_alike =
    part_alike quoted_at (λ file. word_alike (codes " path=") quoted_at (λ path. split {next = attrs_next file path}
    (word_by (codes " max=") number64_at (λ max_file. word_by (codes " rec=") number32_at (λ record_size. word_by (codes " ha=") number8_at (λ ha.
    word_by (codes " full=") full_action_at (λ action. word_by (codes " rot=") number32_at (λ rotated. done_by plain))))))))

pub attrs_by : (bytes : List ℕ) → attrs_at bytes ≡ attrs_parts bytes
attrs_by = attrs_alike.same

abbrev write_next : StreamName → WriteOptions → List ℕ → Option (Ask × List ℕ)
write_next stream options =
    part header_at (λ header. part (word (codes " body=") quoted_at)
    (λ body. known (Plain (LogWrite stream options.invocation options.flags options.time header body))))

abbrev pub write_parts : List ℕ → Option (Ask × List ℕ)
write_parts = part stream_at (λ stream. part write_options_at (write_next stream))

write_alike : Alike write_at write_parts
unfolding write_at write_options_at
write_alike =
    part_alike stream_at (λ stream. split {next = write_next stream} (word_by (codes " inv=") number64_at (λ invocation. word_by (codes " flags=") number32_at (λ flags.
    part_by (unless unknown_time (codes " time=") signed64_at) (λ time.
    done_by (part_alike header_at (λ header. word_alike (codes " body=") quoted_at (λ body. plain))))))))

pub write_by : (bytes : List ℕ) → write_at bytes ≡ write_parts bytes
write_by = write_alike.same

abbrev pub generic_parts : List ℕ → Option (Header × List ℕ)
generic_parts =
    part number16_at (λ severity. part (word (codes " class=") class_at) (λ class. part (word (codes " user=") quoted_name_at) (λ user. known (Generic class user severity))))

generic_alike : Alike generic_at generic_parts
unfolding generic_at
generic_alike =
    part_alike number16_at (λ severity. word_alike (codes " class=") class_at (λ class. word_alike (codes " user=") quoted_name_at (λ user. plain)))

pub generic_by : (bytes : List ℕ) → generic_at bytes ≡ generic_parts bytes
generic_by = generic_alike.same

abbrev notified_next : ℕ → Origin → List ℕ → Option (Header × List ℕ)
notified_next id origin = known (Ntf id origin.event_type origin.object origin.notifier origin.class origin.event_time)

abbrev pub notified_parts : List ℕ → Option (Header × List ℕ)
notified_parts = part number64_at (λ id. part (origin_at (codes " evtime=")) (notified_next id))

notified_alike : Alike notified_at notified_parts
unfolding notified_at origin_at class_time_at
notified_alike =
    part_alike number64_at (λ id. split {next = notified_next id} (word_by (codes " type=") hex_word_at (λ event_type. word_by (codes " obj=") quoted_name_at (λ object. word_by (codes " by=") quoted_name_at (λ notifier.
    made_by (λ told. origin_of event_type object notifier told.0 told.1) (word_by (codes " class=") class_at (λ class. part_by (unless unknown_time (codes " evtime=") signed64_at) (λ time. done_by plain))))))))

pub notified_by : (bytes : List ℕ) → notified_at bytes ≡ notified_parts bytes
notified_by = notified_alike.same

abbrev heading_next : Origin → List ℕ → Option (Heading × List ℕ)
heading_next origin =
    part (maybe_list (codes " corr=") number64_at) (λ correlated.
    part (word (codes " text=") quoted_at) (λ text.
    part (maybe_list (codes " info=") pair_at) (λ info.
    known (heading_of origin.event_type origin.object origin.notifier origin.class origin.event_time correlated text info))))

abbrev pub heading_parts : List ℕ → Option (Heading × List ℕ)
heading_parts = part (origin_at (codes " time=")) heading_next

heading_alike : Alike heading_at heading_parts
unfolding heading_at origin_at class_time_at
heading_alike =
    split {next = heading_next} (word_by (codes " type=") hex_word_at (λ event_type. word_by (codes " obj=") quoted_name_at (λ object. word_by (codes " by=") quoted_name_at (λ notifier.
    made_by (λ told. origin_of event_type object notifier told.0 told.1) (word_by (codes " class=") class_at (λ class. part_by (unless unknown_time (codes " time=") signed64_at) (λ time. done_by (part_alike (maybe_list (codes " corr=") number64_at) (λ correlated. word_alike (codes " text=") quoted_at (λ text. plain))))))))))

pub heading_by : (bytes : List ℕ) → heading_at bytes ≡ heading_parts bytes
heading_by = heading_alike.same

abbrev pub objects_parts : List ℕ → Option (Body × List ℕ)
objects_parts = part (word (codes " source=") number16_at) (λ source. part (maybe_list (codes " attrs=") pair_at) (λ attrs. known (body.Objects source attrs)))

objects_alike : Alike objects_at objects_parts
unfolding objects_at
objects_alike = word_alike (codes " source=") number16_at (λ source. plain)

pub objects_by : (bytes : List ℕ) → objects_at bytes ≡ objects_parts bytes
objects_by = objects_alike.same

abbrev pub attributes_parts : List ℕ → Option (Body × List ℕ)
attributes_parts = part (word (codes " source=") number16_at) (λ source. part (maybe_list (codes " changes=") change_at) (λ changes. known (body.Attributes source changes)))

attributes_alike : Alike attributes_at attributes_parts
unfolding attributes_at
attributes_alike = word_alike (codes " source=") number16_at (λ source. plain)

pub attributes_by : (bytes : List ℕ) → attributes_at bytes ≡ attributes_parts bytes
attributes_by = attributes_alike.same

abbrev pub states_parts : List ℕ → Option (Body × List ℕ)
states_parts = part (word (codes " source=") number16_at) (λ source. part (maybe_list (codes " changes=") state_change_at) (λ changes. known (body.States source changes)))

states_alike : Alike states_at states_parts
unfolding states_at
states_alike = word_alike (codes " source=") number16_at (λ source. plain)

pub states_by : (bytes : List ℕ) → states_at bytes ≡ states_parts bytes
states_by = states_alike.same

abbrev alarm_next : ℕ × ℕ → List ℕ → Option (Body × List ℕ)
alarm_next told = known (body.Alarm told.0 told.1)

alarm_alike : Alike alarm_at (part cause_and_severity_at alarm_next)
unfolding alarm_at cause_and_severity_at
alarm_alike = split {next = alarm_next} (word_by (codes " cause=") number16_at (λ cause. word_by (codes " sev=") number16_at (λ severity. done_by plain)))

pub alarm_by : (bytes : List ℕ) → alarm_at bytes ≡ part cause_and_severity_at alarm_next bytes
alarm_by = alarm_alike.same

abbrev security_next : ℕ × ℕ → List ℕ → Option (Body × List ℕ)
security_next told =
    part (word (codes " detector=") value_at) (λ detector.
    part (word (codes " user=") value_at) (λ user.
    part (word (codes " provider=") value_at) (λ provider.
    known (body.Security told.0 told.1 detector user provider))))

security_alike : Alike security_at (part cause_and_severity_at security_next)
unfolding security_at cause_and_severity_at
security_alike =
    split {next = security_next} (word_by (codes " cause=") number16_at (λ cause. word_by (codes " sev=") number16_at (λ severity.
    done_by (word_alike (codes " detector=") value_at (λ detector. word_alike (codes " user=") value_at (λ user. word_alike (codes " provider=") value_at (λ provider. plain)))))))

pub security_by : (bytes : List ℕ) → security_at bytes ≡ part cause_and_severity_at security_next bytes
security_by = security_alike.same

abbrev filter_next : Subjects → Reasons → List ℕ → Option (Filter × List ℕ)
filter_next subjects reasons =
    known (filter_of subjects.types subjects.objects subjects.notifiers subjects.classes reasons.sources reasons.causes reasons.severities)

abbrev pub filter_parts : List ℕ → Option (Filter × List ℕ)
filter_parts = part subjects_at (λ subjects. part reasons_at (filter_next subjects))

filter_alike : Alike filter_at filter_parts
unfolding filter_at subjects_at reasons_at
filter_alike =
    split {next = λ subjects. part reasons_at (filter_next subjects)}
    (part_by (maybe_list (codes " types=") hex_word_at) (λ types. part_by (maybe_list (codes " objs=") quoted_name_at) (λ objects.
    part_by (maybe_list (codes " bys=") quoted_name_at) (λ notifiers. part_by (maybe_list (codes " classes=") class_at) (λ classes.
    done_by (split {next = filter_next (subjects_of types objects notifiers classes)}
    (part_by (maybe_list (codes " sources=") number16_at) (λ sources. part_by (maybe_list (codes " causes=") number16_at) (λ causes.
    part_by (maybe_list (codes " sevs=") number16_at) (λ severities. done_by plain))))))))))

pub filter_by : (bytes : List ℕ) → filter_at bytes ≡ filter_parts bytes
filter_by = filter_alike.same

abbrev pub version_parts : List ℕ → Option (Version × List ℕ)
version_parts =
    part release_at (λ release. part (word (codes ".") number8_at) (λ major. part (word (codes ".") number8_at) (λ minor. known (version_of release major minor))))

version_alike : Alike version_at version_parts
unfolding version_at
version_alike = part_alike release_at (λ release. word_alike (codes ".") number8_at (λ major. word_alike (codes ".") number8_at (λ minor. plain)))

pub version_by : (bytes : List ℕ) → version_at bytes ≡ version_parts bytes
version_by = version_alike.same

abbrev pub class_parts : List ℕ → Option (ClassId × List ℕ)
class_parts =
    part number32_at (λ vendor. part (word (codes ".") number16_at) (λ major. part (word (codes ".") number16_at) (λ minor. known (class_of vendor major minor))))

class_alike : Alike class_at class_parts
unfolding class_at
class_alike = part_alike number32_at (λ vendor. word_alike (codes ".") number16_at (λ major. word_alike (codes ".") number16_at (λ minor. plain)))

pub class_by : (bytes : List ℕ) → class_at bytes ≡ class_parts bytes
class_by = class_alike.same

abbrev pub pair_parts : List ℕ → Option (Pair × List ℕ)
pair_parts = part number16_at (λ id. part (word (codes ":") value_at) (λ value. known (pair_of id value)))

pair_alike : Alike pair_at pair_parts
unfolding pair_at
pair_alike = part_alike number16_at (λ id. word_alike (codes ":") value_at (λ value. plain))

pub pair_by : (bytes : List ℕ) → pair_at bytes ≡ pair_parts bytes
pair_by = pair_alike.same

abbrev pub change_parts : List ℕ → Option (Change × List ℕ)
change_parts =
    part number16_at (λ id. part (word (codes ":") value_at) (λ after. part (maybe (codes "<") value_at) (λ before. known (change_of id after before))))

change_alike : Alike change_at change_parts
unfolding change_at
change_alike = part_alike number16_at (λ id. word_alike (codes ":") value_at (λ after. plain))

pub change_by : (bytes : List ℕ) → change_at bytes ≡ change_parts bytes
change_by = change_alike.same

abbrev pub state_change_parts : List ℕ → Option (StateChange × List ℕ)
state_change_parts =
    part number16_at (λ id. part (word (codes ":") number16_at) (λ after. part (maybe (codes "<") number16_at) (λ before. known (state_change_of id after before))))

state_change_alike : Alike state_change_at state_change_parts
unfolding state_change_at
state_change_alike = part_alike number16_at (λ id. word_alike (codes ":") number16_at (λ after. plain))

pub state_change_by : (bytes : List ℕ) → state_change_at bytes ≡ state_change_parts bytes
state_change_by = state_change_alike.same
