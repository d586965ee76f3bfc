-- That reading is exact: streams, their attributes and headers.
use Rattle.std.proofs.Common.{◌≡◌, ℕ, Bool, true, ◌&&◌, List, [], ◌∷◌, ◌++◌, refl}
use Rattle.std.specs.Prelude.{codes}
use Rattle.ais_values.specs.Times.{unknown_time}
use Rattle.stream_config.specs.declared.attrs.FullAction.TheVariants.{Wrap, Halt, Rotate}
use Rattle.stream_config.specs.declared.attrs.StreamName.TheVariants.{Alarm, Notification, System, App}
use Rattle.stream_config.specs.WellKnown.{default_format}
use Rattle.record_print.specs.declared.record.Header.TheVariants.{Ntf, Generic}
use Rattle.script_language.specs.Streams.{full_forms, IsFullAction, stream_forms, IsStream, IsAttrs, IsGeneric, IsNotified, header_forms, IsHeader, IsOptions, attrs_of, options_of}
use Rattle.script_language.specs.StreamReading.{full_readers, full_action_at, stream_readers, stream_at, attrs_at, generic_at, notified_at, header_readers, header_at, options_at}
use Rattle.script_grammar.proofs.Rules.Beginning.{Ends, Begins}
use Rattle.script_grammar.proofs.Rules.{Beginning, Rule, TableRule, known_rule, word_rule, part_rule, no_form_rule, form_rule, maybe_part_rule, unless_part_rule, within, apart, one_line, separators, anything}
use Rattle.script_language.proofs.ValueRules.{number8_rule, number16_rule, number32_rule, number64_rule, signed64_rule, class_rule, quoted_name_rule, quoted_rule, hex_word_rule}
use Rattle.std.specs.List.{list_all}
use Rattle.ais_values.specs.declared.kind.StreamKind.TheVariants as kinds

-- what follows a header
abbrev pub behind_header : List Beginning
behind_header = Begins (codes " body=") ∷ []

abbrev pub full_starts : List Beginning
full_starts = Begins (codes "wrap") ∷ Begins (codes "halt") ∷ Begins (codes "rotate") ∷ []

full_table : TableRule full_readers full_forms separators full_starts
full_table =
    form_rule (codes "wrap") (known_rule Wrap) (
    form_rule (codes "halt") (known_rule Halt) (
    form_rule (codes "rotate") (known_rule Rotate) no_form_rule refl) refl) refl

pub full_action_rule : Rule full_action_at IsFullAction separators full_starts
unfolding full_action_at IsFullAction
full_action_rule =
    full_table.rule

abbrev pub stream_starts : List Beginning
stream_starts = Begins (codes "alarm") ∷ Begins (codes "notification") ∷ Begins (codes "system") ∷ Begins (codes "app:") ∷ []

stream_table : TableRule stream_readers stream_forms separators stream_starts
stream_table =
    form_rule (codes "alarm") (known_rule Alarm) (
    form_rule (codes "notification") (known_rule Notification) (
    form_rule (codes "system") (known_rule System) (
    form_rule (codes "app:") (part_rule quoted_name_rule (λ name.
    known_rule (App name)) refl) no_form_rule refl) refl) refl) refl

pub stream_rule : Rule stream_at IsStream separators stream_starts
unfolding stream_at IsStream
stream_rule =
    stream_table.rule

pub attrs_rule : Rule attrs_at IsAttrs (Ends ∷ []) anything
unfolding attrs_at IsAttrs
attrs_rule =
    part_rule quoted_rule (λ file.
    word_rule (codes " path=") refl (part_rule quoted_rule (λ path.
    word_rule (codes " max=") refl (part_rule number64_rule (λ max_file.
    word_rule (codes " rec=") refl (part_rule number32_rule (λ record_size.
    word_rule (codes " ha=") refl (part_rule number8_rule (λ ha.
    word_rule (codes " full=") refl (part_rule full_action_rule (λ action.
    word_rule (codes " rot=") refl (part_rule number32_rule (λ rotated.
    unless_part_rule (default_format kinds.Application) (codes " fmt=") quoted_rule (λ expr.
    known_rule (attrs_of file path max_file record_size ha action rotated expr)) refl) refl)) refl)) refl)) refl)) refl)) refl)) refl

pub generic_rule : Rule generic_at IsGeneric behind_header anything
unfolding generic_at IsGeneric
generic_rule =
    part_rule number16_rule (λ severity.
    word_rule (codes " class=") refl (part_rule class_rule (λ class.
    word_rule (codes " user=") refl (part_rule quoted_name_rule (λ user.
    known_rule (Generic class user severity)) refl)) refl)) refl

pub notified_rule : Rule notified_at IsNotified behind_header anything
unfolding notified_at IsNotified
notified_rule =
    part_rule number64_rule (λ id.
    word_rule (codes " type=") refl (part_rule hex_word_rule (λ event_type.
    word_rule (codes " obj=") refl (part_rule quoted_name_rule (λ object.
    word_rule (codes " by=") refl (part_rule quoted_name_rule (λ notifier.
    word_rule (codes " class=") refl (part_rule class_rule (λ class.
    unless_part_rule unknown_time (codes " evtime=") signed64_rule (λ event_time.
    known_rule (Ntf id event_type object notifier class event_time)) refl) refl)) refl)) refl)) refl)) refl

abbrev pub header_starts : List Beginning
header_starts = Begins (codes " gen sev=") ∷ Begins (codes " ntfh id=") ∷ []

header_table : TableRule header_readers header_forms behind_header header_starts
header_table =
    form_rule (codes " gen sev=") generic_rule (
    form_rule (codes " ntfh id=") notified_rule no_form_rule refl) refl

pub header_rule : Rule header_at IsHeader behind_header header_starts
unfolding header_at IsHeader
header_rule =
    header_table.rule

-- how the options of a stream begin, from each on
abbrev rot_starts : List ℕ → List Beginning → List Beginning
rot_starts stream after = Begins (stream ++ codes "rot=") ∷ after

abbrev full_option_starts : List ℕ → List Beginning → List Beginning
full_option_starts stream after = Begins (stream ++ codes "full=") ∷ rot_starts stream after

abbrev max_starts : List ℕ → List Beginning → List Beginning
max_starts stream after = Begins (stream ++ codes "max=") ∷ full_option_starts stream after

abbrev rec_starts : List ℕ → List Beginning → List Beginning
rec_starts stream after = Begins (stream ++ codes "rec=") ∷ max_starts stream after

abbrev option_starts : List ℕ → List Beginning → List Beginning
option_starts stream after = Begins (stream ++ codes "fmt=") ∷ rec_starts stream after

-- whether an option may stand before what begins so
abbrev may_stand : List ℕ → List Beginning → Bool
may_stand word middle = within middle separators && (one_line word && list_all (apart (Begins word)) middle)

options_rule : (stream : List ℕ) (after : List Beginning)
    → may_stand (stream ++ codes "fmt=") (rec_starts stream after) ≡ true
    → may_stand (stream ++ codes "rec=") (max_starts stream after) ≡ true
    → may_stand (stream ++ codes "max=") (full_option_starts stream after) ≡ true
    → may_stand (stream ++ codes "full=") (rot_starts stream after) ≡ true
    → may_stand (stream ++ codes "rot=") after ≡ true
    → Rule (options_at stream) (IsOptions stream) after (option_starts stream after)
unfolding options_at IsOptions
options_rule stream after fmt_stands rec_stands max_stands full_stands rot_stands =
    maybe_part_rule (stream ++ codes "fmt=") quoted_rule (λ fmt.
    maybe_part_rule (stream ++ codes "rec=") number32_rule (λ rec.
    maybe_part_rule (stream ++ codes "max=") number64_rule (λ max.
    maybe_part_rule (stream ++ codes "full=") full_action_rule (λ full.
    maybe_part_rule (stream ++ codes "rot=") number32_rule (λ rot.
    known_rule (options_of fmt rec max full rot))
    rot_stands) full_stands) max_stands) rec_stands) fmt_stands

abbrev sys_starts : List Beginning
sys_starts = option_starts (codes " sys") (Ends ∷ [])

abbrev ntf_option_starts : List Beginning
ntf_option_starts = option_starts (codes " ntf") sys_starts

-- how the options of a cluster line begin
abbrev pub alarm_starts : List Beginning
alarm_starts = option_starts (codes " alarm") ntf_option_starts

pub sys_options_rule : Rule (options_at (codes " sys")) (IsOptions (codes " sys")) (Ends ∷ []) sys_starts
sys_options_rule = options_rule (codes " sys") (Ends ∷ []) refl refl refl refl refl

pub ntf_options_rule : Rule (options_at (codes " ntf")) (IsOptions (codes " ntf")) sys_starts ntf_option_starts
ntf_options_rule = options_rule (codes " ntf") sys_starts refl refl refl refl refl

pub alarm_options_rule : Rule (options_at (codes " alarm")) (IsOptions (codes " alarm")) ntf_option_starts alarm_starts
alarm_options_rule = options_rule (codes " alarm") ntf_option_starts refl refl refl refl refl
