-- The readings of notifications and filters are exact.
use Rattle.std.proofs.Common.{ℕ, ℤ, List, refl, inl, inr, arith}
use Rattle.ais_values.specs.Names.{IsName}
use Rattle.ntf_types.specs.declared.value.Value.{Value}
use Rattle.ntf_types.specs.declared.value.Pair.{Pair}
use Rattle.ntf_types.specs.declared.value.Change.{Change}
use Rattle.ntf_types.specs.declared.value.StateChange.{StateChange}
use Rattle.ntf_types.specs.declared.value.Value.TheVariants as value
use Rattle.ntf_types.specs.declared.notification.Body.TheVariants as body
use Rattle.wire_code.specs.Spelling.{number_text, IsNumber, counted_text}
use Rattle.wire_code.specs.Reading.{number_at, name_at}
use Rattle.wire.specs.NtfSpelling.{class_text, ClassFits, value_text, ValueFits, pair_text, PairFits, change_text, ChangeFits, state_change_text, StateChangeFits, body_text, BodyFits, notification_text, NotificationFits, filter_text, FilterFits, filter_set_text, FilterSetFits}
use Rattle.wire.specs.NtfReading.{class_at, class_of, value_at, pair_at, pair_of, change_at, change_of, state_change_at, state_change_of, body_at, notification_at, notification_of, filter_at, filter_of, filter_set_at, filter_set_of}
use Rattle.wire_code.proofs.Codes.{Code, made_code, both_code}
use Rattle.wire_code.proofs.NumberCodes.{number_code, signed_code}
use Rattle.wire_code.proofs.ListCodes.{list_code, text_code, name_code}
use Rattle.wire_code.proofs.ChoiceCodes.{option_code, no_choice, variant_choice, choice_code}

-- a class
pub class_code : Code class_at class_text ClassFits
unfolding class_at class_text
class_code =
    made_code class_of class_text ClassFits (both_code (number_code 4) (both_code (number_code 2) (number_code 2)))
    (λ p fits. refl)
    (λ p fits. record { vendor = fits.0; major = fits.1.0; minor = fits.1.1 })
    (λ x fits. ((x.vendor, (x.major, x.minor)), refl, (fits.vendor, (fits.major, fits.minor))))

-- a value
pub value_code : Code value_at value_text ValueFits
unfolding value_at value_text
value_code =
    choice_code
    (variant_choice 1 (λ (x : ℤ). value.Int x) value_text ValueFits signed_code (λ p fits. refl) (λ p fits. fits) (omega arith)
    (variant_choice 2 (λ (x : List ℕ). value.NameOf x) value_text ValueFits name_code (λ p fits. refl) (λ p fits. fits) (omega arith)
    (variant_choice 3 (λ (x : List ℕ). value.TextOf x) value_text ValueFits text_code (λ p fits. refl) (λ p fits. fits) (omega arith)
    (variant_choice 4 (λ (x : List ℕ). value.Binary x) value_text ValueFits text_code (λ p fits. refl) (λ p fits. fits) (omega arith)
    (no_choice 5 value_text ValueFits)))))
    (elim [
      | value.Int value ↦ λ fits. inl (value, refl, fits)
      | value.NameOf name ↦ λ fits. inr (inl (name, refl, fits))
      | value.TextOf text ↦ λ fits. inr (inr (inl (text, refl, fits)))
      | value.Binary bytes ↦ λ fits. inr (inr (inr (inl (bytes, refl, fits))))
    ])
    (value.Int signed_code.some.0, signed_code.some.1)

-- a value under a number
pub pair_code : Code pair_at pair_text PairFits
unfolding pair_at pair_text
pair_code =
    made_code pair_of pair_text PairFits (both_code (number_code 2) value_code)
    (λ p fits. refl)
    (λ p fits. record { id = fits.0; value = fits.1 })
    (λ x fits. ((x.id, x.value), refl, (fits.id, fits.value)))

-- a change of an attribute
pub change_code : Code change_at change_text ChangeFits
unfolding change_at change_text
change_code =
    made_code change_of change_text ChangeFits (both_code (number_code 2) (both_code value_code (option_code value_at value_text ValueFits value_code)))
    (λ p fits. refl)
    (λ p fits. record { id = fits.0; after = fits.1.0; before = fits.1.1 })
    (λ x fits. ((x.id, (x.after, x.before)), refl, (fits.id, (fits.after, fits.before))))

-- a change of a state
pub state_change_code : Code state_change_at state_change_text StateChangeFits
unfolding state_change_at state_change_text
state_change_code =
    made_code state_change_of state_change_text StateChangeFits (both_code (number_code 2) (both_code (number_code 2) (option_code (number_at 2) (number_text 2) (IsNumber 2) (number_code 2))))
    (λ p fits. refl)
    (λ p fits. record { id = fits.0; after = fits.1.0; before = fits.1.1 })
    (λ x fits. ((x.id, (x.after, x.before)), refl, (fits.id, (fits.after, fits.before))))

-- what a notification tells, by its type
pub body_code : Code body_at body_text BodyFits
unfolding body_at body_text
body_code =
    choice_code
    (variant_choice 1 (λ (p : ℕ × List Pair). body.Objects p.0 p.1) body_text BodyFits (both_code (number_code 2) (list_code pair_at pair_text PairFits pair_code)) (λ p fits. refl) (λ p fits. (fits.0, fits.1)) (omega arith)
    (variant_choice 2 (λ (p : ℕ × List Change). body.Attributes p.0 p.1) body_text BodyFits (both_code (number_code 2) (list_code change_at change_text ChangeFits change_code)) (λ p fits. refl) (λ p fits. (fits.0, fits.1)) (omega arith)
    (variant_choice 3 (λ (p : ℕ × List StateChange). body.States p.0 p.1) body_text BodyFits (both_code (number_code 2) (list_code state_change_at state_change_text StateChangeFits state_change_code)) (λ p fits. refl) (λ p fits. (fits.0, fits.1)) (omega arith)
    (variant_choice 4 (λ (p : ℕ × ℕ). body.Alarm p.0 p.1) body_text BodyFits (both_code (number_code 2) (number_code 2)) (λ p fits. refl) (λ p fits. (fits.0, fits.1)) (omega arith)
    (variant_choice 5 (λ (p : ℕ × (ℕ × (Value × (Value × Value)))). body.Security p.0 p.1.0 p.1.1.0 p.1.1.1.0 p.1.1.1.1) body_text BodyFits (both_code (number_code 2) (both_code (number_code 2) (both_code value_code (both_code value_code value_code)))) (λ p fits. refl) (λ p fits. (fits.0, fits.1.0, fits.1.1.0, fits.1.1.1.0, fits.1.1.1.1)) (omega arith)
    (no_choice 6 body_text BodyFits))))))
    (elim [
      | body.Objects source attrs ↦ λ fits. inl ((source, attrs), refl, (fits.0, fits.1))
      | body.Attributes source changes ↦ λ fits. inr (inl ((source, changes), refl, (fits.0, fits.1)))
      | body.States source changes ↦ λ fits. inr (inr (inl ((source, changes), refl, (fits.0, fits.1))))
      | body.Alarm cause severity ↦ λ fits. inr (inr (inr (inl ((cause, severity), refl, (fits.0, fits.1)))))
      | body.Security cause severity detector user provider ↦ λ fits. inr (inr (inr (inr (inl ((cause, (severity, (detector, (user, provider)))), refl, (fits.0, (fits.1, (fits.2, (fits.3, fits.4)))))))))
    ])
    (body.Objects (number_code 2).some.0 (list_code pair_at pair_text PairFits pair_code).some.0, ((number_code 2).some.1, (list_code pair_at pair_text PairFits pair_code).some.1))

-- a notification
pub notification_code : Code notification_at notification_text NotificationFits
unfolding notification_at notification_text
notification_code =
    made_code notification_of notification_text NotificationFits (both_code (number_code 8) (both_code (number_code 2) (both_code name_code (both_code name_code (both_code class_code (both_code signed_code (both_code (list_code (number_at 8) (number_text 8) (IsNumber 8) (number_code 8)) (both_code text_code (both_code (list_code pair_at pair_text PairFits pair_code) body_code)))))))))
    (λ p fits. refl)
    (λ p fits. record { id = fits.0; event_type = fits.1.0; object = fits.1.1.0; notifier = fits.1.1.1.0; class = fits.1.1.1.1.0; event_time = fits.1.1.1.1.1.0; correlated = fits.1.1.1.1.1.1.0; text = fits.1.1.1.1.1.1.1.0; info = fits.1.1.1.1.1.1.1.1.0; body = fits.1.1.1.1.1.1.1.1.1 })
    (λ x fits. ((x.id, (x.event_type, (x.object, (x.notifier, (x.class, (x.event_time, (x.correlated, (x.text, (x.info, x.body))))))))), refl, (fits.id, (fits.event_type, (fits.object, (fits.notifier, (fits.class, (fits.event_time, (fits.correlated, (fits.text, (fits.info, fits.body)))))))))))

-- a filter
pub filter_code : Code filter_at filter_text FilterFits
unfolding filter_at filter_text
filter_code =
    made_code filter_of filter_text FilterFits (both_code (list_code (number_at 2) (number_text 2) (IsNumber 2) (number_code 2)) (both_code (list_code name_at counted_text IsName name_code) (both_code (list_code name_at counted_text IsName name_code) (both_code (list_code class_at class_text ClassFits class_code) (both_code (list_code (number_at 2) (number_text 2) (IsNumber 2) (number_code 2)) (both_code (list_code (number_at 2) (number_text 2) (IsNumber 2) (number_code 2)) (list_code (number_at 2) (number_text 2) (IsNumber 2) (number_code 2))))))))
    (λ p fits. refl)
    (λ p fits. record { types = fits.0; objects = fits.1.0; notifiers = fits.1.1.0; classes = fits.1.1.1.0; sources = fits.1.1.1.1.0; causes = fits.1.1.1.1.1.0; severities = fits.1.1.1.1.1.1 })
    (λ x fits. ((x.types, (x.objects, (x.notifiers, (x.classes, (x.sources, (x.causes, x.severities)))))), refl, (fits.types, (fits.objects, (fits.notifiers, (fits.classes, (fits.sources, (fits.causes, fits.severities))))))))

-- at most one filter for each type
pub filter_set_code : Code filter_set_at filter_set_text FilterSetFits
unfolding filter_set_at filter_set_text
filter_set_code =
    made_code filter_set_of filter_set_text FilterSetFits (both_code (option_code filter_at filter_text FilterFits filter_code) (both_code (option_code filter_at filter_text FilterFits filter_code) (both_code (option_code filter_at filter_text FilterFits filter_code) (both_code (option_code filter_at filter_text FilterFits filter_code) (option_code filter_at filter_text FilterFits filter_code)))))
    (λ p fits. refl)
    (λ p fits. record { objects = fits.0; attributes = fits.1.0; states = fits.1.1.0; alarms = fits.1.1.1.0; security = fits.1.1.1.1 })
    (λ x fits. ((x.objects, (x.attributes, (x.states, (x.alarms, x.security)))), refl, (fits.objects, (fits.attributes, (fits.states, (fits.alarms, fits.security))))))
