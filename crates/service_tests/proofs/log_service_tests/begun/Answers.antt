use Rattle.std.proofs.Common.{◌≡◌, ℕ, Bool, true, false, ◌&&◌, List, [], ◌∷◌, ◌++◌, refl, ap, ◌∙◌}
use Rattle.std.specs.Str.{bytes_eq}
use Rattle.ais_values.specs.declared.kind.StreamKind.TheVariants as kind
use Rattle.stream_config.specs.WellKnown.{default_file}
use Rattle.stream_config.specs.AttributeTests.{have_one_place}
use Rattle.stream_config.specs.declared.attrs.StreamAttrs.{StreamAttrs}
use Rattle.log_history.specs.Chronicle.{LogSetup}
use Rattle.service_tests.proofs.log_service_tests.begun.Goals as goal

not-both : (b : Bool) → (b && false) ≡ false
not-both true = refl
not-both false = refl

apart : (one other : StreamAttrs) (file file' : List ℕ) → one.file ≡ file → other.file ≡ file' → bytes_eq file file' ≡ false → have_one_place one other ≡ false
apart one other file file' is is' differ =
    ap (λ b. bytes_eq one.path other.path && b) (ap (λ (name : List ℕ). bytes_eq name other.file) is ∙ ap (bytes_eq file) is' ∙ differ) ∙ not-both (bytes_eq one.path other.path)

pub new-requires-clause-wells : goal.new-requires-clause-wells
new-requires-clause-wells c =
    let alarm = c.in_ok-alarm.alarm in
    let notification = c.in_ok-notification.notification in
    let system = c.in_ok-system.system in
    let setup : LogSetup = record { start = 1704067200; alarm = alarm; notification = notification; system = system } in
    let alarm_file = ap (λ (attrs : StreamAttrs). attrs.file) c.in_ok-alarm.ensures.attrs in
    let notification_file = ap (λ (attrs : StreamAttrs). attrs.file) c.in_ok-notification.ensures.attrs in (
      setup,
      record {
        second = refl;
        attributes = c.from_vec.ensures ∙ c.push_reserved-3.ensures.items
            ∙ ap (λ (list : List StreamAttrs). list ++ system ∷ []) (c.push_reserved-2.ensures.items
            ∙ ap (λ (list : List StreamAttrs). list ++ notification ∷ []) (c.push_reserved.ensures.items
            ∙ ap (λ (list : List StreamAttrs). list ++ alarm ∷ []) c.in_ok-wells.ensures.items));
        sound = record {
          alarm = c.in_ok-alarm.ensures.passes;
          notification = c.in_ok-notification.ensures.passes;
          system = c.in_ok-system.ensures.passes;
          first_apart = apart alarm notification (default_file kind.Alarm) (default_file kind.Notification) alarm_file notification_file refl;
          second_apart = apart alarm system (default_file kind.Alarm) (default_file kind.System) alarm_file c.in_ok-system.ensures.file refl;
          third_apart = apart notification system (default_file kind.Notification) (default_file kind.System) notification_file c.in_ok-system.ensures.file refl;
        };
      },
    )
