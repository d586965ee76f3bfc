use Rattle.std.proofs.Common.{◌≡◌, rules, pos, List, [], ◌∷◌, refl, lit≤}
use Rattle.ais_values.specs.declared.kind.StreamKind.TheVariants as kind
use Rattle.stream_config.specs.declared.attrs.StreamAttrs.{StreamAttrs}
use Rattle.stream_config.specs.WellKnown.{default_attrs}
use Rattle.stream_config.proofs.AttributeLaws.{default_attrs-pass}
use Rattle.plain_service.specs.Setups.{Setup}
use Rattle.service_core.specs.Beginning.{CanBeginAs}
use Rattle.cluster_tests.proofs.mirror_tests.default_wells.Goals as goal

-- the setup of the attributes that streams have unless other ones are given
plain : Setup
plain = record { start = pos 1704067200000000000; capacity = 4; alarm = default_attrs kind.Alarm; notification = default_attrs kind.Notification; system = default_attrs kind.System }

begins : (wells : List StreamAttrs) → wells ≡ default_attrs kind.Alarm ∷ default_attrs kind.Notification ∷ default_attrs kind.System ∷ [] → CanBeginAs (pos 1704067200000000000) 4 wells
unfolding plain
begins wells is = (
  plain,
  record {
    start_is = refl;
    capacity_is = refl;
    attributes = is;
    sound = record {
      start = record { from = search rules; to = search rules };
      capacity = record { some = lit≤ tt; most = lit≤ tt };
      streams = record {
        alarm = default_attrs-pass kind.Alarm (λ e. cc);
        notification = default_attrs-pass kind.Notification (λ e. cc);
        system = default_attrs-pass kind.System (λ e. cc);
        first_apart = refl;
        second_apart = refl;
        third_apart = refl;
      };
    };
  },
)

pub returns : goal.returns
returns g c =
    begins c.wells.result (cc (c.wells.ensures, c.given-alarm.ensures, c.given-notification.ensures, c.given-system.ensures))
