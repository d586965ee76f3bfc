use Rattle.std.proofs.Common.{List, [], ◌∷◌, ◌++◌, refl, ap, sym, ◌∙◌, to_z-of_z}
use Rattle.stream_config.specs.declared.attrs.StreamAttrs.{StreamAttrs}
use Rattle.plain_service.specs.Setups.{Setup}
use Rattle.service_rows.proofs.beginning.begun.Goals as goal

pub new-requires : goal.new-requires
new-requires c =
    let alarm = c.args.alarm in
    let ntf = c.args.ntf in
    let sys = c.args.sys in
    let setup : Setup = record { start = c.args.start; capacity = c.args.cap; alarm = alarm; notification = ntf; system = sys } in (
      setup,
      record {
        start_is = sym (to_z-of_z c.ranges.start);
        capacity_is = refl;
        attributes = c.from_vec.ensures ∙ c.push_reserved-3.ensures.items
            ∙ ap (λ (list : List StreamAttrs). list ++ sys ∷ []) (c.push_reserved-2.ensures.items
            ∙ ap (λ (list : List StreamAttrs). list ++ ntf ∷ []) (c.push_reserved.ensures.items
            ∙ ap (λ (list : List StreamAttrs). list ++ alarm ∷ []) c.in_ok-wells.ensures.items));
        sound = record {
          start = c.requires.start;
          capacity = c.requires.cap;
          streams = record {
            alarm = c.requires.wells.alarm;
            notification = c.requires.wells.notification;
            system = c.requires.wells.system;
            first_apart = c.requires.wells.first_apart;
            second_apart = c.requires.wells.second_apart;
            third_apart = c.requires.wells.third_apart;
          };
        };
      },
    )
