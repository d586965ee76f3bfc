-- The tests of equality decide it.
use Rattle.std.proofs.Common.{◌≡◌, refl, ap}
use Rattle.std.specs.Bool.{Decides}
use Rattle.std.proofs.lemmas.Bool.Decides.{Decides-like, Decides-and, Decides-eqb}
use Rattle.std.proofs.lemmas.Slice.Eq.{bytes_eq-Decides}
use Rattle.stream_config.specs.declared.attrs.FullAction.{FullAction}
use Rattle.stream_config.specs.declared.attrs.FullAction.TheVariants.{Wrap, Halt, Rotate}
use Rattle.stream_config.specs.declared.attrs.StreamAttrs.{StreamAttrs}
use Rattle.stream_config.specs.declared.attrs.StreamName.{StreamName}
use Rattle.stream_config.specs.declared.attrs.StreamName.TheVariants.{Alarm, Notification, System, App}
use Rattle.stream_config.specs.Equality.{action_code, name_code, own_name, same_name, same_action, same_attrs}

-- an action with its number, and a name with its parts, are told apart by them
actions_equal : (one other : FullAction) → action_code one ≡ action_code other → one ≡ other
actions_equal Wrap Wrap is = refl
actions_equal Halt Halt is = refl
actions_equal Rotate Rotate is = refl
actions_equal one other is = cc

names_equal : (one other : StreamName) → name_code one ≡ name_code other → own_name one ≡ own_name other → one ≡ other
names_equal Alarm Alarm code own = refl
names_equal Notification Notification code own = refl
names_equal System System code own = refl
names_equal (App one) (App other) code own = ap App own
names_equal one other code own = cc

pub decides_action : (one other : FullAction) → Decides (same_action one other) (one ≡ other)
decides_action one other =
    Decides-like (same_action one other) (actions_equal one other) (λ is. ap action_code is) (Decides-eqb _ _)

pub decides_name : (one other : StreamName) → Decides (same_name one other) (one ≡ other)
decides_name one other =
    Decides-like (same_name one other)
    (λ (p : (name_code one ≡ name_code other) × (own_name one ≡ own_name other)). names_equal one other p.0 p.1)
    (λ is. (ap name_code is, ap own_name is))
    (Decides-and _ _ (Decides-eqb _ _) (bytes_eq-Decides _ _))

pub decides_attributes : (one other : StreamAttrs) → Decides (same_attrs one other) (one ≡ other)
decides_attributes one other =
    Decides-like (same_attrs one other)
    (λ (p : ((((((((one.file ≡ other.file) × (one.path ≡ other.path)) × (one.max_file ≡ other.max_file)) × (one.record_size ≡ other.record_size))
    × (one.ha ≡ other.ha)) × (one.action ≡ other.action)) × (one.rotated ≡ other.rotated)) × (one.expr ≡ other.expr))).
    (λ i. record {
      file = p.0.0.0.0.0.0.0 i;
      path = p.0.0.0.0.0.0.1 i;
      max_file = p.0.0.0.0.0.1 i;
      record_size = p.0.0.0.0.1 i;
      ha = p.0.0.0.1 i;
      action = p.0.0.1 i;
      rotated = p.0.1 i;
      expr = p.1 i;
    }))
    (λ (is : one ≡ other). (
      (
        (
          (
            (
              ((ap (λ (a : StreamAttrs). a.file) is, ap (λ (a : StreamAttrs). a.path) is), ap (λ (a : StreamAttrs). a.max_file) is),
              ap (λ (a : StreamAttrs). a.record_size) is,
            ),
            ap (λ (a : StreamAttrs). a.ha) is,
          ),
          ap (λ (a : StreamAttrs). a.action) is,
        ),
        ap (λ (a : StreamAttrs). a.rotated) is,
      ),
      ap (λ (a : StreamAttrs). a.expr) is,
    ))
    (Decides-and _ _ (Decides-and _ _ (Decides-and _ _ (Decides-and _ _ (Decides-and _ _ (Decides-and _ _ (Decides-and _ _
    (bytes_eq-Decides _ _) (bytes_eq-Decides _ _)) (Decides-eqb _ _)) (Decides-eqb _ _)) (Decides-eqb _ _))
    (decides_action one.action other.action)) (Decides-eqb _ _)) (bytes_eq-Decides _ _))
