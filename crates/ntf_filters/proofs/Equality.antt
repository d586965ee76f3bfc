-- `==` of filters and of sets of filters decides whether they are equal.
use Rattle.std.proofs.Common.{◌≡◌, ap}
use Rattle.std.specs.Bool.{Decides}
use Rattle.std.specs.Cmp.Lexicographic.{pointwise_decides}
use Rattle.std.proofs.lemmas.Bool.Decides.{Decides-eqb, Decides-and, Decides-like}
use Rattle.std.proofs.lemmas.Slice.Eq.{bytes_eq-Decides}
use Rattle.ais_values.proofs.Equality.{option_eq-decides, class_eq-decides}
use Rattle.ntf_filters.specs.declared.filter.Filter.{Filter}
use Rattle.ntf_filters.specs.declared.filter.FilterSet.{FilterSet}
use Rattle.ntf_filters.specs.contracts.filter.FilterPartialEq.TheImpl as filter_impl
use Rattle.ntf_filters.specs.contracts.filter.FilterSetPartialEq.TheImpl as set_impl

pub filter_eq-decides : (one other : Filter) → Decides ((filter_impl.ghosts).eq one other) (one ≡ other)
filter_eq-decides one other =
    Decides-like _
    (λ e. λ i. record {
      types = e.0 i;
      objects = (e.1).0 i;
      notifiers = (e.1).1.0 i;
      classes = (e.1).1.1.0 i;
      sources = (e.1).1.1.1.0 i;
      causes = (e.1).1.1.1.1.0 i;
      severities = (e.1).1.1.1.1.1 i;
    })
    (λ e. (ap (λ (f : Filter). f.types) e, (ap (λ (f : Filter). f.objects) e, (ap (λ (f : Filter). f.notifiers) e, (ap (λ (f : Filter). f.classes) e, (ap (λ (f : Filter). f.sources) e, (ap (λ (f : Filter). f.causes) e, ap (λ (f : Filter). f.severities) e)))))))
    (Decides-and _ _ (pointwise_decides Decides-eqb one.types other.types) (Decides-and _ _ (pointwise_decides bytes_eq-Decides one.objects other.objects) (Decides-and _ _ (pointwise_decides bytes_eq-Decides one.notifiers other.notifiers) (Decides-and _ _ (pointwise_decides class_eq-decides one.classes other.classes)
    (Decides-and _ _ (pointwise_decides Decides-eqb one.sources other.sources) (Decides-and _ _ (pointwise_decides Decides-eqb one.causes other.causes) (pointwise_decides Decides-eqb one.severities other.severities)))))))

pub filter_set_eq-decides : (one other : FilterSet) → Decides ((set_impl.ghosts).eq one other) (one ≡ other)
filter_set_eq-decides one other =
    let each = option_eq-decides (filter_impl.ghosts).eq filter_eq-decides in
    Decides-like _
    (λ e. λ i. record {
      objects = e.0 i;
      attributes = (e.1).0 i;
      states = (e.1).1.0 i;
      alarms = (e.1).1.1.0 i;
      security = (e.1).1.1.1 i;
    })
    (λ e. (ap (λ (f : FilterSet). f.objects) e, (ap (λ (f : FilterSet). f.attributes) e, (ap (λ (f : FilterSet). f.states) e, (ap (λ (f : FilterSet). f.alarms) e, ap (λ (f : FilterSet). f.security) e)))))
    (Decides-and _ _ (each one.objects other.objects) (Decides-and _ _ (each one.attributes other.attributes) (Decides-and _ _ (each one.states other.states) (Decides-and _ _ (each one.alarms other.alarms) (each one.security other.security)))))
