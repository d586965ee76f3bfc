-- `==` of headers and records decides whether they are equal.
use Rattle.std.proofs.Common.{◌≡◌, ap}
use Rattle.std.specs.Bool.{Decides}
use Rattle.std.proofs.lemmas.Bool.Decides.{Decides-eqb, Decides-int_eq, Decides-and, Decides-like}
use Rattle.std.proofs.lemmas.Slice.Eq.{bytes_eq-Decides}
use Rattle.ais_values.proofs.Equality.{class_eq-decides}
use Rattle.record_print.specs.declared.record.Header.{Header}
use Rattle.record_print.specs.declared.record.Header.TheVariants.{Ntf, Generic}
use Rattle.record_print.specs.declared.record.LogRecord.{LogRecord}
use Rattle.record_print.specs.contracts.record.HeaderPartialEq.TheImpl as header_impl
use Rattle.record_print.specs.contracts.record.LogRecordPartialEq.TheImpl as record_impl

pub header_eq-decides : (one other : Header) → Decides ((header_impl.ghosts).eq one other) (one ≡ other)
header_eq-decides (Ntf i1 e1 o1 n1 c1 t1) (Ntf i2 e2 o2 n2 c2 t2) =
    Decides-like _
    (λ e. λ i. Ntf (e.0 i) ((e.1).0 i) ((e.1).1.0 i) ((e.1).1.1.0 i) ((e.1).1.1.1.0 i) ((e.1).1.1.1.1 i))
    (λ e. (cc, (cc, (cc, (cc, (cc, cc))))))
    (Decides-and _ _ (Decides-eqb i1 i2) (Decides-and _ _ (Decides-eqb e1 e2) (Decides-and _ _ (bytes_eq-Decides o1 o2) (Decides-and _ _ (bytes_eq-Decides n1 n2) (Decides-and _ _ (class_eq-decides c1 c2) (Decides-int_eq t1 t2))))))
header_eq-decides (Generic c1 u1 s1) (Generic c2 u2 s2) =
    Decides-like _
    (λ e. λ i. Generic (e.0 i) ((e.1).0 i) ((e.1).1 i))
    (λ e. (cc, (cc, cc)))
    (Decides-and _ _ (class_eq-decides c1 c2) (Decides-and _ _ (bytes_eq-Decides u1 u2) (Decides-eqb s1 s2)))
header_eq-decides (Ntf i1 e1 o1 n1 c1 t1) (Generic c2 u2 s2) = (λ e. absurd (cc), λ e. absurd (cc))
header_eq-decides (Generic c1 u1 s1) (Ntf i2 e2 o2 n2 c2 t2) = (λ e. absurd (cc), λ e. absurd (cc))

pub record_eq-decides : (one other : LogRecord) → Decides ((record_impl.ghosts).eq one other) (one ≡ other)
record_eq-decides one other =
    Decides-like _
    (λ e. λ i. record { time = e.0 i; header = (e.1).0 i; body = (e.1).1 i })
    (λ e. (ap (λ (r : LogRecord). r.time) e, (ap (λ (r : LogRecord). r.header) e, ap (λ (r : LogRecord). r.body) e)))
    (Decides-and _ _ (Decides-int_eq one.time other.time) (Decides-and _ _ (header_eq-decides one.header other.header) (bytes_eq-Decides one.body other.body)))
