-- `==` decides equality: at values that may be absent, and at classes. Layers above build the same for their types from it.
use Rattle.std.proofs.Common.{◌≡◌, ◌∙◌, ℕ, Bool, false, Option, Some, None, refl, sym, ap, nat_eq, true≢false}
use Rattle.std.specs.Bool.{Decides}
use Rattle.std.specs.Option.{option_eq}
use Rattle.std.proofs.lemmas.Bool.Decides.{Decides-eqb, Decides-and, Decides-like}
use Rattle.ais_values.specs.declared.kind.ClassId.{ClassId}
use Rattle.ais_values.specs.contracts.kind.ClassIdPartialEq.TheImpl as class_impl

-- a test that decides equality decides it also through a constructor
pub eq-decides_through : {A B : Type 0} → (f : A → B) (eq : Bool) (one other : A) → (f one ≡ f other → one ≡ other) → Decides eq (one ≡ other) → Decides eq (f one ≡ f other)
eq-decides_through f eq one other back decides = Decides-like eq (ap f) back decides

-- a test that is false decides the equality of two values that a number of each tells apart: of an enum, the number of its
-- variant. One clause serves all pairs of different variants so, each by computing
pub eq-decides_apart : {A : Type 0} → (number : A → ℕ) (eq : Bool) (one other : A) → eq ≡ false → nat_eq (number one) (number other) ≡ false → Decides eq (one ≡ other)
eq-decides_apart number eq one other told apart =
    (λ e. absurd (true≢false (sym e ∙ told)), λ same. absurd (true≢false (sym ((Decides-eqb (number one) (number other)).1 (ap number same)) ∙ apart)))

pub option_eq-decides : {A : Type 0} → (eq : A → A → Bool) → ((one other : A) → Decides (eq one other) (one ≡ other)) → (one other : Option A) → Decides (option_eq eq one other) (one ≡ other)
option_eq-decides eq decides None None = (λ _. refl, λ _. refl)
option_eq-decides eq decides None (Some other) = (λ e. absurd (cc), λ e. absurd (cc))
option_eq-decides eq decides (Some one) None = (λ e. absurd (cc), λ e. absurd (cc))
option_eq-decides eq decides (Some one) (Some other) = eq-decides_through Some (eq one other) one other (λ e. cc) (decides one other)

pub class_eq-decides : (one other : ClassId) → Decides ((class_impl.ghosts).eq one other) (one ≡ other)
class_eq-decides one other =
    Decides-like _
    (λ e. λ i. record { vendor = e.0 i; major = (e.1).0 i; minor = (e.1).1 i })
    (λ e. (ap (λ (c : ClassId). c.vendor) e, (ap (λ (c : ClassId). c.major) e, ap (λ (c : ClassId). c.minor) e)))
    (Decides-and _ _ (Decides-eqb one.vendor other.vendor) (Decides-and _ _ (Decides-eqb one.major other.major) (Decides-eqb one.minor other.minor)))
