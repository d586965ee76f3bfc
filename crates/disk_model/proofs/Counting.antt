-- What rows of changing calls count, one after another.
use Rattle.std.proofs.Common.{◌≡◌, ℕ, zero, suc, ◌+◌, ◌-◌, true, false, nat_le, Option, Some, None, refl, sym, ap, subst, ◌∙◌, arith}
use Rattle.std.proofs.lemmas.Bool.{leb-true, leb-false, le-leb}
use Rattle.std.proofs.lemmas.Bool.Decides.{nat_tests}
use Rattle.std.specs.Prelude.{Ok, Err}
use Rattle.ais_values.specs.Causes.{one_more}
use Rattle.disk_model.specs.Counts.{many_more, asked, reaches, lowered, passed, stopped, Counts, IsShort, CountsDone, CountsBroken}
use Rattle.disk_model.specs.declared.answers.DiskAnswer.{DiskAnswer}
use Rattle.disk_model.specs.declared.answers.DiskAnswer.TheVariants.{Memory, Failed, Stopped}
use Rattle.disk_model.specs.declared.tally.Tally.{Tally}

many_more-both : (first second count : ℕ) → many_more second (many_more first count) ≡ many_more (first + second) count
many_more-both first zero count = ap (λ n. many_more n count) (omega arith)
many_more-both first (suc second) count =
    let next : suc (first + second) ≡ first + suc second = omega arith in
    ap one_more (many_more-both first second count) ∙ ap (λ n. many_more n count) next

lowered-none : (armed : Option ℕ) → lowered 0 armed ≡ armed
lowered-none None = refl
lowered-none (Some left) = ap Some (omega arith)

lowered-both : (first second : ℕ) (armed : Option ℕ) → lowered second (lowered first armed) ≡ lowered (first + second) armed
lowered-both first second None = refl
lowered-both first second (Some left) = ap Some (omega arith)

pub passed-none : (tally : Tally) → passed 0 tally ≡ tally
passed-none tally = λ i. record { changing = tally.changing; reading = tally.reading; armed = lowered-none tally.armed i }

passed-both : (first second : ℕ) (tally : Tally) → passed second (passed first tally) ≡ passed (first + second) tally
passed-both first second tally = λ i. record {
  changing = many_more-both first second tally.changing i;
  reading = tally.reading;
  armed = lowered-both first second tally.armed i;
}

stopped-behind : (first second : ℕ) (tally : Tally) → stopped second (passed first tally) ≡ stopped (first + second) tally
stopped-behind first second tally =
    λ i. record { changing = many_more-both first second tally.changing i; reading = tally.reading; armed = None }

-- where none is made the armed count is not reached
short-none : (armed : Option ℕ) → IsShort 0 armed
short-none armed some = absurd (omega (arith, some))

short-both : (first second : ℕ) (armed : Option ℕ) → IsShort first armed → IsShort second (lowered first armed) → IsShort (first + second) armed
short-both first second None one two some = refl
short-both first zero (Some left) one two some =
    let same : first ≡ first + 0 = omega arith in subst (λ n. nat_le left n ≡ false) same (one (omega arith))
short-both first (suc second) (Some left) one two some =
    let below = leb-false (left - first) (suc second) (two (omega arith)) in grind (arith, nat_tests)

reaches-behind : (first second : ℕ) (armed : Option ℕ) → reaches second (lowered first armed) ≡ true → reaches (first + second) armed ≡ true
reaches-behind first second None is = is
reaches-behind first second (Some left) is =
    let within = leb-true (left - first) second is in le-leb left (first + second) (omega arith)

-- nothing was done
pub counts-none : (tally : Tally) → CountsDone 0 tally tally
counts-none tally = (short-none tally.armed, sym (passed-none tally))

-- calls were done, and then others
pub counts-both : (first second : ℕ) (old middle new : Tally) → CountsDone first old middle → CountsDone second middle new → CountsDone (first + second) old new
counts-both first second old middle new one two = (
  short-both first second old.armed one.0 (subst (λ (t : Tally). IsShort second t.armed) one.1 two.0),
  two.1 ∙ ap (passed second) one.1 ∙ passed-both first second old,
)

-- calls were done, and then others broke off
pub counts-behind : (answer : DiskAnswer) (first count : ℕ) (old middle new : Tally) → CountsDone first old middle → CountsBroken answer count middle new → CountsBroken answer (first + count) old new
counts-behind Memory first count old middle new one two = (
  short-both first count old.armed one.0 (subst (λ (t : Tally). IsShort count t.armed) one.1 two.0),
  two.1 ∙ ap (λ t. asked (passed count t)) one.1 ∙ ap asked (passed-both first count old),
)
counts-behind Failed first count old middle new one two =
    let next : first + suc count ≡ suc (first + count) = omega arith in
    subst (λ n. IsShort n old.armed × (new ≡ passed n old)) next (
      short-both first (suc count) old.armed one.0 (subst (λ (t : Tally). IsShort (suc count) t.armed) one.1 two.0),
      two.1 ∙ ap (passed (suc count)) one.1 ∙ passed-both first (suc count) old,
    )
counts-behind Stopped first count old middle new one two =
    let next : first + suc count ≡ suc (first + count) = omega arith in
    let last = subst (λ n. (reaches n old.armed ≡ true) × (new ≡ stopped n old)) next (
      reaches-behind first (suc count) old.armed (ap (λ (t : Tally). reaches (suc count) t.armed) (sym one.1) ∙ two.1),
      two.2 ∙ ap (stopped (suc count)) one.1 ∙ stopped-behind first (suc count) old,
    ) in
    (short-both first count old.armed one.0 (subst (λ (t : Tally). IsShort count t.armed) one.1 two.0), last.0, last.1)

-- one call, by what its disk ensures of it
pub counts-one : {T : Type 0} (value : T) (old new : Tally) → Counts {T = T} (Ok value) old new → CountsDone 1 old new
counts-one value old new counts = (λ some. counts.0, counts.1)

pub counts-broken : (T : Type 0) (answer : DiskAnswer) (old new : Tally) → Counts {T = T} (Err answer) old new → CountsBroken answer 0 old new
counts-broken T Memory old new counts = (short-none old.armed, counts ∙ ap asked (sym (passed-none old)))
counts-broken T Failed old new counts = (λ some. counts.0, counts.1)
counts-broken T Stopped old new counts = (short-none old.armed, counts.0, counts.1)
