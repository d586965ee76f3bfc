-- The state stays as it is kept.
use Rattle.std.proofs.Common.{◌≡◌, ℕ, ◌+◌, ◌≤◌, ◌<◌, suc, Bool, true, false, not, ◌||◌, cond, List, [], ◌∷◌, ◌++◌, length, map, filter, w64, refl, ap, sym, ◌∙◌, subst, arith, add-zero, zero-add}
use Rattle.std.specs.Prelude.{ℤ, pos, negsuc, ◌≤ℤ◌, unsigned_abs, nat_le}
use Rattle.std.specs.List.{list_any, count_by, fold}
use mir.Val.{SFits}
use Rattle.std.proofs.lemmas.Bool.Decides.{nat_tests}
use Rattle.std.proofs.lemmas.Bool.{or_parts}
use Rattle.stream_config.specs.Stamps.{stamp_after}
use Rattle.stream_config.specs.declared.event.StreamEvent.{StreamEvent}
use Rattle.log_history.specs.Firsts.{change_first}
use Rattle.log_history.specs.Table.{OpenStream, LogTable, has_nobody, last_after_ends, kept_streams}
use Rattle.log_history.specs.KeptAnswers.{is_of_application}
use Rattle.log_service.specs.Moments.{IsTimeOfCall, IsMoment, second_of}
use Rattle.log_service.specs.Changing.{AreEndsIn}
use Rattle.log_service.specs.State.{KeptLog, IsCallTime, applications_in, others_in, AreFew}
use Rattle.log_service.proofs.EndLemmas.{pos-from, pos-below, abs-bound, second-bound, stamp-bound}

-- what is kept the same is the same table
pub same_table : {one other : KeptLog} → one ≡ other → one.table ≡ other.table
same_table is = ap (λ (kept : KeptLog). kept.table) is

-- a change that leaves a stream an application's or not leaves the numbers
module _ (change : OpenStream → OpenStream) (keeps : (stream : OpenStream) → is_of_application (change stream) ≡ is_of_application stream) where
  applications-changed : (test : OpenStream → Bool) (streams : List OpenStream) → applications_in (change_first test change streams) ≡ applications_in streams
  applications-changed test [] = refl
  applications-changed test (stream ∷ streams) =
      elim (test stream) as (λ b. applications_in (cond b (change stream ∷ streams) (stream ∷ change_first test change streams)) ≡ applications_in (stream ∷ streams)) [
        | true ↦ ap (λ b. cond b (suc (applications_in streams)) (applications_in streams)) (keeps stream)
        | false ↦ ap (λ n. cond (is_of_application stream) (suc n) n) (applications-changed test streams)
      ]

  others-changed : (test : OpenStream → Bool) (streams : List OpenStream) → others_in (change_first test change streams) ≡ others_in streams
  others-changed test [] = refl
  others-changed test (stream ∷ streams) =
      elim (test stream) as (λ b. others_in (cond b (change stream ∷ streams) (stream ∷ change_first test change streams)) ≡ others_in (stream ∷ streams)) [
        | true ↦ ap (λ b. cond b (others_in streams) (suc (others_in streams))) (keeps stream)
        | false ↦ ap (λ n. cond (is_of_application stream) n (suc n)) (others-changed test streams)
      ]

  applications-mapped : (streams : List OpenStream) → applications_in (map change streams) ≡ applications_in streams
  applications-mapped [] = refl
  applications-mapped (stream ∷ streams) =
      ap (λ b. cond b (suc (applications_in (map change streams))) (applications_in (map change streams))) (keeps stream)
      ∙ ap (λ n. cond (is_of_application stream) (suc n) n) (applications-mapped streams)

  others-mapped : (streams : List OpenStream) → others_in (map change streams) ≡ others_in streams
  others-mapped [] = refl
  others-mapped (stream ∷ streams) =
      ap (λ b. cond b (others_in (map change streams)) (suc (others_in (map change streams)))) (keeps stream)
      ∙ ap (λ n. cond (is_of_application stream) n (suc n)) (others-mapped streams)

  pub AreFew-changed : (test : OpenStream → Bool) (streams : List OpenStream) → AreFew streams → AreFew (change_first test change streams)
  AreFew-changed test streams few = record {
    others = subst (λ (n : ℕ). n ≤ 3) (sym (others-changed test streams)) few.others;
    applications = subst (λ (n : ℕ). n ≤ 64) (sym (applications-changed test streams)) few.applications;
  }

  pub AreFew-mapped : (streams : List OpenStream) → AreFew streams → AreFew (map change streams)
  AreFew-mapped streams few = record {
    others = subst (λ (n : ℕ). n ≤ 3) (sym (others-mapped streams)) few.others;
    applications = subst (λ (n : ℕ). n ≤ 64) (sym (applications-mapped streams)) few.applications;
  }

less-or-same : (b : Bool) (m n : ℕ) → m ≤ n → cond b (suc m) m ≤ cond b (suc n) n
less-or-same true m n le = omega arith
less-or-same false m n le = le

less-or-more : (b : Bool) (n : ℕ) → n ≤ cond b (suc n) n
less-or-more true n = omega arith
less-or-more false n = omega arith

-- fewer are fewer
applications-filtered : (p : OpenStream → Bool) (streams : List OpenStream) → applications_in (filter p streams) ≤ applications_in streams
applications-filtered p [] = omega arith
applications-filtered p (stream ∷ streams) =
    let rest = applications-filtered p streams in
    let more = less-or-more (is_of_application stream) (applications_in streams) in
    elim (p stream) as (λ b. applications_in (cond b (stream ∷ filter p streams) (filter p streams)) ≤ applications_in (stream ∷ streams)) [
      | true ↦ less-or-same (is_of_application stream) (applications_in (filter p streams)) (applications_in streams) rest
      | false ↦ omega arith
    ]

other-same : (b : Bool) (m n : ℕ) → m ≤ n → cond b m (suc m) ≤ cond b n (suc n)
other-same true m n le = le
other-same false m n le = omega arith

other-more : (b : Bool) (n : ℕ) → n ≤ cond b n (suc n)
other-more true n = omega arith
other-more false n = omega arith

others-filtered : (p : OpenStream → Bool) (streams : List OpenStream) → others_in (filter p streams) ≤ others_in streams
others-filtered p [] = omega arith
others-filtered p (stream ∷ streams) =
    let rest = others-filtered p streams in
    let more = other-more (is_of_application stream) (others_in streams) in
    elim (p stream) as (λ b. others_in (cond b (stream ∷ filter p streams) (filter p streams)) ≤ others_in (stream ∷ streams)) [
      | true ↦ other-same (is_of_application stream) (others_in (filter p streams)) (others_in streams) rest
      | false ↦ omega arith
    ]

pub AreFew-filtered : (p : OpenStream → Bool) (streams : List OpenStream) → AreFew streams → AreFew (filter p streams)
AreFew-filtered p streams few =
    let one = others-filtered p streams in
    let two = applications-filtered p streams in
    let others = few.others in
    let applications = few.applications in
    record { others = omega arith; applications = omega arith }

-- all streams are one or the other
length-few : (streams : List OpenStream) → length streams ≡ applications_in streams + others_in streams
length-few [] = refl
length-few (stream ∷ streams) =
    let rest = length-few streams in
    elim (is_of_application stream) as (λ b. suc (length streams) ≡ cond b (suc (applications_in streams)) (applications_in streams) + cond b (others_in streams) (suc (others_in streams))) [
      | true ↦ omega arith
      | false ↦ omega arith
    ]

pub few-bound : (streams : List OpenStream) → AreFew streams → length streams ≤ 67
few-bound streams few =
    let all = length-few streams in
    let others = few.others in
    let applications = few.applications in
    omega arith

-- the kept ones are busy
pub busy-kept : (streams : List OpenStream) → list_any has_nobody (kept_streams streams) ≡ false
busy-kept [] = refl
busy-kept (stream ∷ streams) =
    (elim (has_nobody stream) as (λ b. has_nobody stream ≡ b → list_any has_nobody (cond (not b) (stream ∷ kept_streams streams) (kept_streams streams)) ≡ false) [
      | true ↦ λ is. busy-kept streams
      | false ↦ λ is. ap (λ b. b || list_any has_nobody (kept_streams streams)) is ∙ busy-kept streams
    ]) refl

-- streams that stay open to those that have them open stay busy
pub busy-changed : (change : OpenStream → OpenStream) → ((stream : OpenStream) → has_nobody stream ≡ false → has_nobody (change stream) ≡ false) → (test : OpenStream → Bool) (streams : List OpenStream) → list_any has_nobody streams ≡ false → list_any has_nobody (change_first test change streams) ≡ false
busy-changed change keeps test [] busy = refl
busy-changed change keeps test (stream ∷ streams) busy =
    let both = or_parts (has_nobody stream) (list_any has_nobody streams) busy in
    elim (test stream) as (λ b. list_any has_nobody (cond b (change stream ∷ streams) (stream ∷ change_first test change streams)) ≡ false) [
      | true ↦ ap (λ b. b || list_any has_nobody streams) (keeps stream both.0) ∙ both.1
      | false ↦ ap (λ b. b || list_any has_nobody (change_first test change streams)) both.0 ∙ busy-changed change keeps test streams both.1
    ]

-- stamps of ends fit their type
ends-bound : (last second most : ℕ) (streams : List OpenStream) → last ≤ most → second ≤ 9000000000 → 9000000000 ≤ most → last_after_ends last second streams ≤ most + length streams
ends-bound last second most [] low early far = omega arith
ends-bound last second most (stream ∷ streams) low early far =
    let next = stamp-bound last second most (has_nobody stream) low early far in
    let rest = ends-bound (cond (has_nobody stream) (stamp_after last second) last) second (most + 1) streams next early (omega arith) in
    omega arith

pub ends-fit : (last now : ℤ) (left : List OpenStream) (ended : ℤ × List StreamEvent) → IsMoment last now → length left ≤ 100 → AreEndsIn last now left ended → SFits w64 ended.0
ends-fit last now left ended moment few ends =
    let time : IsTimeOfCall now = record { from = moment.from; to = moment.to } in
    let bound = ends-bound (unsigned_abs last) (second_of now) 19999999000 left (abs-bound last 19999999000 moment.last_from moment.last_to) (second-bound now time) (omega arith) in
    subst (λ (z : ℤ). SFits w64 z) (sym ends.stamp) (record { sfits = omega arith })

pub ended-from : (last now : ℤ) (left : List OpenStream) (ended : ℤ × List StreamEvent) → AreEndsIn last now left ended → pos 0 ≤ℤ ended.0
ended-from last now left ended ends = subst (λ (z : ℤ). pos 0 ≤ℤ z) (sym ends.stamp) (pos-from _)

-- the count of the test is the number
pub count-applications : (streams : List OpenStream) → count_by is_of_application streams ≡ applications_in streams
count-applications streams = counted streams 0 ∙ zero-add (applications_in streams) where
  counted : (these : List OpenStream) (n : ℕ) → fold (λ a stream. a + cond (is_of_application stream) 1 0) n these ≡ n + applications_in these
  counted [] n = sym (add-zero n)
  counted (stream ∷ these) n =
      counted these (n + cond (is_of_application stream) 1 0)
      ∙ elim (is_of_application stream) as (λ b. n + cond b 1 0 + applications_in these ≡ n + cond b (suc (applications_in these)) (applications_in these)) [
        | true ↦ omega arith
        | false ↦ omega arith
      ]

-- one stream of an application more
pub AreFew-pushed : (streams : List OpenStream) (stream : OpenStream) → is_of_application stream ≡ true → nat_le 64 (applications_in streams) ≡ false → AreFew streams → AreFew (streams ++ stream ∷ [])
AreFew-pushed streams stream is room few =
    let others = few.others in
    let less : applications_in streams < 64 = grind (arith, nat_tests) in
    record {
      others = subst (λ (n : ℕ). n ≤ 3) (sym (pushed_others streams)) few.others;
      applications = subst (λ (n : ℕ). n ≤ 64) (sym (pushed_applications streams)) (omega arith);
    } where
      pushed_others : (these : List OpenStream) → others_in (these ++ stream ∷ []) ≡ others_in these
      pushed_others [] = ap (λ b. cond b 0 1) is
      pushed_others (one ∷ these) = ap (λ n. cond (is_of_application one) n (suc n)) (pushed_others these)

      pushed_applications : (these : List OpenStream) → applications_in (these ++ stream ∷ []) ≡ suc (applications_in these)
      pushed_applications [] = ap (λ b. cond b 1 0) is
      pushed_applications (one ∷ these) =
          ap (λ n. cond (is_of_application one) (suc n) n) (pushed_applications these)
          ∙ elim (is_of_application one) as (λ b. cond b (suc (suc (applications_in these))) (suc (applications_in these)) ≡ suc (cond b (suc (applications_in these)) (applications_in these))) [ true ↦ refl | false ↦ refl ]

pub busy-pushed : (streams : List OpenStream) (stream : OpenStream) → list_any has_nobody streams ≡ false → has_nobody stream ≡ false → list_any has_nobody (streams ++ stream ∷ []) ≡ false
busy-pushed [] stream busy opened = ap (λ b. b || false) opened
busy-pushed (one ∷ streams) stream busy opened =
    let both = or_parts (has_nobody one) (list_any has_nobody streams) busy in
    ap (λ b. b || list_any has_nobody (streams ++ stream ∷ [])) both.0 ∙ busy-pushed streams stream both.1 opened

-- a call can come at this moment
pub moment-of : (last now : ℤ) (kept : LogTable) → pos 0 ≤ℤ last → unsigned_abs last ≡ kept.last → IsCallTime kept now → IsMoment last now
moment-of (pos n) now kept from is time =
    let low = time.last in
    let most : n ≤ 19999999000 = omega arith in
    record { last_from = from; last_to = pos-below n 19999999000 most; from = time.from; to = time.to }
moment-of (negsuc n) now kept from is time = absurd from.le

pub moment-fits : (last now : ℤ) → IsMoment last now → SFits w64 last
moment-fits (pos n) now moment =
    let low = abs-bound (pos n) 19999999000 moment.last_from moment.last_to in record { sfits = omega arith }
moment-fits (negsuc n) now moment = absurd moment.last_from.le
