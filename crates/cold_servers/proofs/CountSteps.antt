-- What a disk counted, by the answer of what was asked of it.
use Rattle.std.proofs.Common.{◌≡◌, ◌⊎◌, inl, inr, ℕ, suc, ◌≤◌, Option, Some, None, refl, ap, sym, ◌∙◌, arith, le_refl}
use Rattle.std.specs.Prelude.{is_some, Ok, Err}
use Rattle.ais_values.specs.Causes.{RoseExactlyOn}
use Rattle.disk_model.specs.Counts.{CountsBroken, CountsDone, lowered, many_more}
use Rattle.disk_model.specs.Seen.{DiskSeen}
use Rattle.disk_model.specs.declared.answers.DiskAnswer.{DiskAnswer}
use Rattle.disk_model.specs.declared.answers.DiskAnswer.TheVariants.{Memory, Failed, Stopped}
use Rattle.disk_model.specs.declared.tally.Tally.{Tally}
use Rattle.lone_server.specs.Falls.{unarmed}
use Rattle.cold_servers.specs.ColdCounts.{Broke, FaultsBy, Made, StopsBy}
use Rattle.cold_servers.specs.CountLaws.{zero-plus}

-- the answers by which the server goes down
abbrev pub IsFall : DiskAnswer → Type 0
IsFall Memory = ⊥
IsFall _ = Unit {0}

-- its counts of faults and stops went by the answer; or they stood, where it was done
abbrev pub RoseBy : DiskAnswer → DiskSeen → DiskSeen → Type 0
RoseBy answer held left = FaultsBy answer held.faults left.faults × StopsBy answer held.stops left.stops

pub record Stands (held left : DiskSeen) : Type 0 where
  pub faults : left.faults ≡ held.faults
  pub stops : left.stops ≡ held.stops

other-stands : (answer error : DiskAnswer) (before now : ℕ) → (answer ≡ error → ⊥) → (answer ≡ error) ⊎ (now ≡ before) → now ≡ before
other-stands answer error before now never (inl is) = absurd (never is)
other-stands answer error before now never (inr same) = same

pub rose-by : {T : Type 0} (answer : DiskAnswer) (held left : DiskSeen) → RoseExactlyOn {T = T} held.faults left.faults (Err answer) Failed
    → RoseExactlyOn {T = T} held.stops left.stops (Err answer) Stopped → RoseBy answer held left
rose-by Memory held left cause stop =
    (other-stands Memory Failed held.faults left.faults (λ is. cc) cause.stands, other-stands Memory Stopped held.stops left.stops (λ is. cc) stop.stands)
rose-by Failed held left cause stop =
    ((cause.later, cause.rose refl), other-stands Failed Stopped held.stops left.stops (λ is. cc) stop.stands)
rose-by Stopped held left cause stop =
    (other-stands Stopped Failed held.faults left.faults (λ is. cc) cause.stands, (stop.later, stop.rose refl))

pub stands-done : {T : Type 0} (done : T) (held left : DiskSeen) → RoseExactlyOn {T = T} held.faults left.faults (Ok done) Failed
    → RoseExactlyOn {T = T} held.stops left.stops (Ok done) Stopped → Stands held left
stands-done done held left cause stop = record { faults = cause.stands; stops = stop.stands }

-- where memory was wanting they stood
pub stands-lacking : (held left : DiskSeen) → RoseBy Memory held left → Stands held left
stands-lacking held left rose = record { faults = rose.0; stops = rose.1 }

-- Calls.

pub made-by : (calls : ℕ) (held left : DiskSeen) → left.tally.changing ≡ many_more calls held.tally.changing → Stands held left → Made calls held left
made-by calls held left changing stands = record { changing = changing; faults = stands.faults; stops = stands.stops }

-- so many and one more, by the answer
abbrev pub ChangedTo : ℕ → Tally → Tally → Type 0
ChangedTo calls held left = (left.changing ≡ many_more calls held.changing) × (left.reading ≡ held.reading)

pub broken-changed : (answer : DiskAnswer) (count : ℕ) (held left : Tally) → CountsBroken answer count held left → ChangedTo (suc count) held left
broken-changed Memory count held left counts = (ap (λ (t : Tally). t.changing) counts.1, ap (λ (t : Tally). t.reading) counts.1)
broken-changed Failed count held left counts = (ap (λ (t : Tally). t.changing) counts.1, ap (λ (t : Tally). t.reading) counts.1)
broken-changed Stopped count held left counts = (ap (λ (t : Tally). t.changing) counts.2, ap (λ (t : Tally). t.reading) counts.2)

pub done-changed : (count : ℕ) (held left : Tally) → CountsDone count held left → ChangedTo count held left
done-changed count held left counts = (ap (λ (t : Tally). t.changing) counts.1, ap (λ (t : Tally). t.reading) counts.1)

-- the disk was disarmed behind that, and counts as it did
pub broke-as : (answer : DiskAnswer) (calls count : ℕ) (held mid left : DiskSeen) → CountsBroken answer count held.tally mid.tally → left ≡ unarmed mid
    → suc count ≤ calls → RoseBy answer held left → Broke answer 0 calls held left × (left.tally.reading ≡ held.tally.reading)
broke-as answer calls count held mid left counts is within rose =
    let changed = broken-changed answer count held.tally mid.tally counts in (
      record {
        made = suc count;
        some = omega arith;
        within = within;
        changing = ap (λ (seen : DiskSeen). seen.tally.changing) is ∙ changed.0 ∙ ap (λ n. many_more n held.tally.changing) (sym (zero-plus (suc count)));
        faults = rose.0;
        stops = rose.1;
      },
      ap (λ (seen : DiskSeen). seen.tally.reading) is ∙ changed.1,
    )

-- Armed counts: a disk that did not stop is armed as it was.

pub some-lowered : (count : ℕ) (armed : Option ℕ) → is_some (lowered count armed) ≡ is_some armed
some-lowered count None = refl
some-lowered count (Some left) = refl

pub done-armed : (count : ℕ) (held left : Tally) → CountsDone count held left → is_some left.armed ≡ is_some held.armed
done-armed count held left counts = ap (λ (t : Tally). is_some t.armed) counts.1 ∙ some-lowered count held.armed

pub lacking-armed : (count : ℕ) (held left : Tally) → CountsBroken Memory count held left → is_some left.armed ≡ is_some held.armed
lacking-armed count held left counts = ap (λ (t : Tally). is_some t.armed) counts.1 ∙ some-lowered count held.armed

-- What was asked of a disk where memory was wanting: none of the calls, or some of them, in the last of which it was, or all of them.
pub record Tried (calls : ℕ) (held left : DiskSeen) : Type 0 where
  pub more : ℕ
  pub within : more ≤ calls
  pub changed : ChangedTo more held.tally left.tally
  pub armed : is_some left.tally.armed ≡ is_some held.tally.armed

pub tried-none : (calls : ℕ) (held left : DiskSeen) → left.tally ≡ held.tally → Tried calls held left
tried-none calls held left same = record {
  more = 0;
  within = omega arith;
  changed = (ap (λ (t : Tally). t.changing) same, ap (λ (t : Tally). t.reading) same);
  armed = ap (λ (t : Tally). is_some t.armed) same;
}

pub tried-some : (calls : ℕ) (held left : DiskSeen) (count : ℕ) → CountsBroken Memory count held.tally left.tally → suc count ≤ calls → Tried calls held left
tried-some calls held left count counts within = record {
  more = suc count;
  within = within;
  changed = broken-changed Memory count held.tally left.tally counts;
  armed = lacking-armed count held.tally left.tally counts;
}

pub tried-all : (calls : ℕ) (held left : DiskSeen) → CountsDone calls held.tally left.tally → Tried calls held left
tried-all calls held left counts = record {
  more = calls;
  within = le_refl calls;
  changed = done-changed calls held.tally left.tally counts;
  armed = done-armed calls held.tally left.tally counts;
}
