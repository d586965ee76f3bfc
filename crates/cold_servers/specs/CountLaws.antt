-- What both disks counted in events in a row.
use Rattle.std.specs.Prelude.{◌≡◌, ℕ, zero, suc, ◌+◌, true, false, if◌then◌else◌, nat_le, List, ◌∷◌}
use Rattle.std.proofs.Common.{refl, ap, sym, subst, ◌∙◌, arith}
use Rattle.ais_values.specs.Causes.{one_more}
use Rattle.disk_model.specs.Counts.{many_more}
use Rattle.disk_model.specs.Seen.{DiskSeen}
use Rattle.disk_model.specs.declared.answers.DiskAnswer.{DiskAnswer}
use Rattle.plain_service.specs.Setups.{Setup}
use Rattle.cluster_facts.specs.Types.{Entry}
use Rattle.cluster_facts.specs.Lists.{EndsIn}
use Rattle.cluster_facts.specs.History.{Hand, Empty, Waiting, Applied, Ready, committed, committed_by}
use Rattle.cluster_events.specs.Servers.{State}
use Rattle.cluster_events.specs.Devices.{spliced}
use Rattle.cold_cluster.specs.Cold.{Alone, IsBeside}
use Rattle.cold_servers.specs.ColdSeen.{ColdSeen}
use Rattle.cold_servers.specs.ColdCounts.{AreUnread, Broke, BrokeIn, CallsBetween, Done, EndsBoth, FaultsBy, Idle, Joining, LackedAt, LacksBoth}
use Rattle.cold_servers.specs.ColdCounts.{Made, StopsBy, UsesBoth, Went, WentDown, Working, join_calls, work_calls}
use Rattle.cold_servers.specs.ColdCounts.CallsBetween.{none, more}

-- Counts.

pub zero-plus : (n : ℕ) → 0 + n ≡ n
zero-plus n = omega arith

plus-zero : (n : ℕ) → n ≡ n + 0
plus-zero n = omega arith

plus-suc : (a b : ℕ) → suc (a + b) ≡ a + suc b
plus-suc a b = omega arith

plus-plus : (a b c : ℕ) → (a + b) + c ≡ a + (b + c)
plus-plus a b c = omega arith

plus-left : (a b c : ℕ) → a + (b + c) ≡ (a + b) + c
plus-left a b c = omega arith

more-more : (one two count : ℕ) → many_more two (many_more one count) ≡ many_more (one + two) count
more-more one zero count = ap (λ n. many_more n count) (plus-zero one)
more-more one (suc two) count = ap one_more (more-more one two count) ∙ ap (λ n. many_more n count) (plus-suc one two)

pub between-both : {calls : List Entry → Entry → ℕ} {old middle new : List Entry} {one two : ℕ} → CallsBetween calls old middle one
    → CallsBetween calls middle new two → CallsBetween calls old new (one + two)
between-both {calls} {old} {middle} {one = one} first none = subst (λ n. CallsBetween calls old middle n) (plus-zero one) first
between-both {calls} {old} {one = one} first (more {now = now} {count = count} entry second) =
    subst (λ n. CallsBetween calls old (entry ∷ now) n) (plus-plus one count (calls now entry)) (more entry (between-both first second))

-- of the same history, though it is said otherwise
pub between-same : (calls : List Entry → Entry → ℕ) (old new : List Entry) → new ≡ old → CallsBetween calls old new 0
between-same calls old new same = subst (λ (past : List Entry). CallsBetween calls old past 0) (sym same) none

-- of one entry more
pub between-one : (calls : List Entry → Entry → ℕ) (old : List Entry) (entry : Entry) → CallsBetween calls old (entry ∷ old) (calls old entry)
between-one calls old entry = subst (λ n. CallsBetween calls old (entry ∷ old) n) (zero-plus (calls old entry)) (more entry none)

-- One disk.

pub made-none : (seen : DiskSeen) → Made 0 seen seen
made-none seen = record { changing = refl; faults = refl; stops = refl }

pub made-same : (held left : DiskSeen) → left ≡ held → Made 0 held left
made-same held left same = subst (λ (seen : DiskSeen). Made 0 held seen) (sym same) (made-none held)

pub made-both : (one two : ℕ) (held told left : DiskSeen) → Made one held told → Made two told left → Made (one + two) held left
made-both one two held told left first second = record {
  changing = second.changing ∙ ap (many_more two) first.changing ∙ more-more one two held.tally.changing;
  faults = second.faults ∙ first.faults;
  stops = second.stops ∙ first.stops;
}

pub made-as : (one two : ℕ) (held left : DiskSeen) → one ≡ two → Made one held left → Made two held left
made-as one two held left same made = subst (λ n. Made n held left) same made

broke-behind : (answer : DiskAnswer) (one done calls : ℕ) (held told left : DiskSeen) → Made one held told → Broke answer done calls told left
    → Broke answer (one + done) calls held left
broke-behind answer one done calls held told left first broke = record {
  made = broke.made;
  some = broke.some;
  within = broke.within;
  changing =
      broke.changing ∙ ap (many_more (done + broke.made)) first.changing ∙ more-more one (done + broke.made) held.tally.changing
      ∙ ap (λ n. many_more n held.tally.changing) (plus-left one done broke.made);
  faults = subst (λ (n : ℕ). FaultsBy answer n left.faults) first.faults broke.faults;
  stops = subst (λ (n : ℕ). StopsBy answer n left.stops) first.stops broke.stops;
}

-- Both.

pub unread-same : (seen : ColdSeen) → AreUnread seen seen
unread-same seen = record { disk = refl; journal = refl }

unread-both : (held told left : ColdSeen) → AreUnread held told → AreUnread told left → AreUnread held left
unread-both held told left first second = record { disk = second.disk ∙ first.disk; journal = second.journal ∙ first.journal }

pub idle-same : (seen : ColdSeen) → Idle seen seen
idle-same seen = record { unread = unread-same seen; disk = made-none seen.disk; journal = made-none seen.journal }

pub never-both : (place : ℕ) (one two : ℕ → ℕ) → ((number : ℕ) → one number ≡ 0) → ((number : ℕ) → two number ≡ 0) → (number : ℕ)
    → spliced place one two number ≡ 0
never-both place one two first second number =
    elim (nat_le number place) as (λ b. (if b then one number else two number) ≡ 0) [ true ↦ first number | false ↦ second number ]

-- nothing was asked, and no entry was answered or committed
pub done-none : (setup : Setup) (old new : State Alone) (seen : ColdSeen) → new.world.core.answered ≡ old.world.core.answered
    → committed new.world.core ≡ committed old.world.core → new.peers.up ≡ old.peers.up → IsBeside new.peers.mirrored → Done setup old new seen seen
done-none setup old new seen answered same up beside = record {
  works = 0;
  appends = 0;
  went = record {
    worked = between-same (work_calls setup) old.world.core.answered new.world.core.answered answered;
    joined = between-same join_calls (committed old.world.core) (committed new.world.core) same;
  };
  up = up;
  beside = beside;
  unread = unread-same seen;
  disk = made-none seen.disk;
  journal = made-none seen.journal;
}

went-both : (setup : Setup) (old middle new : State Alone) (works more_works appends more_appends : ℕ) → Went setup old middle works appends
    → Went setup middle new more_works more_appends → Went setup old new (works + more_works) (appends + more_appends)
went-both setup old middle new works more_works appends more_appends first second = record {
  worked = between-both first.worked second.worked;
  joined = between-both first.joined second.joined;
}

done-both : (setup : Setup) (old middle new : State Alone) (held told left : ColdSeen) → Done setup old middle held told → Done setup middle new told left
    → Done setup old new held left
done-both setup old middle new held told left first second = record {
  works = first.works + second.works;
  appends = first.appends + second.appends;
  went = went-both setup old middle new first.works second.works first.appends second.appends first.went second.went;
  up = second.up ∙ first.up;
  beside = second.beside;
  unread = unread-both held told left first.unread second.unread;
  disk = made-both first.works second.works held.disk told.disk left.disk first.disk second.disk;
  journal = made-both first.appends second.appends held.journal told.journal left.journal first.journal second.journal;
}

broke-in : (answer : DiskAnswer) (setup : Setup) (past : List Entry) (hand : Hand) (works more_works appends more_appends : ℕ) (held told left : ColdSeen)
    → Made works held.disk told.disk → Made appends held.journal told.journal → BrokeIn answer setup past hand more_works more_appends told left
    → BrokeIn answer setup past hand (works + more_works) (appends + more_appends) held left
broke-in answer setup past (Waiting entry) works more_works appends more_appends held told left disk journal broke = (
  made-both works more_works held.disk told.disk left.disk disk broke.0,
  broke-behind answer appends more_appends (join_calls past entry) held.journal told.journal left.journal journal broke.1,
)
broke-in answer setup past (Ready entry) works more_works appends more_appends held told left disk journal broke = (
  broke-behind answer works more_works (work_calls setup past entry) held.disk told.disk left.disk disk broke.0,
  made-both appends more_appends held.journal told.journal left.journal journal broke.1,
)
broke-in answer setup past Empty works more_works appends more_appends held told left disk journal broke = absurd broke
broke-in answer setup past (Applied entry) works more_works appends more_appends held told left disk journal broke = absurd broke

down-behind : (answer : DiskAnswer) (setup : Setup) (old middle new : State Alone) (held told left : ColdSeen) → Done setup old middle held told
    → WentDown answer setup middle new told left → WentDown answer setup old new held left
down-behind answer setup old middle new held told left first second = record {
  works = first.works + second.works;
  appends = first.appends + second.appends;
  went = went-both setup old middle new first.works second.works first.appends second.appends first.went second.went;
  up = sym first.up ∙ second.up;
  down = second.down;
  unread = unread-both held told left first.unread second.unread;
  broke = broke-in answer setup new.world.core.answered new.world.core.hand first.works second.works first.appends second.appends held told left
      first.disk first.journal second.broke;
}

-- Want of memory.

-- of a state in which nothing was done yet
lacked-none : (setup : Setup) (past entries : List Entry) (hand : Hand) (held left : ColdSeen) → Made 0 held.disk left.disk
    → Made 0 held.journal left.journal → LackedAt setup (committed_by past hand) entries past 0 held left
lacked-none setup past entries Empty held left disk journal = Joining 0 0 none (omega arith) disk journal
lacked-none setup past entries (Waiting entry) held left disk journal = Joining 0 0 none (omega arith) disk journal
lacked-none setup past entries (Applied entry) held left disk journal =
    Working entry 0 0 none (omega arith) (λ some. absurd (omega (arith, some))) disk journal
lacked-none setup past entries (Ready entry) held left disk journal =
    Working entry 0 0 none (omega arith) (λ some. absurd (omega (arith, some))) disk journal

pub lacks-idle : (setup : Setup) (state : State Alone) (entries : List Entry) (held left : ColdSeen) → EndsIn entries state.world.core.answered
    → left.journal.tally.reading ≡ held.journal.tally.reading → Made 0 held.disk left.disk → Made 0 held.journal left.journal
    → LacksBoth setup state entries held left
lacks-idle setup state entries held left ends unread disk journal = λ beside. record {
  past = state.world.core.answered;
  ends = ends;
  works = 0;
  worked = none;
  unread = unread;
  lacked = lacked-none setup state.world.core.answered entries state.world.core.hand held left disk journal;
}

lacked-behind : (setup : Setup) (core middle entries past : List Entry) (works more_works appends : ℕ) (held told left : ColdSeen)
    → CallsBetween join_calls core middle appends → Made works held.disk told.disk → Made appends held.journal told.journal
    → LackedAt setup middle entries past more_works told left → LackedAt setup core entries past (works + more_works) held left
lacked-behind setup core middle entries past works more_works appends held told left joined disk journal (Joining later tried second within made tries) =
    Joining (appends + later) tried (between-both joined second) within
    (made-both works more_works held.disk told.disk left.disk disk made)
    (made-as (appends + (later + tried)) ((appends + later) + tried) held.journal left.journal (plus-left appends later tried)
    (made-both appends (later + tried) held.journal told.journal left.journal journal tries))
lacked-behind setup core middle entries past works more_works appends held told left joined disk journal (Working entry late tried two within ends tries made) =
    Working entry (appends + late) tried (between-both joined two) within ends
    (made-as (works + (more_works + tried)) ((works + more_works) + tried) held.disk left.disk (plus-left works more_works tried)
    (made-both works (more_works + tried) held.disk told.disk left.disk disk tries))
    (made-both appends late held.journal told.journal left.journal journal made)

-- What a kit is asked.

pub uses-both : (setup : Setup) (place : ℕ) (one two : ℕ → ℕ) (old middle new : State Alone) (held told left : ColdSeen)
    → UsesBoth setup one old middle held told → UsesBoth setup two middle new told left → UsesBoth setup (spliced place one two) old new held left
uses-both setup place one two old middle new held told left first second = record {
  never = never-both place one two first.never second.never;
  done = λ beside.
      let before = first.done beside in
      done-both setup old middle new held told left before (second.done before.beside);
}

pub ends-behind : (answer : DiskAnswer) (setup : Setup) (place : ℕ) (one two : ℕ → ℕ) (old middle new : State Alone) (held told left : ColdSeen)
    → UsesBoth setup one old middle held told → EndsBoth answer setup two middle new told left
    → EndsBoth answer setup (spliced place one two) old new held left
ends-behind answer setup place one two old middle new held told left first second = record {
  never = never-both place one two first.never second.never;
  broke = λ beside.
      let before = first.done beside in
      down-behind answer setup old middle new held told left before (second.broke before.beside);
}

pub lacks-behind : (setup : Setup) (happened : ℕ → ℕ) (old middle : State Alone) (entries : List Entry) (held told left : ColdSeen)
    → UsesBoth setup happened old middle held told → LacksBoth setup middle entries told left → LacksBoth setup old entries held left
lacks-behind setup happened old middle entries held told left first second = λ beside.
    let before = first.done beside in
    let after = second before.beside in
    record {
      past = after.past;
      ends = after.ends;
      works = before.works + after.works;
      worked = between-both before.went.worked after.worked;
      unread = after.unread ∙ before.unread.journal;
      lacked =
          lacked-behind setup (committed old.world.core) (committed middle.world.core) entries after.past before.works after.works before.appends
          held told left before.went.joined before.disk before.journal after.lacked;
    }
