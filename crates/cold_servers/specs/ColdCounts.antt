-- Words of public clauses: what the record disk and the journal's count: the changing calls of the works of entries, and of their appends.
use Rattle.std.specs.Prelude.{◌≡◌, ◌⊎◌, ℕ, ◌+◌, ◌≤◌, Bool, true, false, List, ◌∷◌, length}
use Rattle.ais_values.specs.Causes.{Rose}
use Rattle.disk_model.specs.Counts.{many_more}
use Rattle.disk_model.specs.Seen.{DiskSeen}
use Rattle.disk_model.specs.declared.answers.DiskAnswer.{DiskAnswer}
use Rattle.disk_model.specs.declared.answers.DiskAnswer.TheVariants.{Failed, Stopped}
use Rattle.script_lines.specs.declared.line.Line.{Line}
use Rattle.script_lines.specs.declared.line.Line.TheVariants as line
use Rattle.stream_layout.specs.Deeds.{calls_of_all}
use Rattle.plain_service.specs.Setups.{Setup}
use Rattle.plain_service.specs.Storing.{deeds_of}
use Rattle.cluster_facts.specs.Types.{Entry}
use Rattle.cluster_facts.specs.Lists.{EndsIn}
use Rattle.cluster_facts.specs.History.{Hand, Waiting, Ready, committed}
use Rattle.cluster_events.specs.Servers.{State}
use Rattle.cluster_lines.specs.Playing.{LooksBy}
use Rattle.cold_cluster.specs.Cold.{Alone, IsBeside, append_count}
use Rattle.cold_servers.specs.ColdSeen.{ColdSeen}

-- how many changing calls are made for the entries between two histories, by those for each behind the history before it
pub data CallsBetween (calls : List Entry → Entry → ℕ) (old : List Entry) : List Entry → ℕ → Type 0 where
  none : CallsBetween calls old old 0
  more : {now : List Entry} {count : ℕ} → (entry : Entry) → CallsBetween calls old now count
      → CallsBetween calls old (entry ∷ now) (count + calls now entry)

-- those of the deeds of an entry, and those by which it joins the journal
abbrev pub work_calls : Setup → List Entry → Entry → ℕ
work_calls setup past entry = length (calls_of_all (deeds_of setup past entry))

abbrev pub join_calls : List Entry → Entry → ℕ
join_calls past entry = append_count

-- What one disk counts. Reading calls are told apart.

-- so many changing calls, of which none failed and none stopped the disk
pub record Made (calls : ℕ) (held left : DiskSeen) : Type 0 where
  pub changing : left.tally.changing ≡ many_more calls held.tally.changing
  pub faults : left.faults ≡ held.faults
  pub stops : left.stops ≡ held.stops

abbrev pub RisesOnce : ℕ → ℕ → Type 0
RisesOnce before now = (before ≤ now) × Rose before now

abbrev pub FaultsBy : DiskAnswer → ℕ → ℕ → Type 0
FaultsBy Failed before now = RisesOnce before now
FaultsBy _ before now = now ≡ before

abbrev pub StopsBy : DiskAnswer → ℕ → ℕ → Type 0
StopsBy Stopped before now = RisesOnce before now
StopsBy _ before now = now ≡ before

-- behind so many that were done some of these more, and in the last of them the disk stopped, or had a fault, by the answer
pub record Broke (answer : DiskAnswer) (done calls : ℕ) (held left : DiskSeen) : Type 0 where
  pub made : ℕ
  pub some : 1 ≤ made
  pub within : made ≤ calls
  pub changing : left.tally.changing ≡ many_more (done + made) held.tally.changing
  pub faults : FaultsBy answer held.faults left.faults
  pub stops : StopsBy answer held.stops left.stops

-- What both count.

pub record AreUnread (held left : ColdSeen) : Type 0 where
  pub disk : left.disk.tally.reading ≡ held.disk.tally.reading
  pub journal : left.journal.tally.reading ≡ held.journal.tally.reading

-- each entry that was answered was worked once, and each that was committed joined the journal once, by so many calls
pub record Went (setup : Setup) (old new : State Alone) (works appends : ℕ) : Type 0 where
  pub worked : CallsBetween (work_calls setup) old.world.core.answered new.world.core.answered works
  pub joined : CallsBetween join_calls (committed old.world.core) (committed new.world.core) appends

-- no other call was made, and the server is up or down as before
pub record Done (setup : Setup) (old new : State Alone) (held left : ColdSeen) : Type 0 where
  pub works : ℕ
  pub appends : ℕ
  pub went : Went setup old new works appends
  pub up : new.peers.up ≡ old.peers.up
  pub beside : IsBeside new.peers.mirrored
  pub unread : AreUnread held left
  pub disk : Made works held.disk left.disk
  pub journal : Made appends held.journal left.journal

-- the append of the entry that waited broke off, or the work of the one that was ready
abbrev pub BrokeIn : DiskAnswer → Setup → List Entry → Hand → (works appends : ℕ) → ColdSeen → ColdSeen → Type 0
BrokeIn answer setup past (Waiting entry) works appends held left =
    Made works held.disk left.disk × Broke answer appends (join_calls past entry) held.journal left.journal
BrokeIn answer setup past (Ready entry) works appends held left =
    Broke answer works (work_calls setup past entry) held.disk left.disk × Made appends held.journal left.journal
BrokeIn answer setup past _ works appends held left = ⊥

-- and the server went down in that
pub record WentDown (answer : DiskAnswer) (setup : Setup) (old new : State Alone) (held left : ColdSeen) : Type 0 where
  pub works : ℕ
  pub appends : ℕ
  pub went : Went setup old new works appends
  pub up : old.peers.up ≡ true
  pub down : new.peers.up ≡ false
  pub unread : AreUnread held left
  pub broke : BrokeIn answer setup new.world.core.answered new.world.core.hand works appends held left

-- Memory was wanting behind the works and appends that were done: in or behind the append of one more entry, or in or behind the work of one
-- that is committed, of which the history that is left has its part. No disk stopped, and none had a fault. The record disk's reading calls
-- are free, since its files may have been shown.
pub data LackedAt (setup : Setup) (core : List Entry) (entries past : List Entry) (works : ℕ) (held left : ColdSeen) : Type 0 where
  Joining : (appends more : ℕ) → CallsBetween join_calls core past appends → more ≤ append_count → Made works held.disk left.disk
      → Made (appends + more) held.journal left.journal → LackedAt setup core entries past works held left
  Working : (entry : Entry) (appends more : ℕ) → CallsBetween join_calls core (entry ∷ past) appends → more ≤ work_calls setup past entry
      → (1 ≤ more → EndsIn entries (entry ∷ past)) → Made (works + more) held.disk left.disk
      → Made appends held.journal left.journal → LackedAt setup core entries past works held left

pub record Lacked (setup : Setup) (old : State Alone) (entries : List Entry) (held left : ColdSeen) : Type 0 where
  pub past : List Entry
  pub ends : EndsIn entries past
  pub works : ℕ
  pub worked : CallsBetween (work_calls setup) old.world.core.answered past works
  pub unread : left.journal.tally.reading ≡ held.journal.tally.reading
  pub lacked : LackedAt setup (committed old.world.core) entries past works held left

-- What an event counted, over servers whose standby is the journal: as it was done; as a stop or a fault ended it, in which the count of one
-- disk alone rose; and as memory was wanting.

pub record UsesBoth (setup : Setup) (happened : ℕ → ℕ) (old new : State Alone) (held left : ColdSeen) : Type 0 where
  pub never : (number : ℕ) → happened number ≡ 0
  pub done : IsBeside old.peers.mirrored → Done setup old new held left

pub record EndsBoth (answer : DiskAnswer) (setup : Setup) (happened : ℕ → ℕ) (old new : State Alone) (held left : ColdSeen) : Type 0 where
  pub never : (number : ℕ) → happened number ≡ 0
  pub broke : IsBeside old.peers.mirrored → WentDown answer setup old new held left

abbrev pub LacksBoth : Setup → State Alone → List Entry → ColdSeen → ColdSeen → Type 0
LacksBoth setup state entries held left = IsBeside state.peers.mirrored → Lacked setup state entries held left

-- What a line counted.

-- nothing
pub record Idle (held left : ColdSeen) : Type 0 where
  pub unread : AreUnread held left
  pub disk : Made 0 held.disk left.disk
  pub journal : Made 0 held.journal left.journal

-- files of the record disk were shown
pub record Shown (next : Line) (held left : ColdSeen) : Type 0 where
  pub looks : LooksBy next held.disk.files true held.disk.tally left.disk.tally
  pub disk : Made 0 held.disk left.disk
  pub journal : left.journal ≡ held.journal

-- no count of faults and none of stops rose, in calls that are not counted here
pub record Stood (held left : ColdSeen) : Type 0 where
  pub faults : left.disk.faults ≡ held.disk.faults
  pub stops : left.disk.stops ≡ held.disk.stops
  pub journal_faults : left.journal.faults ≡ held.journal.faults
  pub journal_stops : left.journal.stops ≡ held.journal.stops

-- steps were made, in the last of which a disk may have stopped
abbrev pub Stepped : Setup → (old new : State Alone) → ColdSeen → ColdSeen → Type 0
Stepped setup old new held left = Done setup old new held left ⊎ WentDown Stopped setup old new held left

-- a server that was down came back
abbrev pub CameBack : (before after : Bool) → ColdSeen → ColdSeen → Type 0
CameBack false true held left = Stood held left
CameBack _ _ held left = Idle held left

abbrev pub CountsLine : Line → Setup → (old new : State Alone) → ColdSeen → ColdSeen → Type 0
CountsLine line.Mirror setup old new held left = Stepped setup old new held left
CountsLine line.Work setup old new held left = Stepped setup old new held left
CountsLine line.Settle setup old new held left = Stepped setup old new held left
CountsLine line.Files setup old new held left = Shown line.Files held left
CountsLine (line.Cat name) setup old new held left = Shown (line.Cat name) held left
CountsLine (line.Restart server) setup old new held left = CameBack old.peers.up new.peers.up held left
CountsLine _ setup old new held left = Idle held left

pub record UsesLine (next : Line) (setup : Setup) (happened : ℕ → ℕ) (old new : State Alone) (held left : ColdSeen) : Type 0 where
  pub never : (number : ℕ) → happened number ≡ 0
  pub counts : IsBeside old.peers.mirrored → CountsLine next setup old new held left

-- and where a fault ended it: a cold start fails by either disk
pub record StartFails (held left : ColdSeen) : Type 0 where
  pub disk : held.disk.faults ≤ left.disk.faults
  pub journal : held.journal.faults ≤ left.journal.faults
  pub rose : Rose held.disk.faults left.disk.faults ⊎ Rose held.journal.faults left.journal.faults
  pub stops : left.disk.stops ≡ held.disk.stops
  pub journal_stops : left.journal.stops ≡ held.journal.stops

abbrev pub CountsEnd : Line → Setup → (old new : State Alone) → ColdSeen → ColdSeen → Type 0
CountsEnd (line.Restart server) setup old new held left = StartFails held left
CountsEnd _ setup old new held left = WentDown Failed setup old new held left

pub record FaultsLine (next : Line) (setup : Setup) (happened : ℕ → ℕ) (old new : State Alone) (held left : ColdSeen) : Type 0 where
  pub never : (number : ℕ) → happened number ≡ 0
  pub counts : IsBeside old.peers.mirrored → CountsEnd next setup old new held left
