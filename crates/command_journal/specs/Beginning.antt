-- Words of public clauses: what a cluster line leaves of both disks.
use Rattle.std.specs.Prelude.{◌≡◌, ◌⊎◌, ℕ, suc, length, List, [], Result, Ok, Err}
use Rattle.disk_model.specs.Counts.{Counters, passed}
use Rattle.disk_model.specs.DeviceCalls.{DeviceCall, FailsAfter}
use Rattle.disk_model.specs.Seen.{DiskSeen}
use Rattle.wire.specs.declared.message.Message.TheVariants.{Snapshot}
use Rattle.wire.specs.MessageSpelling.{message_text}
use Rattle.plain_service.specs.Setups.{Setup}
use Rattle.plain_service.specs.Values.{saved_of}
use Rattle.cluster_events.specs.Servers.{State}
use Rattle.journal_frames.specs.Frames.{behind_gate, make_calls}
use Rattle.played_runs.specs.Views.{FailedDeeds, LackedDeeds, behind_deeds, counters_of}
use Rattle.cold_cluster.specs.Cold.{Alone, cold_begun}
use Rattle.cold_servers.specs.ColdSeen.{ArmsBoth, ColdSeen, LeavesBoth}
use Rattle.command_journal.specs.declared.answer.EventAnswer.{EventAnswer}
use Rattle.command_journal.specs.declared.answer.EventAnswer.TheVariants.{Memory, DiskFault, Journal}
use Rattle.command_journal.specs.declared.world.ColdWorld.{ColdWorld}
use Rattle.command_journal.specs.Worlds.{IsGood, Shows}

abbrev pub start_of : Setup → ℕ → State Alone
start_of setup places = cold_begun setup.start places

-- The server of a setup stands at its start, linked to its journal: where the disks told their files the record disk has those of the
-- empty history, and the journal's the journal of it; neither is armed.
pub record Begun (setup : Setup) (places : ℕ) (held left : ColdSeen) (world : ColdWorld) : Type 0 where
  pub good : IsGood setup (start_of setup places)
  pub shows : Shows setup (start_of setup places) world
  pub count : ArmsBoth (start_of setup places).peers left
  pub leaves : LeavesBoth setup (start_of setup places) held left

-- What the disks counted: the deeds of the start come first, then the calls that make the journal, and no others.

-- the calls that make the journal of the empty history
abbrev pub calls_of_make : Setup → List DeviceCall
calls_of_make setup = make_calls (behind_gate (message_text (Snapshot (saved_of setup []))))

abbrev pub behind_make : Setup → Counters → Counters
behind_make setup first = record { faults = first.faults; stops = first.stops; tally = passed (length (calls_of_make setup)) first.tally }

-- a call of these failed behind so many that were done
pub record FailedMake (setup : Setup) (held left : DiskSeen) : Type 0 where
  pub count : ℕ
  pub fails : FailsAfter (calls_of_make setup) count held.files left.files
  pub tally : left.tally ≡ passed (suc count) held.tally
  pub stops : left.stops ≡ held.stops

-- memory was wanting before them, or in them: no call failed, and the disk did not stop
pub record LackedMake (held left : DiskSeen) : Type 0 where
  pub faults : left.faults ≡ held.faults
  pub stops : left.stops ≡ held.stops
  pub armed : left.tally.armed ≡ held.tally.armed

-- the deeds broke off, and the journal's disk was not asked; or they were done, and the journal broke off
abbrev pub BreaksStart : Setup → (DiskSeen → DiskSeen → Type 0) → (DiskSeen → DiskSeen → Type 0) → ColdSeen → ColdSeen → Type 0
BreaksStart setup Deeds Make held left =
    (Deeds held.disk left.disk × (left.journal ≡ held.journal))
    ⊎ ((counters_of left.disk ≡ behind_deeds setup (counters_of held.disk)) × Make held.journal left.journal)

abbrev pub LeavesStart : {T : Type 0} → Setup → ColdSeen → ColdSeen → Result T EventAnswer → Type 0
LeavesStart setup held left (Ok begun) =
    (counters_of left.disk ≡ behind_deeds setup (counters_of held.disk))
    × (counters_of left.journal ≡ behind_make setup (counters_of held.journal))
LeavesStart setup held left (Err Memory) = BreaksStart setup (LackedDeeds setup) LackedMake held left
LeavesStart setup held left (Err (DiskFault lines)) = (lines ≡ []) × BreaksStart setup (FailedDeeds setup) (FailedMake setup) held left
LeavesStart setup held left (Err (Journal place)) = ⊥
