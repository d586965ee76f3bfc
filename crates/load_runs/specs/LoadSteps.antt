-- Words of bodies alone: what the parts of a large run give.
use Rattle.std.specs.Prelude.{◌≡◌, ℕ, Bool, true, false, List, [], ◌⊎◌, Option, Some, None}
use Rattle.disk_model.specs.Counts.{Counters}
use Rattle.disk_model.specs.Disk.{Files}
use Rattle.disk_model.specs.Seen.{DiskSeen}
use Rattle.script_lines.specs.declared.line.Line.{Line}
use Rattle.plain_service.specs.Setups.{Setup}
use Rattle.cluster_events.specs.Servers.{State}
use Rattle.played_runs.specs.declared.ending.Status8.{Status8}
use Rattle.played_runs.specs.declared.ending.Status8.TheVariants.{Done, DiskFault as Faulted, RootNotEmpty}
use Rattle.played_runs.specs.Counts.{HasStood, HasRisen}
use Rattle.played_runs.specs.Edges.{Edge, Stage, after, fault_count}
use Rattle.played_runs.specs.Ends.{PlayLacks, PlayedTo, RootHolds, fault_line}
use Rattle.played_runs.specs.Games.{Game, Shows}
use Rattle.played_runs.specs.Writing.{Ended, Reaching, Written, unasked}
use Rattle.played_runs.specs.Playing.{Goes, seen_behind}
use Rattle.played_runs.specs.Steps.{EventsEnd, LacksBehind}
use Rattle.load_runs.specs.Loading.{CountedBehind, FilesCounted, LineOf, LoadFails, TellsLoad, counting_faults}

-- memory was wanting as the files were counted, or as the line was made
abbrev pub TellLacks : DiskSeen → DiskSeen → List ℕ → Type 0
TellLacks held left text = (text ≡ []) × FilesCounted false held left × HasStood (held.faults, left.faults)

module _ {P S W : Type 0} (game : Game P Line S W) where
  -- the lines behind the cluster line were played, and the files of the disk were counted since
  pub record CountedSince (done : Bool) (setup : Setup) (places : ℕ) (held : Option Files) (first : Counters) (left : DiskSeen) (world : W)
      (events : List Line) (unwritten : List ℕ) : Type 0 where
    pub goes : (Goes game) setup places held first events unwritten
    pub shows : (Shows game) setup goes.state world
    pub counted : FilesCounted done ((seen_behind game) goes) left

  -- memory was wanting in an event, as a line was made, or as files were counted or the line that tells of them was made
  abbrev pub RunWants : Setup → ℕ → Option Files → Counters → DiskSeen → (Option Files → Counters → Type 0) → W → List Line → List ℕ → Type 0
  RunWants setup places held first left Since world events text =
      (text ≡ [])
      × ((unwritten : List ℕ)
      × ((LacksBehind game) setup places held first left world events unwritten
      ⊎ ((EventsEnd game) setup places held first left Since world events None unwritten
      ⊎ ((since : CountedSince false setup places held first left world events unwritten)
      × HasStood (since.goes.counts.faults, left.faults)))))

  abbrev pub LoadWants : {K D : Type 0} → List Line → Stage W K D → List ℕ → Type 0
  LoadWants lines scene text =
      (text ≡ [])
      × ((unwritten : List ℕ)
      × (PlayLacks game lines scene unwritten
      ⊎ (((done rest : List Line) × PlayedTo game scene lines done rest unwritten)
      ⊎ ((done : List Line) × (behind : CountedBehind game false scene lines done unwritten) × HasStood (counting_faults behind)))))

module _ {P S W : Type 0} (game : Game P Line S W) (line_of : LineOf game) where
  -- the line tells of a state that the world stands for; or the disk failed as its files were counted
  abbrev pub TellEnds : DiskSeen → DiskSeen → State P → Reaching
  TellEnds held left state (Some Done) text =
      TellsLoad game line_of state held.files text × FilesCounted true held left × HasStood (held.faults, left.faults)
  TellEnds held left state (Some Faulted) text =
      (text ≡ fault_line) × FilesCounted false held left × HasRisen (held.faults, left.faults)
  TellEnds held left state _ text = ⊥

  -- the line of a world was written, for each state that the world stands for
  abbrev pub TellsEnd : {K : Type 0} → DiskSeen → DiskSeen → W → Edge K (List ℕ) → Status8 → Type 0
  TellsEnd held left world sink status =
      (setup : Setup) (state : State P) → (Shows game) setup state world → Written (TellEnds held left state) (TellLacks held left) sink status

  -- The whole run.

  -- where the lines led is told; or the disk failed in them, or as its files were counted
  abbrev pub RunEnds : Setup → ℕ → Option Files → Counters → DiskSeen → (Option Files → Counters → Type 0) → W → List Line → Reaching
  RunEnds setup places held first left Since world events (Some Done) text =
      (unwritten : List ℕ) × (since : (CountedSince game) true setup places held first left world events unwritten)
      × HasStood (since.goes.counts.faults, left.faults) × TellsLoad game line_of since.goes.state left.files text
  RunEnds setup places held first left Since world events (Some Faulted) text =
      (text ≡ fault_line)
      × (((unwritten : List ℕ) × (EventsEnd game) setup places held first left Since world events (Some Faulted) unwritten)
      ⊎ ((unwritten : List ℕ) × (since : (CountedSince game) false setup places held first left world events unwritten)
      × HasRisen (since.goes.counts.faults, left.faults)))
  RunEnds setup places held first left Since world events _ text = ⊥

  -- the lines of a large run were played on a stage
  abbrev pub LoadEnds : {K D : Type 0} → List Line → Stage W K D → Reaching
  LoadEnds lines scene (Some Done) text =
      (done : List Line) × (unwritten : List ℕ) × (behind : CountedBehind game true scene lines done unwritten) × HasStood (counting_faults behind)
      × TellsLoad game line_of behind.front.goes.state (after scene.disk) text
  LoadEnds lines scene (Some RootNotEmpty) text = RootHolds scene text
  LoadEnds lines scene (Some Faulted) text = LoadFails game lines scene text
  LoadEnds lines scene _ text = ⊥

  -- how a large run ends on its stage
  abbrev pub LoadedOn : {K D : Type 0} → List Line → Stage W K D → Status8 → Type 0
  LoadedOn lines scene status =
      Ended unasked (fault_count scene.disk) (LoadEnds lines scene) ((LoadWants game) lines scene) scene.sink status
