-- Words of public clauses: how the lines of a script are played: what their events lead to, print, and leave on the disk.
use Rattle.std.specs.Prelude.{◌≡◌, ℕ, List, ◌∷◌, ◌++◌, reverse, Option}
use Rattle.std.specs.List.{flat_map}
use Rattle.disk_model.specs.Counts.{Counters}
use Rattle.disk_model.specs.Disk.{Files}
use Rattle.disk_model.specs.Seen.{DiskSeen}
use Rattle.plain_service.specs.Setups.{Setup}
use Rattle.cluster_events.specs.Lines.{Told}
use Rattle.cluster_events.specs.Servers.{State}
use Rattle.cluster_events.specs.OnDisk.{RunOnBy}
use Rattle.event_text.specs.Texts.{printed}
use Rattle.service_laws.specs.Disks.{service_disk}
use Rattle.service_laws.specs.StorageOf.{storage_of}
use Rattle.played_runs.specs.Views.{HoldsNone, behind_opening, counters_of, files_told, seen_as}
use Rattle.played_runs.specs.Games.{Game, IsArmedBy, IsGood, Shows}

-- the bytes that events write
abbrev pub text_of : List Told → List ℕ
text_of told = flat_map (λ line. line) (printed told)

module _ {P L S W : Type 0} (game : Game P L S W) where
  -- what the lines of a script lead to from the start of a cluster, the last line first: all that their events tell, the last in
  -- front, and the files by the deeds of the start and of each entry whose work is done, with what the disk counts, which goes along
  -- line by line from the first on
  abbrev pub Ran : Setup → ℕ → Option Files → Counters → List L → State P → List Told → Files × Counters → Type 0
  Ran setup places held first lines state told left =
      RunOnBy (game.Step setup held) service_disk (storage_of setup) (game.start setup places) first lines state told left

  abbrev pub Played : Setup → ℕ → Option Files → Counters → List L → State P → List Told → Files → Counters → Type 0
  Played setup places held first lines state told files counts = Ran setup places held first lines state told (files, counts)

  -- these lines were played in order: where they led, the text so far and what the disk counted behind them, whatever became of world and
  -- disk since
  pub record Goes (setup : Setup) (places : ℕ) (held : Option Files) (first : Counters) (lines : List L) (text : List ℕ) : Type 0 where
    pub state : State P
    pub told : List Told
    pub files : Files
    pub counts : Counters
    pub run : Played setup places held first (reverse lines) state told files counts
    pub good : (IsGood game) setup state
    pub armed : (IsArmedBy game) state counts.tally.armed
    pub written : text ≡ text_of told

  -- the first line of a script began a cluster on a disk without files that had counted so much before, and these events of the others were
  -- done
  pub record PlaysFront (held : Option Files) (first : Counters) (script done rest : List L) (text : List ℕ) : Type 0 where
    pub opening : L
    pub parts : script ≡ opening ∷ (done ++ rest)
    pub empty : HoldsNone held
    pub setup : Setup
    pub places : ℕ
    pub begins : game.Begins opening setup places
    pub goes : Goes setup places held (behind_opening setup first) done text

  -- what the disk tells behind these lines
  abbrev pub seen_behind :
      {setup : Setup} {places : ℕ} {held : Option Files} {first : Counters} {lines : List L} {text : List ℕ}
      → Goes setup places held first lines text → DiskSeen
  seen_behind {held = held} goes = seen_as (files_told goes.files held) goes.counts

  -- the world stands for this state, a disk that told its files tells these, and it is armed as the state says and counted so
  pub record StandsAt (setup : Setup) (state : State P) (files : Files) (counts : Counters) (held : Option Files) (left : DiskSeen)
      (world : W) : Type 0 where
    pub shows : (Shows game) setup state world
    pub stand : left.files ≡ files_told files held
    pub armed : (IsArmedBy game) state left.tally.armed
    pub count : counters_of left ≡ counts
