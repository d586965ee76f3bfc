-- What a line does to a server and its journal, by those that play it.
use Rattle.std.proofs.Common.{◌≡◌, ◌⊎◌, inl, inr, ℕ, Bool, true, false, Option, Some, None, List, [], refl, ap, sym, ◌∙◌, subst}
use Rattle.std.specs.Prelude.{IfSome, IsSome, IfErr, OnOk, Result, Ok, Err}
use Rattle.std.specs.Result.{is_ok}
use Rattle.disk_model.specs.Disk.{Files}
use Rattle.disk_model.specs.declared.answers.DiskAnswer.{DiskAnswer}
use Rattle.disk_model.specs.declared.answers.DiskAnswer.TheVariants as answers
use Rattle.script_lines.specs.declared.line.Line.{Line}
use Rattle.script_lines.specs.declared.line.Line.TheVariants as line
use Rattle.script_lines.specs.declared.line.Server.TheVariants.{A, B, C}
use Rattle.plain_service.specs.Setups.{Setup}
use Rattle.plain_service.specs.Storing.{files_of}
use Rattle.service_laws.specs.PlainOf.{plain_of}
use Rattle.cluster_facts.specs.Types.{Entry}
use Rattle.cluster_facts.specs.History.{committed}
use Rattle.cluster_events.specs.Ending.{is_crash}
use Rattle.cluster_events.specs.Outcomes.{Outcome}
use Rattle.cluster_events.specs.Servers.{State}
use Rattle.cluster_events.specs.Running.{Shelf, list_files, show_file}
use Rattle.cluster_rounds.specs.declared.cluster.Cluster.{Cluster}
use Rattle.cluster_rounds.specs.Broken.{Broken}
use Rattle.cluster_rounds.specs.Counted.{Counted}
use Rattle.cluster_rounds.specs.Kits.{device_by}
use Rattle.cluster_rounds.specs.Wild.{GoesWild, HasWild, StandsOn, always}
use Rattle.cluster_rounds.specs.Worlds.{Happened, IsGood, Shows, any_state}
use Rattle.cluster_lines.specs.Lines.{shows_files}
use Rattle.cluster_lines.specs.Playing.{BreaksOff, FaultLeaves, LineEnded, LooksBy, Played, Plays, SharesIn}
use Rattle.cluster_lines.specs.Shelves.{shelf_at, shelf_of}
use Rattle.journal_start.specs.declared.cold.ColdAnswer.{ColdAnswer}
use Rattle.journal_start.specs.declared.cold.ColdAnswer.TheVariants as cold
use Rattle.journal_start.specs.Starts.{IsOfDisk}
use Rattle.cold_cluster.specs.Cold.{Alone}
use Rattle.cold_cluster.specs.Lines.{ColdHappens, HappensBy, alone}
use Rattle.cold_servers.specs.declared.solo.Solo.{Solo}
use Rattle.cold_servers.specs.ColdKit.{SharesCold, cold_kit, cold_script}
use Rattle.cold_servers.specs.ColdLaws.{cold_laws}
use Rattle.cold_servers.specs.ColdSeen.{ArmsBoth, ColdSeen, HoldsFiles, LeavesBoth, TellsBoth}
use Rattle.cold_servers.specs.Down.{CountsStart, IsDownLine, PlayedDown, PlaysDown, PlaysRestart, RestartBreaks, RestartGoes, RestartLeaves}
use Rattle.cold_servers.specs.Steps.{AreDown}
use Rattle.command_journal.specs.declared.answer.EventAnswer.{EventAnswer}
use Rattle.command_journal.specs.declared.world.ColdWorld.{ColdWorld}
use Rattle.command_journal.specs.Parts.{CountsBy, PlaysLine, answered, asks_server, cold_as, is_start, whole_of}
use Rattle.command_journal.specs.Playing.{BreaksLine, CannotStart, DoesEvent, DoesLine, EndedBy, EventBroken, FindsBy, FoundBy, LacksBy, LineDone, LineFailsBy, LineLacks, RisesInEvent}
use Rattle.command_journal.specs.Worlds.{HasParts, parts_of}

-- What a call of the parts asks for.

pub parts-stand : (parts : Cluster Solo) (seen : ColdSeen) → HasParts parts seen → (StandsOn cold_kit) any_state always parts seen
parts-stand parts seen (inl stands) =
    inl (record { setup = stands.setup; state = stands.state; good = stands.good; shows = stands.shows; count = stands.count; so = tt })
parts-stand parts seen (inr wild) = inr wild

-- Files that are shown.

module _ (setup : Setup) (state : State Alone) (outcome : Outcome (State Alone)) where
  -- what a line leads to while the server is up, by what stands on a shelf
  abbrev leads_up : Line → Shelf → Bool → Type 0
  leads_up next shelf up = HappensBy up (plain_of setup) shelf (device_by setup (λ number. 0)) next state outcome

  record ShowsOn (next : Line) (held : Option Files) : Type 0 where
    shelf : Shelf
    shown : shows_files next ≡ true → IfSome held (λ files. shelf ≡ shelf_at files)
    leads : ColdHappens (plain_of setup) shelf (device_by setup (λ number. 0)) next state outcome

  listed : (files : Files) (shelf : Shelf) → shelf ≡ shelf_of setup → files ≡ files_of setup state.world.core.answered → leads_up line.Files shelf true → leads_up line.Files (shelf_at files) true
  listed files shelf is same leads =
      leads ∙ ap (λ (s : Shelf). list_files s state) is ∙ ap (λ (f : Files). list_files (shelf_at f) state) (sym same)

  shown : (name : List ℕ) (files : Files) (shelf : Shelf) → shelf ≡ shelf_of setup → files ≡ files_of setup state.world.core.answered → leads_up (line.Cat name) shelf true → leads_up (line.Cat name) (shelf_at files) true
  shown name files shelf is same leads =
      let servers = alone (plain_of setup) (device_by setup (λ number. 0)) in
      leads ∙ ap (λ (s : Shelf). show_file s servers name state) is ∙ ap (λ (f : Files). show_file (shelf_at f) servers name state) (sym same)

  -- while it is up the files that are shown are those of the history, and so what the disk tells
  shows-on : (next : Line) (held : Option Files) (shelf : Shelf) → SharesCold next state → IfSome held (λ files. shelf ≡ shelf_of setup) → IfSome held (HoldsFiles state.peers.up setup state.world.core.answered state.world.core.hand) → leads_up next shelf state.peers.up → ShowsOn next held
  shows-on line.Files None shelf up is holds leads = record { shelf = shelf; shown = λ shows. tt; leads = leads }
  shows-on line.Files (Some files) shelf up is holds leads =
      let same : files ≡ files_of setup state.world.core.answered = subst (λ (b : Bool). HoldsFiles b setup state.world.core.answered state.world.core.hand files) up holds in
      record {
        shelf = shelf_at files;
        shown = λ shows. refl;
        leads = subst (leads_up line.Files (shelf_at files)) (sym up) (listed files shelf is same (subst (leads_up line.Files shelf) up leads));
      }
  shows-on (line.Cat name) None shelf up is holds leads = record { shelf = shelf; shown = λ shows. tt; leads = leads }
  shows-on (line.Cat name) (Some files) shelf up is holds leads =
      let same : files ≡ files_of setup state.world.core.answered = subst (λ (b : Bool). HoldsFiles b setup state.world.core.answered state.world.core.hand files) up holds in
      record {
        shelf = shelf_at files;
        shown = λ shows. refl;
        leads = subst (leads_up (line.Cat name) (shelf_at files)) (sym up) (shown name files shelf is same (subst (leads_up (line.Cat name) shelf) up leads));
      }
  shows-on _ held shelf up is holds leads = record { shelf = shelf; shown = λ shows. cc; leads = leads }

-- A line that is played as over any servers.

-- a line that is no start from the journal
abbrev IsNoStart : Bool → Line → Type 0
IsNoStart up next = up ≡ false → is_start next ≡ true → ⊥

-- a start that is shared is one while the server is up
shared-apart : (next : Line) (state : State Alone) → SharesCold next state → IsNoStart state.peers.up next
shared-apart (line.Restart A) state shared down start = cc
shared-apart _ state shared down start = cc

-- nothing is asked of what another line finds
found-shared : (up : Bool) (next : Line) (setup : Setup) (past : List Entry) (held : Option Files) → IsNoStart up next → FoundBy up next setup past held
found-shared true next setup past held apart = tt
found-shared false (line.Restart A) setup past held apart = absurd (apart refl refl)
found-shared false (line.Restart B) setup past held apart = tt
found-shared false (line.Restart C) setup past held apart = tt
found-shared false _ setup past held apart = tt

done-of : (setup : Setup) (state : State Alone) (next : Line) (new : Cluster Solo) (before after : List (List ℕ)) (held left : ColdSeen) → SharesCold next state → TellsBoth setup state held → (Played cold_kit cold_script) setup state next new before after held left → LineDone setup state next new before after held left
done-of setup state next new before after held left shared tells played =
    let none : played.happened ≡ (λ (number : ℕ). 0) = λ i. λ (number : ℕ). played.uses.never number i in
    let L : (ℕ → ℕ) → Type 0 = λ happened. ColdHappens (plain_of setup) played.shelf (device_by setup happened) next state played.outcome in
    let on = shows-on setup state played.outcome next held.disk.files played.shelf shared played.shelf_is tells.disk (subst L none played.leads) in
    record {
      shelf = on.shelf;
      shown = on.shown;
      outcome = played.outcome;
      leads = on.leads;
      uses = subst (λ (happened : ℕ → ℕ). cold_script.Uses next setup happened state played.outcome held left) none played.uses;
      is = played.is;
      count = played.count;
      leaves = played.files;
      found = found-shared state.peers.up next setup (committed played.outcome.state.world.core) held.journal.files (shared-apart next state shared);
    }

lacks-by : (up : Bool) (next : Line) (setup : Setup) (state : State Alone) (new : Cluster Solo) (held left : ColdSeen) → IsNoStart up next → Broken cold_kit setup state held left new → cold_kit.Lacks (is_crash next) setup state new.history.entries new.servers held left → LacksBy up next setup state new held left
lacks-by true next setup state new held left apart broken lacks = (broken, lacks)
lacks-by false (line.Restart A) setup state new held left apart broken lacks = absurd (apart refl refl)
lacks-by false (line.Restart B) setup state new held left apart broken lacks = (broken, lacks)
lacks-by false (line.Restart C) setup state new held left apart broken lacks = (broken, lacks)
lacks-by false _ setup state new held left apart broken lacks = (broken, lacks)

ended-by : (up : Bool) (setup : Setup) (state : State Alone) (next : Line) (new : Cluster Solo) (before after : List (List ℕ)) (held left : ColdSeen) → IsNoStart up next → LineEnded cold_kit cold_script setup state next new before after held left → EndedBy up setup state next new before after held left
ended-by true setup state next new before after held left apart ended = ended
ended-by false setup state (line.Restart A) new before after held left apart ended = absurd (apart refl refl)
ended-by false setup state (line.Restart B) new before after held left apart ended = ended
ended-by false setup state (line.Restart C) new before after held left apart ended = ended
ended-by false setup state _ new before after held left apart ended = ended

abbrev AreNoStart : Line → Cluster Solo → Type 0
AreNoStart next old = (setup : Setup) (state : State Alone) → IsGood cold_kit setup state → Shows cold_kit setup state old → IsNoStart state.peers.up next

-- by how it broke off
lacks-of : (next : Line) (old new : Cluster Solo) (before after : List (List ℕ)) (held left : ColdSeen) → AreNoStart next old → (BreaksOff cold_kit cold_script) answers.Memory next old new before after held left → LineLacks next old new held left
lacks-of next old new before after held left apart broken setup state good shows count tells finds =
    let both = broken setup state good shows count in lacks-by state.peers.up next setup state new held left (apart setup state good shows) both.0 both.1

fails-of : (next : Line) (old new : Cluster Solo) (before after : List (List ℕ)) (held left : ColdSeen) → AreNoStart next old → (FaultLeaves cold_kit cold_script) next old new before after held left → LineFailsBy (shows_files next) next old new before after held left
fails-of line.Files old new before after held left apart same = same
fails-of (line.Cat name) old new before after held left apart same = same
fails-of next old new before after held left apart ends =
    λ setup state good shows count tells finds. ended-by state.peers.up setup state next new before after held left (apart setup state good shows) (ends setup state good shows count)

breaks-of : (answer : DiskAnswer) (next : Line) (old new : Cluster Solo) (before after : List (List ℕ)) (held left : ColdSeen) → AreNoStart next old → (BreaksOff cold_kit cold_script) answer next old new before after held left → IfErr (cold_as {T = Unit {0}} (Err answer)) (λ cold. BreaksLine cold next old new before after held left)
breaks-of answers.Memory next old new before after held left apart broken = lacks-of next old new before after held left apart broken
breaks-of answers.Failed next old new before after held left apart broken = fails-of next old new before after held left apart broken
breaks-of answers.Stopped next old new before after held left apart broken = λ setup state good shows count tells finds. broken setup state good shows count

counts-of : (result : Result (Unit {0}) DiskAnswer) (held left : ColdSeen) → Counted cold_kit held left result → CountsBy held left (cold_as result)
counts-of (Ok done) held left counted = counted
counts-of (Err answers.Memory) held left counted = counted
counts-of (Err answers.Failed) held left counted = counted
counts-of (Err answers.Stopped) held left counted = counted

-- Behind a line that was done.

still-good : (setup : Setup) (outcome : Outcome (State Alone)) (new : Cluster Solo) (before after : List (List ℕ)) (held left : ColdSeen) → (Happened cold_kit) setup outcome new before after → ArmsBoth outcome.state.peers left → LeavesBoth setup outcome.state held left → HasParts new left
still-good setup outcome new before after held left is count leaves = inl (record {
  setup = setup;
  state = outcome.state;
  good = is.1;
  shows = is.0;
  count = count;
  tells = cold_laws.left_told setup outcome.state held left leaves;
})

still-wild : (done : Unit {0}) (old new : Cluster Solo) (held left : ColdSeen) → (HasWild cold_kit) always old held → (GoesWild cold_kit) {T = Unit {0}} always (Ok done) old new held left → HasParts new left
still-wild done old new held left has goes =
    let on = goes has.seen has.wild tt in inr (record { seen = on.now; wild = on.wild; so = tt })

-- **what is played over any servers, and what is left of a line while the server is down**
module _ (next : Line) (old new : Cluster Solo) (before after : List (List ℕ)) (held left : ColdSeen) where
  as-done : (done : Unit {0}) → DoesLine next old new before after held left → HasParts new left → Counted {T = Unit {0}} cold_kit held left (Ok done) → LooksBy next held.disk.files true held.disk.tally left.disk.tally → PlaysLine (cold_as (Ok done)) next old new before after held left
  as-done done does stands counts looks = record { ok = does; stands = stands; broken = tt; counts = counts; looks = looks }

  as-broken : (answer : DiskAnswer) → AreNoStart next old → (BreaksOff cold_kit cold_script) answer next old new before after held left → Counted {T = Unit {0}} cold_kit held left (Err answer) → LooksBy next held.disk.files false held.disk.tally left.disk.tally → PlaysLine (cold_as {T = Unit {0}} (Err answer)) next old new before after held left
  as-broken answer apart broken counts looks = record {
    ok = tt;
    stands = tt;
    broken = breaks-of answer next old new before after held left apart broken;
    counts = counts-of (Err answer) held left counts;
    looks = looks;
  }

  shared-still : (done : Unit {0}) → HasParts old held → (Plays cold_kit cold_script) next old new before after held left → (GoesWild cold_kit) {T = Unit {0}} always (Ok done) old new held left → HasParts new left
  shared-still done (inl stands) plays goes =
      let played = plays stands.setup stands.state stands.good stands.shows stands.count stands.tells in
      still-good stands.setup played.outcome new before after held left played.is played.count played.files
  shared-still done (inr has) plays goes = still-wild done old new held left has goes

  pub plays-shared : (result : Result (Unit {0}) DiskAnswer) → HasParts old held → (SharesIn cold_kit cold_script) next old → OnOk result ((Plays cold_kit cold_script) next old new before after held left) → IfErr result (λ answer. (BreaksOff cold_kit cold_script) answer next old new before after held left) → (GoesWild cold_kit) {T = Unit {0}} always result old new held left → Counted cold_kit held left result → LooksBy next held.disk.files (is_ok result) held.disk.tally left.disk.tally → PlaysLine (cold_as result) next old new before after held left
  plays-shared (Ok done) has shares plays broken goes counts looks =
      as-done done
      (λ setup state good shows count tells finds. done-of setup state next new before after held left (shares setup state good shows) tells (plays setup state good shows count tells))
      (shared-still done has plays goes) counts looks
  plays-shared (Err answer) has shares plays broken goes counts looks =
      as-broken answer (λ setup state good shows. shared-apart next state (shares setup state good shows)) broken counts looks

  down-done : (setup : Setup) (state : State Alone) → TellsBoth setup state held → (played : PlayedDown setup state next new before after held left) → FoundBy state.peers.up next setup (committed played.outcome.state.world.core) held.journal.files → LineDone setup state next new before after held left
  down-done setup state tells played found = record {
    shelf = played.shelf;
    shown = λ shows. played.shelf_is;
    outcome = played.outcome;
    leads = played.leads;
    uses = played.uses;
    is = played.is;
    count = played.count;
    leaves = played.files tells;
    found = found;
  }

  left-still : (done : Unit {0}) → HasParts old held → PlaysDown next old new before after held left → (GoesWild cold_kit) {T = Unit {0}} always (Ok done) old new held left → HasParts new left
  left-still done (inl stands) plays goes =
      let played = plays stands.setup stands.state stands.good stands.shows stands.count in
      still-good stands.setup played.outcome new before after held left played.is played.count (played.files stands.tells)
  left-still done (inr has) plays goes = still-wild done old new held left has goes

  pub plays-left : (result : Result (Unit {0}) DiskAnswer) → HasParts old held → is_start next ≡ false → OnOk result (PlaysDown next old new before after held left) → IfErr result (λ answer. (BreaksOff cold_kit cold_script) answer next old new before after held left) → (GoesWild cold_kit) {T = Unit {0}} always result old new held left → Counted cold_kit held left result → LooksBy next held.disk.files (is_ok result) held.disk.tally left.disk.tally → PlaysLine (cold_as result) next old new before after held left
  plays-left (Ok done) has apart plays broken goes counts looks =
      as-done done
      (λ setup state good shows count tells finds.
      let played = plays setup state good shows count in
      down-done setup state tells played
      (found-shared state.peers.up next setup (committed played.outcome.state.world.core) held.journal.files (λ down start. cc)))
      (left-still done has plays goes) counts looks
  plays-left (Err answer) has apart plays broken goes counts looks =
      as-broken answer (λ setup state good shows down start. cc) broken counts looks

pub down-line : (next : Line) → asks_server next ≡ true → is_start next ≡ false → IsDownLine next
down-line (line.Deliver place) asks start = tt
down-line (line.Resend client) asks start = tt
down-line line.Mirror asks start = tt
down-line line.Ack asks start = tt
down-line line.Work asks start = tt
down-line line.Push asks start = tt
down-line line.Settle asks start = tt
down-line line.Files asks start = tt
down-line (line.Cat name) asks start = tt
down-line (line.Crash server) asks start = tt
down-line (line.Arm server count) asks start = tt
down-line line.Disarm asks start = tt
down-line (line.Restart A) asks start = cc
down-line (line.Restart B) asks start = tt
down-line (line.Restart C) asks start = tt
down-line _ asks start = cc

-- `restart a`, while the server is down.

pub start-is : (next : Line) → is_start next ≡ true → next ≡ line.Restart A
start-is (line.Restart A) start = refl
start-is (line.Restart B) start = cc
start-is (line.Restart C) start = cc
start-is _ start = cc

found-told : (up : Bool) (held : ColdSeen) → up ≡ false → FindsBy up (line.Restart A) held → IsSome held.journal.files
found-told up held down finds = subst (λ (b : Bool). FindsBy b (line.Restart A) held) down finds

silent-of : (told : Option Files) → (IsSome told → ⊥) → told ≡ None
silent-of None never = refl
silent-of (Some files) never = absurd (never refl)

start-counts : (result : Result (Unit {0}) ColdAnswer) (held left : ColdSeen) → CountsStart result held left → CountsBy held left result
start-counts (Ok done) held left counts = counts
start-counts (Err cold.Memory) held left counts = counts
start-counts (Err cold.Failed) held left counts = counts
start-counts (Err cold.Stopped) held left counts = counts
start-counts (Err cold.NoJournal) held left counts = counts
start-counts (Err (cold.Refused place)) held left counts = counts

module _ (old new : Cluster Solo) (before after : List (List ℕ)) (held left : ColdSeen) where
  start-does : AreDown old → PlaysRestart old new before after held left → DoesLine (line.Restart A) old new before after held left
  start-does down plays setup state good shows count tells finds =
      let is = down.states setup state good shows in
      let both = plays setup state good shows count tells (found-told state.peers.up held is finds) in
      down-done (line.Restart A) old new before after held left setup state tells both.0
      (subst (λ (b : Bool). FoundBy b (line.Restart A) setup (committed both.0.outcome.state.world.core) held.journal.files) (sym is) both.1)

  -- a journal that is told has what is to be found
  start-silent : (answer : ColdAnswer) → ((setup : Setup) (state : State Alone) → RestartLeaves answer setup state new before after held left → ⊥) → HasParts old held → RestartBreaks answer old new before after held left → held.journal.files ≡ None
  start-silent answer never (inl stands) breaks =
      silent-of held.journal.files (λ told. never stands.setup stands.state (breaks stands.setup stands.state stands.good stands.shows stands.count stands.tells told))
  start-silent answer never (inr has) breaks = has.wild.servers.untold

  start-lacks : AreDown old → RestartBreaks cold.Memory old new before after held left → LineLacks (line.Restart A) old new held left
  start-lacks down breaks setup state good shows count tells finds =
      let is = down.states setup state good shows in
      subst (λ (b : Bool). LacksBy b (line.Restart A) setup state new held left) (sym is)
      (breaks setup state good shows count tells (found-told state.peers.up held is finds))

  -- nothing changed
  abbrev Same : ColdAnswer → Type 0
  Same answer =
      IsOfDisk answer ⊎ ((new ≡ old) × (after ≡ before) × (left.disk.files ≡ held.disk.files) × (left.journal.files ≡ held.journal.files))

  start-none : AreDown old → HasParts old held → (answer : ColdAnswer) → (IsOfDisk answer → ⊥) → ((setup : Setup) (state : State Alone) → RestartLeaves answer setup state new before after held left → ⊥) → RestartBreaks answer old new before after held left → Same answer → CannotStart (line.Restart A) old new held left
  start-none down has answer apart never breaks (inl of_disk) = absurd (apart of_disk)
  start-none down has answer apart never breaks (inr same) = record {
    line = refl;
    down = down;
    silent = start-silent answer never has breaks;
    world = same.0;
    disk = same.2;
    journal = same.3;
  }

  start-breaks : AreDown old → HasParts old held → (answer : ColdAnswer) → RestartBreaks answer old new before after held left → Same answer → BreaksLine answer (line.Restart A) old new before after held left
  start-breaks down has cold.Memory breaks same = start-lacks down breaks
  start-breaks down has cold.Failed breaks same =
      λ setup state good shows count tells finds.
      let is = down.states setup state good shows in
      subst (λ (b : Bool). EndedBy b setup state (line.Restart A) new before after held left) (sym is)
      (breaks setup state good shows count tells (found-told state.peers.up held is finds))
  start-breaks down has cold.Stopped breaks same =
      λ setup state good shows count tells finds. breaks setup state good shows count tells (found-told state.peers.up held (down.states setup state good shows) finds)
  start-breaks down has cold.NoJournal breaks same =
      start-none down has cold.NoJournal (λ of_disk. of_disk) (λ setup state never. never) breaks same
  start-breaks down has (cold.Refused place) breaks same =
      start-none down has (cold.Refused place) (λ of_disk. of_disk) (λ setup state never. never) breaks same

  -- where the journal is told it is known what was found, and else the parts go on
  start-still : (told : Option Files) → held.journal.files ≡ told → HasParts old held → PlaysRestart old new before after held left → RestartGoes new held left → HasParts new left
  start-still None is has plays goes = inr (goes is)
  start-still (Some files) is (inl stands) plays goes =
      let told : IsSome held.journal.files = subst IsSome (sym is) refl in
      let played = (plays stands.setup stands.state stands.good stands.shows stands.count stands.tells told).0 in
      still-good stands.setup played.outcome new before after held left played.is played.count (played.files stands.tells)
  start-still (Some files) is (inr has) plays goes = inr (goes has.wild.servers.untold)

  pub plays-start : (result : Result (Unit {0}) ColdAnswer) → AreDown old → HasParts old held → OnOk result (PlaysRestart old new before after held left) → OnOk result (RestartGoes new held left) → IfErr result (λ answer. RestartBreaks answer old new before after held left) → IfErr result Same → CountsStart result held left → PlaysLine result (line.Restart A) old new before after held left
  plays-start (Ok done) down has plays goes broken same counts = record {
    ok = start-does down plays;
    stands = start-still held.journal.files refl has plays goes;
    broken = tt;
    counts = start-counts (Ok done) held left counts;
    looks = λ own. cc;
  }
  plays-start (Err answer) down has plays goes broken same counts = record {
    ok = tt;
    stands = tt;
    broken = start-breaks down has answer broken same;
    counts = start-counts (Err answer) held left counts;
    looks = λ own. cc;
  }

-- Of the world.

-- what is so of parts, and of the lines that they put, is so of the world that they make
module _ (M : Cluster Solo → Cluster Solo → List (List ℕ) → List (List ℕ) → Type 0) where
  pub whole-as : (old new : ColdWorld) (from parts : Cluster Solo) (before after : List (List ℕ)) → from ≡ parts_of old → new ≡ whole_of parts → M from parts before after → M (parts_of old) (parts_of new) before after
  whole-as old new from parts before after from_is is so =
      subst (λ (f : Cluster Solo). M f (parts_of new) before after) from_is
      (subst (λ (t : Cluster Solo). M from t before after) (sym (ap parts_of is)) so)

pub event-does : (next : Line) (old new : ColdWorld) (before after lines : List (List ℕ)) (held left : ColdSeen) → before ≡ [] → lines ≡ after → DoesLine next (parts_of old) (parts_of new) before after held left → DoesEvent next lines old new held left
event-does next old new before after lines held left none same does =
    subst (λ (b : List (List ℕ)). DoesLine next (parts_of old) (parts_of new) b lines held left) none
    (subst (λ (a : List (List ℕ)). DoesLine next (parts_of old) (parts_of new) before a held left) (sym same) does)

broken-by : (answer : ColdAnswer) (next : Line) (old new : ColdWorld) (after : List (List ℕ)) (held left : ColdSeen) → BreaksLine answer next (parts_of old) (parts_of new) [] after held left → EventBroken (answered after answer) next old new held left
broken-by cold.Memory next old new after held left broken = broken
broken-by cold.Failed next old new after held left broken = broken
broken-by cold.Stopped next old new after held left broken =
    λ setup state good shows count tells finds. absurd (broken setup state good shows count tells finds)
broken-by cold.NoJournal next old new after held left broken = broken
broken-by (cold.Refused place) next old new after held left broken = broken

pub event-broken : (answer : ColdAnswer) (told : EventAnswer) (next : Line) (old new : ColdWorld) (before after : List (List ℕ)) (held left : ColdSeen) → before ≡ [] → told ≡ answered after answer → BreaksLine answer next (parts_of old) (parts_of new) before after held left → EventBroken told next old new held left
event-broken answer told next old new before after held left none is broken =
    subst (λ (t : EventAnswer). EventBroken t next old new held left) (sym is)
    (broken-by answer next old new after held left
    (subst (λ (b : List (List ℕ)). BreaksLine answer next (parts_of old) (parts_of new) b after held left) none broken))

rises-by : (answer : ColdAnswer) (after : List (List ℕ)) (held left : ColdSeen) → CountsBy {T = Unit {0}} held left (Err answer) → RisesInEvent {T = List (List ℕ)} held left (Err (answered after answer))
rises-by cold.Memory after held left counts = counts
rises-by cold.Failed after held left counts = counts
rises-by cold.Stopped after held left counts = counts
rises-by cold.NoJournal after held left counts = counts
rises-by (cold.Refused place) after held left counts = counts

pub event-rises : (answer : ColdAnswer) (told : EventAnswer) (after : List (List ℕ)) (held left : ColdSeen) → told ≡ answered after answer → CountsBy {T = Unit {0}} held left (Err answer) → RisesInEvent {T = List (List ℕ)} held left (Err told)
event-rises answer told after held left is counts =
    subst (λ (t : EventAnswer). RisesInEvent {T = List (List ℕ)} held left (Err t)) (sym is) (rises-by answer after held left counts)
