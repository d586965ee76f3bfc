-- What is promised of one server and its journal where a disk's fault ended a run, and where memory ran out in one.
use Rattle.std.proofs.Common.{◌≡◌, ℕ, ℤ, suc, inl, inr, Bool, true, false, if◌then◌else◌, Option, Some, None, List, [], ◌∷◌, ◌++◌, length, refl, sym, subst, arith}
use Rattle.std.specs.Prelude.{IfSome}
use Rattle.disk_model.specs.Disk.{Files}
use Rattle.script_lines.specs.declared.line.Line.{Line}
use Rattle.script_lines.specs.declared.line.Line.TheVariants as line
use Rattle.script_lines.specs.declared.line.Server.TheVariants.{A}
use Rattle.plain_service.specs.Legal.{IsHistory}
use Rattle.plain_service.specs.Records.{StoredRecord, record_of, place_of}
use Rattle.plain_service.specs.Setups.{Setup, CanBegin}
use Rattle.cluster_facts.specs.Types.{Call, Reply, Entry, Called, Receipted, Answer}
use Rattle.cluster_facts.specs.Facts.{IsOfRun, IsSound}
use Rattle.cluster_facts.specs.Agents.{fed_of}
use Rattle.cluster_facts.specs.History.{Hand, Empty, Waiting, Applied, Ready, IsLegal, accepted, accepted_by, committed}
use Rattle.cluster_facts.specs.Lists.{IsNumbered, Stands}
use Rattle.cluster_facts.specs.Messages.{calls_in, messages_in, sent_by}
use Rattle.cluster_facts.specs.Ranges.{AreInRange}
use Rattle.cluster_facts.specs.Service.{Plain, answers_in}
use Rattle.cluster_facts.specs.Storage.{Between}
use Rattle.cluster_facts.specs.World.{World}
use Rattle.cluster_facts.proofs.Words.{All-at, IsNumbered-bound, by_test}
use Rattle.cluster_events.specs.Devices.{Device}
use Rattle.cluster_events.specs.Filing.{IsKept}
use Rattle.cluster_events.specs.Lines.{Told}
use Rattle.cluster_events.specs.Outcomes.{Outcome, quietly}
use Rattle.cluster_events.specs.Saying.{Says, replies_told}
use Rattle.cluster_events.specs.Servers.{State}
use Rattle.cluster_events.specs.Serving.{AreStepped, IsCarried, IsSteady}
use Rattle.cluster_events.proofs.Promised.{at-end, committed-legal}
use Rattle.cluster_events.proofs.Quiet.{answers-called}
use Rattle.cluster_events.proofs.Telling.{Says-both}
use Rattle.cluster_events.proofs.Walking.{Others}
use Rattle.service_laws.specs.Disks.{service_disk}
use Rattle.service_laws.specs.PlainOf.{plain_of}
use Rattle.service_laws.specs.StorageOf.{storage_of}
use Rattle.service_laws.proofs.EntriesKept.{entry-kept}
use Rattle.service_laws.proofs.HistoryLaws.{history-of}
use Rattle.service_laws.proofs.ServiceLaws.{is_plain}
use Rattle.service_laws.proofs.StorageLaws.{is_storage}
use Rattle.service_laws.proofs.TellingLaws.{fed-told}
use Rattle.cluster_rounds.specs.declared.cluster.Cluster.{Cluster}
use Rattle.cluster_rounds.specs.Broken.{Broken}
use Rattle.cluster_rounds.specs.Kits.{Kit, device_by}
use Rattle.cluster_rounds.specs.Timely.{AreTimely}
use Rattle.cluster_lines.specs.Playing.{LineEnded, ShowFails}
use Rattle.group_cluster.proofs.Ends.{settle-tells}
use Rattle.group_cluster.proofs.Serving.{group-carries, group-stepped}
use Rattle.group_cluster.proofs.Stepping.{Bears}
use Rattle.group_cluster.proofs.Walking.{told-bears}
use Rattle.cold_cluster.specs.Cold.{Alone, IsCold, calm}
use Rattle.cold_cluster.specs.Ended.{EndsBy, FailsAppend, FailsIn, FailsStep, FailsWork}
use Rattle.cold_cluster.specs.Lines.{alone}
use Rattle.cold_cluster.specs.Standing.{standing_cold}
use Rattle.cold_cluster.proofs.Coming.{fall-keeps}
use Rattle.cold_cluster.proofs.Doing.{cold-carries, cold-serves, cold-stepped}
use Rattle.cold_servers.specs.declared.solo.Solo.{Solo}
use Rattle.cold_servers.specs.ColdKit.{cold_kit, cold_script}
use Rattle.cold_servers.specs.ColdLaws.{cold_laws, left-as, some-as, told-left}
use Rattle.cold_servers.specs.ColdSeen.{ColdSeen, FilesHeld, JournalBetween, TellsBoth}
use Rattle.cold_servers.specs.Down.{FilesFound, restart_kit}
use Rattle.command_journal.specs.Beginning.{start_of}
use Rattle.command_journal.specs.Playing.{EndedBy, LacksBy}
use Rattle.command_journal.specs.Worlds.{parts_of}
use Rattle.command_journal.specs.declared.world.ColdWorld.{ColdWorld}
use Rattle.played_runs.specs.AfterFault.{IsUnanswered, RecordsKept}
use Rattle.played_runs.specs.Kinds.{InTime}
use Rattle.played_runs.proofs.FaultLaws.{records-kept}
use Rattle.played_runs.proofs.TellingLaws.{each-told}
use Rattle.played_runs.proofs.TimeLaws.{in_time-by-kind, in_time-cored, in_time-told}
use Rattle.cold_runs.specs.AfterFault.{DownKeeps, EndKeepsBy, FaultKeepsCold, FindsHistory, KeepsColdAtFault, LeavesOpen, RecordsFound, ShowKeepsCold}
use Rattle.cold_runs.specs.AfterFault.{StartKeeps, TellsColdAtWant, TellsFed, TellsLacked, WorkKeeps}
use Rattle.cold_runs.specs.Ends.{ColdFaultLeft, Showing, Ending}
use Rattle.cold_runs.specs.Playing.{ColdFront}
use Rattle.cold_runs.specs.Promises.{RecordsBy}
use Rattle.cold_runs.proofs.FindLaws.{between-finds, start-finds}
use Rattle.cold_runs.proofs.RunLaws.{answered-so, committed-range, ran-says, records-by}
use Rattle.cold_runs.proofs.RunSteps.{run-seen}

-- Records.

-- what was stored before an entry that can follow a history is kept among attempts at that entry's deeds
stored-kept : (setup : Setup) (entry : Entry) (past : List Entry) (files : Files) (client number : ℕ) (stored : StoredRecord) (spot : List ℕ × ℕ) → IsHistory setup (entry ∷ past) → Between service_disk (storage_of setup) (entry ∷ past) files → record_of setup past client number ≡ Some stored → place_of setup past stored ≡ Some spot → IsKept service_disk (storage_of setup) (entry ∷ past) stored spot files
stored-kept setup entry past files client number stored spot history between own at = by_case (place_of setup (entry ∷ past) stored) refl where
  by_case : (found : Option (List ℕ × ℕ)) → place_of setup (entry ∷ past) stored ≡ found → IsKept service_disk (storage_of setup) (entry ∷ past) stored spot files
  by_case None none = inr (inr none)
  by_case (Some after) later = elim (entry-kept setup entry past files client number stored spot after history between own at later) [
    | inl stays ↦ inl stays
    | inr moved ↦ inr (inl (after, later, moved))
  ]

records-found : (setup : Setup) → CanBegin setup → (now : ℤ) (past : List Entry) (files : Files) → IsLegal (plain_of setup) now past → AreInRange past → FilesFound setup past files → RecordsFound setup past files
records-found setup can now past files legal range (inl between) = inl (records-kept setup can now past files legal range between)
records-found setup can now past files legal range (inr some) =
    inr (
      some.0,
      some.1,
      λ client number call reply dealt stored.
          let found = (is_storage setup can).stores now past client number call reply legal range dealt stored in
          (found.0, found.1, λ spot place. stored-kept setup some.0 past files client number found.0 spot some.1 some.2 found.1 place),
    )

-- An entry that is not answered.

-- no reply is of an entry that is not worked
reply-before : (plain : Plain) (now : ℤ) (past : List Entry) (client number : ℕ) (time : ℤ) (call : Call) (reply : Reply) → IsLegal plain now (Called client number time call ∷ past) → Stands (number, reply) (answers_in plain client past) → ⊥
reply-before plain now past client number time call reply legal stands =
    let before = calls_in client past in
    let called = answers-called plain client number reply past stands in
    let N : Bool → Type 0 = λ b. IsNumbered (if b then (number, call) ∷ before else before) → (number ≡ suc (length before)) × IsNumbered before in
    let numbered = by_test N client client (λ same of. of) (λ different. absurd (different refl)) (legal.numbered client) in
    let next = numbered.0 in
    let most = (IsNumbered-bound (number, called.0) before numbered.1 called.1).1 in
    absurd (omega arith)

-- one waits for the journal, or is in work
abbrev IsHeld : Hand → Type 0
IsHeld (Waiting entry) = Unit {0}
IsHeld (Ready entry) = Unit {0}
IsHeld _ = ⊥

module _ (plain : Plain) (start world : World) (told : List Told) (sound : IsSound plain world) (says : Says plain start world told) where
  next-open : (entry : Entry) → IsLegal plain world.now (entry ∷ world.core.answered) → IsUnanswered (entry ∷ world.core.answered) (messages_in world.net) told
  next-open (Called client number time call) legal =
      let past = world.core.answered in
      λ reply. (
        λ stands. reply-before plain world.now past client number time call reply legal (All-at (IsOfRun plain past) (Answer client number reply) (messages_in world.net) sound.facts.run stands),
        λ stands. reply-before plain world.now past client number time call reply legal (All-at (λ (one : ℕ × Reply). Stands one (answers_in plain client past)) (number, reply) (replies_told client told) (says.replies client).right stands),
      )
  next-open (Receipted client key through time) legal = tt

  leaves-open : (hand : Hand) → world.core.hand ≡ hand → IsHeld hand → LeavesOpen hand world told
  leaves-open (Waiting entry) is holds =
      next-open entry (subst (λ (one : Hand). IsLegal plain world.now (accepted_by world.core.answered one)) is sound.facts.legal)
  leaves-open (Ready entry) is holds =
      next-open entry (subst (λ (one : Hand). IsLegal plain world.now (accepted_by world.core.answered one)) is sound.facts.legal)
  leaves-open Empty is holds = absurd holds
  leaves-open (Applied entry) is holds = absurd holds

-- Where an event ends while the server is up.

append-held : (hand : Hand) → FailsAppend hand → IsHeld hand
append-held (Waiting entry) fails = tt
append-held Empty fails = absurd fails
append-held (Applied entry) fails = absurd fails
append-held (Ready entry) fails = absurd fails

work-held : (device : Device) (past : List Entry) (hand : Hand) → FailsWork device past hand → IsHeld hand
work-held device past (Ready entry) fails = tt
work-held device past Empty fails = absurd fails
work-held device past (Waiting entry) fails = absurd fails
work-held device past (Applied entry) fails = absurd fails

either-held : (device : Device) (past : List Entry) (hand : Hand) → FailsIn device past hand → IsHeld hand
either-held device past (Waiting entry) fails = tt
either-held device past (Ready entry) fails = tt
either-held device past Empty fails = absurd fails
either-held device past (Applied entry) fails = absurd fails

module _ (setup : Setup) (device : Device) where
  abbrev plain : Plain
  plain = plain_of setup

  bears : Bears plain (InTime Others)
  bears = told-bears plain (InTime Others) (in_time-told plain) (in_time-by-kind plain).shows in_time-cored

  carried : IsCarried plain (alone plain device) IsCold (InTime Others)
  carried = cold-carries standing_cold plain (is_plain setup) device (InTime Others) (group-carries 2 plain (is_plain setup) (calm device) (InTime Others) bears (in_time-told plain))

  stepped : AreStepped plain (alone plain device) IsCold (InTime Others)
  stepped = cold-stepped standing_cold plain (is_plain setup) device (InTime Others) (group-stepped 2 plain (is_plain setup) (calm device) (InTime Others) bears)

  -- what was committed is of the time in force
  abbrev Walks : State Alone → Outcome (State Alone) → Type 0
  Walks state end = IsSteady plain IsCold end.state × InTime Others state.world end.state.world end.told

  -- and an entry waits or is in work
  abbrev Ends : State Alone → Outcome (State Alone) → Type 0
  Ends state end = Walks state end × IsHeld end.state.world.core.hand

  step-ends : (state : State Alone) (end : Outcome (State Alone)) → IsSteady plain IsCold state → FailsStep device state end → Ends state end
  step-ends state end steady ended =
      subst (Ends state) (sym ended.is) (fall-keeps plain (is_plain setup) (InTime Others) bears state steady, either-held device state.world.core.answered state.world.core.hand ended.fails)

  line-ends : (next : Line) (state : State Alone) (end : Outcome (State Alone)) → IsSteady plain IsCold state → EndsBy true plain device next state end → Ends state end
  line-ends line.Mirror state end steady ends =
      subst (Ends state) (sym ends.1) (fall-keeps plain (is_plain setup) (InTime Others) bears state steady, append-held state.world.core.hand ends.0)
  line-ends line.Work state end steady ends =
      subst (Ends state) (sym ends.1) (fall-keeps plain (is_plain setup) (InTime Others) bears state steady, work-held device state.world.core.answered state.world.core.hand ends.0)
  line-ends line.Settle state end steady ends =
      let whole = settle-tells plain (is_plain setup) (alone plain device) IsCold (cold-serves standing_cold plain (is_plain setup) device) (InTime Others) carried stepped
      (λ now. IsHeld now.world.core.hand) (FailsStep device) step-ends state ends.whole steady ends.ends in
      subst (Ends state) (sym ends.is) ((whole.0.0, (in_time-by-kind plain).printed state.world ends.whole.state.world ends.whole.told whole.0.1), whole.1)
  line-ends _ state end steady ends = elim ends [ ]

-- Behind lines that were played.

module _ {held : ColdSeen} {script done rest : List Line} {text : List ℕ} (front : ColdFront held script done rest text) where
  abbrev setup : Setup
  setup = front.setup

  abbrev state : State Alone
  state = front.state

  seen-tells : TellsBoth setup state front.seen
  seen-tells = (run-seen front.opened front.run).tells

  module _ (end : Outcome (State Alone)) (sound : IsSound (plain_of setup) end.state.world) (range : AreInRange (accepted end.state.world.core)) where
    abbrev world : World
    world = end.state.world

    legal : IsLegal (plain_of setup) world.now (committed world.core)
    legal = committed-legal (plain_of setup) world.now world.core.answered world.core.hand sound.facts.legal

    within : AreInRange (committed world.core)
    within = committed-range world.core.answered world.core.hand range

    history : IsHistory setup (committed world.core)
    history = history-of setup front.good.begins world.now (committed world.core) legal within

    down-keeps : (left : ColdSeen) → Says (plain_of setup) state.world world end.told → AreTimely state.world end.told → IfSome left.journal.files (FindsHistory setup (committed world.core)) → DownKeeps setup state.world world end.told (end.told ++ front.told) left
    down-keeps left says times journal =
        let start = (start_of setup front.places).world in
        let lines = end.told ++ front.told in
        let both = Says-both (plain_of setup) start state.world world front.told end.told (ran-says setup front.places front.first front.run).1 says in
        let promises = at-end (plain_of setup) world lines setup.start front.places sound both in
        record {
          promises = promises;
          times = times;
          tells = each-told setup world promises.items;
          answers = answered-so setup world sound;
          journal = journal;
        }

    stays-open : Says (plain_of setup) state.world world end.told → IsHeld world.core.hand → LeavesOpen world.core.hand world (end.told ++ front.told)
    stays-open says holds =
        let start = (start_of setup front.places).world in
        let both = Says-both (plain_of setup) start state.world world front.told end.told (ran-says setup front.places front.first front.run).1 says in
        leaves-open (plain_of setup) start world (end.told ++ front.told) sound both world.core.hand refl holds

  work-keeps : (next : Line) (new : Cluster Solo) (lines : List (List ℕ)) (left : ColdSeen) → state.peers.up ≡ true → (ended : LineEnded cold_kit cold_script setup state next new [] lines front.seen left) → WorkKeeps setup state.world ended.end.state.world ended.end.told (ended.end.told ++ front.told) left
  work-keeps next new lines left up ended =
      let plain = plain_of setup in
      let device = device_by setup ended.happened in
      let end = ended.end in
      let sound = ended.good.steady.sound in
      let range = ended.good.range in
      let past = committed end.state.world.core in
      let ends = subst (λ (on : Bool). EndsBy on plain device next state end) up ended.ends in
      let facts = line-ends setup device next state end front.good.steady ends in
      let between = ended.files seen-tells in
      let finds = left-as (JournalBetween setup past) (FindsHistory setup past) front.seen.journal.files left.journal.files
      (λ files one. between-finds setup past files (history end sound range) one) between.journal in
      let keeps = left-as (Between service_disk (storage_of setup) past) (RecordsKept setup past) front.seen.disk.files left.disk.files
      (λ files one. records-kept setup front.good.begins end.state.world.now past files (legal end sound range) (within end sound range) one) between.disk in
      record {
        down = down-keeps end sound range left ended.says facts.0.1.entries (told-left (FindsHistory setup past) front.seen.journal.files left.journal.files finds);
        unanswered = stays-open end sound range ended.says facts.1;
        records = told-left (RecordsKept setup past) front.seen.disk.files left.disk.files keeps;
      }

  start-keeps : (new : Cluster Solo) (lines : List (List ℕ)) (left : ColdSeen) → state.peers.up ≡ false → (ended : LineEnded restart_kit cold_script setup state (line.Restart A) new [] lines front.seen left) → StartKeeps setup state.world ended.end.state.world ended.end.told (ended.end.told ++ front.told) left
  start-keeps new lines left down ended =
      let end = ended.end in
      let sound = ended.good.steady.sound in
      let range = ended.good.range in
      let core = end.state.world.core in
      let past = committed core in
      let is : end ≡ quietly state = subst (λ (on : Bool). EndsBy on (plain_of setup) (device_by setup ended.happened) (line.Restart A) state end) down ended.ends in
      let tells = subst (λ (one : Outcome (State Alone)). TellsBoth setup one.state front.seen) (sym is) seen-tells in
      let times = subst (λ (one : Outcome (State Alone)). AreTimely state.world one.told) (sym is) tt in
      let between = ended.files seen-tells in
      let finds = start-finds end.state.peers.up setup core.answered core.hand front.seen.journal.files left.journal.files (history end sound range) tells.journal between.journal in
      let keeps = left-as (FilesFound setup past) (RecordsFound setup past) front.seen.disk.files left.disk.files
      (λ files one. records-found setup front.good.begins end.state.world.now past files (legal end sound range) (within end sound range) one) between.disk in
      record {
        down = down-keeps end sound range left ended.says times finds;
        records = told-left (RecordsFound setup past) front.seen.disk.files left.disk.files keeps;
      }

  ended-keeps : (up : Bool) (next : Line) (new : Cluster Solo) (lines : List (List ℕ)) (left : ColdSeen) → state.peers.up ≡ up → (ended : EndedBy up setup state next new [] lines front.seen left) → EndKeepsBy up setup state next new lines front.told front.seen left ended
  ended-keeps true next new lines left is ended = work-keeps next new lines left is ended
  ended-keeps false (line.Restart A) new lines left is ended = start-keeps new lines left is ended
  ended-keeps false next new lines left is ended =
      elim (subst (λ (on : Bool). EndsBy on (plain_of setup) (device_by setup ended.happened) next state ended.end) is ended.ends) [ ]

  show-keeps : (left : ColdSeen) → ShowFails cold_kit cold_script front.seen left → ShowKeepsCold setup state left
  show-keeps left fails =
      let core = state.world.core in
      let held_tells = subst (TellsBoth setup state) fails.held_is seen-tells in
      let leaves = cold_laws.read_left setup state fails.one fails.two fails.beside fails.read held_tells in
      let now = cold_laws.left_told setup state (cold_kit.see fails.one fails.beside) (cold_kit.see fails.two fails.beside) leaves in
      let tells : TellsBoth setup state left = subst (TellsBoth setup state) (sym fails.left_is) now in
      let range = committed-range core.answered core.hand front.good.range in
      record {
        holds = tells;
        stays = some-as (FilesHeld setup state) (RecordsBy state.peers.up setup state.world) left.disk.files (records-by setup front.good.begins state.peers.up core.hand state.world refl front.good.steady.sound range) tells.disk;
      }

  fault-keeps : (next : Line) (left : ColdSeen) (after : ColdWorld) (lines : List ℕ) (fault : ColdFaultLeft setup state next front.seen left after lines) → FaultKeepsCold setup state next front.seen left after lines front.told fault
  fault-keeps next left after lines (Showing shows_files shows fails none) = show-keeps left fails
  fault-keeps next left after lines (Ending shows_files told ended printed) =
      ended-keeps state.peers.up next (parts_of after) told left refl ended

  -- what was fed where an event broke off
  broken-tells : (kit : Kit Alone Solo) (seen left : kit.Seen) (new : Cluster Solo) (broken : Broken kit setup state seen left new) → TellsFed setup broken.rest (λ client. (broken.fed client).marks)
  broken-tells kit seen left new broken client key =
      let fed = broken.fed client in
      fed-told setup broken.rest.core.answered (sent_by client (messages_in state.world.net)) client key fed.marks (fed_of (broken.rest.agents client)) (record {
        numbered = (front.good.steady.sound.facts.clients client).sends.numbered;
        counted = fed.counted;
        items = fed.items;
      })

  lacks-tells : (up : Bool) (next : Line) (new : Cluster Solo) (left : ColdSeen) (lacks : LacksBy up next setup state new front.seen left) → TellsLacked up next setup state new front.seen left lacks
  lacks-tells false (line.Restart A) new left lacks = broken-tells restart_kit front.seen left new lacks.0
  lacks-tells up next new left lacks = broken-tells cold_kit front.seen left new lacks.0

pub keeps-cold-at-fault : (held left : ColdSeen) (world : ColdWorld) → KeepsColdAtFault held left world
keeps-cold-at-fault held left world script done rest next text lines front fault = fault-keeps front next left world lines fault

pub tells-cold-at-want : (held left : ColdSeen) (world : ColdWorld) → TellsColdAtWant held left world
tells-cold-at-want held left world script done rest next text front lacks =
    lacks-tells front front.state.peers.up next (parts_of world) left lacks
