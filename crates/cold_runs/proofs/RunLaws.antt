-- What lines that are played on one server and its journal lead to: facts, and what is promised at the end of each of them.
use Rattle.std.proofs.Common.{◌≡◌, ℕ, ◌<◌, inl, inr, Bool, true, false, Some, List, [], ◌∷◌, ◌++◌, refl, ap, sym, ◌∙◌, subst}
use Rattle.disk_model.specs.Disk.{Files}
use Rattle.script_lines.specs.declared.line.Line.{Line}
use Rattle.script_lines.specs.declared.line.Line.TheVariants as line
use Rattle.script_lines.specs.declared.line.Server.TheVariants.{A}
use Rattle.plain_service.specs.Setups.{Setup, CanBegin}
use Rattle.plain_service.specs.Storing.{files_of}
use Rattle.plain_service.proofs.RecordLaws.{record-alone}
use Rattle.cluster_facts.specs.Types.{Call, Reply, Entry, Answer}
use Rattle.cluster_facts.specs.Facts.{IsOfRun, IsSound}
use Rattle.cluster_facts.specs.History.{Hand, Empty, Waiting, Applied, Ready, IsLegal, accepted_by, committed, committed_by}
use Rattle.cluster_facts.specs.Lists.{Stands}
use Rattle.cluster_facts.specs.Messages.{messages_in}
use Rattle.cluster_facts.specs.Ranges.{AreInRange}
use Rattle.cluster_facts.specs.Service.{Plain}
use Rattle.cluster_facts.specs.Storage.{dealt_in}
use Rattle.cluster_facts.specs.World.{World}
use Rattle.cluster_facts.proofs.Words.{All-at, All-map}
use Rattle.cluster_events.specs.Filing.{RecordsStay}
use Rattle.cluster_events.specs.Lines.{Told}
use Rattle.cluster_events.specs.Measure.{Spends}
use Rattle.cluster_events.specs.Outcomes.{Outcome}
use Rattle.cluster_events.specs.Promises.{AtEnd}
use Rattle.cluster_events.specs.Running.{Shelf}
use Rattle.cluster_events.specs.Runs.{AtEachEnd}
use Rattle.cluster_events.specs.Runs.RunBy.{Started, Went}
use Rattle.cluster_events.specs.Saying.{IsDone, Says, replies_told}
use Rattle.cluster_events.specs.Servers.{State}
use Rattle.cluster_events.specs.Serving.{IsSteady}
use Rattle.cluster_events.specs.Settled.{IsSettled}
use Rattle.cluster_events.proofs.Dealing.{answers-dealt}
use Rattle.cluster_events.proofs.Ending as ending
use Rattle.cluster_events.proofs.Filed.{answered-legal, records-stay}
use Rattle.cluster_events.proofs.OnDisk.{range-before}
use Rattle.cluster_events.proofs.Runs.{IsKept, any-keeps, any-says}
use Rattle.cluster_events.proofs.Walking.{kind_of}
use Rattle.service_laws.specs.Disks.{service_disk}
use Rattle.service_laws.specs.PlainOf.{plain_of}
use Rattle.service_laws.specs.StorageOf.{storage_of}
use Rattle.service_laws.proofs.HistoryLaws.{history-of}
use Rattle.service_laws.proofs.ServiceLaws.{is_plain}
use Rattle.service_laws.proofs.StorageLaws.{is_storage}
use Rattle.cluster_rounds.specs.Kits.{device_by}
use Rattle.group_cluster.proofs.Ends.{settle-tells}
use Rattle.group_cluster.proofs.Saying.{group-says, group-spends, says-borne}
use Rattle.group_cluster.proofs.Serving.{group-stepped}
use Rattle.journal_found.specs.Found.{JournalOf}
use Rattle.cold_cluster.specs.Cold.{Alone, IsCold, calm}
use Rattle.cold_cluster.specs.Falling.{Restarts}
use Rattle.cold_cluster.specs.Falling.Restarts.{as_was, one_more}
use Rattle.cold_cluster.specs.Lines.{HaltsStep, HappensBy, SettleStops, alone}
use Rattle.cold_cluster.specs.Standing.{standing_cold}
use Rattle.cold_cluster.proofs.Calm.{stays-up}
use Rattle.cold_cluster.proofs.Coming.{start-steady}
use Rattle.cold_cluster.proofs.Doing.{cold-carries, cold-serves, cold-stepped}
use Rattle.cold_cluster.proofs.Keeping.{falls, line-keeps}
use Rattle.cold_servers.specs.ColdLaws.{some-as}
use Rattle.cold_servers.specs.ColdSeen.{ColdSeen, FilesDown, HoldsFiles, HoldsJournal}
use Rattle.command_journal.specs.Beginning.{start_of}
use Rattle.command_journal.specs.Playing.{FoundBy}
use Rattle.played_runs.specs.Kinds.{AreBelow, InTime, KeepsWaiting, Refuses, Waits}
use Rattle.played_runs.specs.Promises.{CallsBack, CommitsInTime, KeepsOneHistory, PrintsPosts, ReadsRightly, RepliesRightly, StandsOnce}
use Rattle.played_runs.specs.Refusing.{DeclinesRightly}
use Rattle.played_runs.specs.Telling.{TellsOnce}
use Rattle.played_runs.proofs.FaultLaws.{records-kept}
use Rattle.played_runs.proofs.RefusalLaws.{refused-due, refuses-by-kind, refuses-cored, refuses-told}
use Rattle.played_runs.proofs.TellingLaws.{each-told}
use Rattle.played_runs.proofs.TimeLaws.{in_time-by-kind, in_time-cored, in_time-told}
use Rattle.played_runs.proofs.WaitingLaws.{passes-cored, passes-told, waits-behind, waits-by-kind}
use Rattle.cold_runs.specs.Playing.{ColdStep, Opened, Ran, StepsCold}
use Rattle.cold_runs.specs.Promises.{ColdLineSentence, ColdSentence, ComesBack, FallsCold, FindsAll, FindsAllBy, JournalStands, KeepsRecordsCold, OfAllColdLines, OfEachLine, OfLine, OfWorld, RecordsBy, RecordsDown, SettlesCold, ThroughoutCold}
use Rattle.cold_runs.proofs.RunSteps.{run-seen}
use Rattle.cold_runs.proofs.WalkSteps.{cold-walks}

-- what was committed behind a history without its last entry
answered-committed : (past : List Entry) (hand : Hand) → AreInRange (committed_by past hand) → AreInRange past
answered-committed past Empty range = range
answered-committed past (Waiting entry) range = range
answered-committed past (Applied entry) range = range.1
answered-committed past (Ready entry) range = range.1

pub committed-range : (past : List Entry) (hand : Hand) → AreInRange (accepted_by past hand) → AreInRange (committed_by past hand)
committed-range past Empty range = range
committed-range past (Waiting entry) range = range.1
committed-range past (Applied entry) range = range
committed-range past (Ready entry) range = range

-- Facts.

module _ (setup : Setup) (places : ℕ) (first : ColdSeen) where
  step-keeps : (before : ColdSeen) (next : Line) (state : State Alone) (outcome : Outcome (State Alone)) (after : ColdSeen) → IsSteady (plain_of setup) IsCold state → ColdStep setup before next state outcome after → IsSteady (plain_of setup) IsCold outcome.state × Says (plain_of setup) state.world outcome.state.world outcome.told
  step-keeps before next state outcome after steady step =
      line-keeps (plain_of setup) (is_plain setup) step.shelf (device_by setup (λ number. 0)) next state outcome steady step.leads

  steps-kept : IsKept (plain_of setup) IsCold (StepsCold setup)
  steps-kept = record { kept = step-keeps }

  -- lines lead from the start to a state of which the facts hold, and say what lies between
  pub ran-says : {lines : List Line} {state : State Alone} {told : List Told} {seen : ColdSeen} → Ran setup places first lines state told seen → IsSteady (plain_of setup) IsCold state × Says (plain_of setup) (start_of setup places).world state.world told
  ran-says run =
      any-says (plain_of setup) IsCold (StepsCold setup) steps-kept (start_of setup places) first (start-steady (plain_of setup) setup.start places) run

  pub ran-keeps : {lines : List Line} {state : State Alone} {told : List Told} {seen : ColdSeen} → Ran setup places first lines state told seen → AtEnd (plain_of setup) state.world told
  ran-keeps run =
      any-keeps (plain_of setup) IsCold (StepsCold setup) steps-kept (start_of setup places) first (start-steady (plain_of setup) setup.start places) setup.start places refl run

  -- what holds behind all lines holds behind each of them
  each-end : (Q : ColdSentence) → ((lines : List Line) (state : State Alone) (told : List Told) (seen : ColdSeen) → Ran setup places first lines state told seen → AreInRange (committed state.world.core) → Q lines state told seen) → {lines : List Line} {state : State Alone} {told : List Told} {seen : ColdSeen} → (run : Ran setup places first lines state told seen) → AreInRange (committed state.world.core) → AtEachEnd Q run
  each-end Q always Started range = always [] (start_of setup places) [] first Started range
  each-end Q always (Went {lines = lines} {state = state} {told = told} {before = before} next outcome after run step) range =
      let grown = (step-keeps before next state outcome after (ran-says run).0 step).1.entries.grown in
      let earlier = range-before _ (committed state.world.core) (subst AreInRange grown range) in
      (always (next ∷ lines) outcome.state (outcome.told ++ told) after (Went next outcome after run step) range, each-end Q always run earlier)

  -- and what holds of each line holds of all of them
  each-line : (Q : ColdLineSentence) → ((lines : List Line) (state : State Alone) (told : List Told) (before : ColdSeen) (next : Line) (outcome : Outcome (State Alone)) (after : ColdSeen) → Ran setup places first lines state told before → ColdStep setup before next state outcome after → Q before next told state outcome after) → {lines : List Line} {state : State Alone} {told : List Told} {seen : ColdSeen} → (run : Ran setup places first lines state told seen) → OfEachLine {setup = setup} Q run
  each-line Q so Started = tt
  each-line Q so (Went {lines = lines} {state = state} {told = told} {before = before} next outcome after run step) =
      (so lines state told before next outcome after run step, each-line Q so run)

  -- agents keep the calls to which no line told the reply
  pub ran-waits : {lines : List Line} {state : State Alone} {told : List Told} {seen : ColdSeen} → Ran setup places first lines state told seen → KeepsWaiting state.world told
  ran-waits Started = λ client. refl
  ran-waits (Went {state = state} {told = told} {before = before} next outcome after run step) =
      let plain = plain_of setup in
      let says = ran-says run in
      let below : AreBelow state.world told = λ client. All-map (λ (reply : ℕ × Reply). IsDone (state.world.agents client) reply.0) (λ (reply : ℕ × Reply). reply.0 < (state.world.agents client).next) (replies_told client told) (λ reply done. done.sent) (says.1.replies client).done in
      let walks = (cold-walks plain (is_plain setup) step.shelf (device_by setup (λ number. 0)) Waits (passes-told plain) passes-cored (waits-by-kind plain) next state outcome says.0 step.leads).1 in
      waits-behind (kind_of next) state.world outcome.state.world told outcome.told walks below (ran-waits run)

throughout : (held : ColdSeen) (Q : Setup → ColdSentence) → ((setup : Setup) (places : ℕ) (first : ColdSeen) → Opened setup places held first → CanBegin setup → (lines : List Line) (state : State Alone) (told : List Told) (seen : ColdSeen) → Ran setup places first lines state told seen → AreInRange (committed state.world.core) → Q setup lines state told seen) → ThroughoutCold held Q
throughout held Q always script done rest text front =
    let core = front.state.world.core in
    each-end front.setup front.places front.first (Q front.setup) (always front.setup front.places front.first front.opened front.good.begins) front.run (committed-range core.answered core.hand front.good.range)

of-all-lines : (held : ColdSeen) (Q : Setup → ColdLineSentence) → ((setup : Setup) (places : ℕ) (first : ColdSeen) (lines : List Line) (state : State Alone) (told : List Told) (before : ColdSeen) (next : Line) (outcome : Outcome (State Alone)) (after : ColdSeen) → Ran setup places first lines state told before → ColdStep setup before next state outcome after → Q setup before next told state outcome after) → OfAllColdLines held Q
of-all-lines held Q so script done rest text front =
    each-line front.setup front.places front.first (Q front.setup) (so front.setup front.places front.first) front.run

-- The sentences that are said of every world.

pub keeps-one-history : (held : ColdSeen) → ThroughoutCold held (OfWorld KeepsOneHistory)
keeps-one-history held =
    throughout held (OfWorld KeepsOneHistory) (λ setup places first opened can lines state told seen run range files. let keeps = ran-keeps setup places first run in (keeps.history, keeps.order))

pub replies-rightly : (held : ColdSeen) → ThroughoutCold held (OfWorld RepliesRightly)
replies-rightly held =
    throughout held (OfWorld RepliesRightly) (λ setup places first opened can lines state told seen run range files. (ran-keeps setup places first run).replies)

pub reads-rightly : (held : ColdSeen) → ThroughoutCold held (OfWorld ReadsRightly)
reads-rightly held =
    throughout held (OfWorld ReadsRightly) (λ setup places first opened can lines state told seen run range files. (ran-keeps setup places first run).readers)

pub calls-back : (held : ColdSeen) → ThroughoutCold held (OfWorld CallsBack)
calls-back held =
    throughout held (OfWorld CallsBack) (λ setup places first opened can lines state told seen run range files. let keeps = ran-keeps setup places first run in (keeps.items, keeps.called, keeps.callbacks))

pub tells-once : (held : ColdSeen) → ThroughoutCold held (OfWorld TellsOnce)
tells-once held =
    throughout held (OfWorld TellsOnce) (λ setup places first opened can lines state told seen run range files. each-told setup state.world (ran-keeps setup places first run).items)

pub prints-posts : (held : ColdSeen) → ThroughoutCold held (OfWorld PrintsPosts)
prints-posts held =
    throughout held (OfWorld PrintsPosts) (λ setup places first opened can lines state told seen run range files. (ran-keeps setup places first run).posts)

pub stands-once : (held : ColdSeen) → ThroughoutCold held (OfWorld StandsOnce)
stands-once held =
    throughout held (OfWorld StandsOnce) (λ setup places first opened can lines state told seen run range files client number other_client other_number stored other spot own others at other_at.
    let world = state.world in
    let facts = (ran-says setup places first run).0.sound.facts in
    let legal = answered-legal (plain_of setup) world.now world.core.answered world.core.hand facts.legal in
    let within = answered-committed world.core.answered world.core.hand range in
    record-alone setup world.core.answered client other_client number other_number stored other spot (history-of setup can world.now world.core.answered legal within) own others at other_at)

pub declines-rightly : (held : ColdSeen) → OfAllColdLines held (OfLine (DeclinesRightly (λ next. Some next)))
declines-rightly held =
    of-all-lines held (OfLine (DeclinesRightly (λ next. Some next))) (λ setup places first lines state told before next outcome after run step.
    let plain = plain_of setup in
    let steady = (ran-says setup places first run).0 in
    (cold-walks plain (is_plain setup) step.shelf (device_by setup (λ number. 0)) Refuses (refuses-told plain) refuses-cored (refuses-by-kind plain) next state outcome steady step.leads).1
    ∙ refused-due setup (Some next) told state.world steady.sound (ran-waits setup places first run))

pub commits-in-time : (held : ColdSeen) → OfAllColdLines held (OfLine CommitsInTime)
commits-in-time held =
    of-all-lines held (OfLine CommitsInTime) (λ setup places first lines state told before next outcome after run step.
    let plain = plain_of setup in
    let goes = (cold-walks plain (is_plain setup) step.shelf (device_by setup (λ number. 0)) InTime (in_time-told plain) in_time-cored (in_time-by-kind plain) next state outcome (ran-says setup places first run).0 step.leads).1 in
    (goes.entries, goes.waits))

-- Those of a server and its journal.

-- files of a history have its records; behind an attempt at its last entry's deeds those before it are kept
pub records-by : (setup : Setup) → CanBegin setup → (up : Bool) (hand : Hand) (world : World) → world.core.hand ≡ hand → IsSound (plain_of setup) world → AreInRange (committed_by world.core.answered hand) → (files : Files) → HoldsFiles up setup world.core.answered hand files → RecordsBy up setup world files
records-by setup can true hand world is sound range files holds =
    records-stay (plain_of setup) service_disk (storage_of setup) (is_storage setup can) world files sound (answered-committed world.core.answered hand range) holds
records-by setup can false hand world is sound range files holds =
    subst (λ (one : Hand). RecordsDown setup one world files) (sym is) (down-by hand is range holds)
  where
    stay : AreInRange world.core.answered → files ≡ files_of setup world.core.answered → RecordsStay (plain_of setup) service_disk (storage_of setup) world files
    stay within same = records-stay (plain_of setup) service_disk (storage_of setup) (is_storage setup can) world files sound within same

    legal : (one : Hand) → world.core.hand ≡ one → IsLegal (plain_of setup) world.now (accepted_by world.core.answered one)
    legal one at = subst (λ (h : Hand). IsLegal (plain_of setup) world.now (accepted_by world.core.answered h)) at sound.facts.legal

    down-by : (one : Hand) → world.core.hand ≡ one → AreInRange (committed_by world.core.answered one) → FilesDown setup world.core.answered one files → RecordsDown setup one world files
    down-by Empty at within same = stay within same
    down-by (Waiting entry) at within same = stay within same
    down-by (Applied entry) at within between = records-kept setup can world.now (entry ∷ world.core.answered) files (legal (Applied entry) at) within between
    down-by (Ready entry) at within between = records-kept setup can world.now (entry ∷ world.core.answered) files (legal (Ready entry) at) within between

pub keeps-records : (held : ColdSeen) → ThroughoutCold held KeepsRecordsCold
keeps-records held =
    throughout held KeepsRecordsCold (λ setup places first opened can lines state told seen run range.
    let at = run-seen opened run in
    let sound = (ran-says setup places first run).0.sound in
    some-as (HoldsFiles state.peers.up setup state.world.core.answered state.world.core.hand) (RecordsBy state.peers.up setup state.world) seen.disk.files (records-by setup can state.peers.up state.world.core.hand state.world refl sound range) at.tells.disk)

journal-up : (up : Bool) (setup : Setup) (past : List Entry) (hand : Hand) → up ≡ true → hand ≡ Empty → (files : Files) → HoldsJournal up setup past hand files → JournalOf setup past files
journal-up true setup past hand is idle files holds = subst (λ (one : Hand). JournalOf setup (committed_by past one) files) idle holds
journal-up false setup past hand is idle files holds = cc

files-up : (up : Bool) (setup : Setup) (past : List Entry) (hand : Hand) → up ≡ true → (files : Files) → HoldsFiles up setup past hand files → files ≡ files_of setup past
files-up true setup past hand is files holds = holds
files-up false setup past hand is files holds = cc

pub journal-stands : (held : ColdSeen) → ThroughoutCold held JournalStands
journal-stands held =
    throughout held JournalStands (λ setup places first opened can lines state told seen run range up idle.
    let tells = (run-seen opened run).tells in
    let past = state.world.core.answered in
    let hand = state.world.core.hand in
    let on = state.peers.up in (
      some-as (HoldsFiles on setup past hand) (λ files. files ≡ files_of setup past) seen.disk.files (files-up on setup past hand up) tells.disk,
      some-as (HoldsJournal on setup past hand) (JournalOf setup past) seen.journal.files (journal-up on setup past hand up idle) tells.journal,
    ))

-- Settling.

module _ (setup : Setup) where
  abbrev plain : Plain
  plain = plain_of setup

  -- a `settle` that a disk stops leaves the server down
  stops-down : (state : State Alone) (outcome : Outcome (State Alone)) → IsSteady plain IsCold state → SettleStops plain (device_by setup (λ number. 0)) (HaltsStep (device_by setup (λ number. 0))) state outcome → outcome.state.peers.up ≡ false
  stops-down state outcome steady stops =
      let device = device_by setup (λ number. 0) in
      let carried = cold-carries standing_cold plain (is_plain setup) device (Says plain) (group-says 2 plain (calm device) (is_plain setup)) in
      let stepped = cold-stepped standing_cold plain (is_plain setup) device (Says plain) (group-stepped 2 plain (is_plain setup) (calm device) (Says plain) (says-borne plain)) in
      let whole = settle-tells plain (is_plain setup) (alone plain device) IsCold (cold-serves standing_cold plain (is_plain setup) device) (Says plain) carried stepped
      (λ end. end.peers.up ≡ false) (HaltsStep device) (λ now last holds ended. (
        subst (λ (one : Outcome (State Alone)). IsSteady plain IsCold one.state × Says plain now.world one.state.world one.told) (sym ended.is) (falls plain (is_plain setup) now holds),
        ap (λ (one : Outcome (State Alone)). one.state.peers.up) ended.is,
      )) state stops.whole steady stops.ends in
      ap (λ (one : Outcome (State Alone)). one.state.peers.up) stops.is ∙ whole.1

  settle-by : (up : Bool) (state : State Alone) (outcome : Outcome (State Alone)) (step_shelf : Shelf) → state.peers.up ≡ up → IsSteady plain IsCold state → HappensBy up plain step_shelf (device_by setup (λ number. 0)) line.Settle state outcome → outcome.state.peers.up ≡ true → IsSettled plain outcome.state.world
  settle-by true state outcome step_shelf is steady (inl settles) on =
      let device = device_by setup (λ number. 0) in
      let spends = cold-carries standing_cold plain (is_plain setup) device Spends (group-spends 2 plain (calm device) (is_plain setup)) in
      ending.settle-settles plain (is_plain setup) (alone plain device) IsCold (cold-serves standing_cold plain (is_plain setup) device) spends state outcome.state settles.0.lines steady settles.0.rounds
  settle-by true state outcome step_shelf is steady (inr stops) on =
      let off : outcome.state.peers.up ≡ false = stops-down state outcome steady stops in
      let both : true ≡ false = sym on ∙ off in
      absurd cc
  settle-by false state outcome step_shelf is steady happens on =
      let same : outcome.state.peers.up ≡ state.peers.up = ap (λ (one : Outcome (State Alone)). one.state.peers.up) happens in
      let both : true ≡ false = sym on ∙ same ∙ is in
      absurd cc

  settles : (places : ℕ) (first : ColdSeen) {lines : List Line} {state : State Alone} {told : List Told} {seen : ColdSeen} → Ran setup places first lines state told seen → SettlesCold setup lines state told seen
  settles places first Started = tt
  settles places first (Went {lines = lines} {state = state} {told = told} next outcome after run step) =
      by next step.leads
    where
      by : (one : Line) → HappensBy state.peers.up plain step.shelf (device_by setup (λ number. 0)) one state outcome → SettlesCold setup (one ∷ lines) outcome.state (outcome.told ++ told) after
      by line.Settle happens = λ on. settle-by state.peers.up state outcome step.shelf refl (ran-says setup places first run).0 happens on
      by _ happens = tt

pub settles-cold : (held : ColdSeen) → ThroughoutCold held SettlesCold
settles-cold held = throughout held SettlesCold (λ setup places first opened can lines state told seen run range. settles setup places first run)

-- A server that came back.

pub answered-so : (setup : Setup) (world : World) → IsSound (plain_of setup) world → (client number : ℕ) (reply : Reply) → Stands (Answer client number reply) (messages_in world.net) → (call : Call) × Stands (number, call, reply) (dealt_in (plain_of setup) client world.core.answered)
answered-so setup world sound client number reply posted =
    answers-dealt (plain_of setup) client number reply world.core.answered (All-at (IsOfRun (plain_of setup) world.core.answered) (Answer client number reply) (messages_in world.net) sound.facts.run posted)

comes-back : (setup : Setup) (before : ColdSeen) (state : State Alone) (outcome : Outcome (State Alone)) → IsSteady (plain_of setup) IsCold outcome.state → Restarts state outcome → FoundBy false (line.Restart A) setup (committed outcome.state.world.core) before.journal.files → ComesBack setup before state outcome
comes-back setup before state outcome steady as_was found = record {
  up = refl;
  found = found;
  answered = answered-so setup outcome.state.world steady.sound;
  grown = inl refl;
}
comes-back setup before state outcome steady (one_more entry is) found = record {
  up = refl;
  found = found;
  answered = answered-so setup outcome.state.world steady.sound;
  grown = inr (entry, is, ap (λ (hand : Hand). entry ∷ committed_by state.world.core.answered hand) (sym is));
}

finds-by : (setup : Setup) (before : ColdSeen) (up : Bool) (next : Line) (shelf : Shelf) (state : State Alone) (outcome : Outcome (State Alone)) → IsSteady (plain_of setup) IsCold outcome.state → HappensBy up (plain_of setup) shelf (device_by setup (λ number. 0)) next state outcome → FoundBy up next setup (committed outcome.state.world.core) before.journal.files → FindsAllBy up next setup before state outcome
finds-by setup before false (line.Restart A) shelf state outcome steady happens found = comes-back setup before state outcome steady happens found
finds-by setup before up next shelf state outcome steady happens found = tt

pub finds-all : (held : ColdSeen) → OfAllColdLines held FindsAll
finds-all held =
    of-all-lines held FindsAll (λ setup places first lines state told before next outcome after run step.
    finds-by setup before state.peers.up next step.shelf state outcome (step-keeps setup places first before next state outcome after (ran-says setup places first run).0 step).0 step.leads step.found)

pub falls-cold : (held : ColdSeen) → OfAllColdLines held FallsCold
falls-cold held =
    of-all-lines held FallsCold (λ setup places first lines state told before next outcome after run step not_crash up armed beside.
    stays-up (plain_of setup) (is_plain setup) step.shelf (device_by setup (λ number. 0)) next state outcome (ran-says setup places first run).0 not_crash up armed beside step.leads)
