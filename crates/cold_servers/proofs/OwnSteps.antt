-- Lines on the server and its journal alone, while it is up, by what the functions answer that do them.
use Rattle.std.proofs.Common.{◌≡◌, ℕ, Bool, true, false, Option, None, List, [], length, refl, ap, sym, subst, ◌∙◌}
use Rattle.std.specs.Prelude.{IsSome, Result, Ok, Err, OnOk, IfOk, IfErr}
use Rattle.ais_values.specs.Causes.{RoseExactlyOn}
use Rattle.calls.specs.History.{Pushed}
use Rattle.disk_model.specs.Counts.{IsShort, reaches}
use Rattle.disk_model.specs.DeviceCalls.{DeviceCall}
use Rattle.disk_model.specs.declared.answers.DiskAnswer.{DiskAnswer}
use Rattle.disk_model.specs.declared.answers.DiskAnswer.TheVariants.{Memory, Failed, Stopped}
use Rattle.script_lines.specs.declared.line.Line.{Line}
use Rattle.script_lines.specs.declared.line.Line.TheVariants as line
use Rattle.stream_layout.specs.Deeds.{calls_of_all}
use Rattle.plain_service.specs.Setups.{Setup}
use Rattle.cluster_facts.specs.Types.{Entry}
use Rattle.cluster_facts.specs.History.{Waiting, Ready}
use Rattle.cluster_events.specs.Events.{mirror_next, work_next}
use Rattle.cluster_events.specs.Outcomes.{Outcome}
use Rattle.cluster_events.specs.Servers.{State}
use Rattle.cluster_clients.specs.Taken.{kept_lines}
use Rattle.event_text.specs.Texts.{printed}
use Rattle.mirror.specs.Working.{deeds_in}
use Rattle.cluster_rounds.specs.declared.cluster.Cluster.{Cluster}
use Rattle.cluster_rounds.specs.Came.{Came, Halted}
use Rattle.cluster_rounds.specs.Counted.{Counted}
use Rattle.cluster_rounds.specs.Kits.{device_by, servers_at}
use Rattle.cluster_rounds.specs.Worlds.{HasStateOn, IsGood, Shows, any_state}
use Rattle.cluster_lines.specs.Answers.{DoneAtStop}
use Rattle.cluster_lines.specs.Own.{PlaysLine}
use Rattle.cluster_lines.specs.Playing.{BreaksOff, Plays}
use Rattle.cluster_lines.proofs.StopSteps.{stop-counts, stop-err, stop-ok}
use Rattle.cold_cluster.specs.Cold.{Alone, IsCold, append_count}
use Rattle.cold_cluster.specs.Lines.{stops_work}
use Rattle.lone_server.specs.declared.lone.Lone.{Lone}
use Rattle.lone_server.specs.Joining.{JoinBreaks, Joins, JoinsOne, JoinsOver}
use Rattle.lone_server.specs.Working.{WorkBreaks, Works, WorksOver}
use Rattle.lone_server.proofs.JoinSteps.{lacks-armed}
use Rattle.cold_servers.specs.declared.solo.Solo.{Solo}
use Rattle.cold_servers.specs.ColdKit.{cold_kit, cold_script}
use Rattle.cold_servers.specs.ColdNodes.{OwnBy}
use Rattle.cold_servers.specs.ColdSeen.{ColdSeen}
use Rattle.cold_servers.specs.Steps.{AllUp}
use Rattle.cold_servers.proofs.AdvanceSteps.{join-counts, work-counts}
use Rattle.cold_servers.proofs.CountSteps.{rose-by, stands-done}
use Rattle.cold_servers.proofs.JoinFalls.{joins-end, joins-halts, waiting-entry}
use Rattle.cold_servers.proofs.JoinLacks.{joins-lack}
use Rattle.cold_servers.proofs.JoinState.{append-so, is-waiting, joins-comes, waits-so}
use Rattle.cold_servers.proofs.LineSteps.{far-append, far-work, mirror-ended, mirror-halted, mirror-played, work-ended, work-halted, work-played}
use Rattle.cold_servers.proofs.WorkFalls.{works-end, works-halt, works-lack}
use Rattle.cold_servers.proofs.WorkState.{answer-quiet, calls-are, calls_for, is-ready, ready-so, work-is, works-comes, works-over}

-- where the line is done by a stop
abbrev Off : DiskAnswer → Line → Cluster Solo → Cluster Solo → List (List ℕ) → List (List ℕ) → ColdSeen → ColdSeen → Type 0
Off Stopped next old new before after held left = Plays cold_kit cold_script next old new before after held left × HasStateOn cold_kit any_state new left
Off answer next old new before after held left = BreaksOff cold_kit cold_script answer next old new before after held left

off-breaks : (answer : DiskAnswer) (next : Line) (old new : Cluster Solo) (before after : List (List ℕ)) (held left : ColdSeen) → (answer ≡ Stopped → ⊥) → Off answer next old new before after held left → BreaksOff cold_kit cold_script answer next old new before after held left
off-breaks Memory next old new before after held left never off = off
off-breaks Failed next old new before after held left never off = off
off-breaks Stopped next old new before after held left never off = absurd (never refl)

off-line : {T E : Type 0} (r : Result T DiskAnswer) (s : Result E DiskAnswer) (next : Line) (old new : Cluster Solo) (before after : List (List ℕ)) (held left : ColdSeen) → DoneAtStop r s → OnOk r (Plays cold_kit cold_script next old new before after held left × HasStateOn cold_kit any_state new left) → IfErr r (λ answer. Off answer next old new before after held left) → Counted cold_kit held left r → PlaysLine cold_kit cold_script s next old new before after held left
off-line {T} {E} r s next old new before after held left ends done off counts =
    let Q : DiskAnswer → Type 0 = λ answer. Off answer next old new before after held left in
    record {
      ok = stop-ok Q r s ends (first-of r done) off (λ stop. stop.0);
      stands = stop-ok Q r s ends (second-of r done) off (λ stop. stop.1);
      broken = stop-err (λ answer. BreaksOff cold_kit cold_script answer next old new before after held left) Q r s ends off (λ answer never one. off-breaks answer next old new before after held left never one);
      counts = stop-counts cold_kit r s held left ends counts;
    }
  where
    first-of : (r : Result T DiskAnswer) → OnOk r (Plays cold_kit cold_script next old new before after held left × HasStateOn cold_kit any_state new left) → OnOk r (Plays cold_kit cold_script next old new before after held left)
    first-of (Ok x) both = both.0
    first-of (Err answer) both = tt

    second-of : (r : Result T DiskAnswer) → OnOk r (Plays cold_kit cold_script next old new before after held left × HasStateOn cold_kit any_state new left) → OnOk r (HasStateOn cold_kit any_state new left)
    second-of (Ok x) both = both.1
    second-of (Err answer) both = tt

-- **`mirror`**, where an entry waits

-- its line is printed
joined-quiet : (setup : Setup) (fails : ℕ → ℕ) (state : State Alone) (entry : Entry) → (cold : IsCold state) → state.peers.up ≡ true → state.world.core.hand ≡ Waiting entry → kept_lines (mirror_next (servers_at cold_kit setup fails) state).told ≡ printed (mirror_next (servers_at cold_kit setup fails) state).told
joined-quiet setup fails state entry cold up waits =
    let Q : State Alone → Type 0 = λ s. kept_lines (mirror_next (servers_at cold_kit setup fails) s).told ≡ printed (mirror_next (servers_at cold_kit setup fails) s).told in
    subst Q (is-waiting state entry cold up waits) refl

module _ (old : Cluster Solo) (servers : Lone) (history : Pushed) (before after : List (List ℕ)) (held left : ColdSeen) (has : HasStateOn cold_kit any_state old held) (up : AllUp old) where
  abbrev joined : Cluster Solo
  joined = record old { servers = record { lone = servers }; history = history }

  abbrev JoinOver : Result Bool DiskAnswer → Type 0
  JoinOver result = JoinsOver old.servers.lone.link old.servers.lone.journal.end old.history.entries history.entries result held.disk left.disk held.journal left.journal

  -- the entry that waits
  joins-waits : (setup : Setup) (state : State Alone) → Shows cold_kit setup state old → state.peers.up ≡ true → JoinsOne old.servers.lone servers old.history.entries history.entries before after → (entry : Entry) × (state.world.core.hand ≡ Waiting entry)
  joins-waits setup state shows is joins =
      let core = state.world.core in
      let own = subst (λ (b : Bool). OwnBy b setup core.answered core.hand state.peers old.servers.lone) is shows.own in
      let waits = waits-so core.answered core.hand joins.message joins.rest (sym (ap (λ (s : Lone). s.link) own) ∙ joins.first) in
      (waits.entry, waits.hand_is)

  -- the count of the journal's disk is not reached
  joins-far : (setup : Setup) (state : State Alone) (entry : Entry) → IsGood cold_kit setup state → Shows cold_kit setup state old → cold_kit.Armed state.peers held → state.peers.up ≡ true → state.world.core.hand ≡ Waiting entry → JoinsOne old.servers.lone servers old.history.entries history.entries before after → JoinOver (Ok true) → reaches append_count state.peers.beside ≡ false
  joins-far setup state entry good shows count is waits joins over =
      let cold = good.steady.good in
      let same = is-waiting state entry cold is waits in
      let so = append-so setup state.world entry cold.1.keeps state.peers.armed state.peers.beside old servers history
      (subst (λ (s : State Alone). IsGood cold_kit setup s) (sym same) good) (subst (λ (s : State Alone). Shows cold_kit setup s old) (sym same) shows)
      before after held left joins over
      in
      far-append state.peers.beside (subst (λ (a : Option ℕ). IsShort append_count a) count.journal so.1.counts.0)

  joins-line : JoinsOne old.servers.lone servers old.history.entries history.entries before after → JoinOver (Ok true) → RoseExactlyOn {T = Bool} held.journal.faults left.journal.faults (Ok true) Failed → RoseExactlyOn {T = Bool} held.journal.stops left.journal.stops (Ok true) Stopped
      → Plays cold_kit cold_script line.Mirror old joined before after held left × HasStateOn cold_kit any_state joined left
  joins-line joins over cause stop =
      let stood = stands-done true held.journal left.journal cause stop in
      let comes : (setup : Setup) (state : State Alone) → IsGood cold_kit setup state → Shows cold_kit setup state old → cold_kit.Armed state.peers held → Came cold_kit setup state (λ fails now. mirror_next (servers_at cold_kit setup fails) now) joined before after _ held left =
      λ setup state good shows count. joins-comes setup state old servers history before after held left good shows count (up setup state good shows) joins over stood
      in (
        λ setup state good shows count tells.
            let is = up setup state good shows in
            let came = comes setup state good shows count in
            let waits = joins-waits setup state shows is joins in
            let so : came.outcome ≡ mirror_next (servers_at cold_kit setup came.happened) state = sym (came.comes.is came.happened (λ number above within. refl)) in
            let quiet = subst (λ (o : Outcome (State Alone)). kept_lines o.told ≡ printed o.told) (sym so) (joined-quiet setup came.happened state waits.0 good.steady.good is waits.1) in
            mirror-played setup state joined before after held left is waits.0 _ waits.1 (joins-far setup state waits.0 good shows count is waits.1 joins over) came quiet tells,
        let came = comes has.setup has.state has.good has.shows has.count in
            record { setup = has.setup; state = came.outcome.state; good = came.played.good; shows = came.played.shows; count = came.count; so = tt },
      )

  mirror-ok : (went : Bool) → (old.servers.lone.link ≡ [] → ⊥) → Joins went old.servers.lone servers old.history.entries history.entries before after → JoinOver (Ok went) → RoseExactlyOn {T = Bool} held.journal.faults left.journal.faults (Ok went) Failed → RoseExactlyOn {T = Bool} held.journal.stops left.journal.stops (Ok went) Stopped
      → Plays cold_kit cold_script line.Mirror old joined before after held left × HasStateOn cold_kit any_state joined left
  mirror-ok true some joins over cause stop = joins-line joins over cause stop
  mirror-ok false some joins over cause stop = absurd (some joins.0)

  mirror-off : (answer : DiskAnswer) → JoinBreaks answer old.servers.lone servers old.history.entries history.entries before after held.journal left.journal → JoinOver (Err answer) → RoseExactlyOn {T = Bool} held.journal.faults left.journal.faults (Err answer) Failed → RoseExactlyOn {T = Bool} held.journal.stops left.journal.stops (Err answer) Stopped
      → Off answer line.Mirror old joined before after held left
  mirror-off Memory breaks over cause stop = λ setup state good shows count.
      joins-lack setup state old servers history held left good shows (up setup state good shows) (lacks-armed old.servers.lone servers old.history.entries history.entries held.journal left.journal breaks) over (rose-by {T = Bool} Memory held.journal left.journal cause stop)
  mirror-off Failed breaks over cause stop = λ setup state good shows count.
      let is = up setup state good shows in
      let waits = waiting-entry setup state old history Failed held.disk left.disk held.journal left.journal tt shows is over in
      mirror-ended setup state joined before after held left is waits.0 waits.1
      (joins-end setup state old servers history before after held left good shows count is breaks.0 breaks.1 breaks.2 over (rose-by {T = Bool} Failed held.journal left.journal cause stop))
  mirror-off Stopped breaks over cause stop =
      let halts : (setup : Setup) (state : State Alone) → IsGood cold_kit setup state → Shows cold_kit setup state old → cold_kit.Armed state.peers held → Halted cold_kit setup state _ joined before after held left =
      λ setup state good shows count. joins-halts setup state old servers history before after held left good shows count (up setup state good shows) breaks.0 breaks.1 breaks.2 over (rose-by {T = Bool} Stopped held.journal left.journal cause stop)
      in (
        λ setup state good shows count tells.
            let is = up setup state good shows in
            let waits = waiting-entry setup state old history Stopped held.disk left.disk held.journal left.journal tt shows is over in
            mirror-halted setup state joined before after held left is waits.0 waits.1 (halts setup state good shows count) tells,
        let halted = halts has.setup has.state has.good has.shows has.count in
            record { setup = has.setup; state = halted.end.state; good = halted.good; shows = halted.shows; count = halted.count; so = tt },
      )

  pub mirror-line : {E : Type 0} (r : Result Bool DiskAnswer) (s : Result E DiskAnswer) → (old.servers.lone.link ≡ [] → ⊥) → DoneAtStop r s → IfOk r (λ went. Joins went old.servers.lone servers old.history.entries history.entries before after) → IfErr r (λ answer. JoinBreaks answer old.servers.lone servers old.history.entries history.entries before after held.journal left.journal) → JoinOver r → RoseExactlyOn held.journal.faults left.journal.faults r Failed → RoseExactlyOn held.journal.stops left.journal.stops r Stopped
      → PlaysLine cold_kit cold_script s line.Mirror old joined before after held left
  mirror-line (Ok went) s some ends joins breaks over cause stop =
      off-line {T = Bool} (Ok went) s line.Mirror old joined before after held left ends (mirror-ok went some joins over cause stop) tt (join-counts _ _ _ _ (Ok went) held left over cause)
  mirror-line (Err answer) s some ends joins breaks over cause stop =
      off-line {T = Bool} (Err answer) s line.Mirror old joined before after held left ends tt (mirror-off answer breaks over cause stop) (join-counts _ _ _ _ (Err answer) held left over cause)

-- **`work`**, where one is ready

worked-quiet : (setup : Setup) (fails : ℕ → ℕ) (state : State Alone) (entry : Entry) → (cold : IsCold state) → state.peers.up ≡ true → state.world.core.hand ≡ Ready entry → kept_lines (work_next (servers_at cold_kit setup fails) state).told ≡ printed (work_next (servers_at cold_kit setup fails) state).told
worked-quiet setup fails state entry cold up ready =
    let Q : State Alone → Type 0 = λ s. kept_lines (work_next (servers_at cold_kit setup fails) s).told ≡ printed (work_next (servers_at cold_kit setup fails) s).told in
    let R : Outcome (State Alone) → Type 0 = λ o. kept_lines o.told ≡ printed o.told in
    subst Q (is-ready state entry cold up ready)
    (subst R (sym (work-is setup fails state.world entry cold.1.keeps state.peers.armed state.peers.beside)) (answer-quiet setup state.world.core.answered entry state.world.net).lines)

module _ (T : Type 0) (old : Cluster Solo) (servers : Lone) (net before after : List (List ℕ)) (held left : ColdSeen) (has : HasStateOn cold_kit any_state old held) (up : AllUp old) (some : IsSome old.servers.lone.node.replica.owed) (none : old.servers.lone.node.waits ≡ None) where
  abbrev new : Cluster Solo
  new = record old { servers = record { lone = servers }; net = net }

  abbrev Over : Result T DiskAnswer → Type 0
  Over result = WorksOver (calls_of_all (deeds_in old.servers.lone.node.replica.owed)) result held.disk left.disk held.journal left.journal

  works-ready : (setup : Setup) (state : State Alone) → Shows cold_kit setup state old → state.peers.up ≡ true → (entry : Entry) × (state.world.core.hand ≡ Ready entry)
  works-ready setup state shows is =
      let core = state.world.core in
      let own = subst (λ (b : Bool). OwnBy b setup core.answered core.hand state.peers old.servers.lone) is shows.own in
      ready-so setup core.answered core.hand old.servers.lone.node (ap (λ (s : Lone). s.node) own) some none

  -- the count of the record disk is not reached
  works-far : (setup : Setup) (state : State Alone) (entry : Entry) (fails : ℕ → ℕ) (done : T) → IsGood cold_kit setup state → Shows cold_kit setup state old → cold_kit.Armed state.peers held → state.peers.up ≡ true → state.world.core.hand ≡ Ready entry → Over (Ok done) → stops_work (device_by setup fails) state.world.core.answered (Ready entry) state.peers.armed ≡ false
  works-far setup state entry fails done good shows count is ready over =
      let cold = good.steady.good in
      let same = is-ready state entry cold is ready in
      let calls = calls-are setup state.world entry cold.1.keeps state.peers.armed state.peers.beside old
      (subst (λ (s : State Alone). IsGood cold_kit setup s) (sym same) good) (subst (λ (s : State Alone). Shows cold_kit setup s old) (sym same) shows)
      in
      let counts = (works-over done (calls_of_all (deeds_in old.servers.lone.node.replica.owed)) held.disk left.disk held.journal left.journal over).counts in
      let short : IsShort (length (calls_for setup state.world.core.answered entry)) held.disk.tally.armed = subst (λ (c : List DeviceCall). IsShort (length c) held.disk.tally.armed) calls counts.0 in
      far-work (length (calls_for setup state.world.core.answered entry)) state.peers.armed count.left.0 (subst (λ (a : Option ℕ). IsShort (length (calls_for setup state.world.core.answered entry)) a) count.disk short)

  work-ok : (done : T) → Works old.servers.lone servers old.net net before after → Over (Ok done) → RoseExactlyOn {T = T} held.disk.faults left.disk.faults (Ok done) Failed → RoseExactlyOn {T = T} held.disk.stops left.disk.stops (Ok done) Stopped
      → Plays cold_kit cold_script line.Work old new before after held left × HasStateOn cold_kit any_state new left
  work-ok done works over cause stop =
      let stood = stands-done done held.disk left.disk cause stop in
      let comes : (setup : Setup) (state : State Alone) → IsGood cold_kit setup state → Shows cold_kit setup state old → cold_kit.Armed state.peers held → Came cold_kit setup state (λ fails now. work_next (servers_at cold_kit setup fails) now) new before after _ held left =
      λ setup state good shows count. works-comes setup done state old servers net before after held left good shows count (up setup state good shows) some none works over stood
      in (
        λ setup state good shows count tells.
            let is = up setup state good shows in
            let came = comes setup state good shows count in
            let ready = works-ready setup state shows is in
            let so : came.outcome ≡ work_next (servers_at cold_kit setup came.happened) state = sym (came.comes.is came.happened (λ number above within. refl)) in
            let quiet = subst (λ (o : Outcome (State Alone)). kept_lines o.told ≡ printed o.told) (sym so) (worked-quiet setup came.happened state ready.0 good.steady.good is ready.1) in
            work-played setup state new before after held left is ready.0 _ ready.1 came (works-far setup state ready.0 came.happened done good shows count is ready.1 over) quiet tells,
        let came = comes has.setup has.state has.good has.shows has.count in
            record { setup = has.setup; state = came.outcome.state; good = came.played.good; shows = came.played.shows; count = came.count; so = tt },
      )

  work-off : (answer : DiskAnswer) → WorkBreaks answer old.servers.lone servers old.net net before after held.disk left.disk → Over (Err answer) → RoseExactlyOn {T = T} held.disk.faults left.disk.faults (Err answer) Failed → RoseExactlyOn {T = T} held.disk.stops left.disk.stops (Err answer) Stopped
      → Off answer line.Work old new before after held left
  work-off Memory breaks over cause stop = λ setup state good shows count.
      works-lack setup state old servers net good shows (up setup state good shows) some none before after held left breaks over (rose-by {T = T} Memory held.disk left.disk cause stop)
  work-off Failed breaks over cause stop = λ setup state good shows count.
      let is = up setup state good shows in
      let ready = works-ready setup state shows is in
      work-ended setup state new before after held left is ready.0 ready.1
      (works-end setup state old servers net good shows is some none before after held left count breaks.0 breaks.1 breaks.2 over (rose-by {T = T} Failed held.disk left.disk cause stop))
  work-off Stopped breaks over cause stop =
      let halts : (setup : Setup) (state : State Alone) → IsGood cold_kit setup state → Shows cold_kit setup state old → cold_kit.Armed state.peers held → Halted cold_kit setup state _ new before after held left =
      λ setup state good shows count. works-halt setup state old servers net good shows (up setup state good shows) some none before after held left count breaks.0 breaks.1 breaks.2 over (rose-by {T = T} Stopped held.disk left.disk cause stop)
      in (
        λ setup state good shows count tells.
            let is = up setup state good shows in
            let ready = works-ready setup state shows is in
            work-halted setup state new before after held left is ready.0 ready.1 (halts setup state good shows count) tells,
        let halted = halts has.setup has.state has.good has.shows has.count in
            record { setup = has.setup; state = halted.end.state; good = halted.good; shows = halted.shows; count = halted.count; so = tt },
      )

  pub work-line : {E : Type 0} (r : Result T DiskAnswer) (s : Result E DiskAnswer) → DoneAtStop r s → OnOk r (Works old.servers.lone servers old.net net before after) → IfErr r (λ answer. WorkBreaks answer old.servers.lone servers old.net net before after held.disk left.disk) → Over r → RoseExactlyOn held.disk.faults left.disk.faults r Failed → RoseExactlyOn held.disk.stops left.disk.stops r Stopped
      → PlaysLine cold_kit cold_script s line.Work old new before after held left
  work-line (Ok done) s ends works breaks over cause stop =
      off-line {T = T} (Ok done) s line.Work old new before after held left ends (work-ok done works over cause stop) tt (work-counts _ (Ok done) held left over cause)
  work-line (Err answer) s ends works breaks over cause stop =
      off-line {T = T} (Err answer) s line.Work old new before after held left ends tt (work-off answer breaks over cause stop) (work-counts _ (Err answer) held left over cause)
